use native.Mathlib.Omega.{arith}
use Rattle.text.proofs.TextLaws.{taken_length}
use Rattle.run.proofs.StepLaws.{ready_at, found_small, stepped_refusing, stepped_found, stepped_ended, tables_refusing, tables_listing, tables_ended}
use Rattle.run.proofs.Run.step.Goals as goal

pub slice_bounds-next-end : goal.slice_bounds-next-end
slice_bounds-next-end c = taken_length c.args.memory.now (ready_at _ _ _ c.in-Listing.is c.requires).nodes_within

pub next-next-requires : goal.next-next-requires
next-next-requires c = ((λ h. absurd (omega arith)), (ready_at _ _ _ c.in-Listing.is c.requires).steps)

pub found-requires : goal.found-requires
found-requires c = found_small _ _ (ready_at _ _ _ c.in-Listing.is c.requires) c.in-Listing.is _ c.next-next.ensures

pub returns-in-Refusing : goal.returns-in-Refusing
returns-in-Refusing c = record { step_is = stepped_refusing _ _ _ c.in-Refusing.is c.refused.ensures; tables_after = tables_refusing _ c.in-Refusing.is }

pub returns-in-Listing : goal.returns-in-Listing
returns-in-Listing c = record { step_is = stepped_found _ _ (ready_at _ _ _ c.in-Listing.is c.requires) c.in-Listing.is _ c.next-next.ensures c.found.ensures; tables_after = tables_listing _ _ c.in-Listing.is }

pub returns-in-Ended : goal.returns-in-Ended
returns-in-Ended c = record { step_is = stepped_ended _ _ _ _ c.in-Ended.is c.requires; tables_after = tables_ended _ c.in-Ended.is }
