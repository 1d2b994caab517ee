use native.Mathlib.Omega.{arith}
use Rattle.fleet.proofs.TellsLaws.{broken}
use Rattle.remarks.proofs.CopiedLaws as r
use Rattle.listing.proofs.StartStepLaws as s
use Rattle.std.proofs.lemmas.Bool.{not_from_false}
use Rattle.listing.proofs.find.Goals as goal

pub any-requires : goal.any-requires
any-requires c = tt

pub first_step-requires : goal.first_step-requires
first_step-requires c = (c.requires.1, s.as_it_is (broken c.any.result c.any.ensures (not_from_false _ c.if-not-any.true)) c.requires.2)

pub returns-then-not-any : goal.returns-then-not-any
returns-then-not-any c = s.found_as_it_is (broken c.any.result c.any.ensures (not_from_false _ c.if-not-any.true)) c.first_step.ensures

pub copy_without-len-requires : goal.copy_without-len-requires
copy_without-len-requires c = omega (arith, c.requires.0.nodes)

pub slice_bounds-counted-end : goal.slice_bounds-counted-end
slice_bounds-counted-end c = r.copied_within _ _ _ _ c.copy_without-len.ensures

pub slice_bounds-first_step-end : goal.slice_bounds-first_step-end
slice_bounds-first_step-end c = r.copied_length _ _ _ _ c.copy_without-len.ensures

pub first_step-requires-2 : goal.first_step-requires-2
first_step-requires-2 c = ((λ k. absurd (omega (arith, k))), s.counted_input _ _ _ _ c.copy_without-len.ensures c.requires.2)

pub returns : goal.returns
returns c = s.found_counted _ _ _ _ c.copy_without-len.ensures c.first_step-2.ensures
