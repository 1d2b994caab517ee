use mathlib.Core.Path.{◌≡◌}
use mathlib.Core.Bool.{false}
use Rattle.fleet.proofs.TellsLaws.{broken}
use Rattle.remarks.proofs.CopiedLaws as r
use Rattle.pages.proofs.PagesCallLaws as l
use Rattle.std.proofs.lemmas.Bool.{not_from_false}
use Rattle.pages.proofs.print_counted.Goals as goal

pub any-requires : goal.any-requires
any-requires c = tt

pub print_if_room-requires : goal.print_if_room-requires
print_if_room-requires c = let none : c.any.result ≡ false = cc in (broken c.any.result c.any.ensures (not_from_false _ none), c.requires)

pub copy_without-len-requires : goal.copy_without-len-requires
copy_without-len-requires c = l.few_nodes _ _ c.requires

pub slice_bounds-counted-end : goal.slice_bounds-counted-end
slice_bounds-counted-end c = r.copied_within _ _ _ _ c.copy_without-len.ensures

pub slice_bounds-print_if_room-end : goal.slice_bounds-print_if_room-end
slice_bounds-print_if_room-end c = r.copied_length _ _ _ _ c.copy_without-len.ensures

pub print_if_room-requires-2 : goal.print_if_room-requires-2
print_if_room-requires-2 c = l.counted_asked _ _ c.requires _ _ _ c.copy_without-len.ensures

pub returns : goal.returns
returns c = let z = l.counted_says _ _ c.requires _ _ _ c.copy_without-len.ensures _ (c.print_if_room-2.ensures.value, c.print_if_room-2.ensures.output_after) in record { value = z.0; output_after = z.1 }
