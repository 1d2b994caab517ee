use mathlib.Core.Path.{◌≡◌}
use mathlib.Core.Bool.{false}
use native.Mathlib.Omega.{arith}
use Rattle.fleet.proofs.TellsLaws.{broken}
use Rattle.remarks.proofs.CopiedLaws as r
use Rattle.listing.proofs.StartStepLaws as s
use Rattle.filling.proofs.FillLaws as l
use Rattle.std.proofs.lemmas.Bool.{not_from_false}
use Rattle.filling.proofs.fill_counted.Goals as goal

pub any-requires : goal.any-requires
any-requires c = tt

pub fill_anew-requires : goal.fill_anew-requires
fill_anew-requires c = let none : c.any.result ≡ false = cc in let kept = broken c.any.result c.any.ensures (not_from_false _ none) in (kept, c.requires.0, s.as_it_is kept c.requires.1, c.requires.2)

pub copy_without-len-requires : goal.copy_without-len-requires
copy_without-len-requires c = l.few_nodes_of _ _ _ c.requires.2

pub slice_bounds-counted-end : goal.slice_bounds-counted-end
slice_bounds-counted-end c = r.copied_within _ _ _ _ c.copy_without-len.ensures

pub slice_bounds-fill_anew-end : goal.slice_bounds-fill_anew-end
slice_bounds-fill_anew-end c = r.copied_length _ _ _ _ c.copy_without-len.ensures

pub fill_anew-requires-2 : goal.fill_anew-requires-2
fill_anew-requires-2 c = (l.none_left _ _ _ c.requires.2 _ _ _ c.copy_without-len.ensures, (λ k. absurd (omega (arith, k))), l.counted_first _ _ _ c.requires.2 _ _ _ c.copy_without-len.ensures c.requires.1, l.counted_may _ _ _ c.requires.2 _ _ _ c.copy_without-len.ensures)

pub returns : goal.returns
returns c = l.counted_filled _ _ _ c.requires.2 _ _ _ c.copy_without-len.ensures c.fill_anew-2.ensures
