-- LAWS. What `occurs_at` tells by the root's fitting; a table of sizes for who has not measured a tree.
use mathlib.Core.Path.{◌≡◌, refl}
use mathlib.Core.Logic.{◌≢◌}
use mathlib.Core.Bool.{Bool, true, false}
use mathlib.Core.List.{List}
use Prim.Native.Nat.{ℕ, ◌≤◌, ◌<◌}
use native.Mathlib.Omega.{arith}
use lib.ListN.{length, get_or, replicate}
use Rattle.terms.specs.Tells.{Tells}
use Rattle.terms.specs.Tree.{label_at}
use Rattle.terms.specs.Placing.{OccursAt}
use Rattle.terms.specs.Matching.{placeAt}
use Rattle.terms.specs.Fits.{Fits}
use Rattle.terms.proofs.GreedyLaws.{fits_occurs_at, occurs_at_fits}
use Rattle.terms.proofs.AugmentingLaws.{all_same}
use Rattle.matching.specs.FitsSteps.{OccursInput, Measured, FitsInput}

pub occurs_at_tells : (p q : List ℕ) (v : ℕ) (r : Bool) → OccursInput p q → v < length q → Tells r (Fits p q 0 v) → Tells r (OccursAt p q v)
occurs_at_tells p q v true a h f = fits_occurs_at p q v a.pattern_is_tree h f
occurs_at_tells p q v false a h n = λ s. n (occurs_at_fits p q v a.pattern_is_tree s)

pub other_label : (p q : List ℕ) (v : ℕ) → OccursInput p q → label_at p 0 ≢ label_at q v → ¬ OccursAt p q v
other_label p q v a n s = n (label s)
  where
    label : OccursAt p q v → label_at p 0 ≡ label_at q v
    label s =
        let e : placeAt s.tuple 0 ≡ v = omega (arith, s.root) in
        rw e at (s.placing.labels 0 a.pattern_is_tree.has_root)

pub fits_root_input : (p q : List ℕ) (d : ℕ) → OccursInput p q → d < length q → label_at p 0 ≡ label_at q d → FitsInput p 0 q d (replicate 16 0)
fits_root_input p q d a h e = record { nodes = record { trees = a; node = a.pattern_is_tree.has_root; image = h; same_label = e }; none_placed = refl }

-- a table of zeros: nothing is skipped, and nothing measured
pub unmeasured : (q : List ℕ) → length q ≤ 256 → Measured q (replicate 256 0)
unmeasured q h = record { all = h; small = λ d _. omega (arith, zero_at d); below = λ d m _ a b. absurd (omega (arith, zero_at d)); ends = λ z. absurd (omega (arith, zero_at 0)) }
  where
    zero_at : (d : ℕ) → ◌≡◌ {A = ℕ} (get_or (replicate 256 0) d 0) 0
    zero_at d = all_same 256 d 0
