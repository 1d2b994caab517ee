-- LAWS. What is counted, a vehicle holds; what a vehicle of an accepted fleet holds is a tree of depth 0 to 15.
use mathlib.Core.Path.{◌≡◌}
use mathlib.Core.List.{List, [], ◌∷◌}
use Prim.Native.Nat.{ℕ, suc, ◌≤◌, ◌<◌}
use native.Mathlib.Omega.{arith}
use native.Mathlib.Decide.{dec_le}
use lib.ListN.{length, get_or}
use Rattle.terms.specs.Tree.{IsTree, IsTreeAnyDepth}
use Rattle.terms.specs.Placing.{Occurs}
use Rattle.terms.specs.Fleet.{vehicles, IsFleet, most_nodes_of_a_tree}
use Rattle.terms.specs.Remarks.{HoldsRemark}
use Rattle.terms.proofs.OccursDecided.{occurs?}
use Rattle.terms.proofs.RemarkLaws.{holds_remark?}
use Rattle.occurrence.specs.Support.{support, occurring, whole_support}
use Rattle.occurrence.proofs.SupportLaws.{occurring_no, remark_unsupported, support_as_before}
use Rattle.supertrees.proofs.AnyDepth.{occurs_no_larger, occurring_is_tree}

pub record HeldBySome (trees : List (List ℕ)) (pattern : List ℕ) : Type 0 where
  pub vehicle : ℕ
  pub inside : vehicle < length trees
  pub holds : Occurs pattern (get_or trees vehicle [])

held_by_some : (q : List ℕ) (ts : List (List ℕ)) → 1 ≤ occurring q ts → HeldBySome ts q
unfolding occurring
held_by_some q [] h = absurd (omega arith)
held_by_some q (t ∷ ts) h = go (occurs? q t) (λ k. held_by_some q ts k)
  where
    go : Dec (Occurs q t) → (1 ≤ occurring q ts → HeldBySome ts q) → HeldBySome (t ∷ ts) q
    go (yes o) f = record { vehicle = 0; inside = omega arith; holds = o }
    go (no n) f = let z = f (omega (arith, occurring_no ts n)) in record { vehicle = suc z.vehicle; inside = omega (arith, z.inside); holds = z.holds }

pub held : (fleet q : List ℕ) → 1 ≤ whole_support fleet q → HeldBySome (vehicles fleet) q
unfolding whole_support
held fleet q h = held_by_some q (vehicles fleet) h

pub held_is_tree : {fleet q : List ℕ} → IsFleet fleet → IsTreeAnyDepth q → 1 ≤ whole_support fleet q → IsTree q
held_is_tree {fleet} {q} f tq h = let z = held fleet q h in occurring_is_tree tq (f.each z.vehicle z.inside).is_tree z.holds

-- nor has it more nodes than a vehicle's tree may have
pub too_large : (fleet q : List ℕ) → IsFleet fleet → most_nodes_of_a_tree < length q → whole_support fleet q ≡ 0
too_large fleet q f b = go (dec_le 1 (whole_support fleet q))
  where
    go : Dec (1 ≤ whole_support fleet q) → whole_support fleet q ≡ 0
    go (yes h) = let z = held fleet q h in absurd (omega (arith, occurs_no_larger z.holds, (f.each z.vehicle z.inside).nodes))
    go (no h) = omega arith

-- with remarks left out no more vehicles hold a tree
pub support_within : (fleet q : List ℕ) → support fleet q ≤ whole_support fleet q
support_within fleet q = go (holds_remark? q)
  where
    go : Dec (HoldsRemark q) → support fleet q ≤ whole_support fleet q
    go (yes r) = omega (arith, remark_unsupported fleet q r)
    go (no n) = omega (arith, support_as_before fleet q n)
