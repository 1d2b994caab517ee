-- LAWS. The heaviest pair that may come next, found along the branch, depth by depth; and what a pair up to it says of equal siblings.
use mathlib.Core.Path.{◌≡◌}
use mathlib.Core.Logic.{◌↔◌}
use mathlib.Core.List.{List}
use Prim.Native.Nat.{ℕ, zero, suc, ◌+◌, ◌-◌, ◌/◌, ◌≤◌, ◌<◌}
use native.Mathlib.Omega.{arith}
use native.Mathlib.Decide.{ℕ_discrete}
use lib.ListN.{length, get_or}
use Rattle.terms.specs.Tree.{depthAt, IsTree}
use Rattle.rightmost.specs.Ends.{last_of, OnBranch}
use Rattle.rightmost.specs.NextPair.{LastNeighbours, Repeats, MayComeNext, LimitTo}
use Rattle.rightmost.proofs.BranchLaws.{branch_unique}
use Rattle.rightmost.proofs.NextPairLaws.{neighbour_branch, neighbour_unique}

-- the root has no neighbour
pub limit_start : (s : List ℕ) → IsTree s → LimitTo s 1 15999
limit_start s t = record { allows = λ i j l r h. absurd (deep j l.ends.after l.last.after h); no_less = λ x h f. omega arith }
  where
    deep : (j : ℕ) {i : ℕ} → i < j → j < length s → depthAt s j < 1 → ⊥
    deep zero a h q = omega arith
    deep (suc j) a h q = omega (arith, t.later_from_1 j h)

module _ {s : List ℕ} {t most j : ℕ} (o : OnBranch s t j) (m : LimitTo s t most) where
  -- a neighbour at this depth is at j
  at_j : {i k : ℕ} → LastNeighbours s i k → depthAt s k ≡ t → k ≡ j
  at_j {i} {k} l e = branch_unique (neighbour_there l e) o
    where
      neighbour_there : LastNeighbours s i k → depthAt s k ≡ t → OnBranch s t k
      neighbour_there l e = rw e at (neighbour_branch l)

  -- the node of the branch has no neighbour, or does not repeat it: nothing new
  pub limit_same : ((i : ℕ) → LastNeighbours s i j → ¬ Repeats s i j) → LimitTo s (suc t) most
  limit_same n = record { allows = λ i k l r h. allows i k l r h (ℕ_discrete (depthAt s k) t); no_less = λ x h f. m.no_less x h (λ i k l r q. f i k l r (omega arith)) }
    where
      allows : (i k : ℕ) → LastNeighbours s i k → Repeats s i k → depthAt s k < suc t → Dec (depthAt s k ≡ t) → most ≤ get_or s (i + (length s - k)) 0
      allows i k l r h (yes e) = let q = at_j l e in absurd (n i (rw q at l) (rw q at r))
      allows i k l r h (no e) = m.allows i k l r (omega arith)

  -- it repeats its neighbour: the smaller of the two
  pub limit_more : {i most' : ℕ} → LastNeighbours s i j → Repeats s i j → most' ≤ most → most' ≤ get_or s (i + (length s - j)) 0 → ((x : ℕ) → x ≤ most → x ≤ get_or s (i + (length s - j)) 0 → x ≤ most') → LimitTo s (suc t) most'
  limit_more {i} {most'} l r a b c = record { allows = λ i' k l' r' h. allows i' k l' r' h (ℕ_discrete (depthAt s k) t); no_less = λ x h f. c x (m.no_less x h (λ i' k l' r' q. f i' k l' r' (omega arith))) (f i j l r (omega (arith, o.depth))) }
    where
      allows : (i' k : ℕ) → LastNeighbours s i' k → Repeats s i' k → depthAt s k < suc t → Dec (depthAt s k ≡ t) → most' ≤ get_or s (i' + (length s - k)) 0
      allows i' k l' r' h (yes e) =
          let q = at_j l' e in
          let same : i' ≡ i = neighbour_unique (rw q at l') l in
          rw (q, same) b
      allows i' k l' r' h (no e) = omega (arith, m.allows i' k l' r' (omega arith))

-- all depths of the branch passed: the pairs up to it are those that may come next, if they are no heavier than the node that they stand beside
pub limit_exactly : {s : List ℕ} {t most x : ℕ} → IsTree s → x < 16000 → depthAt s (last_of s) < t → LimitTo s t most → MayComeNext s x ↔ (((c : ℕ) → OnBranch s (x / 1000) c → x ≤ get_or s c 0) × (x ≤ most))
limit_exactly {s} {t} {most} {x} tr b h m = ((λ z. (z.beside, m.no_less x b (λ i j l r _. z.behind i j l r))), (λ z. let q = z.1 in record { beside = z.0; behind = λ i j l r. omega (arith, m.allows i j l r (below i j l)) }))
  where
    below : (i j : ℕ) → LastNeighbours s i j → depthAt s j < t
    below i j l = omega (arith, (neighbour_branch l).no_deeper)
