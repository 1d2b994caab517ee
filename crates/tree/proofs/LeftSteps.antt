-- LAWS for `subtree::left`: the last pair before a position that is no deeper than the one there.
use Rattle.std.proofs.Common.{◌≡◌, ℕ, suc, ◌+◌, ◌-◌, ◌*◌, ◌≤◌, ◌<◌, List, Option, Some, None, get_or, length, take, refl, arith}
use Rattle.std.specs.Option.{IsSome}
use Rattle.std.proofs.lemmas.List.{get_or-take, length-take-le}
use native.Mathlib.Decide.{dec_lt}
use Rattle.terms.specs.Tree.{depthAt, IsTree, SubtreeEnd}
use Rattle.tree.specs.Subtrees.{HasLeft}
use Rattle.tree.proofs.LastLaws.{IsLast}

module _ (s : List ℕ) (j deeper : ℕ) (is : deeper ≡ (depthAt s j + 1) * 1000) (t : IsTree s) (h : HasLeft s j) where
  long : length (take j s) ≡ j
  long = length-take-le j s (omega (arith, h.inside))

  -- the last pair that is no deeper
  abbrev pub Last : Option ℕ → Type 0
  Last r = IsLast (take j s) (λ x. x < deeper) (λ x. deeper ≤ x) r

  -- the root is no deeper than any node
  pub some_left : (r : Option ℕ) → Last r → IsSome r
  some_left (Some i) l = refl
  some_left None l = let d : deeper ≤ get_or s 0 0 = rw (get_or-take j s 0 0 h.later) at (l 0 (omega (arith, long, h.later))) in absurd (omega (arith, t.root_depth))

  pub left_found : (i : ℕ) (r : Option ℕ) → r ≡ Some i → Last r → SubtreeEnd s i j × (depthAt s i ≡ depthAt s j)
  left_found i r e l = found (rw e at l)
    where
      found : Last (Some i) → SubtreeEnd s i j × (depthAt s i ≡ depthAt s j)
      found l = (record { after = b; within = omega (arith, h.inside); deeper = λ k p q. omega (arith, here, behind k p q); stop = λ q. omega (arith, level (dec_lt (i + 1) j)) }, level (dec_lt (i + 1) j))
        where
          b : i < j
          b = omega (arith, l.0, long)

          here : get_or s i 0 < deeper
          here = rw (get_or-take j s i 0 b) at l.1

          behind : (k : ℕ) → i < k → k < j → deeper ≤ get_or s k 0
          behind k p q = rw (get_or-take j s k 0 q) at (l.2 k p (omega (arith, long)))

          -- the node behind i is j, or is deeper
          level : Dec (i + 1 < j) → depthAt s i ≡ depthAt s j
          level (yes q) = omega (arith, here, behind (suc i) (omega arith) (omega arith), t.later_to_next i (omega (arith, h.inside)))
          level (no q) = let z : j - 1 ≡ i = omega (arith, b) in omega (arith, here, rw z at h.no_deeper)
