-- LAWS. The walk over the children of a node.
use mathlib.Core.Path.{◌≡◌, ap}
use mathlib.Core.List.{List}
use Prim.Native.Nat.{ℕ, suc, ◌+◌, ◌≤◌, ◌<◌}
use native.Mathlib.Omega.{arith}
use native.Mathlib.Decide.{dec_le, dec_lt}
use native.Mathlib.Numerals.{add-one}
use lib.ListN.{length}
use Rattle.terms.specs.Tree.{depthAt, IsParent, SubtreeEnd}
use Rattle.terms.specs.Fleet.{IsFleet}
use Rattle.rightmost.proofs.TestLaws.{next_child}
use Rattle.index.proofs.IndexLaws.{fleet_step}

-- FROM CHILD TO CHILD of d, whose subtree ends at `end`: c is the next child, or the end
pub record Walked (s : List ℕ) (d end c : ℕ) : Type 0 where
  pub ends : SubtreeEnd s d end
  pub after : d < c
  pub within : c ≤ end
  pub at_child : c < end → IsParent s d c

pub walk_start : {s : List ℕ} {d end : ℕ} → IsFleet s → SubtreeEnd s d end → Walked s d end (d + 1)
walk_start {s} {d} {end} f e = record { ends = e; after = omega arith; within = omega (arith, e.after); at_child = λ h. rw (add-one d) (first (omega arith)) }
  where
    first : suc d < end → IsParent s d (suc d)
    first h = let inside : suc d < length s = omega (arith, e.within) in next_child inside (omega (arith, fleet_step f d inside, e.deeper (suc d) (omega arith) h))

module _ {s : List ℕ} {d end c next : ℕ} (w : Walked s d end c) (h : c < end) (e : SubtreeEnd s c next) where
  child : IsParent s d c
  child = w.at_child h

  pub walk_next : Walked s d end next
  walk_next = record { ends = w.ends; after = omega (arith, w.after, e.after); within = within (dec_le next end); at_child = at_child }
    where
      within : Dec (next ≤ end) → next ≤ end
      within (yes k) = k
      within (no k) = absurd (omega (arith, e.deeper end h (omega arith), w.ends.stop (omega (arith, e.within)), child.one_deeper))

      at_child : next < end → IsParent s d next
      at_child k =
          let inside : next < length s = omega (arith, w.ends.within) in
          record {
            before = omega (arith, w.after, e.after);
            inside = inside;
            one_deeper = omega (arith, e.stop inside, child.one_deeper, w.ends.deeper next (omega (arith, w.after, e.after)) k);
            between = λ m a b. w.ends.deeper m a (omega arith);
          }

  -- no child is passed over
  pub walk_between : (m : ℕ) → c < m → m < next → ¬ IsParent s d m
  walk_between m a b r = omega (arith, e.deeper m a b, child.one_deeper, r.one_deeper)

-- every child stands before the end
pub walk_all : {s : List ℕ} {d end m : ℕ} → SubtreeEnd s d end → IsParent s d m → m < end
walk_all {s} {d} {end} {m} e r = go (dec_lt m end) (dec_lt end m)
  where
    go : Dec (m < end) → Dec (end < m) → m < end
    go (yes k) _ = k
    go (no k) (yes l) = absurd (omega (arith, r.between end e.after l, e.stop (omega (arith, r.inside))))
    go (no k) (no l) = let same : end ≡ m = omega arith in absurd (omega (arith, e.stop (omega (arith, r.inside)), r.one_deeper, ap (depthAt s) same))
