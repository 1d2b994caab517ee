-- LAWS. The subtree at i is the first one of what stands from i on; a subtree against its right neighbour's, by positions.
use mathlib.Core.Path.{◌≡◌, ap, ◌∙◌}
use mathlib.Core.List.{List, [], ◌∷◌}
use Prim.Native.Nat.{ℕ, zero, suc, ◌+◌, ◌-◌, ◌/◌, ◌<◌}
use native.Mathlib.Omega.{arith}
use native.Mathlib.Decide.{dec_lt}
use lib.ListN.{length, take, drop, length-drop}
use lib.Seq.{get_or-drop, drop-drop, take-nil, slice}
use Rattle.terms.specs.Tree.{depthAt, SubtreeEnd}
use Rattle.terms.specs.Order.{Lighter}
use Rattle.terms.specs.Form.{NoLighterThanNext}

-- one node more that is deeper
pub deeper_more : (s : List ℕ) (i e : ℕ) → ((k : ℕ) → i < k → k < e → depthAt s i < depthAt s k) → depthAt s i < depthAt s e → (k : ℕ) → i < k → k < e + 1 → depthAt s i < depthAt s k
deeper_more s i e f h k p q = go (dec_lt k e)
  where
    go : Dec (k < e) → depthAt s i < depthAt s k
    go (yes b) = f k p b
    go (no b) = let z : k ≡ e = omega arith in rw z h

depth_drop : (s : List ℕ) (i k : ℕ) → depthAt (drop i s) k ≡ depthAt s (i + k)
depth_drop s i k = ap (λ (x : ℕ). x / 1000) (get_or-drop i s k 0)

depth_here : (s : List ℕ) (i : ℕ) → depthAt (drop i s) 0 ≡ depthAt s i
depth_here s i = let e : i + 0 ≡ i = omega arith in rw e at (depth_drop s i 0)

pub end_first : {s : List ℕ} {i e : ℕ} → SubtreeEnd s i e → SubtreeEnd (drop i s) 0 (e - i)
end_first {s} {i} {e} r = record {
  after = omega (arith, r.after);
  within = omega (arith, r.within, length-drop i s);
  deeper = λ k p q. rw (depth_drop s i k, depth_here s i) (r.deeper (i + k) (omega arith) (omega arith));
  stop = λ h. let z : i + (e - i) ≡ e = omega (arith, r.after) in rw (depth_drop s i (e - i), depth_here s i, z) (r.stop (omega (arith, length-drop i s, r.after)));
}

pub first_end : (s : List ℕ) (i n : ℕ) → i < length s → SubtreeEnd (drop i s) 0 n → SubtreeEnd s i (i + n)
first_end s i n h r = record {
  after = omega (arith, r.after);
  within = omega (arith, r.within, length-drop i s);
  deeper = λ k p q. let z : i + (k - i) ≡ k = omega arith in rw z at (rw (depth_drop s i (k - i), depth_here s i) at (r.deeper (k - i) (omega arith) (omega arith)));
  stop = λ q. rw (depth_drop s i n, depth_here s i) at (r.stop (omega (arith, length-drop i s)));
}

pub slice_take : (s : List ℕ) (i n : ℕ) → slice i (i + n) s ≡ take n (drop i s)
slice_take s zero n = let e : 0 + n ≡ n = omega arith in rw e
slice_take [] (suc i) n = rw (take-nil, take-nil)
slice_take (x ∷ s) (suc i) n = let e : suc i + n ≡ suc (i + n) = omega arith in rw e (slice_take s i n)

-- the subtree at i is no lighter than that of its right neighbour, by positions
unfoldable pub HeavyAt : List ℕ → ℕ → Type 0
HeavyAt s i = (e f : ℕ) → SubtreeEnd s i e → e < length s → depthAt s e ≡ depthAt s i → SubtreeEnd s e f → ¬ Lighter (slice i e s) (slice e f s)

pub heavy_at : (s : List ℕ) (i : ℕ) → NoLighterThanNext (drop i s) → HeavyAt s i
unfolding HeavyAt NoLighterThanNext
heavy_at s i h e f p b d q l =
    let z : i + (e - i) ≡ e = omega (arith, p.after) in
    let w : e + (f - e) ≡ f = omega (arith, q.after) in
    let dd : drop (e - i) (drop i s) ≡ drop e s = drop-drop (e - i) i s ∙ rw z in
    h (e - i) (f - e) (end_first p) (omega (arith, length-drop i s, p.after)) (rw (depth_drop s i (e - i), depth_here s i, z) d) (rw dd (end_first q))
    (rw (dd, ← slice_take s i (e - i), ← slice_take s e (f - e), z, w) l)

pub at_heavy : (s : List ℕ) (i : ℕ) → i < length s → HeavyAt s i → NoLighterThanNext (drop i s)
unfolding HeavyAt NoLighterThanNext
at_heavy s i b h n m p q d r l =
    let dd : drop n (drop i s) ≡ drop (i + n) s = drop-drop n i s in
    let c : i + n < length s = omega (arith, length-drop i s) in
    h (i + n) (i + n + m) (first_end s i n b p) c (rw (depth_drop s i n, depth_here s i) at d) (first_end s (i + n) m c (rw dd at r))
    (rw (slice_take s i n, slice_take s (i + n) m) (rw dd at l))
