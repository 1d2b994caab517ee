-- LAWS for `lighter_below`: two subtrees of one first pair compared from the second pairs on, where the end of the other is not known.
use mathlib.Core.Path.{◌≡◌, sym, ap, ◌∙◌}
use mathlib.Core.Bool.{true, false}
use mathlib.Core.List.{List}
use Prim.Native.Nat.{ℕ, ◌+◌, ◌-◌, ◌*◌, ◌/◌, ◌≤◌, ◌<◌}
use native.Mathlib.Omega.{arith}
use native.Mathlib.Decide.{dec_lt}
use lib.Dec.{ltb, leb}
use borrow.Author.Tests.{lt-ltb, le-ltb, lt-leb, le-leb}
use lib.ListN.{length, get_or, take, drop}
use Rattle.std.proofs.lemmas.List.{length-take-le, length-drop, get_or-take, get_or-drop}
use Rattle.terms.specs.Tree.{depthAt, SubtreeEnd}
use Rattle.tree.proofs.LighterSteps.{says, second_ends, less, greater, one_on, first_ends}
use Rattle.merging.specs.Merging.{LighterThanAt}

-- the pairs up to x and y are the same, and y is not behind the other's end
pub record Alike (s : List ℕ) (i e j x y : ℕ) : Type 0 where
  pub own : i < x
  pub to_end : x ≤ e
  pub other : j < y
  pub within : y ≤ length s
  pub alike : (f : ℕ) → SubtreeEnd s j f → (y ≤ f) × (says s x e y f ≡ says s i e j f)

module _ (s : List ℕ) (i e j : ℕ) (r : SubtreeEnd s i e) (same : get_or s j 0 ≡ get_or s i 0) where
  depths : depthAt s j ≡ depthAt s i
  depths = ap (λ (n : ℕ). n / 1000) same

  pub first_pairs : j < length s → Alike s i e j (i + 1) (j + 1)
  first_pairs h = record {
    own = omega arith;
    to_end = omega (arith, r.after);
    other = omega arith;
    within = omega arith;
    alike = λ f y. (omega (arith, y.after), one_on s i e j f r.within y.within r.after y.after (sym same));
  }

  module _ (x y : ℕ) (a : Alike s i e j x y) where
    -- a pair that is no less than one below i stands in the other subtree
    inner : x < e → y < length s → get_or s x 0 ≤ get_or s y 0 → (f : ℕ) → SubtreeEnd s j f → y < f
    inner h l g f z = go (dec_lt y f)
      where
        go : Dec (y < f) → y < f
        go (yes w) = w
        go (no w) =
            let q : y ≡ f = omega (arith, (a.alike f z).0) in
            let d : depthAt s f ≡ depthAt s y = ap (λ (n : ℕ). depthAt s n) (sym q) in
            absurd (omega (arith, z.stop (omega arith), r.deeper x a.own h, depths))

    pub both_on : x < e → y < length s → get_or s x 0 ≤ get_or s y 0 → get_or s y 0 ≤ get_or s x 0 → Alike s i e j (x + 1) (y + 1)
    both_on h l g g' = record {
      own = omega (arith, a.own);
      to_end = omega arith;
      other = omega (arith, a.other);
      within = omega arith;
      alike = λ f z. let w = inner h l g f z in (omega arith, one_on s x e y f r.within z.within h w (omega arith) ∙ (a.alike f z).1);
    }

    pub other_ended : x < e → y ≡ length s → LighterThanAt s i e j false
    unfolding LighterThanAt
    other_ended h q f z = second_ends s x e y f r.within z.within h (omega (arith, (a.alike f z).0, z.within)) ∙ (a.alike f z).1

    pub own_less : x < e → y < length s → get_or s x 0 < get_or s y 0 → LighterThanAt s i e j true
    unfolding LighterThanAt
    own_less h l g f z = less s x e y f r.within z.within h (inner h l (omega arith) f z) g ∙ (a.alike f z).1

    pub own_greater : x < e → get_or s y 0 < get_or s x 0 → LighterThanAt s i e j false
    unfolding LighterThanAt
    own_greater h g f z = go (dec_lt y f) ∙ (a.alike f z).1
      where
        go : Dec (y < f) → false ≡ says s x e y f
        go (yes w) = greater s x e y f r.within z.within h w g
        go (no w) = second_ends s x e y f r.within z.within h (omega (arith, (a.alike f z).0))

    -- all pairs from i to e are alike: the other is longer, or ends too
    module _ (h : e ≤ x) where
      at_end : (f : ℕ) → SubtreeEnd s j f → ltb y f ≡ says s i e j f
      at_end f z = let k = a.alike f z in first_ends s x e y f r.within z.within (omega (arith, a.to_end)) k.0 ∙ k.1

      pub both_ended : y ≡ length s → LighterThanAt s i e j false
      unfolding LighterThanAt
      both_ended q f z = sym (le-ltb y f (omega (arith, z.within))) ∙ at_end f z

      pub next_outside : y < length s → depthAt s y ≤ depthAt s j → LighterThanAt s i e j false
      unfolding LighterThanAt
      next_outside l d f z = sym (le-ltb y f (go (dec_lt y f))) ∙ at_end f z
        where
          go : Dec (y < f) → f ≤ y
          go (yes w) = absurd (omega (arith, z.deeper y a.other w))
          go (no w) = omega arith

      pub next_inside : y < length s → depthAt s j < depthAt s y → LighterThanAt s i e j true
      unfolding LighterThanAt
      next_inside l d f z = sym (lt-ltb y f (go (dec_lt y f))) ∙ at_end f z
        where
          go : Dec (y < f) → y < f
          go (yes w) = w
          go (no w) =
              let q : y ≡ f = omega (arith, (a.alike f z).0) in
              let v : depthAt s f ≡ depthAt s y = ap (λ (n : ℕ). depthAt s n) (sym q) in
              absurd (omega (arith, z.stop (omega arith)))

    -- the first pairs that differ
    pub pairs_differ : (p q : ℕ) → x < e → y < length s → p ≡ get_or s x 0 → q ≡ get_or s y 0 → ¬ (p ≡ q) → LighterThanAt s i e j (ltb p q)
    pairs_differ p q h l u v n = go (dec_lt p q)
      where
        go : Dec (p < q) → LighterThanAt s i e j (ltb p q)
        go (yes w) = rw (lt-ltb p q w) (own_less h l (omega arith))
        go (no w) = rw (le-ltb p q (omega arith)) (own_greater h (omega arith))

    -- all alike, and a pair follows in the other's place
    pub next_tells : (deeper n : ℕ) → e ≤ x → y ≡ n → n < length s → deeper ≡ (depthAt s j + 1) * 1000 → LighterThanAt s i e j (leb deeper (get_or s n 0))
    next_tells deeper n h u l v = go (dec_lt (get_or s n 0) deeper)
      where
        at : get_or s y 0 ≡ get_or s n 0
        at = ap (λ (k : ℕ). get_or s k 0) u

        go : Dec (get_or s n 0 < deeper) → LighterThanAt s i e j (leb deeper (get_or s n 0))
        go (yes w) = rw (lt-leb deeper (get_or s n 0) w) (next_outside h (omega arith) (omega (arith, at)))
        go (no w) = rw (le-leb deeper (get_or s n 0) (omega arith)) (next_inside h (omega arith) (omega (arith, at)))

    -- the other's pairs end, or no pair follows
    pub none_follows : (n : ℕ) → length s ≤ n → (x < e → y ≡ length s) → (e ≤ x → y ≡ n) → LighterThanAt s i e j (ltb n (length s))
    none_follows n l u v = rw (le-ltb n (length s) l) (go (dec_lt x e))
      where
        go : Dec (x < e) → LighterThanAt s i e j false
        go (yes w) = other_ended w (u w)
        go (no w) = both_ended (omega arith) (omega (arith, v (omega arith), a.within))

-- an element of a part of a list, by its place in the whole
pub part_at : (s : List ℕ) (from to n p : ℕ) → to ≤ length s → n < length (take (to - from) (drop from s)) → p ≡ get_or (take (to - from) (drop from s)) n 0 → (from + n < to) × (p ≡ get_or s (from + n) 0)
part_at s from to n p w h e =
    let l : length (take (to - from) (drop from s)) ≡ to - from = length-take-le (to - from) (drop from s) (omega (arith, length-drop from s)) in
    (omega arith, e ∙ get_or-take (to - from) (drop from s) n 0 (omega arith) ∙ get_or-drop from s n 0)

pub part_long : (s : List ℕ) (from to : ℕ) → to ≤ length s → length (take (to - from) (drop from s)) ≡ to - from
part_long s from to w = length-take-le (to - from) (drop from s) (omega (arith, length-drop from s))
