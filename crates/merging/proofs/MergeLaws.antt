-- LAWS for `merge`: one step of its loop, which moves the sibling at a behind those from m on that are heavier.
use mathlib.Core.Logic.{◌≢◌}
use mathlib.Core.Path.{◌≡◌, refl, sym, ap, ◌∙◌}
use mathlib.Core.List.{List}
use Prim.Native.Nat.{ℕ, ◌+◌, ◌-◌, ◌/◌, ◌≤◌, ◌<◌}
use native.Mathlib.Omega.{arith}
use native.Mathlib.Decide.{dec_lt}
use lib.ListN.{length, get_or}
use lib.Seq.{slice, ext_get_or}
use Rattle.terms.specs.Tree.{depthAt, IsTree, SubtreeEnd}
use Rattle.terms.specs.Order.{Lighter}
use Rattle.exchange.specs.Exchange.{Exchanged}
use Rattle.merging.specs.Merging.{Siblings, OrderedWithin, Passed, NextNoHeavier, TwoRuns, MovedWithin, Ordered}
use Rattle.terms.proofs.HeavySubtrees.{end_unique}
use Rattle.merging.proofs.CopyLaws.{Copied, depth_copied, slice_copied, end_copied, pair_copied, copied_back}
use Rattle.merging.proofs.SiblingLaws.{stops, end_within, first_part, second_part, both, same_size, kept_none, kept_twice, wider, exchanged_kept}

-- t is s with the siblings from p to b moved: all neighbours are in order but, it may be, those that meet at m; the last sibling
-- before a is no lighter than the one at m either
pub record Merging (s t : List ℕ) (p a m b : ℕ) : Type 0 where
  pub tree : IsTree s
  pub kept : MovedWithin s t p b
  pub low : p ≤ a
  pub mid : a ≤ m
  pub high : m ≤ b
  pub level_a : a < b → depthAt t a ≡ depthAt t p
  pub level_m : m < b → depthAt t m ≡ depthAt t p
  pub but : (k e f : ℕ) → p ≤ k → e < b → e ≢ m → SubtreeEnd t k e → depthAt t e ≡ depthAt t k → SubtreeEnd t e f → ¬ Lighter (slice k e t) (slice e f t)
  pub seam : (k f : ℕ) → p ≤ k → m < b → SubtreeEnd t k a → depthAt t k ≡ depthAt t p → SubtreeEnd t m f → ¬ Lighter (slice k a t) (slice m f t)

pub begun : (s : List ℕ) (a m b : ℕ) → IsTree s → TwoRuns s a m b → Merging s s a a m b
unfolding OrderedWithin
begun s a m b tree h = record {
  tree = tree;
  kept = kept_none tree (both h.first h.second h.level);
  low = omega arith;
  mid = omega (arith, h.first.some);
  high = omega (arith, h.second.some);
  level_a = λ l. refl;
  level_m = λ l. h.level;
  but = λ k e f l n o y d z. but k e f l n o y d z (dec_lt e m) (dec_lt k m);
  seam = λ k f l n y. absurd (omega (arith, y.after));
}
  where
    but : (k e f : ℕ) → a ≤ k → e < b → e ≢ m → SubtreeEnd s k e → depthAt s e ≡ depthAt s k → SubtreeEnd s e f → Dec (e < m) → Dec (k < m) → ¬ Lighter (slice k e s) (slice e f s)
    but k e f l n o y d z (yes w) _ = h.first_ordered k e f l w y d z
    but k e f l n o y d z (no w) (no v) = h.second_ordered k e f (omega arith) n y d z
    but k e f l n o y d z (no w) (yes v) = λ g. let q : m < e = omega arith in omega (arith, y.deeper m v q, h.level, h.first.deep k l v)

-- the loop's end: all of the first have their places
pub first_placed : {s t : List ℕ} {p a m b : ℕ} → Merging s t p a m b → m < b → m ≤ a → Ordered s t p b
unfolding OrderedWithin
first_placed {s} {t} {p} {a} {m} {b} g mb h = record { kept = g.kept; ordered = λ k e f l n y d z. go k e f l n y d z (dec_lt e m) (dec_lt m e) }
  where
    am : a ≡ m
    am = omega (arith, g.mid)

    go : (k e f : ℕ) → p ≤ k → e < b → SubtreeEnd t k e → depthAt t e ≡ depthAt t k → SubtreeEnd t e f → Dec (e < m) → Dec (m < e) → ¬ Lighter (slice k e t) (slice e f t)
    go k e f l n y d z (yes w) _ = g.but k e f l n (λ q. omega arith) y d z
    go k e f l n y d z (no w) (yes v) = g.but k e f l n (λ q. omega arith) y d z
    go k e f l n y d z (no w) (no v) =
        let q : e ≡ m = omega arith in
        let dk : depthAt t k ≡ depthAt t p = sym d ∙ ap (λ (i : ℕ). depthAt t i) q ∙ g.level_m mb in
        λ i. let j : Lighter (slice k m t) (slice m f t) = rw q at i in g.seam k f l mb (rw am (rw q at y)) dk (rw q at z) (rw am j)

-- the loop's end: all of the second have their places
pub second_placed : {s t : List ℕ} {p a m b : ℕ} → Merging s t p a m b → m ≡ b → Ordered s t p b
unfolding OrderedWithin
second_placed g h = record { kept = g.kept; ordered = λ k e f l n y d z. g.but k e f l n (λ q. omega arith) y d z }

-- nothing to exchange
pub unmoved_list : (t u : List ℕ) (a m c : ℕ) → Exchanged t u a m c → c ≡ m → u ≡ t
unmoved_list t u a m c x q = ext_get_or 0 u t x.same_length (λ i h. go i (dec_lt i a) (dec_lt i m))
  where
    go : (i : ℕ) → Dec (i < a) → Dec (i < m) → get_or u i 0 ≡ get_or t i 0
    go i (yes z) _ = x.before i z
    go i (no z) (yes w) = x.to_back i i (omega arith) w (omega arith)
    go i (no z) (no w) = x.behind i (omega arith)

module _ (s t u : List ℕ) (p a m b e c : ℕ) (g : Merging s t p a m b) (am : a < m) (mb : m < b) (r : SubtreeEnd t a e) (pa : Passed t a e m b c) (nx : NextNoHeavier t a e b c) (x : Exchanged t u a m c) where
  run : Siblings t p b
  run = g.kept.siblings

  da : depthAt t a ≡ depthAt t p
  da = g.level_a (omega arith)

  dm : depthAt t m ≡ depthAt t p
  dm = g.level_m mb

  from_a : Siblings t a b
  from_a = second_part run g.low (omega arith) da

  first : Siblings t a m
  first = first_part from_a am mb (dm ∙ sym da)

  em : e ≤ m
  em = end_within first (omega arith) am r

  after : a < e
  after = r.after

  -- the next of the first has the depth of all
  level_e : e < b → depthAt t e ≡ depthAt t p
  level_e h = omega (arith, da, r.stop (omega (arith, run.within)), run.deep e (omega (arith, g.low, after)) h)

  -- nothing is heavier: the sibling at a stays
  stayed : c ≡ m → Merging s t p e m b
  unfolding NextNoHeavier
  stayed q = record {
    tree = g.tree;
    kept = g.kept;
    low = omega (arith, g.low, after);
    mid = em;
    high = g.high;
    level_a = level_e;
    level_m = g.level_m;
    but = g.but;
    seam = λ k f l n y d z. last k f l y d z (dec_lt k a) (dec_lt a k);
  }
    where
      last : (k f : ℕ) → p ≤ k → SubtreeEnd t k e → depthAt t k ≡ depthAt t p → SubtreeEnd t m f → Dec (k < a) → Dec (a < k) → ¬ Lighter (slice k e t) (slice m f t)
      last k f l y d z (yes w) _ v = omega (arith, y.deeper a w after, da)
      last k f l y d z (no w) (yes n) v = omega (arith, r.deeper k n y.after, da)
      last k f l y d z (no w) (no n) v =
          let o : k ≡ a = omega arith in
          nx f (rw q mb) (rw q (dm ∙ sym da)) (rw q z) (rw (q, ← o) v)

  module _ (mc : m < c) (a' e' : ℕ) (ea : a' + m ≡ a + c) (ee : e' + m ≡ e + c) where
    cb : c ≤ b
    cb = pa.within

    dc : c < b → depthAt t c ≡ depthAt t p
    dc h = omega (arith, pa.stop h, da, run.deep c (omega (arith, g.low, am, mc)) h)

    from_m : Siblings t m b
    from_m = second_part run (omega (arith, g.low)) mb dm

    second : Siblings t m c
    second = go (dec_lt c b)
      where
        go : Dec (c < b) → Siblings t m c
        go (yes h) = first_part from_m mc h (dc h ∙ sym dm)
        go (no h) = let q : c ≡ b = omega (arith, cb) in rw q from_m

    moved : MovedWithin t u p b
    moved = wider run g.low cb (exchanged_kept g.kept.rearranged.is_tree first second (dm ∙ sym da) x)

    new : Siblings u p b
    new = moved.siblings

    size : length u ≡ length t
    size = x.same_length

    cl : c ≤ length t
    cl = omega (arith, cb, run.within)

    before : Copied t u p a p a
    before = record { width = omega arith; low = g.low; source = omega (arith, am, mc, cl); target = omega (arith, am, mc, cl, size); copy = λ k y h q w. let z : y ≡ k = omega arith in rw z (x.before k q) }

    front : Copied t u m c a a'
    front = record { width = omega arith; low = omega arith; source = cl; target = omega (arith, cl, size, am); copy = λ k y h q w. x.to_front y k (omega arith) (omega arith) (omega arith) }

    back : Copied t u a m a' c
    back = record { width = omega arith; low = omega (arith, am); source = omega (arith, mc, cl); target = omega (arith, cl, size); copy = λ k y h q w. x.to_back y k (omega arith) (omega arith) (omega arith) }

    behind : Copied t u c b c b
    behind = record { width = omega arith; low = cb; source = run.within; target = omega (arith, run.within, size); copy = λ k y h q w. let z : y ≡ k = omega arith in rw z (x.behind k h) }

    -- the depths in u
    top : depthAt u p ≡ depthAt t p
    top = moved.level

    at_a : depthAt u a ≡ depthAt t p
    at_a = depth_copied t u m c a a' front a m (omega arith) (omega arith) (omega arith) ∙ dm

    at_a' : depthAt u a' ≡ depthAt t p
    at_a' = depth_copied t u a m a' c back a' a (omega arith) (omega arith) (omega arith) ∙ da

    at_c : c < b → depthAt u c ≡ depthAt t p
    at_c h = depth_copied t u c b c b behind c c (omega arith) h (omega arith) ∙ dc h

    deep : (k : ℕ) → p ≤ k → k < b → depthAt t p ≤ depthAt u k
    deep k h q = omega (arith, top, new.deep k h q)

    edge_c : (d : ℕ) → depthAt t p ≤ d → c < length t → depthAt t c ≤ d
    edge_c d h l = go (dec_lt c b)
      where
        go : Dec (c < b) → depthAt t c ≤ d
        go (yes q) = omega (arith, dc q)
        go (no q) = let z : b ≡ c = omega (arith, cb) in let w : depthAt t c ≤ depthAt t p = rw z at (run.stop (omega arith)) in omega arith

    -- the sibling that was at a
    own_end : SubtreeEnd u a' e'
    own_end = end_copied u t a' c a m (copied_back back) a e a' e' r (omega arith) em (omega arith) (omega arith) (λ _ h. omega (arith, at_a', edge_u h))
      where
        edge_u : c < length u → depthAt u c ≤ depthAt t p
        edge_u h = omega (arith, ap (λ (n : ℕ). n / 1000) (x.behind c (omega arith)), edge_c (depthAt t p) (omega arith) (omega (arith, size)))

    own_slice : slice a' e' u ≡ slice a e t
    own_slice = slice_copied t u a m a' c back (e' - a') a' e' a e (omega (arith, after)) (omega arith) (omega (arith, em)) (omega arith) (omega arith)

    level_e' : e' < b → depthAt u e' ≡ depthAt t p
    level_e' h = go (dec_lt e m)
      where
        go : Dec (e < m) → depthAt u e' ≡ depthAt t p
        go (yes z) = depth_copied t u a m a' c back e' e (omega (arith, after)) (omega arith) (omega arith) ∙ level_e (omega arith)
        go (no z) = let q : e' ≡ c = omega (arith, em) in rw q (at_c (omega arith))

    -- neighbours in u
    in_before : (k z w : ℕ) → p ≤ k → k < a → SubtreeEnd u k z → depthAt u z ≡ depthAt u k → SubtreeEnd u z w → ¬ Lighter (slice k z u) (slice z w u)
    in_before k z w h q y d v l = go (dec_lt z a)
      where
        dk : depthAt t p ≤ depthAt u k
        dk = deep k h (omega arith)

        za : z ≤ a
        za = stops y q (omega (arith, at_a, dk))

        meet : z ≡ a → ⊥
        meet o =
            let v' : SubtreeEnd u a w = rw o at v in
            let wa : w ≤ a' = stops v' (omega arith) (omega (arith, at_a, at_a')) in
            let aw : a < w = v'.after in
            let f : ℕ = w + m - a in
            let ky : SubtreeEnd t k a = end_copied t u p a p a before k a k a (rw o at y) h (omega arith) (omega arith) (omega arith) (λ _ _. omega (arith, da, run.deep k h (omega arith))) in
            let kd : depthAt t k ≡ depthAt t p = sym (depth_copied t u p a p a before k k h q (omega arith)) ∙ sym d ∙ ap (λ (i : ℕ). depthAt u i) o ∙ at_a in
            let mf : SubtreeEnd t m f = end_copied t u m c a a' front a w m f v' (omega arith) wa (omega arith) (omega arith) (λ _ n. edge_c (depthAt t m) (omega (arith, dm)) n) in
            let sk : slice k a u ≡ slice k a t = slice_copied t u p a p a before (a - k) k a k a (omega arith) h (omega arith) (omega arith) (omega arith) in
            let sm : slice a w u ≡ slice m f t = slice_copied t u m c a a' front (w - a) a w m f (omega arith) (omega arith) wa (omega arith) (omega arith) in
            g.seam k f h mb ky kd mf (rw (o, sk, sm) at l)

        go : Dec (z < a) → ⊥
        go (yes n) = pair_copied t u p a p a before (depthAt t p) k z w (λ y' w' g' ey ew. g.but y' w' g' (omega arith) (omega arith) (λ o. omega arith)) (λ _. omega (arith, da)) h (stops v n (omega (arith, at_a, dk, d))) y d dk v l
        go (no n) = meet (omega (arith, za))

    in_front : (k z w : ℕ) → a ≤ k → k < a' → SubtreeEnd u k z → depthAt u z ≡ depthAt u k → SubtreeEnd u z w → ¬ Lighter (slice k z u) (slice z w u)
    in_front k z w h q y d v l = go (dec_lt z a')
      where
        dk : depthAt t p ≤ depthAt u k
        dk = deep k (omega (arith, g.low)) (omega (arith, cb))

        za : z ≤ a'
        za = stops y q (omega (arith, at_a', dk))

        meet : z ≡ a' → ⊥
        meet o =
            let j : ℕ = k + m - a in
            let we : w ≡ e' = end_unique (rw o at v) own_end in
            let jc : SubtreeEnd t j c = end_copied t u m c a a' front k a' j c (rw o at y) h (omega arith) (omega arith) (omega arith) (λ _ n. edge_c (depthAt t j) (run.deep j (omega (arith, g.low)) (omega (arith, cb))) n) in
            let jd : depthAt t j ≡ depthAt t a = sym (depth_copied t u m c a a' front k j h q (omega arith)) ∙ sym d ∙ ap (λ (i : ℕ). depthAt u i) o ∙ at_a' ∙ sym da in
            let sj : slice k a' u ≡ slice j c t = slice_copied t u m c a a' front (a' - k) k a' j c (omega arith) h (omega arith) (omega arith) (omega arith) in
            pa.last j (omega arith) jc jd (rw (o, we, sj, own_slice) at l)

        go : Dec (z < a') → ⊥
        go (yes n) = pair_copied t u m c a a' front (depthAt t p) k z w (λ y' w' g' ey ew. g.but y' w' g' (omega (arith, g.low)) (omega (arith, cb)) (λ o. omega (arith, y.after))) (edge_c (depthAt t p) (omega arith)) h (stops v n (omega (arith, at_a', dk, d))) y d dk v l
        go (no n) = meet (omega (arith, za))

    in_back : (k z w : ℕ) → a' ≤ k → k < c → z < b → z ≢ c → SubtreeEnd u k z → depthAt u z ≡ depthAt u k → SubtreeEnd u z w → ¬ Lighter (slice k z u) (slice z w u)
    in_back k z w h q zb zc y d v = go (dec_lt c z)
      where
        dk : depthAt t p ≤ depthAt u k
        dk = deep k (omega (arith, g.low, mc)) (omega (arith, cb))

        last : Dec (c < w) → z < c → w ≤ c
        last (yes n) o = let wb : w ≤ b = end_within new (omega (arith, g.low, mc, y.after)) zb v in stops v o (omega (arith, at_c (omega arith), dk, d))
        last (no n) o = omega arith

        go : Dec (c < z) → ¬ Lighter (slice k z u) (slice z w u)
        go (yes n) l = omega (arith, y.deeper c q n, at_c (omega arith), dk)
        go (no n) l =
            let o : z < c = omega arith in
            pair_copied t u a m a' c back (depthAt t p) k z w (λ y' w' g' ey ew. g.but y' w' g' (omega (arith, g.low)) (omega arith) (λ i. omega arith)) (λ _. omega (arith, dm)) h (last (dec_lt c w) o) y d dk v l

    in_behind : (k z w : ℕ) → c ≤ k → z < b → SubtreeEnd u k z → depthAt u z ≡ depthAt u k → SubtreeEnd u z w → ¬ Lighter (slice k z u) (slice z w u)
    in_behind k z w h zb y d v =
        let kz : k < z = y.after in
        let pk : p ≤ k = omega (arith, g.low, am, mc) in
        pair_copied t u c b c b behind (depthAt t p) k z w (λ y' w' g' ey ew. g.but y' w' g' (omega arith) (omega arith) (λ i. omega arith)) run.stop h (end_within new (omega arith) zb v) y d (deep k pk (omega arith)) v

    but : (k z w : ℕ) → p ≤ k → z < b → z ≢ c → SubtreeEnd u k z → depthAt u z ≡ depthAt u k → SubtreeEnd u z w → ¬ Lighter (slice k z u) (slice z w u)
    but k z w h zb zc y d v = go (dec_lt k a) (dec_lt k a') (dec_lt k c)
      where
        go : Dec (k < a) → Dec (k < a') → Dec (k < c) → ¬ Lighter (slice k z u) (slice z w u)
        go (yes n) _ _ = in_before k z w h n y d v
        go (no n) (yes o) _ = in_front k z w (omega arith) o y d v
        go (no n) (no o) (yes i) = in_back k z w (omega arith) i zb zc y d v
        go (no n) (no o) (no i) = in_behind k z w (omega arith) zb y d v

    seam : (k f : ℕ) → p ≤ k → c < b → SubtreeEnd u k e' → depthAt u k ≡ depthAt u p → SubtreeEnd u c f → ¬ Lighter (slice k e' u) (slice c f u)
    unfolding NextNoHeavier
    seam k f h q y d z l = go (dec_lt k a') (dec_lt a' k)
      where
        go : Dec (k < a') → Dec (a' < k) → ⊥
        go (yes n) _ = omega (arith, y.deeper a' n own_end.after, at_a', top)
        go (no n) (yes o) = omega (arith, own_end.deeper k o y.after, at_a', top)
        go (no n) (no o) =
            let i : k ≡ a' = omega arith in
            let fb : f ≤ b = end_within new (omega (arith, g.low, am, mc)) q z in
            let cf : SubtreeEnd t c f = end_copied t u c b c b behind c f c f z (omega arith) fb (omega arith) (omega arith) (λ _ v. omega (arith, dc q, run.stop v)) in
            let sf : slice c f u ≡ slice c f t = slice_copied t u c b c b behind (f - c) c f c f (omega (arith, z.after)) (omega arith) fb (omega arith) (omega arith) in
            nx f q (dc q ∙ sym da) cf (rw (i, own_slice, sf) at l)

    rotated : Merging s u p e' c b
    rotated = record {
      tree = g.tree;
      kept = kept_twice g.tree g.kept moved;
      low = omega (arith, g.low, after, mc);
      mid = omega (arith, em);
      high = cb;
      level_a = λ h. level_e' h ∙ sym top;
      level_m = λ h. at_c h ∙ sym top;
      but = but;
      seam = seam;
    }

  pub one_more : Merging s u p (e + (c - m)) c b
  one_more = go (dec_lt m c)
    where
      go : Dec (m < c) → Merging s u p (e + (c - m)) c b
      go (yes h) = rotated h (a + (c - m)) (e + (c - m)) (omega arith) (omega arith)
      go (no h) =
          let q : c ≡ m = omega (arith, pa.on) in
          let i : e + (m - m) ≡ e = omega arith in
          rw (unmoved_list t u a m c x q, q, i) (stayed q)

-- what the calls in the loop ask
module _ {s t : List ℕ} {p a m b : ℕ} (g : Merging s t p a m b) where
  pub sizes : length t ≡ length s
  sizes = same_size g.kept.rearranged

  module _ (am : a < m) where
    pub asks_end : IsTree t × (a < length t)
    asks_end = (g.kept.rearranged.is_tree, omega (arith, g.high, g.kept.siblings.within))

    pub asks_heavier : {e : ℕ} → m < b → SubtreeEnd t a e → IsTree t × SubtreeEnd t a e × (m ≤ b) × (b ≤ length t)
    asks_heavier mb r = (g.kept.rearranged.is_tree, r, g.high, g.kept.siblings.within)

    pub asks_exchange : {e c : ℕ} → Passed t a e m b c → (a ≤ m) × (m ≤ c) × (c ≤ length t)
    asks_exchange pa = (omega arith, pa.on, omega (arith, pa.within, g.kept.siblings.within))

    pub goes_to : {e c : ℕ} → m < b → SubtreeEnd t a e → Passed t a e m b c → (m ≤ c) × (a < e + (c - m)) × (e + (c - m) ≤ b) × (a < b)
    goes_to {e} {c} mb r pa =
        let q : e ≤ m = stops r am (omega (arith, g.level_m mb, g.level_a (omega arith))) in
        (pa.on, omega (arith, r.after), omega (arith, pa.on, pa.within), omega arith)
