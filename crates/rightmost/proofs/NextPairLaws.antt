-- LAWS. A form and one pair more is a form exactly if the rightmost branch allows the pair.
use mathlib.Core.Path.{◌≡◌, sym, ap, ◌∙◌}
use mathlib.Core.Logic.{◌↔◌}
use mathlib.Core.List.{List, [], ◌∷◌, ◌++◌}
use Prim.Native.Nat.{ℕ, zero, suc, ◌+◌, ◌-◌, ◌/◌, ◌≤◌, ◌<◌}
use native.Mathlib.Omega.{arith}
use native.Mathlib.Decide.{dec_lt, dec_le, ℕ_discrete}
use lib.ListN.{length, get_or, take, drop}
use lib.Seq.{slice, slice-cons, slice_empty, length-slice, take-append-le, drop-append-le, take_all, get_or-take, get_or-drop}
use Rattle.terms.specs.Tree.{depthAt, SubtreeEnd}
use Rattle.terms.specs.Order.{Lighter, shorter, differ, agree}
use Rattle.terms.specs.Form.{InForm, LeftHeavy}
use Rattle.terms.proofs.OrderLaws.{lighter_irrefl, lighter_trans}
use Rattle.terms.proofs.LeftHeavyLaws.{left_heavy_exactly}
use Rattle.tree.proofs.SubtreeLaws.{HeavyAt, at_heavy}
use Rattle.rightmost.specs.Ends.{OnBranch, NewChild}
use Rattle.rightmost.specs.NextPair.{LastNeighbours, Repeats, MayComeNext}
use Rattle.rightmost.proofs.BranchLaws.{branch_deeper, branch_of_deeper}
use Rattle.rightmost.proofs.LongerLaws.{longer, longer_length, depth_at, depth_last, longer_tree}
use Rattle.rightmost.proofs.SiblingLaws.{heavy_all}

-- SEQUENCES: one pair more on the heavier side

abbrev Begins : (S L : List ℕ) → Type 0
Begins S L = (k : ℕ) → k < length S → (k < length L) × (get_or L k 0 ≡ get_or S k 0)

nothing : (u : List ℕ) → ¬ Lighter u []
nothing [] h = lighter_irrefl [] h
nothing (a ∷ u) h = lighter_irrefl (a ∷ u) (lighter_trans h shorter)

begins_more : {a s : ℕ} (L S : List ℕ) → a ≡ s → Begins S L → Begins (s ∷ S) (a ∷ L)
begins_more L S e f zero h = (omega arith, e)
begins_more L S e f (suc k) h = let z = f k (omega arith) in let l = z.0 in (omega arith, z.1)

no_lighter : (L S : List ℕ) (x : ℕ) → ¬ Lighter L S → (Begins S L → (length S < length L) × (x ≤ get_or L (length S) 0)) → ¬ Lighter L (S ++ x ∷ [])
no_lighter [] [] x n f l = let z = (f (λ k h. absurd (omega arith))).0 in omega arith
no_lighter [] (s ∷ S) x n f l = n shorter
no_lighter (a ∷ L) [] x n f l = go l (f (λ k h. absurd (omega arith))).1
  where
    go : Lighter (a ∷ L) (x ∷ []) → x ≤ a → ⊥
    go (differ h) q = omega arith
    go (agree e h) q = nothing L h
no_lighter (a ∷ L) (s ∷ S) x n f l = go l (λ e h. no_lighter L S x (λ k. n (agree e k)) (λ b. less (f (begins_more L S e b))) h)
  where
    less : (length (s ∷ S) < length (a ∷ L)) × (x ≤ get_or L (length S) 0) → (length S < length L) × (x ≤ get_or L (length S) 0)
    less z = let y = z.0 in (omega arith, z.1)

    go : Lighter (a ∷ L) (s ∷ (S ++ x ∷ [])) → (a ≡ s → Lighter L (S ++ x ∷ []) → ⊥) → ⊥
    go (differ h) r = n (differ h)
    go (agree e h) r = r e h

no_heavier : (L S : List ℕ) (x : ℕ) → Begins S L → ¬ Lighter L (S ++ x ∷ []) → (length S < length L) × (x ≤ get_or L (length S) 0)
no_heavier [] [] x b n = absurd (n shorter)
no_heavier [] (s ∷ S) x b n = let z = (b 0 (omega arith)).0 in absurd (omega arith)
no_heavier (a ∷ L) [] x b n = (omega arith, go (dec_le x a))
  where
    go : Dec (x ≤ a) → x ≤ a
    go (yes h) = h
    go (no h) = let l : a < x = omega arith in absurd (n (differ l))
no_heavier (a ∷ L) (s ∷ S) x b n = let z = no_heavier L S x (λ k h. rest k h) (λ l. n (agree (b 0 (omega arith)).1 l)) in let y = z.0 in (omega arith, z.1)
  where
    rest : Begins S L
    rest k h = let z = b (suc k) (omega arith) in let y = z.0 in (omega arith, z.1)

-- THE FORM p AND THE PAIR x
module _ {p : List ℕ} {x b : ℕ} (f : InForm p) (e : NewChild p x b) where
  slice_old : (i k : ℕ) → k ≤ length p → slice i k (longer p x) ≡ slice i k p
  slice_old i k h = ap (λ (l : List ℕ). drop i l) (take-append-le k p (x ∷ []) h)

  slice_new : (j : ℕ) → j ≤ length p → slice j (suc (length p)) (longer p x) ≡ slice j (length p) p ++ x ∷ []
  slice_new j h = ap (λ (l : List ℕ). drop j l) (take_all (suc (length p)) (longer p x) (omega (arith, longer_length p x))) ∙ drop-append-le j p (x ∷ []) h ∙ ap (λ (l : List ℕ). drop j l ++ x ∷ []) (sym (take_all (length p) p (omega arith)))

  shr_slice_at : (i k m : ℕ) → i + m < k → get_or (slice i k p) m 0 ≡ get_or p (i + m) 0
  shr_slice_at i k m h = get_or-drop i (take k p) m 0 ∙ get_or-take k p (i + m) 0 h

  end_old : {i k : ℕ} → k ≤ length p → SubtreeEnd (longer p x) i k → SubtreeEnd p i k
  end_old {i} {k} h r =
      let c : i < length p = omega (arith, r.after) in
      record {
        after = r.after;
        within = h;
        deeper = λ m a l. omega (arith, r.deeper m a l, depth_at p x m (omega arith), depth_at p x i c);
        stop = λ l. omega (arith, r.stop (omega (arith, longer_length p x)), depth_at p x k l, depth_at p x i c);
      }

  end_new : {i k : ℕ} → k < length p → SubtreeEnd p i k → SubtreeEnd (longer p x) i k
  end_new {i} {k} h r =
      let c : i < length p = omega (arith, r.after) in
      record {
        after = r.after;
        within = omega (arith, longer_length p x);
        deeper = λ m a l. omega (arith, r.deeper m a l, depth_at p x m (omega arith), depth_at p x i c);
        stop = λ l. omega (arith, r.stop h, depth_at p x k h, depth_at p x i c);
      }

  -- x stands below j
  end_beyond : {j : ℕ} → SubtreeEnd p j (length p) → depthAt p j < x / 1000 → SubtreeEnd (longer p x) j (suc (length p))
  end_beyond {j} r d = record {
    after = omega (arith, r.after);
    within = omega (arith, longer_length p x);
    deeper = λ m a l. deep m a (dec_lt m (length p)) l;
    stop = λ l. absurd (omega (arith, longer_length p x));
  }
    where
      deep : (m : ℕ) → j < m → Dec (m < length p) → m < suc (length p) → depthAt (longer p x) j < depthAt (longer p x) m
      deep m a (yes l) h = omega (arith, r.deeper m a l, depth_at p x m l, depth_at p x j r.after)
      deep m a (no l) h = let q : m ≡ length p = omega arith in omega (arith, ap (depthAt (longer p x)) q, depth_last p x, depth_at p x j r.after)

  -- x stands beside c
  end_beside : {c : ℕ} → OnBranch p (x / 1000) c → SubtreeEnd (longer p x) c (length p)
  end_beside {c} o = record {
    after = o.inside;
    within = omega (arith, longer_length p x);
    deeper = λ m a l. omega (arith, branch_deeper e.is_tree o m a l, o.depth, depth_at p x m l, depth_at p x c o.inside);
    stop = λ l. omega (arith, depth_last p x, o.depth, depth_at p x c o.inside);
  }

  end_last : SubtreeEnd (longer p x) (length p) (suc (length p))
  end_last = record { after = omega arith; within = omega (arith, longer_length p x); deeper = λ m a l. absurd (omega arith); stop = λ l. absurd (omega (arith, longer_length p x)) }

  -- the two subtrees that are compared, where x is the second
  first_beside : (c : ℕ) → c < length p → slice c (length p) (longer p x) ≡ get_or p c 0 ∷ slice (suc c) (length p) p
  first_beside c h = slice_old c (length p) (omega arith) ∙ slice-cons c (length p) p 0 h (omega arith)

  second_beside : slice (length p) (suc (length p)) (longer p x) ≡ x ∷ []
  second_beside = slice_new (length p) (omega arith) ∙ ap (λ (l : List ℕ). l ++ x ∷ []) (slice_empty (length p) p)

  module _ (m : MayComeNext p x) where
    -- x itself is the right neighbour
    heavy_beside : (i : ℕ) → SubtreeEnd (longer p x) i (length p) → depthAt (longer p x) (length p) ≡ depthAt (longer p x) i → ¬ Lighter (slice i (length p) (longer p x)) (slice (length p) (suc (length p)) (longer p x))
    heavy_beside i r d l = no_lighter (get_or p i 0 ∷ slice (suc i) (length p) p) [] x (nothing _) (λ _. (omega arith, m.beside i on)) (rw (first_beside i r.after, second_beside) at l)
      where
        level : depthAt p i ≡ x / 1000
        level = omega (arith, d, depth_last p x, depth_at p x i r.after)

        on : OnBranch p (x / 1000) i
        on = rw level at (branch_of_deeper p i r.after (λ k a h. (end_old (omega arith) r).deeper k a h))

    -- x is the last of the right neighbour's nodes
    heavy_behind : (i k : ℕ) → SubtreeEnd p i k → k < length p → depthAt p k ≡ depthAt p i → SubtreeEnd p k (length p) → depthAt p k < x / 1000 → ¬ Lighter (slice i k (longer p x)) (slice k (suc (length p)) (longer p x))
    unfolding HeavyAt
    heavy_behind i k r h d g q l = no_lighter (slice i k p) (slice k (length p) p) x (heavy_all p f i (omega (arith, r.after)) k (length p) r h d g) room (rw (slice_old i k (omega arith), slice_new k (omega arith)) at l)
      where
        len_L : length (slice i k p) ≡ k - i
        len_L = length-slice i k p (omega arith)

        len_S : length (slice k (length p) p) ≡ length p - k
        len_S = length-slice k (length p) p (omega arith)

        repeats : Begins (slice k (length p) p) (slice i k p) → Repeats p i k
        repeats b a h' =
            let z = b a (omega (arith, len_S)) in
            let y = z.0 in
            (omega (arith, len_L, r.after), sym (shr_slice_at i k a (omega (arith, len_L, r.after))) ∙ z.1 ∙ shr_slice_at k (length p) a h')

        room : Begins (slice k (length p) p) (slice i k p) → (length (slice k (length p) p) < length (slice i k p)) × (x ≤ get_or (slice i k p) (length (slice k (length p) p)) 0)
        room b = (omega (arith, len_S, len_L, strict, r.after), rw (len_S, shr_slice_at i k (length p - k) strict) next)
          where
            next : x ≤ get_or p (i + (length p - k)) 0
            next = m.behind i k (record { ends = r; level = d; last = g }) (repeats b)

            most : i + (length p - k - 1) < k
            most = (repeats b (length p - k - 1) (omega arith)).0

            strict : i + (length p - k) < k
            strict = go (dec_lt (i + (length p - k)) k)
              where
                go : Dec (i + (length p - k) < k) → i + (length p - k) < k
                go (yes w) = w
                go (no w) =
                    let q' : i + (length p - k) ≡ k = omega (arith, most) in
                    let y : x ≤ get_or p k 0 = rw q' at next in
                    absurd (omega arith)

    allowed_heavy : (i : ℕ) → i < length (longer p x) → HeavyAt (longer p x) i
    unfolding HeavyAt
    allowed_heavy i h k g r l d s = go (dec_lt k (length p)) (dec_le g (length p))
      where
        go : Dec (k < length p) → Dec (g ≤ length p) → ¬ Lighter (slice i k (longer p x)) (slice k g (longer p x))
        go (yes a) (yes c) =
            let r' = end_old (omega arith) r in
            rw (slice_old i k (omega arith), slice_old k g c) (heavy_all p f i (omega (arith, r.after)) k g r' a (omega (arith, d, depth_at p x k a, depth_at p x i (omega (arith, r.after)))) (end_old c s))
        go (yes a) (no c) =
            let w : g ≡ suc (length p) = omega (arith, s.within, longer_length p x) in
            let s' : SubtreeEnd (longer p x) k (suc (length p)) = rw w at s in
            let deep : depthAt p k < x / 1000 = omega (arith, s'.deeper (length p) a (omega arith), depth_last p x, depth_at p x k a) in
            rw w (heavy_behind i k (end_old (omega arith) r) a (omega (arith, d, depth_at p x k a, depth_at p x i (omega (arith, r.after)))) (shorten s' a) deep)
          where
            shorten : SubtreeEnd (longer p x) k (suc (length p)) → k < length p → SubtreeEnd p k (length p)
            shorten z y = record { after = y; within = omega arith; deeper = λ j u v. omega (arith, z.deeper j u (omega arith), depth_at p x j v, depth_at p x k y); stop = λ v. absurd (omega arith) }
        go (no a) _ =
            let w : k ≡ length p = omega (arith, longer_length p x) in
            let v : g ≡ suc (length p) = omega (arith, s.within, s.after, longer_length p x) in
            rw (w, v) (heavy_beside i (rw w at r) (rw w at d))

  module _ (heavy : (i : ℕ) → i < length (longer p x) → HeavyAt (longer p x) i) where
    is_beside : (c : ℕ) → OnBranch p (x / 1000) c → x ≤ get_or p c 0
    unfolding HeavyAt
    is_beside c o = go (dec_le x (get_or p c 0))
      where
        go : Dec (x ≤ get_or p c 0) → x ≤ get_or p c 0
        go (yes h) = h
        go (no h) =
            let less : get_or p c 0 < x = omega arith in
            absurd (heavy c (omega (arith, o.inside, longer_length p x)) (length p) (suc (length p)) (end_beside o) (omega (arith, longer_length p x))
            (omega (arith, depth_last p x, o.depth, depth_at p x c o.inside)) end_last (rw (first_beside c o.inside, second_beside) (differ less)))

    is_behind : (i j : ℕ) → LastNeighbours p i j → Repeats p i j → x ≤ get_or p (i + (length p - j)) 0
    unfolding HeavyAt
    is_behind i j l r = go (dec_lt (depthAt p j) (x / 1000)) (ℕ_discrete (i + (length p - j)) j) (ℕ_discrete (x / 1000) (depthAt p j))
      where
        inj : j < length p
        inj = l.last.after

        before : i < j
        before = l.ends.after

        most : i + (length p - j - 1) < j
        most = (r (length p - j - 1) (omega (arith, inj))).0

        len_L : length (slice i j p) ≡ j - i
        len_L = length-slice i j p (omega (arith, inj))

        len_S : length (slice j (length p) p) ≡ length p - j
        len_S = length-slice j (length p) p (omega arith)

        begins : Begins (slice j (length p) p) (slice i j p)
        begins k h =
            let z = r k (omega (arith, len_S)) in
            let y = z.0 in
            (omega (arith, len_L), shr_slice_at i j k y ∙ z.1 ∙ sym (shr_slice_at j (length p) k (omega (arith, len_S))))

        on : OnBranch p (depthAt p j) j
        on = branch_of_deeper p j inj (λ k a h. l.last.deeper k a h)

        go : Dec (depthAt p j < x / 1000) → Dec (i + (length p - j) ≡ j) → Dec (x / 1000 ≡ depthAt p j) → x ≤ get_or p (i + (length p - j)) 0
        go (yes d) _ _ =
            let w = heavy i (omega (arith, before, inj, longer_length p x)) j (suc (length p)) (end_new inj l.ends) (omega (arith, inj, longer_length p x))
            (omega (arith, l.level, depth_at p x j inj, depth_at p x i (omega (arith, before, inj)))) (end_beyond l.last d) in
            let v : ¬ Lighter (slice i j p) (slice j (length p) p ++ x ∷ []) = rw (slice_old i j (omega (arith, inj)), slice_new j (omega (arith, inj))) at w in
            let z = no_heavier (slice i j p) (slice j (length p) p) x begins v in
            let y : i + (length p - j) < j = omega (arith, z.0, len_L, len_S, before) in
            rw (len_S, shr_slice_at i j (length p - j) y) at z.1
        go (no d) (yes q) (yes d') = let y : x ≤ get_or p j 0 = is_beside j (rw (sym d') at on) in rw q y
        go (no d) (yes q) (no d') = let y : x ≤ get_or p j 0 = omega arith in rw q y
        go (no d) (no q) _ = omega (arith, l.ends.deeper (i + (length p - j)) (omega (arith, inj)) (omega (arith, most)), l.level)

  -- THE CLAIM (001): the longer tree is a form exactly if the branch allows the pair.
  pub next_exactly : InForm (longer p x) ↔ MayComeNext p x
  unfolding LeftHeavy
  next_exactly = (to, λ m. (left_heavy_exactly (longer p x) (longer_tree e)).1 (λ i h. at_heavy (longer p x) i h (allowed_heavy m i h)))
    where
      to : InForm (longer p x) → MayComeNext p x
      to g = let heavy = heavy_all (longer p x) g in record { beside = is_beside heavy; behind = is_behind heavy }

-- THE NEIGHBOURS ALONG THE BRANCH, as they are found
pub neighbour_branch : {s : List ℕ} {i j : ℕ} → LastNeighbours s i j → OnBranch s (depthAt s j) j
neighbour_branch {s} {i} {j} l = branch_of_deeper s j l.last.after (λ k a h. l.last.deeper k a h)

pub neighbour_unique : {s : List ℕ} {i i' j : ℕ} → LastNeighbours s i j → LastNeighbours s i' j → i ≡ i'
neighbour_unique {s} {i} {i'} {j} a b = go (dec_lt i i') (dec_lt i' i)
  where
    go : Dec (i < i') → Dec (i' < i) → i ≡ i'
    go (yes h) _ = absurd (omega (arith, a.ends.deeper i' h b.ends.after, a.level, b.level))
    go (no h) (yes k) = absurd (omega (arith, b.ends.deeper i k a.ends.after, a.level, b.level))
    go (no h) (no k) = omega arith

-- behind its parent a node has none
pub no_neighbour : {s : List ℕ} {i j : ℕ} → depthAt s j < depthAt s (suc j) → ¬ LastNeighbours s i (suc j)
no_neighbour {s} {i} {j} h l = go (ℕ_discrete i j)
  where
    after : i < suc j
    after = l.ends.after

    go : Dec (i ≡ j) → ⊥
    go (yes e) = omega (arith, ap (depthAt s) e, l.level)
    go (no e) = omega (arith, l.ends.deeper j (omega arith) (omega arith), l.level)
