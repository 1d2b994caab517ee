-- LAWS. Two adjacent stretches of siblings' subtrees exchanged: a tree stays a tree, and the same up to the order of children.
use mathlib.Core.Path.{◌≡◌, refl, sym, ap, ◌∙◌}
use mathlib.Core.List.{List}
use Prim.Native.Nat.{ℕ, zero, suc, ◌+◌, ◌-◌, ◌/◌, ◌%◌, ◌≤◌, ◌<◌}
use native.Mathlib.Omega.{arith}
use native.Mathlib.Decide.{dec_lt}
use lib.ListN.{length, get_or}
use Rattle.terms.specs.Tree.{depthAt, IsTree, IsParent}
use Rattle.terms.specs.Matching.{SameTree}
use Rattle.terms.proofs.Canonical.{SameByMap}
use Rattle.terms.proofs.MatchingLaws.{same_from}
use Rattle.exchange.specs.Exchange.{Exchanged}

-- from a to b and from b to c stand subtrees of siblings, at depth d
pub record TwoStretches (s : List ℕ) (a b c d : ℕ) : Type 0 where
  pub first : a < b
  pub second : b < c
  pub within : c ≤ length s
  pub first_head : depthAt s a ≡ d
  pub second_head : depthAt s b ≡ d
  pub deep : (k : ℕ) → a ≤ k → k < c → d ≤ depthAt s k
  pub stop : c < length s → depthAt s c ≤ d

-- position k goes to position m
data Goes (a b c k m : ℕ) : Type 0 where
  stays_before : k < a → m ≡ k → Goes a b c k m
  goes_back : a ≤ k → k < b → m + b ≡ k + c → Goes a b c k m
  goes_front : b ≤ k → k < c → m + b ≡ k + a → Goes a b c k m
  stays_behind : c ≤ k → m ≡ k → Goes a b c k m

module _ (a b c : ℕ) (ab : a < b) (bc : b < c) where
  goes : (k : ℕ) → (m : ℕ) × Goes a b c k m
  goes k = go (dec_lt k a) (dec_lt k b) (dec_lt k c)
    where
      go : Dec (k < a) → Dec (k < b) → Dec (k < c) → (m : ℕ) × Goes a b c k m
      go (yes h) _ _ = (k, stays_before h refl)
      go (no h) (yes p) _ = (k + c - b, goes_back (omega arith) p (omega arith))
      go (no h) (no p) (yes q) = (k + a - b, goes_front (omega arith) q (omega arith))
      go (no h) (no p) (no q) = (k, stays_behind (omega arith) refl)

  comes : (m : ℕ) → (k : ℕ) × Goes a b c k m
  comes m = go (dec_lt m a) (dec_lt (m + b) (a + c)) (dec_lt m c)
    where
      go : Dec (m < a) → Dec (m + b < a + c) → Dec (m < c) → (k : ℕ) × Goes a b c k m
      go (yes h) _ _ = (m, stays_before h refl)
      go (no h) (yes p) _ = (m + b - a, goes_front (omega arith) (omega arith) (omega arith))
      go (no h) (no p) (yes q) = (m + b - c, goes_back (omega arith) (omega arith) (omega arith))
      go (no h) (no p) (no q) = (m, stays_behind (omega arith) refl)

  apart : {i j m : ℕ} → Goes a b c i m → Goes a b c j m → i ≡ j
  apart (stays_before n1 n2) (stays_before n3 n4) = omega arith
  apart (stays_before n1 n2) (goes_back n3 n4 n5) = absurd (omega arith)
  apart (stays_before n1 n2) (goes_front n3 n4 n5) = absurd (omega arith)
  apart (stays_before n1 n2) (stays_behind n3 n4) = omega arith
  apart (goes_back n1 n2 n3) (stays_before n4 n5) = absurd (omega arith)
  apart (goes_back n1 n2 n3) (goes_back n4 n5 n6) = omega arith
  apart (goes_back n1 n2 n3) (goes_front n4 n5 n6) = absurd (omega arith)
  apart (goes_back n1 n2 n3) (stays_behind n4 n5) = absurd (omega arith)
  apart (goes_front n1 n2 n3) (stays_before n4 n5) = absurd (omega arith)
  apart (goes_front n1 n2 n3) (goes_back n4 n5 n6) = absurd (omega arith)
  apart (goes_front n1 n2 n3) (goes_front n4 n5 n6) = omega arith
  apart (goes_front n1 n2 n3) (stays_behind n4 n5) = absurd (omega arith)
  apart (stays_behind n1 n2) (stays_before n3 n4) = omega arith
  apart (stays_behind n1 n2) (goes_back n3 n4 n5) = absurd (omega arith)
  apart (stays_behind n1 n2) (goes_front n3 n4 n5) = absurd (omega arith)
  apart (stays_behind n1 n2) (stays_behind n3 n4) = omega arith

  inside : {n k m : ℕ} → c ≤ n → Goes a b c k m → k < n → m < n
  inside h (stays_before n1 n2) q = omega arith
  inside h (goes_back n1 n2 n3) q = omega arith
  inside h (goes_front n1 n2 n3) q = omega arith
  inside h (stays_behind n1 n2) q = omega arith

  back_inside : {n k m : ℕ} → c ≤ n → Goes a b c k m → m < n → k < n
  back_inside h (stays_before n1 n2) q = omega arith
  back_inside h (goes_back n1 n2 n3) q = omega arith
  back_inside h (goes_front n1 n2 n3) q = omega arith
  back_inside h (stays_behind n1 n2) q = omega arith

module _ (s t : List ℕ) (a b c d : ℕ) (x : Exchanged s t a b c) (two : TwoStretches s a b c d) (tree : IsTree s) where
  ab : a < b
  ab = two.first

  bc : b < c
  bc = two.second

  value : {k m : ℕ} → Goes a b c k m → get_or t m 0 ≡ get_or s k 0
  value {k} {m} (stays_before h e) = rw e (x.before k h)
  value {k} {m} (goes_back h q e) = x.to_back k m h q e
  value {k} {m} (goes_front h q e) = x.to_front k m h q e
  value {k} {m} (stays_behind h e) = rw e (x.behind k h)

  depth : {k m : ℕ} → Goes a b c k m → depthAt t m ≡ depthAt s k
  depth g = ap (λ (n : ℕ). n / 1000) (value g)

  rooted : 1 ≤ a
  rooted = go a refl b refl
    where
      go : (i : ℕ) → i ≡ a → (j : ℕ) → j ≡ b → 1 ≤ a
      go (suc i) e j q = omega arith
      go zero e zero q = absurd (omega (arith, ab))
      go zero e (suc j) q =
          let z : depthAt s 0 ≡ d = ap (λ (n : ℕ). depthAt s n) e ∙ two.first_head in
          let w : depthAt s (suc j) ≡ d = ap (λ (n : ℕ). depthAt s n) q ∙ two.second_head in
          absurd (omega (arith, tree.root_depth, tree.later_from_1 j (omega (arith, two.within, bc))))

  next_depth : {k l m : ℕ} → Goes a b c k m → Goes a b c l (suc m) → suc m < length t → depthAt s l ≤ suc (depthAt s k)
  next_depth {k} {l} {m} (stays_before h e) (stays_before q r) n = let z : l ≡ suc k = omega arith in rw z (tree.later_to_next k (omega (arith, two.within, ab, bc)))
  next_depth {k} {l} {m} (stays_before h e) (goes_front q _ r) n =
      let z : l ≡ b = omega arith in
      let w : suc k ≡ a = omega arith in
      let v : depthAt s a ≤ suc (depthAt s k) = rw w at (tree.later_to_next k (omega (arith, two.within, ab, bc))) in
      rw z (omega (arith, two.first_head, two.second_head))
  next_depth {k} {l} {m} (goes_front h p e) (goes_front q n1 r) n = let z : l ≡ suc k = omega arith in rw z (tree.later_to_next k (omega (arith, two.within)))
  next_depth {k} {l} {m} (goes_front h p e) (goes_back q _ r) n =
      let z : l ≡ a = omega arith in
      rw z (omega (arith, two.first_head, two.deep k (omega (arith, ab)) p))
  next_depth {k} {l} {m} (goes_back h p e) (goes_back q n1 r) n = let z : l ≡ suc k = omega arith in rw z (tree.later_to_next k (omega (arith, two.within, bc)))
  next_depth {k} {l} {m} (goes_back h p e) (stays_behind q r) n =
      let z : l ≡ c = omega arith in
      rw z (omega (arith, two.stop (omega (arith, x.same_length)), two.deep k h (omega (arith, bc))))
  next_depth {k} {l} {m} (stays_behind h e) (stays_behind q r) n = let z : l ≡ suc k = omega arith in rw z (tree.later_to_next k (omega (arith, x.same_length)))
  next_depth (stays_before n1 n2) (goes_back n3 n4 n5) n = absurd (omega (arith, ab, bc))
  next_depth (stays_before n1 n2) (stays_behind n3 n4) n = absurd (omega (arith, ab, bc))
  next_depth (goes_front n1 n2 n3) (stays_before n4 n5) n = absurd (omega (arith, ab, bc))
  next_depth (goes_front n1 n2 n3) (stays_behind n4 n5) n = absurd (omega (arith, ab, bc))
  next_depth (goes_back n1 n2 n3) (stays_before n4 n5) n = absurd (omega (arith, ab, bc))
  next_depth (goes_back n1 n2 n3) (goes_front n4 n5 n6) n = absurd (omega (arith, ab, bc))
  next_depth (stays_behind n1 n2) (stays_before n3 n4) n = absurd (omega (arith, ab, bc))
  next_depth (stays_behind n1 n2) (goes_back n3 n4 n5) n = absurd (omega (arith, ab, bc))
  next_depth (stays_behind n1 n2) (goes_front n3 n4 n5) n = absurd (omega (arith, ab, bc))

  later : (k : ℕ) {m : ℕ} → Goes a b c k (suc m) → k < length s → 1 ≤ depthAt s k
  later zero (stays_before n1 n2) h = absurd (omega arith)
  later zero (goes_back n1 n2 n3) h = absurd (omega (arith, rooted))
  later zero (goes_front n1 n2 n3) h = absurd (omega (arith, ab))
  later zero (stays_behind n1 n2) h = absurd (omega arith)
  later (suc k) g h = tree.later_from_1 k h

  pub exchanged_tree : IsTree t
  exchanged_tree = record {
    has_root = omega (arith, x.same_length, tree.has_root);
    pairs = λ i h. let z = comes a b c ab bc i in rw (value z.1) (tree.pairs z.0 (back_inside a b c ab bc two.within z.1 (omega (arith, x.same_length))));
    root_depth = depth (stays_before rooted refl) ∙ tree.root_depth;
    later_from_1 = λ i h. let z = comes a b c ab bc (suc i) in rw (value z.1) (later z.0 z.1 (back_inside a b c ab bc two.within z.1 (omega (arith, x.same_length))));
    later_to_next = λ i h. let z = comes a b c ab bc i in let w = comes a b c ab bc (suc i) in rw (value z.1, value w.1) (next_depth z.1 w.1 h);
  }

  -- a parent before the runs of a child in or behind them is less deep than they
  above_runs : {i j : ℕ} → IsParent s i j → i < a → a ≤ j → depthAt s i < d
  above_runs {i} {j} p h q = go (dec_lt a j)
    where
      go : Dec (a < j) → depthAt s i < d
      go (yes l) = omega (arith, p.between a h l, two.first_head)
      go (no l) = let z : j ≡ a = omega arith in let w : depthAt s a ≡ suc (depthAt s i) = rw z at p.one_deeper in omega (arith, two.first_head)

  -- a node in the runs has no child behind a later head
  not_over : {i j : ℕ} (h : ℕ) → IsParent s i j → i < h → h ≤ j → d ≤ depthAt s i → depthAt s h ≤ d → ⊥
  not_over {i} {j} h p q l e f = go (dec_lt h j)
    where
      go : Dec (h < j) → ⊥
      go (yes z) = omega (arith, p.between h q z)
      go (no z) = let w : j ≡ h = omega arith in let v : depthAt s h ≡ suc (depthAt s i) = rw w at p.one_deeper in omega arith

  parent : {i j i' j' : ℕ} → Goes a b c i i' → Goes a b c j j' → IsParent s i j → i' < j' → ((k k' : ℕ) → Goes a b c k k' → i' < k' → k' < j' → depthAt s i < depthAt s k) → IsParent t i' j'
  parent {i} {j} {i'} {j'} g h p l f = record {
    before = l;
    inside = omega (arith, x.same_length, inside a b c ab bc two.within h p.inside);
    one_deeper = depth h ∙ p.one_deeper ∙ ap suc (sym (depth g));
    between = λ k' q r. let z = comes a b c ab bc k' in rw (value g, value z.1) (f z.0 k' z.1 q r);
  }

  -- the parent stands before the runs
  from_before : {i j i' j' : ℕ} → i < a → i' ≡ i → Goes a b c j j' → IsParent s i j → IsParent t i' j'
  from_before {i} {j} {i'} {j'} h e g p = parent (stays_before h e) g p (less g) (λ k k' w q r. under w g q r)
    where
      less : Goes a b c j j' → i' < j'
      less (stays_before n1 n2) = omega (arith, p.before)
      less (goes_back n1 n2 n3) = omega (arith, bc)
      less (goes_front n1 n2 n3) = omega arith
      less (stays_behind n1 n2) = omega (arith, p.before)

      in_runs : {k : ℕ} → a ≤ k → k < c → a ≤ j → depthAt s i < depthAt s k
      in_runs {k} q r l = omega (arith, two.deep k q r, above_runs p h l)

      under : {k k' : ℕ} → Goes a b c k k' → Goes a b c j j' → i' < k' → k' < j' → depthAt s i < depthAt s k
      under {k} (stays_before n1 n2) (stays_before n3 n4) q r = p.between k (omega arith) (omega arith)
      under {k} (stays_before n1 n2) (goes_back n3 n4 n5) q r = p.between k (omega arith) (omega arith)
      under {k} (stays_before n1 n2) (goes_front n3 n4 n5) q r = p.between k (omega arith) (omega (arith, ab))
      under {k} (stays_before n1 n2) (stays_behind n3 n4) q r = p.between k (omega arith) (omega arith)
      under {k} (stays_behind n1 n2) (stays_behind n3 n4) q r = p.between k (omega arith) (omega arith)
      under {k} (stays_behind n1 n2) (stays_before n3 n4) q r = absurd (omega (arith, ab, bc))
      under {k} (stays_behind n1 n2) (goes_back n3 n4 n5) q r = absurd (omega arith)
      under {k} (stays_behind n1 n2) (goes_front n3 n4 n5) q r = absurd (omega (arith, ab))
      under {k} (goes_back z w n1) (stays_before n2 n3) q r = absurd (omega (arith, bc))
      under {k} (goes_back z w n1) (goes_back y n2 n3) q r = in_runs z (omega (arith, bc)) y
      under {k} (goes_back z w n1) (goes_front y n2 n3) q r = in_runs z (omega (arith, bc)) (omega (arith, ab))
      under {k} (goes_back z w n1) (stays_behind y n2) q r = in_runs z (omega (arith, bc)) (omega (arith, ab, bc))
      under {k} (goes_front z w n1) (stays_before n2 n3) q r = absurd (omega arith)
      under {k} (goes_front z w n1) (goes_back y n2 n3) q r = in_runs (omega (arith, ab)) w y
      under {k} (goes_front z w n1) (goes_front y n2 n3) q r = in_runs (omega (arith, ab)) w (omega (arith, ab))
      under {k} (goes_front z w n1) (stays_behind y n2) q r = in_runs (omega (arith, ab)) w (omega (arith, ab, bc))

  parents : {i j i' j' : ℕ} → Goes a b c i i' → Goes a b c j j' → IsParent s i j → IsParent t i' j'
  parents (stays_before h e) g p = from_before h e g p
  parents {i} {j} {i'} {j'} (goes_back h q e) (goes_back l r f) p = parent (goes_back h q e) (goes_back l r f) p (omega (arith, p.before)) (λ k k' w y z. within w y z)
    where
      within : {k k' : ℕ} → Goes a b c k k' → i' < k' → k' < j' → depthAt s i < depthAt s k
      within (stays_before n1 n2) y z = absurd (omega (arith, bc))
      within {k} (goes_back n1 n2 n3) y z = p.between k (omega arith) (omega arith)
      within (goes_front n1 n2 n3) y z = absurd (omega arith)
      within (stays_behind n1 n2) y z = absurd (omega arith)
  parents {i} {j} {i'} {j'} (goes_front h q e) (goes_front l r f) p = parent (goes_front h q e) (goes_front l r f) p (omega (arith, p.before)) (λ k k' w y z. within w y z)
    where
      within : {k k' : ℕ} → Goes a b c k k' → i' < k' → k' < j' → depthAt s i < depthAt s k
      within (stays_before n1 n2) y z = absurd (omega arith)
      within (goes_back n1 n2 n3) y z = absurd (omega arith)
      within {k} (goes_front n1 n2 n3) y z = p.between k (omega arith) (omega arith)
      within (stays_behind n1 n2) y z = absurd (omega (arith, ab))
  parents {i} {j} {i'} {j'} (stays_behind h e) (stays_behind l f) p = parent (stays_behind h e) (stays_behind l f) p (omega (arith, p.before)) (λ k k' w y z. within w y z)
    where
      within : {k k' : ℕ} → Goes a b c k k' → i' < k' → k' < j' → depthAt s i < depthAt s k
      within (stays_before n1 n2) y z = absurd (omega (arith, ab, bc))
      within (goes_back n1 n2 n3) y z = absurd (omega arith)
      within (goes_front n1 n2 n3) y z = absurd (omega (arith, ab))
      within {k} (stays_behind n1 n2) y z = p.between k (omega arith) (omega arith)
  parents {i} (goes_back h q e) (goes_front l r f) p = absurd (not_over b p q l (two.deep i h (omega (arith, bc))) (omega (arith, two.second_head)))
  parents {i} (goes_back h q e) (stays_behind l f) p = absurd (not_over b p q (omega (arith, bc)) (two.deep i h (omega (arith, bc))) (omega (arith, two.second_head)))
  parents {i} (goes_front h q e) (stays_behind l f) p = absurd (not_over c p q l (two.deep i (omega (arith, ab)) q) (two.stop (omega (arith, p.inside))))
  parents (goes_back h q e) (stays_before l f) p = absurd (omega (arith, p.before))
  parents (goes_front h q e) (stays_before l f) p = absurd (omega (arith, p.before, ab))
  parents (goes_front h q e) (goes_back l r f) p = absurd (omega (arith, p.before))
  parents (stays_behind h e) (stays_before l f) p = absurd (omega (arith, p.before, ab, bc))
  parents (stays_behind h e) (goes_back l r f) p = absurd (omega (arith, p.before, ab, bc))
  parents (stays_behind h e) (goes_front l r f) p = absurd (omega (arith, p.before, ab, bc))

  abbrev to : ℕ → ℕ
  to k = (goes a b c ab bc k).0

  went : (k : ℕ) → Goes a b c k (to k)
  went k = (goes a b c ab bc k).1

  pub exchanged_map : SameByMap s t
  exchanged_map = record {
    size = sym x.same_length;
    map = to;
    occurs = record {
      bound = λ i h. omega (arith, x.same_length, inside a b c ab bc two.within (went i) h);
      labels = λ i h. ap (λ (n : ℕ). n % 1000) (sym (value (went i)));
      inj = λ i j h k e. apart a b c ab bc (rw e at (went i)) (went j);
      parents = λ i j h k p. parents (went i) (went j) p;
    };
  }

  pub exchanged_same : SameTree s t
  exchanged_same = same_from tree exchanged_map

  -- what stood in the first stretch stands behind the second
  pub exchanged_place : (k : ℕ) → a ≤ k → k < b → exchanged_map.map k ≡ k + (c - b)
  unfolding exchanged_map
  exchanged_place k h l = go (went k)
    where
      go : {m : ℕ} → Goes a b c k m → m ≡ k + (c - b)
      go (stays_before n1 n2) = absurd (omega arith)
      go (goes_back n1 n2 n3) = omega (arith, bc)
      go (goes_front n1 n2 n3) = absurd (omega arith)
      go (stays_behind n1 n2) = absurd (omega (arith, bc))
