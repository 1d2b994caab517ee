-- Sequences of forests: encoding, order, prefixes, parsing.
use mathlib.Core.Path.{◌≡◌, refl, sym, ap, ◌∙◌, subst}
use mathlib.Core.List.{List, [], ◌∷◌}
use Prim.Native.Nat.{ℕ, zero, suc, ◌+◌, ◌-◌, ◌*◌, ◌/◌, ◌%◌, ◌≤◌, ◌<◌}
use native.Mathlib.Omega.{arith}
use native.Mathlib.Decide.{dec_lt}
use lib.ListN.{length, take}
use Rattle.terms.specs.Order.{Lighter, shorter, differ, agree}
use Rattle.terms.proofs.Forest.{Forest, nil, cons, ForestLt, lt_nil, lt_lab, lt_kids, lt_sib, Tri, tlt, teq, tgt, tri, Prefix, pre_nil, pre_kids, pre_sib}
use Rattle.terms.proofs.ForestEmbedding.{size}
use Rattle.terms.proofs.OrderLaws.{lighter_trans, lighter_irrefl}

-- the sequence of the forest f at depth d, in front of r
abbrev pub preorder : ℕ → Forest → List ℕ → List ℕ
preorder d nil r = r
preorder d (cons a k s) r = (1000 * d + a) ∷ preorder (suc d) k (preorder d s r)

pub data Labelled : Forest → Type 0 where
  lab_nil : Labelled nil
  lab_cons : {a : ℕ} {k s : Forest} → 1 ≤ a → a < 1000 → Labelled k → Labelled s → Labelled (cons a k s)

-- what follows a forest at depth d: a node above d, or nothing
pub data Shallower (d : ℕ) : List ℕ → Type 0 where
  low_nil : Shallower d []
  low_cons : {x : ℕ} {r : List ℕ} → x < 1000 * d → Shallower d (x ∷ r)

n_lab : (d : ℕ) {a b : ℕ} → a < b → 1000 * d + a < 1000 * d + b
n_lab d h = omega arith

n_low : (d a : ℕ) {x : ℕ} → x < 1000 * d → x < 1000 * d + a
n_low d a h = omega arith

n_up : (d : ℕ) {x : ℕ} → x < 1000 * d → x < 1000 * suc d
n_up d h = omega arith

n_top : (d : ℕ) {a : ℕ} → a < 1000 → 1000 * d + a < 1000 * suc d
n_top d h = omega arith

pub low_enc : {s : Forest} (d : ℕ) (r : List ℕ) → Labelled s → Shallower d r → Shallower (suc d) (preorder d s r)
low_enc d [] lab_nil low_nil = low_nil
low_enc d (x ∷ r) lab_nil (low_cons h) = low_cons (n_up d h)
low_enc d r (lab_cons p q _ _) l = low_cons (n_top d q)

enc_lx_same : (d : ℕ) (k : Forest) {u v : List ℕ} → Lighter u v → Lighter (preorder d k u) (preorder d k v)
enc_lx_same d nil h = h
enc_lx_same d (cons a k s) h = agree refl (enc_lx_same (suc d) k (enc_lx_same d s h))

-- the order of the trees is the order of their sequences
pub enc_lx : {f g : Forest} (d : ℕ) (r r' : List ℕ) → ForestLt f g → Labelled f → Shallower d r → Lighter (preorder d f r) (preorder d g r')
enc_lx d r r' (lt_nil {a = a}) lf low_nil = shorter
enc_lx d r r' (lt_nil {a = a}) lf (low_cons h) = differ (n_low d a h)
enc_lx d r r' (lt_lab p) lf l = differ (n_lab d p)
enc_lx d r r' (lt_kids {s = s} {t = t} e p) (lab_cons _ _ lk ls) l = agree (ap (λ (z : ℕ). 1000 * d + z) e) (enc_lx (suc d) (preorder d s r) (preorder d t r') p lk (low_enc d r ls l))
enc_lx d r r' (lt_sib {k = k} {l = j} {s = s} {t = t} e e' p) (lab_cons _ _ lk ls) l =
    let q : Lighter (preorder (suc d) k (preorder d s r)) (preorder (suc d) k (preorder d t r')) = enc_lx_same (suc d) k (enc_lx d r r' p ls l) in
    agree (ap (λ (z : ℕ). 1000 * d + z) e) (subst (λ (z : Forest). Lighter (preorder (suc d) k (preorder d s r)) (preorder (suc d) z (preorder d t r'))) e' q)

pub lx_enc : (f g : Forest) (d : ℕ) → Labelled f → Labelled g → Lighter (preorder d f []) (preorder d g []) → ForestLt f g
lx_enc f g d lf lg h = go (tri f g)
  where
    go : Tri f g → ForestLt f g
    go (tlt p) = p
    go (teq p) = absurd (lighter_irrefl (preorder d g []) (subst (λ (z : Forest). Lighter (preorder d z []) (preorder d g [])) p h))
    go (tgt p) = absurd (lighter_irrefl (preorder d f []) (lighter_trans h (enc_lx d [] [] p lg low_nil)))

pub enc_size : (f : Forest) (d : ℕ) (r : List ℕ) → length (preorder d f r) ≡ size f + length r
enc_size nil d r = omega arith
enc_size (cons a k s) d r = omega (arith, enc_size k (suc d) (preorder d s r), enc_size s d r)

-- prefixes
abbrev pub take_forest : Forest → ℕ → Forest
take_forest nil n = nil
take_forest (cons a k s) zero = nil
take_forest (cons a k s) (suc n) = cons a (take_forest k n) (take_forest s (n - size k))

pub take_forest_all : (f : Forest) (n : ℕ) → size f ≤ n → take_forest f n ≡ f
take_forest_all nil n h = refl
take_forest_all (cons a k s) zero h = absurd (omega arith)
take_forest_all (cons a k s) (suc n) h = rw (take_forest_all k n (omega arith), take_forest_all s (n - size k) (omega arith))

pub take_forest_zero : (f : Forest) → take_forest f 0 ≡ nil
take_forest_zero nil = refl
take_forest_zero (cons a k s) = refl

pub take_forest_prefix : (f : Forest) (n : ℕ) → Prefix (take_forest f n) f
take_forest_prefix nil n = pre_nil
take_forest_prefix (cons a k s) zero = pre_nil
take_forest_prefix (cons a k s) (suc n) = go (dec_lt n (size k)) (take_forest_prefix k n) (take_forest_prefix s (n - size k))
  where
    go : Dec (n < size k) → Prefix (take_forest k n) k → Prefix (take_forest s (n - size k)) s → Prefix (cons a (take_forest k n) (take_forest s (n - size k))) (cons a k s)
    go (yes h) p q = let e : n - size k ≡ 0 = omega arith in rw (e, take_forest_zero s) (pre_kids refl p)
    go (no h) p q = pre_sib refl (take_forest_all k n (omega arith)) q

pub take_enc : (f : Forest) (d n : ℕ) (r : List ℕ) → take n (preorder d f r) ≡ preorder d (take_forest f n) (take (n - size f) r)
take_enc nil d n r = let e : n - 0 ≡ n = omega arith in rw e
take_enc (cons a k s) d zero r = let e : 0 - suc (size k + size s) ≡ 0 = omega arith in rw e
take_enc (cons a k s) d (suc n) r =
    let e : n - size k - size s ≡ suc n - suc (size k + size s) = omega arith in
    rw (take_enc k (suc d) n (preorder d s r), take_enc s d (n - size k) r, e)

-- the depth of the first node is at most d, and each next depth is at most one more than the one before; labels are 1 to 999
pub data Climbing : ℕ → List ℕ → Type 0 where
  up_nil : {d : ℕ} → Climbing d []
  up_cons : {d x : ℕ} {s : List ℕ} → x / 1000 ≤ d → 1 ≤ x % 1000 → Climbing (suc (x / 1000)) s → Climbing d (x ∷ s)

-- what is left after the forest at depth d is read
abbrev pub Remaining : ℕ → List ℕ → Type 0
Remaining zero r = r ≡ []
Remaining (suc d) r = Climbing d r

pub record Parsed (d : ℕ) (s : List ℕ) : Type 0 where
  pub tree : Forest
  pub rest : List ℕ
  pub reads : s ≡ preorder d tree rest
  pub labs : Labelled tree
  pub rem : Remaining d rest

rem_nil : (d : ℕ) → Remaining d []
rem_nil zero = refl
rem_nil (suc d) = up_nil

rem_low : (d x : ℕ) {s : List ℕ} → x / 1000 < d → 1 ≤ x % 1000 → Climbing (suc (x / 1000)) s → Remaining d (x ∷ s)
rem_low zero x h q u = absurd (omega arith)
rem_low (suc d) x h q u = let z : x / 1000 ≤ d = omega arith in up_cons z q u

nothing : (d : ℕ) → Parsed d []
nothing d = record { tree = nil; rest = []; reads = refl; labs = lab_nil; rem = rem_nil d }

parse_step : (n d x : ℕ) (s : List ℕ) → length s ≤ n → x / 1000 ≤ d → 1 ≤ x % 1000 → Climbing (suc (x / 1000)) s
    → ((e : ℕ) (t : List ℕ) → length t ≤ n → Climbing e t → Parsed e t) → Parsed d (x ∷ s)
parse_step n d x s h p q u ih = go (dec_lt (x / 1000) d)
  where
    whole : x / 1000 ≡ d → (k : Parsed (suc d) s) → Parsed d k.rest → Parsed d (x ∷ s)
    whole e k t =
        let ex : x ≡ 1000 * d + x % 1000 = omega arith in
        record {
          tree = cons (x % 1000) k.tree t.tree;
          rest = t.rest;
          reads = cc (ex, k.reads, t.reads);
          labs = lab_cons q (omega arith) k.labs t.labs;
          rem = t.rem;
        }

    kids : x / 1000 ≡ d → Parsed (suc d) s → Parsed d (x ∷ s)
    kids e k = whole e k (ih d k.rest (omega (arith, ap length k.reads, enc_size k.tree (suc d) k.rest)) k.rem)

    go : Dec (x / 1000 < d) → Parsed d (x ∷ s)
    go (yes z) = record { tree = nil; rest = x ∷ s; reads = refl; labs = lab_nil; rem = rem_low d x z q u }
    go (no z) = let e : x / 1000 ≡ d = omega arith in kids e (ih (suc d) s h (rw e at u))

pub parse : (n d : ℕ) (s : List ℕ) → length s ≤ n → Climbing d s → Parsed d s
parse zero d [] h u = nothing d
parse zero d (x ∷ s) h u = absurd (omega arith)
parse (suc n) d [] h u = nothing d
parse (suc n) d (x ∷ s) h (up_cons p q u) = parse_step n d x s (omega arith) p q u (λ e t z w. parse n e t z w)

-- each sequence of the right shape is the sequence of a forest
pub parsed : (s : List ℕ) → Climbing 0 s → (f : Forest) × Labelled f × (s ≡ preorder 0 f [])
parsed s u = let z = parse (length s) 0 s (omega arith) u in (z.tree, z.labs, z.reads ∙ ap (preorder 0 z.tree) z.rem)

up_mono : {d e : ℕ} {s : List ℕ} → d ≤ e → Climbing d s → Climbing e s
up_mono h up_nil = up_nil
up_mono h (up_cons p q u) = up_cons (n_le_trans p h) q u
  where
    n_le_trans : {a b c : ℕ} → a ≤ b → b ≤ c → a ≤ c
    n_le_trans p q = omega arith

-- and the sequence of a forest has the right shape
pub up_enc : {f : Forest} (d : ℕ) (r : List ℕ) → Labelled f → Climbing d r → Climbing d (preorder d f r)
up_enc d r lab_nil u = u
up_enc d r (lab_cons {a = a} {k = k} {s = s} p q lk ls) u =
    let e : (1000 * d + a) / 1000 ≡ d = omega arith in
    let v : Climbing (suc d) (preorder (suc d) k (preorder d s r)) = up_enc (suc d) (preorder d s r) lk (up_mono (omega arith) (up_enc d r ls u)) in
    let p' : (1000 * d + a) / 1000 ≤ d = omega arith in
    let q' : 1 ≤ (1000 * d + a) % 1000 = omega arith in
    up_cons p' q' (subst (λ (z : ℕ). Climbing (suc z) (preorder (suc d) k (preorder d s r))) (sym e) v)
