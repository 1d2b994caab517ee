-- Forests as first-child / next-sibling binary trees: the order, left-heavy forests, prefixes.
use mathlib.Core.Path.{◌≡◌, refl, sym, ◌∙◌}
use Prim.Native.Nat.{ℕ, ◌<◌}
use native.Mathlib.Omega.{arith}
use native.Mathlib.Decide.{dec_lt}
use Rattle.terms.proofs.OrderLaws.{n_tt, n_te, n_et}

-- `cons a k s`: a tree with the label a and the forest k of children, and then its right siblings s
pub data Forest : Type 0 where
  nil : Forest
  cons : ℕ → Forest → Forest → Forest

pub data ForestLt : Forest → Forest → Type 0 where
  lt_nil : {a : ℕ} {k s : Forest} → ForestLt nil (cons a k s)
  lt_lab : {a b : ℕ} {k l s t : Forest} → a < b → ForestLt (cons a k s) (cons b l t)
  lt_kids : {a b : ℕ} {k l s t : Forest} → a ≡ b → ForestLt k l → ForestLt (cons a k s) (cons b l t)
  lt_sib : {a b : ℕ} {k l s t : Forest} → a ≡ b → k ≡ l → ForestLt s t → ForestLt (cons a k s) (cons b l t)

pub lt_trans : {f g h : Forest} → ForestLt f g → ForestLt g h → ForestLt f h
lt_trans lt_nil (lt_lab q) = lt_nil
lt_trans lt_nil (lt_kids e q) = lt_nil
lt_trans lt_nil (lt_sib e e' q) = lt_nil
lt_trans (lt_lab p) (lt_lab q) = lt_lab (n_tt p q)
lt_trans (lt_lab p) (lt_kids e q) = lt_lab (n_te p e)
lt_trans (lt_lab p) (lt_sib e e' q) = lt_lab (n_te p e)
lt_trans (lt_kids e p) (lt_lab q) = lt_lab (n_et e q)
lt_trans (lt_kids e p) (lt_kids e' q) = lt_kids (e ∙ e') (lt_trans p q)
lt_trans (lt_kids e p) (lt_sib e' e'' q) = lt_kids (e ∙ e') (rw e'' at p)
lt_trans (lt_sib e e₁ p) (lt_lab q) = lt_lab (n_et e q)
lt_trans (lt_sib e e₁ p) (lt_kids e' q) = lt_kids (e ∙ e') (rw (← e₁) at q)
lt_trans (lt_sib e e₁ p) (lt_sib e' e'' q) = lt_sib (e ∙ e') (e₁ ∙ e'') (lt_trans p q)

pub lt_irrefl : (f : Forest) → ForestLt f f → ⊥
lt_irrefl nil x' = elim x' [ ]
lt_irrefl (cons a k s) (lt_lab p) = omega arith
lt_irrefl (cons a k s) (lt_kids e p) = lt_irrefl k p
lt_irrefl (cons a k s) (lt_sib e e' p) = lt_irrefl s p

pub data Tri (f g : Forest) : Type 0 where
  tlt : ForestLt f g → Tri f g
  teq : f ≡ g → Tri f g
  tgt : ForestLt g f → Tri f g

pub tri : (f g : Forest) → Tri f g
tri nil nil = teq refl
tri nil (cons b l t) = tlt lt_nil
tri (cons a k s) nil = tgt lt_nil
tri (cons a k s) (cons b l t) = labs (dec_lt a b) (dec_lt b a) (tri k l) (tri s t)
  where
    sibs : a ≡ b → k ≡ l → Tri s t → Tri (cons a k s) (cons b l t)
    sibs e e' (tlt p) = tlt (lt_sib e e' p)
    sibs e e' (teq p) = teq (cc)
    sibs e e' (tgt p) = tgt (lt_sib (sym e) (sym e') p)

    kids : a ≡ b → Tri k l → Tri s t → Tri (cons a k s) (cons b l t)
    kids e (tlt p) z = tlt (lt_kids e p)
    kids e (teq p) z = sibs e p z
    kids e (tgt p) z = tgt (lt_kids (sym e) p)

    labs : Dec (a < b) → Dec (b < a) → Tri k l → Tri s t → Tri (cons a k s) (cons b l t)
    labs (yes p) y z w = tlt (lt_lab p)
    labs (no p) (yes q) z w = tgt (lt_lab q)
    labs (no p) (no q) z w = kids (omega arith) z w

pub data ForestLe (f g : Forest) : Type 0 where
  le_lt : ForestLt f g → ForestLe f g
  le_eq : f ≡ g → ForestLe f g

pub le_trans : {f g h : Forest} → ForestLe f g → ForestLe g h → ForestLe f h
le_trans (le_lt p) (le_lt q) = le_lt (lt_trans p q)
le_trans (le_lt p) (le_eq q) = le_lt (rw q at p)
le_trans (le_eq p) (le_lt q) = le_lt (rw p q)
le_trans (le_eq p) (le_eq q) = le_eq (p ∙ q)

pub le_nil : (f : Forest) → ForestLe nil f
le_nil nil = le_eq refl
le_nil (cons a k s) = le_lt lt_nil

pub not_lt : {f g : Forest} → ForestLe g f → ForestLt f g → ⊥
not_lt {f} (le_lt p) q = lt_irrefl f (lt_trans q p)
not_lt {f} (le_eq p) q = lt_irrefl f (rw p at q)

pub le_total : (f g : Forest) → ¬ (ForestLt g f) → ForestLe f g
le_total f g h = go (tri f g)
  where
    go : Tri f g → ForestLe f g
    go (tlt p) = le_lt p
    go (teq p) = le_eq p
    go (tgt p) = absurd (h p)

abbrev pub lone : ℕ → Forest → Forest
lone a k = cons a k nil

-- left-heavy: each tree is at least as heavy as its right neighbour
pub data ForestLeftHeavy : Forest → Type 0 where
  lh_nil : ForestLeftHeavy nil
  lh_one : {a : ℕ} {k : Forest} → ForestLeftHeavy k → ForestLeftHeavy (cons a k nil)
  lh_two : {a b : ℕ} {k l t : Forest} → ForestLeftHeavy k → ForestLe (lone b l) (lone a k) → ForestLeftHeavy (cons b l t) → ForestLeftHeavy (cons a k (cons b l t))

-- a prefix of the preorder sequence
pub data Prefix : Forest → Forest → Type 0 where
  pre_nil : {g : Forest} → Prefix nil g
  pre_kids : {a b : ℕ} {j k s : Forest} → a ≡ b → Prefix j k → Prefix (cons a j nil) (cons b k s)
  pre_sib : {a b : ℕ} {j k s t : Forest} → a ≡ b → j ≡ k → Prefix s t → Prefix (cons a j s) (cons b k t)

pub le_kids : {a b : ℕ} {k l s t : Forest} → a ≡ b → ForestLe k l → ForestLe s t → ForestLe (cons a k s) (cons b l t)
le_kids e (le_lt p) q = le_lt (lt_kids e p)
le_kids e (le_eq p) (le_lt q) = le_lt (lt_sib e p q)
le_kids e (le_eq p) (le_eq q) = le_eq (cc)

pub pre_le : {f g : Forest} → Prefix f g → ForestLe f g
pre_le {g} pre_nil = le_nil g
pre_le (pre_kids {s = s} e p) = le_kids e (pre_le p) (le_nil s)
pre_le (pre_sib e e' p) = le_kids e (le_eq e') (pre_le p)

pub lh_kids : {a : ℕ} {k s : Forest} → ForestLeftHeavy (cons a k s) → ForestLeftHeavy k
lh_kids (lh_one h) = h
lh_kids (lh_two h _ _) = h

pub lh_sibs : {a : ℕ} {k s : Forest} → ForestLeftHeavy (cons a k s) → ForestLeftHeavy s
lh_sibs (lh_one h) = lh_nil
lh_sibs (lh_two _ _ h) = h

pub tree_le : {a b : ℕ} {k l : Forest} → a ≡ b → ForestLe k l → ForestLe (lone a k) (lone b l)
tree_le e p = le_kids e p (le_eq refl)

-- a prefix of a left-heavy forest is left-heavy
pub pre_lh : {f g : Forest} → Prefix f g → ForestLeftHeavy g → ForestLeftHeavy f
pre_lh pre_nil h = lh_nil
pre_lh (pre_kids e p) h = lh_one (pre_lh p (lh_kids h))
pre_lh (pre_sib e e' pre_nil) h = lh_one (rw (← e') at (lh_kids h))
pre_lh (pre_sib e e' (pre_kids d p)) (lh_two hk hl hs) = lh_two (rw (← e') at hk) (le_trans (tree_le d (pre_le p)) (le_trans hl (tree_le (sym e) (le_eq (sym e'))))) (pre_lh (pre_kids d p) hs)
pre_lh (pre_sib e e' (pre_sib d d' p)) (lh_two hk hl hs) = lh_two (rw (← e') at hk) (le_trans (tree_le d (le_eq d')) (le_trans hl (tree_le (sym e) (le_eq (sym e'))))) (pre_lh (pre_sib d d' p) hs)
