-- LAWS. How many of some pairs have a label.
use mathlib.Core.Path.{◌≡◌, refl, ap, ◌∙◌}
use mathlib.Core.List.{List, [], ◌∷◌, ◌++◌}
use Prim.Native.Nat.{ℕ, suc, ◌+◌, ◌%◌, ◌≤◌, ◌<◌}
use native.Mathlib.Omega.{arith}
use native.Mathlib.Decide.{ℕ_discrete}
use lib.ListN.{length, get_or, take, drop, take-append-drop}
use lib.Seq.{take-suc}
use Rattle.terms.specs.Tree.{label_at}
use Rattle.terms.proofs.Decide.{choose}
use Rattle.register.specs.Register.{label_nodes}

-- what is chosen where it holds, and where not
pub chosen : {A : Type 0} (d : Dec A) (a b : ℕ) → A → choose d a b ≡ a
chosen (yes _) a b h = refl
chosen (no n) a b h = absurd (n h)

pub not_chosen : {A : Type 0} (d : Dec A) (a b : ℕ) → ¬ A → choose d a b ≡ b
not_chosen (yes y) a b h = absurd (h y)
not_chosen (no _) a b h = refl

-- of one pair
pub nodes_own : (label x : ℕ) → x % 1000 ≡ label → label_nodes label (x ∷ []) ≡ 1
unfolding label_nodes
nodes_own label x e = ap (λ (n : ℕ). n + 0) (chosen (ℕ_discrete (x % 1000) label) 1 0 e)

pub nodes_other : (label x : ℕ) → ¬ (x % 1000 ≡ label) → label_nodes label (x ∷ []) ≡ 0
unfolding label_nodes
nodes_other label x n = ap (λ (n : ℕ). n + 0) (not_chosen (ℕ_discrete (x % 1000) label) 1 0 n)

-- of one list after another
pub nodes_append : (label : ℕ) (s t : List ℕ) → label_nodes label (s ++ t) ≡ label_nodes label s + label_nodes label t
unfolding label_nodes
nodes_append label [] t = omega arith
nodes_append label (x ∷ s) t = omega (arith, nodes_append label s t)

-- of the pairs up to a position: one more where that has the label
module _ (label : ℕ) (s : List ℕ) (i : ℕ) (h : i < length s) where
  more : label_nodes label (take (suc i) s) ≡ label_nodes label (take i s) + label_nodes label (get_or s i 0 ∷ [])
  more = ap (label_nodes label) (take-suc s i 0 h) ∙ nodes_append label (take i s) (get_or s i 0 ∷ [])

  pub nodes_one_more : get_or s i 0 % 1000 ≡ label → label_nodes label (take (suc i) s) ≡ suc (label_nodes label (take i s))
  nodes_one_more e = omega (arith, more, nodes_own label (get_or s i 0) e)

  pub nodes_no_more : ¬ (get_or s i 0 % 1000 ≡ label) → label_nodes label (take (suc i) s) ≡ label_nodes label (take i s)
  nodes_no_more n = omega (arith, more, nodes_other label (get_or s i 0) n)

pub nodes_of_first : (label : ℕ) (s : List ℕ) (i : ℕ) → label_nodes label (take i s) ≤ label_nodes label s
nodes_of_first label s i = omega (arith, nodes_append label (take i s) (drop i s), ap (label_nodes label) (take-append-drop i s))

pub nodes_few : (label : ℕ) (s : List ℕ) → label_nodes label s ≤ length s
unfolding label_nodes
nodes_few label [] = omega arith
nodes_few label (x ∷ s) = omega (arith, go (ℕ_discrete (x % 1000) label), nodes_few label s)
  where
    go : (d : Dec (x % 1000 ≡ label)) → choose d 1 0 ≤ 1
    go (yes _) = omega arith
    go (no _) = omega arith

-- a pair has the label exactly if one is counted
pub some_node : (label : ℕ) (s : List ℕ) → 1 ≤ label_nodes label s → (i : ℕ) × (i < length s) × (label_at s i ≡ label)
unfolding label_nodes
some_node label [] h = absurd (omega arith)
some_node label (x ∷ s) h = go (ℕ_discrete (x % 1000) label) h (λ k. some_node label s k)
  where
    go : (d : Dec (x % 1000 ≡ label)) → 1 ≤ choose d 1 0 + label_nodes label s
        → (1 ≤ label_nodes label s → (i : ℕ) × (i < length s) × (label_at s i ≡ label)) → (i : ℕ) × (i < suc (length s)) × (label_at (x ∷ s) i ≡ label)
    go (yes e) k later = (0, omega arith, e)
    go (no n) k later = let l = later (omega arith) in (suc l.0, omega (arith, l.1), l.2)

pub node_counted : (label : ℕ) (s : List ℕ) (i : ℕ) → i < length s → label_at s i ≡ label → 1 ≤ label_nodes label s
node_counted label s i h e = omega (arith, nodes_one_more label s i h e, nodes_of_first label s (suc i))
