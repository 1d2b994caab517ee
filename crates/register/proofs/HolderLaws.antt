-- LAWS. The set of vehicles that hold a label, tree by tree.
use mathlib.Core.Path.{◌≡◌, refl, sym, ap, ◌∙◌}
use mathlib.Core.List.{List, [], ◌∷◌, ◌++◌}
use mathlib.Core.Logic.{◌↔◌}
use Prim.Native.Nat.{ℕ, zero, suc, ◌+◌, ◌-◌, ◌*◌, ◌^◌, ◌≤◌, ◌<◌}
use native.Mathlib.Omega.{arith}
use native.Mathlib.Nat.{pow-suc}
use native.Mathlib.Decide.{dec_le}
use lib.Count.{ones}
use lib.ListN.{length, get_or, set}
use Rattle.terms.specs.Fleet.{end_to_end}
use Rattle.terms.proofs.Decide.{choose}
use Rattle.sets.specs.Sets.{with, without}
use Rattle.sets.proofs.SetLaws.{bit_at, on, off, with_on, bit_low, bit_high, bit_first, bit_later, on_first, on_later, off_first, off_later, ones_later}
use Rattle.register.specs.Register.{label_nodes, label_holders}
use Rattle.register.proofs.LabelLaws.{nodes_append}

-- the tree's own bit
abbrev pub held : (label : ℕ) (tree : List ℕ) → ℕ
held label tree = choose (dec_le 1 (label_nodes label tree)) 1 0

pub held_small : (label : ℕ) (tree : List ℕ) → held label tree < 2
held_small label tree = go (dec_le 1 (label_nodes label tree))
  where
    go : (d : Dec (1 ≤ label_nodes label tree)) → choose d 1 0 < 2
    go (yes _) = omega arith
    go (no _) = omega arith

pub held_exactly : (label : ℕ) (tree : List ℕ) → (held label tree ≡ 1) ↔ (1 ≤ label_nodes label tree)
held_exactly label tree = go (dec_le 1 (label_nodes label tree))
  where
    go : (d : Dec (1 ≤ label_nodes label tree)) → (choose d 1 0 ≡ 1) ↔ (1 ≤ label_nodes label tree)
    go (yes h) = ((λ _. h), (λ _. refl))
    go (no n) = ((λ e. absurd (omega arith)), (λ h. absurd (n h)))

held_none : (label : ℕ) (tree : List ℕ) → (label_nodes label tree ≡ 0) ↔ (held label tree ≡ 0)
held_none label tree = go (dec_le 1 (label_nodes label tree))
  where
    go : (d : Dec (1 ≤ label_nodes label tree)) → (label_nodes label tree ≡ 0) ↔ (choose d 1 0 ≡ 0)
    go (yes h) = ((λ e. absurd (omega arith)), (λ e. absurd (omega arith)))
    go (no n) = ((λ _. refl), (λ _. omega arith))

-- the size of the set: how many trees hold the label
pub holders_counted : (label : ℕ) (tree : List ℕ) (trees : List (List ℕ)) → ones (label_holders label (tree ∷ trees)) ≡ held label tree + ones (label_holders label trees)
unfolding label_holders
holders_counted label tree trees = ones_later (held label tree) (label_holders label trees) (held_small label tree)

-- its bits: those of the trees, and none past the last
pub holders_bit : (label : ℕ) (trees : List (List ℕ)) (k : ℕ) → bit_at k (label_holders label trees) ≡ held label (get_or trees k [])
unfolding label_holders label_nodes
holders_bit label [] zero = bit_low 0
holders_bit label [] (suc k) = bit_high k 0 ∙ holders_bit label [] k
holders_bit label (tree ∷ trees) zero = bit_first (held label tree) (label_holders label trees) (held_small label tree)
holders_bit label (tree ∷ trees) (suc k) = bit_later (held label tree) (label_holders label trees) (held_small label tree) k ∙ holders_bit label trees k

pub holders_below : (label : ℕ) (trees : List (List ℕ)) → label_holders label trees < 2 ^ length trees
unfolding label_holders
holders_below label [] = omega arith
holders_below label (tree ∷ trees) = omega (arith, pow-suc 2 (length trees), holders_below label trees, held_small label tree)

-- it is empty exactly if no node is counted
pub empty_exactly : (label : ℕ) (trees : List (List ℕ)) → (label_nodes label (end_to_end trees) ≡ 0) ↔ (label_holders label trees ≡ 0)
unfolding label_holders label_nodes end_to_end
empty_exactly label [] = ((λ _. refl), (λ _. refl))
empty_exactly label (tree ∷ trees) =
    let all = nodes_append label tree (end_to_end trees) in
    let own = held_none label tree in
    let later = empty_exactly label trees in
    ((λ e. omega (arith, held_small label tree, own.0 (omega arith), later.0 (omega arith))), (λ e. omega (arith, own.1 (omega arith), later.1 (omega arith))))

-- a tree more: its vehicle is in the set if it holds the label
bits_more : (label : ℕ) (trees : List (List ℕ)) (tree : List ℕ)
    → label_holders label (trees ++ tree ∷ []) ≡ choose (dec_le 1 (label_nodes label tree)) (on (length trees) (label_holders label trees)) (label_holders label trees)
unfolding label_holders
bits_more label [] tree = go (dec_le 1 (label_nodes label tree))
  where
    go : (d : Dec (1 ≤ label_nodes label tree)) → choose d 1 0 + 2 * 0 ≡ choose d (on 0 0) 0
    go (yes _) = refl
    go (no _) = refl
bits_more label (t ∷ trees) tree = ap (λ (n : ℕ). held label t + 2 * n) (bits_more label trees tree) ∙ go (dec_le 1 (label_nodes label tree))
  where
    h : ℕ
    h = label_holders label trees

    go : (d : Dec (1 ≤ label_nodes label tree))
        → held label t + 2 * choose d (on (length trees) h) h ≡ choose d (on (suc (length trees)) (held label t + 2 * h)) (held label t + 2 * h)
    go (yes _) = sym (on_later (held label t) h (held_small label t) (length trees))
    go (no _) = refl

pub holders_more : (label : ℕ) (trees : List (List ℕ)) (tree : List ℕ)
    → label_holders label (trees ++ tree ∷ []) ≡ choose (dec_le 1 (label_nodes label tree)) (with (suc (length trees)) (label_holders label trees)) (label_holders label trees)
holders_more label trees tree = bits_more label trees tree
    ∙ ap (λ (s : ℕ). choose (dec_le 1 (label_nodes label tree)) s (label_holders label trees)) (sym (with_on (length trees) (label_holders label trees)))

-- a tree replaced: its vehicle leaves the set if the old tree held the label, and joins it if the new one does
abbrev pub moved : {A B : Type 0} (old : Dec A) (new : Dec B) (k set : ℕ) → ℕ
moved old new k set = choose new (on k (choose old (off k set) set)) (choose old (off k set) set)

moved_later : {A B : Type 0} (old : Dec A) (new : Dec B) (k b h : ℕ) → b < 2 → moved old new (suc k) (b + 2 * h) ≡ b + 2 * moved old new k h
moved_later (yes _) (yes _) k b h l = ap (on (suc k)) (off_later b h l k) ∙ on_later b (off k h) l k
moved_later (yes _) (no _) k b h l = off_later b h l k
moved_later (no _) (yes _) k b h l = on_later b h l k
moved_later (no _) (no _) k b h l = refl

moved_first : {A B : Type 0} (old : Dec A) (new : Dec B) (h : ℕ) → choose new 1 0 + 2 * h ≡ moved old new 0 (choose old 1 0 + 2 * h)
moved_first (yes _) (yes _) h = sym (ap (on 0) (off_first 1 h (omega arith)) ∙ on_first 0 h (omega arith))
moved_first (yes _) (no _) h = sym (off_first 1 h (omega arith))
moved_first (no _) (yes _) h = sym (on_first 0 h (omega arith))
moved_first (no _) (no _) h = refl

bits_set : (label : ℕ) (trees : List (List ℕ)) (k : ℕ) (new : List ℕ) → k < length trees
    → label_holders label (set trees k new) ≡ moved (dec_le 1 (label_nodes label (get_or trees k []))) (dec_le 1 (label_nodes label new)) k (label_holders label trees)
unfolding label_holders
bits_set label [] k new h = absurd (omega arith)
bits_set label (tree ∷ trees) zero new h = moved_first (dec_le 1 (label_nodes label tree)) (dec_le 1 (label_nodes label new)) (label_holders label trees)
bits_set label (tree ∷ trees) (suc k) new h = ap (λ (n : ℕ). held label tree + 2 * n) (bits_set label trees k new (omega arith))
    ∙ sym (moved_later (dec_le 1 (label_nodes label (get_or trees k []))) (dec_le 1 (label_nodes label new)) k (held label tree) (label_holders label trees) (held_small label tree))

module _ (label : ℕ) (trees : List (List ℕ)) (k : ℕ) (new : List ℕ) where
  -- the set when the old tree has left
  abbrev pub left : ℕ
  left = choose (dec_le 1 (label_nodes label (get_or trees k []))) (without (suc k) (label_holders label trees)) (label_holders label trees)

  pub holders_set : k < length trees → label_holders label (set trees k new) ≡ choose (dec_le 1 (label_nodes label new)) (with (suc k) left) left
  holders_set h =
      let e : k ≡ suc k - 1 = omega arith in
      bits_set label trees k new h ∙ ap (λ (n : ℕ). moved (dec_le 1 (label_nodes label (get_or trees k []))) (dec_le 1 (label_nodes label new)) n (label_holders label trees)) e

-- the nodes of all trees
pub nodes_of_tree : (label : ℕ) (trees : List (List ℕ)) (k : ℕ) → k < length trees → label_nodes label (get_or trees k []) ≤ label_nodes label (end_to_end trees)
unfolding end_to_end
nodes_of_tree label [] k h = absurd (omega arith)
nodes_of_tree label (tree ∷ trees) zero h = omega (arith, nodes_append label tree (end_to_end trees))
nodes_of_tree label (tree ∷ trees) (suc k) h = omega (arith, nodes_append label tree (end_to_end trees), nodes_of_tree label trees k (omega arith))

pub nodes_set : (label : ℕ) (trees : List (List ℕ)) (k : ℕ) (new : List ℕ) → k < length trees
    → label_nodes label (end_to_end (set trees k new)) + label_nodes label (get_or trees k []) ≡ label_nodes label (end_to_end trees) + label_nodes label new
unfolding end_to_end
nodes_set label [] k new h = absurd (omega arith)
nodes_set label (tree ∷ trees) zero new h = omega (arith, nodes_append label tree (end_to_end trees), nodes_append label new (end_to_end trees))
nodes_set label (tree ∷ trees) (suc k) new h =
    omega (arith, nodes_append label tree (end_to_end trees), nodes_append label tree (end_to_end (set trees k new)), nodes_set label trees k new (omega arith))
