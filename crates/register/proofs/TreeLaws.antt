-- LAWS. A tree joins the register, and leaves it, pair by pair.
use mathlib.Core.Path.{◌≡◌, refl, sym, ap, ◌∙◌}
use mathlib.Core.List.{List, ◌++◌}
use Prim.Native.Nat.{ℕ, suc, ◌+◌, ◌-◌, ◌≤◌, ◌<◌}
use native.Mathlib.Omega.{arith}
use native.Mathlib.Decide.{dec_le, ℕ_discrete}
use native.Mathlib.Numerals.{add-one}
use lib.ListN.{length, get_or, set, take, drop, length-set, length-append, length-drop, replicate, length-replicate, get_or-replicate, get_or-append}
use lib.Seq.{get_or-set_same, get_or-set_other, drop-set-lt, drop_at}
use Rattle.terms.specs.Tree.{label_at}
use Rattle.terms.specs.Fleet.{most_nodes}
use Rattle.terms.proofs.Decide.{choose}
use Rattle.sets.specs.Sets.{with, without}
use Rattle.sets.proofs.SetLaws.{with_twice, without_twice}
use Rattle.register.specs.Register.{most_label, label_nodes}
use Rattle.register.specs.Trees.{AddInput, TakeInput, RestKept, Added, Taken, Cleared}
use Rattle.register.proofs.LabelLaws.{chosen, not_chosen, nodes_one_more, nodes_no_more, nodes_of_first}

-- an entry changes, in both lists; nothing past the last does
pub rest_same : {nodes holders : List ℕ} → RestKept nodes holders nodes holders
rest_same = record { as_long = refl; as_long_too = refl; nodes_rest = refl; holders_rest = refl }

rest_set : {nodes holders nodes' holders' : List ℕ} (e n s : ℕ) → e < most_label
    → RestKept nodes holders nodes' holders' → RestKept nodes holders (set nodes' e n) (set holders' e s)
rest_set {nodes} {holders} {nodes'} {holders'} e n s h r = record {
  as_long = length-set nodes' e n ∙ r.as_long;
  as_long_too = length-set holders' e s ∙ r.as_long_too;
  nodes_rest = drop-set-lt most_label nodes' e n h ∙ r.nodes_rest;
  holders_rest = drop-set-lt most_label holders' e s h ∙ r.holders_rest;
}

-- the entry that is set, and the others
entry_set : (P : ℕ → ℕ → Type 0) (l : List ℕ) (e v : ℕ) → e < length l → P e v
    → ((k : ℕ) → k < most_label → ¬ (k ≡ e) → P k (get_or l k 0)) → (k : ℕ) → k < most_label → P k (get_or (set l e v) k 0)
entry_set P l e v inside own others k h = go (ℕ_discrete k e)
  where
    go : Dec (k ≡ e) → P k (get_or (set l e v) k 0)
    go (yes q) = rw (q, get_or-set_same l e v 0 inside) own
    go (no q) = rw (get_or-set_other l e k v 0 q) (others k h q)

-- the entry of a position's label, and the others
module _ (tree : List ℕ) (i : ℕ) (h : i < length tree) (e : ℕ) (q : suc e ≡ label_at tree i) where
  in_entries : e < most_label
  in_entries = omega arith

  one_more : label_nodes (suc e) (take (suc i) tree) ≡ suc (label_nodes (suc e) (take i tree))
  one_more = nodes_one_more (suc e) tree i h (sym q)

  no_more : (k : ℕ) → ¬ (k ≡ e) → label_nodes (suc k) (take (suc i) tree) ≡ label_nodes (suc k) (take i tree)
  no_more k n = nodes_no_more (suc k) tree i h (λ z. n (omega arith))

  -- the sets of the labels up to the position, where to change one twice is to change it once
  module _ (change : ℕ → ℕ) (twice : (s : ℕ) → change (change s) ≡ change s) (holders holders' : List ℕ) where
    abbrev Sets : (i : ℕ) → (k s : ℕ) → Type 0
    Sets i k s = s ≡ choose (dec_le 1 (label_nodes (suc k) (take i tree))) (change (get_or holders k 0)) (get_or holders k 0)

    sets_on : (s : ℕ) → e < length holders' → ((k : ℕ) → k < most_label → Sets i k (get_or holders' k 0)) → s ≡ change (get_or holders' e 0)
        → (k : ℕ) → k < most_label → Sets (suc i) k (get_or (set holders' e s) k 0)
    sets_on s inside so w = entry_set (Sets (suc i)) holders' e s inside
        (w ∙ ap change (so e in_entries) ∙ own (get_or holders e 0) (dec_le 1 (label_nodes (suc e) (take i tree)))
        ∙ sym (chosen (dec_le 1 (label_nodes (suc e) (take (suc i) tree))) _ _ (omega (arith, one_more))))
        (λ k b n. so k b ∙ ap (λ (m : ℕ). choose (dec_le 1 m) (change (get_or holders k 0)) (get_or holders k 0)) (sym (no_more k n)))
      where
        own : {A : Type 0} (s : ℕ) (d : Dec A) → change (choose d (change s) s) ≡ change s
        own s (yes _) = twice s
        own s (no _) = refl

-- ADD: what is so after so many pairs
pub record AddedTo (tree : List ℕ) (vehicle : ℕ) (nodes holders : List ℕ) (i : ℕ) (nodes' holders' : List ℕ) : Type 0 where
  pub within : i ≤ length tree
  pub input : AddInput tree vehicle nodes holders
  pub added : Added (take i tree) vehicle nodes holders nodes' holders'

pub add_start : {tree : List ℕ} {vehicle : ℕ} {nodes holders : List ℕ} → AddInput tree vehicle nodes holders → AddedTo tree vehicle nodes holders 0 nodes holders
unfolding label_nodes
add_start a = record {
  within = omega arith;
  input = a;
  added = record { rest = rest_same; nodes_are = λ e h. omega arith; holders_are = λ e h. sym (not_chosen (dec_le 1 0) _ _ (λ z. omega arith)) };
}

module _ {tree : List ℕ} {vehicle : ℕ} {nodes holders : List ℕ} {i : ℕ} {nodes' holders' : List ℕ} (a : AddedTo tree vehicle nodes holders i nodes' holders') where
  module _ (h : i < length tree) (e : ℕ) (q : suc e ≡ label_at tree i) where
    add_in_nodes : e < length nodes'
    add_in_nodes = omega (arith, in_entries tree i h e q, a.added.rest.as_long, a.input.input.all_nodes)

    add_in_holders : e < length holders'
    add_in_holders = omega (arith, in_entries tree i h e q, a.added.rest.as_long_too, a.input.input.all_holders)

    pub add_fits : get_or nodes' e 0 + 1 ≤ most_nodes
    add_fits = omega (arith, a.added.nodes_are e (in_entries tree i h e q), a.input.few e (in_entries tree i h e q), one_more tree i h e q, nodes_of_first (suc e) tree (suc i))

    pub add_on : (s : ℕ) → s ≡ with vehicle (get_or holders' e 0) → AddedTo tree vehicle nodes holders (i + 1) (set nodes' e (get_or nodes' e 0 + 1)) (set holders' e s)
    add_on s w = rw (add-one i) (record {
      within = h;
      input = a.input;
      added = record {
        rest = rest_set e (get_or nodes' e 0 + 1) s (in_entries tree i h e q) a.added.rest;
        nodes_are = entry_set (λ k n. n ≡ get_or nodes k 0 + label_nodes (suc k) (take (suc i) tree)) nodes' e (get_or nodes' e 0 + 1) add_in_nodes
            (omega (arith, a.added.nodes_are e (in_entries tree i h e q), one_more tree i h e q))
            (λ k b n. omega (arith, a.added.nodes_are k b, no_more tree i h e q k n));
        holders_are = sets_on tree i h e q (with vehicle) (with_twice vehicle) holders holders' s add_in_holders a.added.holders_are w;
      };
    })

-- TAKE: likewise
pub record TakenTo (tree : List ℕ) (vehicle : ℕ) (nodes holders : List ℕ) (i : ℕ) (nodes' holders' : List ℕ) : Type 0 where
  pub within : i ≤ length tree
  pub input : TakeInput tree vehicle nodes holders
  pub taken : Taken (take i tree) vehicle nodes holders nodes' holders'

pub take_start : {tree : List ℕ} {vehicle : ℕ} {nodes holders : List ℕ} → TakeInput tree vehicle nodes holders → TakenTo tree vehicle nodes holders 0 nodes holders
unfolding label_nodes
take_start a = record {
  within = omega arith;
  input = a;
  taken = record { rest = rest_same; nodes_are = λ e h. omega arith; holders_are = λ e h. sym (not_chosen (dec_le 1 0) _ _ (λ z. omega arith)) };
}

module _ {tree : List ℕ} {vehicle : ℕ} {nodes holders : List ℕ} {i : ℕ} {nodes' holders' : List ℕ} (a : TakenTo tree vehicle nodes holders i nodes' holders') where
  module _ (h : i < length tree) (e : ℕ) (q : suc e ≡ label_at tree i) where
    take_in_nodes : e < length nodes'
    take_in_nodes = omega (arith, in_entries tree i h e q, a.taken.rest.as_long, a.input.input.all_nodes)

    take_in_holders : e < length holders'
    take_in_holders = omega (arith, in_entries tree i h e q, a.taken.rest.as_long_too, a.input.input.all_holders)

    pub take_fits : 1 ≤ get_or nodes' e 0
    take_fits = omega (arith, a.taken.nodes_are e (in_entries tree i h e q), a.input.enough e (in_entries tree i h e q), one_more tree i h e q, nodes_of_first (suc e) tree (suc i))

    pub take_on : (s : ℕ) → s ≡ without vehicle (get_or holders' e 0) → TakenTo tree vehicle nodes holders (i + 1) (set nodes' e (get_or nodes' e 0 - 1)) (set holders' e s)
    take_on s w = rw (add-one i) (record {
      within = h;
      input = a.input;
      taken = record {
        rest = rest_set e (get_or nodes' e 0 - 1) s (in_entries tree i h e q) a.taken.rest;
        nodes_are = entry_set (λ k n. n ≡ get_or nodes k 0 - label_nodes (suc k) (take (suc i) tree)) nodes' e (get_or nodes' e 0 - 1) take_in_nodes
            (omega (arith, a.taken.nodes_are e (in_entries tree i h e q), one_more tree i h e q))
            (λ k b n. omega (arith, a.taken.nodes_are k b, no_more tree i h e q k n));
        holders_are = sets_on tree i h e q (without vehicle) (without_twice vehicle) holders holders' s take_in_holders a.taken.holders_are w;
      };
    })

-- CLEAR: the entries of all labels are zeros, and behind them stands what stood there
module _ (l zeros : List ℕ) (n : ℕ) (long : most_label ≤ length l) (e : n ≡ most_label) (z : zeros ≡ replicate n 0) where
  zeros_long : length zeros ≡ most_label
  zeros_long = ap length z ∙ length-replicate {A = ℕ} n 0 ∙ e

  cleared_long : length (zeros ++ drop most_label l) ≡ length l
  cleared_long = omega (arith, length-append zeros (drop most_label l), length-drop most_label l, zeros_long)

  cleared_rest : drop most_label (zeros ++ drop most_label l) ≡ drop most_label l
  cleared_rest = drop_at zeros (drop most_label l) most_label zeros_long

  no_entries : (k : ℕ) → k < most_label → get_or (zeros ++ drop most_label l) k 0 ≡ 0
  no_entries k h = get_or-append zeros (drop most_label l) 0 k (omega (arith, zeros_long)) ∙ ap (λ (s : List ℕ). get_or s k 0) z ∙ get_or-replicate {A = ℕ} n k 0 0 (omega (arith, e))

pub cleared : {nodes holders zeros zeros' : List ℕ} {n m : ℕ} → (most_label ≤ length nodes) × (most_label ≤ length holders) → n ≡ most_label → zeros ≡ replicate n 0 → m ≡ most_label → zeros' ≡ replicate m 0
    → Cleared nodes holders (zeros ++ drop most_label nodes) (zeros' ++ drop most_label holders)
cleared {nodes} {holders} {zeros} {zeros'} {n} {m} h e z e' z' = record {
  rest = record {
    as_long = cleared_long nodes zeros n h.0 e z;
    as_long_too = cleared_long holders zeros' m h.1 e' z';
    nodes_rest = cleared_rest nodes zeros n h.0 e z;
    holders_rest = cleared_rest holders zeros' m h.1 e' z';
  };
  no_nodes = no_entries nodes zeros n h.0 e z;
  no_holders = no_entries holders zeros' m h.1 e' z';
}
