-- LAWS. The labels' supports from the sets of the fleet's register.
use mathlib.Core.Path.{◌≡◌, refl, sym, ap, ◌∙◌}
use mathlib.Core.Logic.{◌↔◌}
use mathlib.Core.List.{List, [], ◌∷◌}
use Prim.Native.Nat.{ℕ, ◌+◌, ◌-◌, ◌%◌, ◌≤◌, ◌<◌}
use native.Mathlib.Omega.{arith}
use native.Mathlib.Decide.{dec_le, ℕ_discrete}
use lib.ListN.{length, get_or, take, set, length-set, length-take}
use lib.Seq.{get_or-take, get_or-set_same, get_or-set_other}
use lib.Count.{ones}
use Rattle.terms.specs.Tree.{IsTree}
use Rattle.terms.specs.Placing.{Occurs}
use Rattle.terms.specs.Fleet.{vehicles, IsFleet}
use Rattle.terms.proofs.Decide.{choose}
use Rattle.occurrence.specs.Support.{whole_support, occurring}
use Rattle.occurrence.proofs.SupportLaws.{occurring_yes, occurring_no}
use Rattle.sets.specs.Sets.{size}
use Rattle.register.specs.Register.{most_label, label_nodes, label_holders, register_holders}
use Rattle.register.proofs.EntryLaws.{entries_length}
use Rattle.register.proofs.HolderLaws.{holders_counted}
use Rattle.register.proofs.LabelLaws.{some_node, node_counted}
use Rattle.register.proofs.Claims.{entry_of}
use Rattle.rightmost.specs.Counts.{top_of}
use Rattle.rightmost.proofs.BranchLaws.{occurs_exactly}
use Rattle.rightmost.proofs.TestLaws.{single_exactly}
use Rattle.counts.specs.Gathering.{Gathered}
use Rattle.labels.proofs.OneNode.{labels_gathered}

-- A TREE HOLDS A LABEL exactly if its pattern of one node occurs in it
holds_exactly : {x : ℕ} (tree : List ℕ) → IsTree (x ∷ []) → (1 ≤ label_nodes x tree) ↔ Occurs (x ∷ []) tree
holds_exactly {x} tree t = (to, from)
  where
    label : x % 1000 ≡ x
    label = omega (arith, t.root_depth)

    to : 1 ≤ label_nodes x tree → Occurs (x ∷ []) tree
    to h = let z = some_node x tree h in (occurs_exactly t).1 (z.0, (single_exactly t).1 (z.1, z.2 ∙ sym label))

    from : Occurs (x ∷ []) tree → 1 ≤ label_nodes x tree
    from o = let z = (occurs_exactly t).0 o in let y = (single_exactly t).0 z.1 in node_counted x tree z.0 y.0 (y.1 ∙ label)

-- THE SIZE of a label's set is its support
pub size_occurring : {x : ℕ} → IsTree (x ∷ []) → (trees : List (List ℕ)) → size (label_holders x trees) ≡ occurring (x ∷ []) trees
unfolding label_holders occurring ones
size_occurring t [] = refl
size_occurring {x} t (tree ∷ trees) = holders_counted x tree trees ∙ go (dec_le 1 (label_nodes x tree)) (size_occurring t trees)
  where
    go : (d : Dec (1 ≤ label_nodes x tree)) → size (label_holders x trees) ≡ occurring (x ∷ []) trees → choose d 1 0 + size (label_holders x trees) ≡ occurring (x ∷ []) (tree ∷ trees)
    go (yes h) rest = omega (arith, rest, occurring_yes trees ((holds_exactly tree t).0 h))
    go (no h) rest = omega (arith, rest, occurring_no trees (λ o. h ((holds_exactly tree t).1 o)))

-- THE SETS of a register
module _ (fleet holders : List ℕ) (r : take most_label holders ≡ register_holders fleet) where
  pub all_holders : most_label ≤ length holders
  all_holders = omega (arith, length-take most_label holders, ap length r, entries_length (λ label. label_holders label (vehicles fleet)) most_label 1)

  pub set_size : {x : ℕ} → IsTree (x ∷ []) → size (get_or holders (x - 1) 0) ≡ whole_support fleet (x ∷ [])
  unfolding whole_support
  set_size {x} t =
      let from_1 : 1 ≤ x = omega (arith, t.root_depth, (t.pairs 0 (omega arith)).label_from_1) in
      let to_most : x ≤ most_label = omega (arith, t.root_depth) in
      let at : get_or holders (x - 1) 0 ≡ label_holders x (vehicles fleet) = sym (get_or-take most_label holders (x - 1) 0 (omega arith)) ∙ ap (λ (s : List ℕ). get_or s (x - 1) 0) r ∙ (entry_of fleet x from_1 to_most).1 in
      ap size at ∙ size_occurring t (vehicles fleet)

-- FROM SETS (`from_sets`): the labels below this one are done
pub record SetsTo (fleet holders counts₀ counts : List ℕ) (label : ℕ) : Type 0 where
  pub is_fleet : IsFleet fleet
  pub lent : take most_label holders ≡ register_holders fleet
  pub room : top_of [] ≤ length counts₀
  pub as_long : length counts ≡ length counts₀
  pub from_1 : 1 ≤ label
  pub to_end : label ≤ 1000
  pub no_label : get_or counts 0 0 ≡ 0
  pub done : (x : ℕ) → 1 ≤ x → x < label → get_or counts x 0 ≡ size (get_or holders (x - 1) 0)
  pub not_yet : (x : ℕ) → label ≤ x → x < top_of [] → get_or counts x 0 ≡ 0

pub sets_start : {fleet holders counts : List ℕ} → IsFleet fleet → take most_label holders ≡ register_holders fleet → top_of [] ≤ length counts → ((x : ℕ) → x < 2000 → get_or counts x 0 ≡ 0) → SetsTo fleet holders counts counts 1
sets_start f r h z = record {
  is_fleet = f;
  lent = r;
  room = h;
  as_long = refl;
  from_1 = omega arith;
  to_end = omega arith;
  no_label = z 0 (omega arith);
  done = λ x k l. absurd (omega arith);
  not_yet = λ x k l. z x l;
}

module _ {fleet holders counts₀ counts : List ℕ} {label : ℕ} (w : SetsTo fleet holders counts₀ counts label) where
  pub set_there : label < 1000 → label - 1 < length holders
  set_there h = omega (arith, all_holders fleet holders w.lent, w.from_1)

  pub entry_there : label < 1000 → label < length counts
  entry_there h = omega (arith, w.room, w.as_long)

  -- nobody holds the label
  pub sets_none : label < 1000 → get_or holders (label - 1) 0 ≡ 0 → SetsTo fleet holders counts₀ counts (label + 1)
  unfolding ones
  sets_none h e = record {
    is_fleet = w.is_fleet;
    lent = w.lent;
    room = w.room;
    as_long = w.as_long;
    from_1 = omega arith;
    to_end = omega arith;
    no_label = w.no_label;
    done = λ x k l. go x k l (ℕ_discrete x label);
    not_yet = λ x k l. w.not_yet x (omega arith) l;
  }
    where
      go : (x : ℕ) → 1 ≤ x → x < label + 1 → Dec (x ≡ label) → get_or counts x 0 ≡ size (get_or holders (x - 1) 0)
      go x k l (yes q) = rw (q, e) (w.not_yet label (omega arith) (omega arith))
      go x k l (no q) = w.done x k (omega arith)

  pub sets_next : {n : ℕ} → label < 1000 → n ≡ size (get_or holders (label - 1) 0) → SetsTo fleet holders counts₀ (set counts label n) (label + 1)
  sets_next {n} h e = record {
    is_fleet = w.is_fleet;
    lent = w.lent;
    room = w.room;
    as_long = length-set counts label n ∙ w.as_long;
    from_1 = omega arith;
    to_end = omega arith;
    no_label = get_or-set_other counts label 0 n 0 (omega (arith, w.from_1)) ∙ w.no_label;
    done = λ x k l. go x k l (ℕ_discrete x label);
    not_yet = λ x k l. get_or-set_other counts label x n 0 (omega arith) ∙ w.not_yet x (omega arith) l;
  }
    where
      go : (x : ℕ) → 1 ≤ x → x < label + 1 → Dec (x ≡ label) → get_or (set counts label n) x 0 ≡ size (get_or holders (x - 1) 0)
      go x k l (yes q) = rw q (get_or-set_same counts label n 0 (entry_there h) ∙ e)
      go x k l (no q) = get_or-set_other counts label x n 0 q ∙ w.done x k (omega arith)

  pub sets_end : 1000 ≤ label → Gathered [] fleet counts₀ counts
  sets_end h = labels_gathered w.as_long each zeros
    where
      each : (x : ℕ) → IsTree (x ∷ []) → get_or counts x 0 ≡ whole_support fleet (x ∷ [])
      each x t = w.done x (omega (arith, t.root_depth, (t.pairs 0 (omega arith)).label_from_1)) (omega (arith, t.root_depth)) ∙ set_size fleet holders w.lent t

      zeros : (x : ℕ) → x < top_of [] → ¬ ((1 ≤ x) × (x < 1000)) → get_or counts x 0 ≡ 0
      zeros x b n = go (dec_le 1 x) (dec_le 1000 x)
        where
          go : Dec (1 ≤ x) → Dec (1000 ≤ x) → get_or counts x 0 ≡ 0
          go (no k) _ = let first : x ≡ 0 = omega arith in rw first w.no_label
          go (yes k) (yes l) = w.not_yet x (omega (arith, w.to_end)) b
          go (yes k) (no l) = absurd (n (k, omega arith))
