-- LAWS. The rules on the reader's numbers are the rules on the pairs read so far; one law for each way out of unfit, broken and after.
use mathlib.Core.Path.{◌≡◌, refl, sym, ◌∙◌}
use mathlib.Core.Logic.{◌≢◌}
use mathlib.Core.List.{List, [], ◌∷◌, ◌++◌}
use Prim.Native.Nat.{ℕ, zero, suc, ◌+◌, ◌≤◌}
use native.Mathlib.Omega.{arith}
use lib.ListN.{length, set, length-set}
use Rattle.terms.specs.Tree.{pair}
use Rattle.terms.specs.Fleet.{family}
use Rattle.terms.specs.Refusal.{refusal}
use Rattle.terms.proofs.RefusalLaws.{broken_here, kept_on}
use Rattle.fleet.specs.Node.{DepthAllowed, LabelAllowed, WithinLimits}
use Rattle.fleet.specs.NodeRules.{fit_rules, limit_rule, node_rules}
use Rattle.fleet.specs.Numbers.{DepthFits, FamilyFits, RoomLeft, MayCome}
use Rattle.fleet.specs.Reader.{ReaderOf}
use Rattle.fleet.specs.declared.reader.Reader.{Reader}
use Rattle.fleet.proofs.NodeLaws as nl
use Rattle.fleet.proofs.ReaderState.{family_to, family_from, kept_root, kept_child}

module _ (before : List ℕ) (reader : Reader) (families : List ℕ) (s : ReaderOf before reader families) where
  module _ (d l : ℕ) where
    depth_to : DepthFits reader.nodes reader.deeper d → DepthAllowed before d
    depth_to k = ((λ h. k.0 (omega (arith, s.nodes_are))), ((λ h. omega (arith, k.1.0 (omega (arith, s.nodes_are)), s.deeper_is)), k.1.1))

    depth_from : DepthAllowed before d → DepthFits reader.nodes reader.deeper d
    depth_from k = ((λ h. k.0 (omega (arith, s.nodes_are))), ((λ h. omega (arith, k.1.0 (omega (arith, s.nodes_are)), s.deeper_is)), k.1.1))

    room_to : RoomLeft reader.nodes reader.trees reader.in_tree d → WithinLimits before d
    room_to k = ((λ h. omega (arith, k.0 h, s.trees_are)), ((λ h. omega (arith, k.1.0 h, s.in_tree_are)), omega (arith, k.1.1, s.nodes_are)))

    room_from : WithinLimits before d → RoomLeft reader.nodes reader.trees reader.in_tree d
    room_from k = ((λ h. omega (arith, k.0 h, s.trees_are)), ((λ h. omega (arith, k.1.0 h, s.in_tree_are)), omega (arith, k.1.1, s.nodes_are)))

    pub unfit_5 : ¬ DepthFits reader.nodes reader.deeper d → 5 ≡ refusal (fit_rules before d l)
    unfit_5 n = sym (nl.unfit_5 before d l (λ r. n (depth_from r)))

    module _ (a : DepthFits reader.nodes reader.deeper d) where
      pub unfit_6 : ¬ LabelAllowed l → 6 ≡ refusal (fit_rules before d l)
      unfit_6 n = sym (nl.unfit_6 before d l (depth_to a) n)

      module _ (b : LabelAllowed l) where
        pub unfit_7 : ¬ FamilyFits families d l → 7 ≡ refusal (fit_rules before d l)
        unfit_7 n = sym (nl.unfit_7 before d l (depth_to a) b (λ r. n (family_to before reader families d l s (depth_to a) b.1 r)))

        pub fit : FamilyFits families d l → 0 ≡ refusal (fit_rules before d l)
        fit c = sym (nl.fit before d l (depth_to a) b (family_from before reader families d l s (depth_to a) b.1 c))

    -- the last rule of a node
    pub limit_broken : ¬ RoomLeft reader.nodes reader.trees reader.in_tree d → refusal (limit_rule before d ∷ []) ≡ 9
    unfolding limit_rule
    limit_broken n = broken_here (limit_rule before d) [] (λ r. n (room_from r))

    pub limit_kept : RoomLeft reader.nodes reader.trees reader.in_tree d → refusal (limit_rule before d ∷ []) ≡ 0
    unfolding limit_rule refusal
    limit_kept f = kept_on (limit_rule before d) [] (room_to f)

    pub broken_9 : 0 ≡ refusal (fit_rules before d l) → ¬ RoomLeft reader.nodes reader.trees reader.in_tree d → 9 ≡ refusal (node_rules before d l)
    unfolding node_rules
    broken_9 e n = sym (nl.fit_later before d l (limit_rule before d ∷ []) (sym e) ∙ limit_broken n)

    pub none_broken : 0 ≡ refusal (fit_rules before d l) → RoomLeft reader.nodes reader.trees reader.in_tree d → 0 ≡ refusal (node_rules before d l)
    unfolding node_rules
    none_broken e f = sym (nl.fit_later before d l (limit_rule before d ∷ []) (sym e) ∙ limit_kept f)

  -- one more node
  module _ (d l : ℕ) (wide : length families ≡ 16) (may : MayCome reader d l) where
    pub after_root : d ≡ 0 → ReaderOf (before ++ pair d l ∷ []) (record { nodes = reader.nodes + 1; deeper = 1; label = l; trees = reader.trees + 1; in_tree = 1 }) (set families d (family l))
    after_root e = kept_root before reader families d l may.label_to_999 s e (omega (arith, may.depth_fits.1.1))

    pub after_child : d ≢ 0 → ReaderOf (before ++ pair d l ∷ []) (record { nodes = reader.nodes + 1; deeper = d + 1; label = l; trees = reader.trees; in_tree = reader.in_tree + 1 }) (set families d (family l))
    after_child e = kept_child before reader families d l may.label_to_999 s some (omega arith) ((depth_to d l may.depth_fits).1.0 some) (omega (arith, may.depth_fits.1.1))
      where
        some : 1 ≤ length before
        some = go (length before) refl
          where
            go : (n : ℕ) → length before ≡ n → 1 ≤ length before
            go zero q = absurd (e ((depth_to d l may.depth_fits).0 q))
            go (suc n) q = omega arith

-- what Reader::after promises, where the node's family is noted besides
abbrev pub Goes : Reader → (d l : ℕ) → Reader → Type 0
Goes reader d l reader' = (before families : List ℕ) → length families ≡ 16 → ReaderOf before reader families → ReaderOf (before ++ pair d l ∷ []) reader' (set families d (family l))

pub goes_on : {reader reader' : Reader} {before families families' : List ℕ} (d l : ℕ) → Goes reader d l reader' → length families ≡ 16 → families' ≡ set families d (family l)
    → ReaderOf before reader families → (length families' ≡ 16) × ReaderOf (before ++ pair d l ∷ []) reader' families'
goes_on {before = before} {families = families} d l goes wide e s = rw e (length-set families d (family l) ∙ wide, goes before families wide s)
