-- LAWS. Beginnings that are alike; the forms that a matched beginning covers.
use mathlib.Core.Path.{◌≡◌, sym, ap, ◌∙◌}
use mathlib.Core.Bool.{Bool, true, false, not}
use mathlib.Core.List.{List}
use Prim.Native.Nat.{ℕ, min, ◌+◌, ◌-◌, ◌≤◌, ◌<◌}
use native.Mathlib.Omega.{arith}
use lib.ListN.{length, get_or, take, drop, length-drop}
use lib.Dec.{eqb}
use lib.Seq.{length-take-le, get_or-take, take-take}
use Rattle.terms.specs.Tree.{IsTree}
use Rattle.terms.specs.Tells.{Tells}
use Rattle.matching.specs.Limits.{most_nodes_of_a_pattern}
use Rattle.occurrence.specs.Support.{whole_support}
use Rattle.supertrees.specs.Supertree.{LargerReaches}
use Rattle.rightmost.specs.Vehicles.{VehiclesNumbered}
use Rattle.turned_places.specs.Making.{Made, ListInput}
use Rattle.matched.specs.Matched.{OccurrenceMatched, Lacks, PatternToAsk}
use Rattle.matched.proofs.MatchedLaws.{matched_larger}
use Rattle.std.specs.Prelude.{Option, Some, None}
use Rattle.std.specs.List.{IsAnyAnswer}
use Rattle.std.proofs.lemmas.Bool.{eqb-true, eqb-false}
use Rattle.std.proofs.lemmas.List.{get_or-drop}
use Rattle.pruning.specs.Pruning.{BeginningOf, MatchedBeginning, Covers}
use Rattle.pruning.specs.declared.Matched.{Matched}

-- THE PAIRS BEHIND A BEGINNING (`covers`), as the code cuts them out
abbrev behind : (nodes : List ℕ) (from n : ℕ) → List ℕ
behind nodes from n = take (n - min from n) (drop (min from n) nodes)

behind_at : (nodes : List ℕ) (from n k : ℕ) → k < n - min from n → get_or (behind nodes from n) k 0 ≡ get_or nodes (min from n + k) 0
behind_at nodes from n k h = get_or-take (n - min from n) (drop (min from n) nodes) k 0 h ∙ get_or-drop (min from n) nodes k 0

behind_length : (nodes : List ℕ) (from n : ℕ) → n ≤ length nodes → length (behind nodes from n) ≡ n - min from n
behind_length nodes from n h = length-take-le (n - min from n) (drop (min from n) nodes) (omega (arith, length-drop (min from n) nodes))

-- whether one of them is this pair
pub lacks_behind : (nodes : List ℕ) (pair from n : ℕ) → n ≤ length nodes → (r : Bool) → IsAnyAnswer (λ y b. eqb y pair ≡ b) (behind nodes from n) r → Tells (not r) (Lacks nodes pair from n)
lacks_behind nodes pair from n h true w =
    let k : w.0 < n - min from n = omega (arith, w.1, behind_length nodes from n h) in
    λ lacks. lacks (min from n + w.0) (omega arith) (omega arith) (sym (behind_at nodes from n w.0 k) ∙ eqb-true _ _ (w.2 0))
lacks_behind nodes pair from n h false all = λ i a b e.
    let k : i - from < n - min from n = omega arith in
    let there : min from n + (i - from) ≡ i = omega arith in
    eqb-false _ _ (all (i - from) 0 (omega arith) (omega (arith, behind_length nodes from n h))) (behind_at nodes from n (i - from) k ∙ ap (λ (j : ℕ). get_or nodes j 0) there ∙ e)

-- WHAT IS KNOWN of a form that begins so (`kept`)
pub front_few : {len n : ℕ} (nodes : List ℕ) → len ≤ n → n ≤ most_nodes_of_a_pattern → length nodes ≡ most_nodes_of_a_pattern → len ≡ length (take len nodes)
front_few {len} nodes h k e = sym (length-take-le len nodes (omega arith))

pub known_on : {fleet before nodes : List ℕ} {m n : ℕ} {known : Matched} → known.len ≤ n → take known.len before ≡ take known.len nodes → BeginningOf fleet before m known → BeginningOf fleet nodes n known
known_on h e k = record { within = h; is = rw e at k.is }

pub to_ask : {fleet nodes parents sizes places lens : List ℕ} {n : ℕ} → ListInput fleet nodes (n - 1) n parents sizes places lens → {list : List ℕ} {count : ℕ} → Made fleet nodes n list count → PatternToAsk (take n nodes) fleet parents sizes (take count list)
to_ask {nodes = nodes} {n = n} i m = record {
  is_fleet = i.of.is_fleet;
  has_parents = i.of.has_parents;
  has_sizes = i.of.has_sizes;
  is_tree = i.of.is_tree;
  few = omega (arith, length-take-le n nodes (omega (arith, i.of.few, i.of.all_nodes)), i.of.few);
  are = m.are;
}

-- THE CLAIM
pub covered : {fleet table : List ℕ} (nodes : List ℕ) (n : ℕ) {need : ℕ} (matched : Option Matched) → VehiclesNumbered fleet table → n ≤ length nodes → IsTree (take n nodes)
    → MatchedBeginning fleet nodes n matched → Covers matched nodes n → need ≤ whole_support fleet (take n nodes) → LargerReaches (whole_support fleet) need (take n nodes)
covered nodes n None v h t m c k = absurd c
covered {fleet} nodes n (Some known) v h t m c k = let z = matched_larger t (omega (arith, long, m.within)) here without v in record { tree = _; larger = z.0; enough = omega (arith, z.1) }
  where
    long : length (take n nodes) ≡ n
    long = length-take-le n nodes h

    here : OccurrenceMatched fleet (take known.len (take n nodes)) known.pair m.is.0
    here = rw (take-take known.len n nodes m.within) m.is.1

    without : Lacks (take n nodes) known.pair known.len (length (take n nodes))
    without i a b e = c i a (omega (arith, long)) (sym (get_or-take n nodes i 0 (omega (arith, long))) ∙ e)
