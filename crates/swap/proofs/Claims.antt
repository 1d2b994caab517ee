-- THE CLAIMS about swaps, over the definitions that the contract cites.
use mathlib.Core.Path.{◌≡◌, refl, sym, ap, ◌∙◌}
use mathlib.Core.List.{List, [], ◌++◌}
use mathlib.Core.Logic.{◌⊎◌, inl, inr, ⊎_elim}
use Prim.Native.Nat.{ℕ, zero, suc, ◌+◌, ◌-◌, ◌≤◌, ◌<◌}
use native.Mathlib.Omega.{arith}
use native.Mathlib.Decide.{dec_le}
use lib.ListN.{length, get_or, take, drop}
use lib.Seq.{take_at, drop_at}
use Rattle.terms.specs.Fleet.{vehicles, most_nodes}
use Rattle.terms.specs.Refusal.{refusal, FirstBroken, AllKept, Numbered, this, later, none, also, no_rule, and_rule}
use Rattle.terms.proofs.RefusalLaws.{refused_exactly, answered_exactly}
use Rattle.terms.proofs.VehicleLaws.{vehicles_join}
use Rattle.fleet.specs.declared.Answer.TheVariants.{Done, Refused}
use Rattle.fleet.proofs.AnswerLaws.{done_exactly, done_number, refused_number}
use Rattle.vehicles.specs.Vehicle.{numbered}
use Rattle.register.specs.Register.{most_label, label_nodes, label_holders, entries, register_nodes, register_holders}
use Rattle.register.proofs.LabelLaws.{not_chosen}
use Rattle.register.proofs.EntryLaws.{entries_length}
use Rattle.register.proofs.HolderLaws.{holders_set, nodes_set}
use Rattle.register.proofs.RegisterLaws.{written, left_as_was, entries_first, entries_behind}
use Rattle.swap.specs.Swap.{Swap, fleet_of, new_fleet, replaced, swap_rules, swap_answer, buffer_after, nodes_after, holders_after}
use Rattle.swap.specs.Claims.{fleet_after, RightlyLentTo, Named, NewVehicles, RegisterAfresh, EntryUntouched, BehindUntouched, RefusedUntouched, SwapRefusedExactly, SwapAnsweredExactly, Refused10Exactly, Refused16Exactly, Refused17Exactly}
use Rattle.swap.proofs.NewFleet as new
use Rattle.swap.proofs.RegisterLaws.{entry_at}
use Rattle.swap.proofs.CallLaws.{not_right, after_right}

pub swap_numbered : (s : Swap) → Numbered (swap_rules s)
unfolding swap_rules
swap_numbered s = and_rule 9 refl (and_rule 9 refl (and_rule 9 refl (and_rule 9 refl (and_rule 15 refl (and_rule 9 refl (and_rule 16 refl no_rule))))))

pub swap_refused_exactly : SwapRefusedExactly
unfolding swap_answer
swap_refused_exactly s n h =
    let refused = refused_number (refusal (swap_rules s)) (length (new_fleet s)) n h in
    let first = refused_exactly n (swap_numbered s) h in
    ((λ e. first.0 (refused.0 e)), (λ b. refused.1 (first.1 b)))

pub swap_answered_exactly : SwapAnsweredExactly
unfolding swap_answer
swap_answered_exactly s =
    let done = done_exactly (refusal (swap_rules s)) (length (new_fleet s)) in
    let kept = answered_exactly (swap_numbered s) in
    ((λ e. kept.0 (done.0 e)), (λ a. done.1 (kept.1 a)))

-- an answered swap: no rule is broken, and the number is that of the new fleet's pairs
record Answered (s : Swap) (pairs : ℕ) : Type 0 where
  right : RightlyLentTo s
  named : Named s
  few : length (new_fleet s) ≤ most_nodes
  number_is : length (new_fleet s) ≡ pairs
  no_refusal : refusal (swap_rules s) ≡ 0

answered : (s : Swap) (pairs : ℕ) → swap_answer s ≡ Done pairs → Answered s pairs
unfolding swap_answer swap_rules
answered s pairs e = go ((answered_exactly (swap_numbered s)).0 d.0)
  where
    d : (refusal (swap_rules s) ≡ 0) × (length (new_fleet s) ≡ pairs)
    d = (done_number (refusal (swap_rules s)) (length (new_fleet s)) pairs).0 e

    go : AllKept (swap_rules s) → Answered s pairs
    go (also a (also b (also c (also r (also n (also f (also _ none))))))) =
        record { right = record { in_buffer = a; is_fleet = b; is_vehicle = c; is_register = r }; named = n; few = f; number_is = d.1; no_refusal = d.0 }

module _ (s : Swap) (pairs : ℕ) (a : Answered s pairs) where
  buffer_is : buffer_after s ≡ new_fleet s ++ drop (length (new_fleet s)) s.buffer
  unfolding buffer_after
  buffer_is = written (refusal (swap_rules s)) (new_fleet s) s.buffer a.no_refusal

  nodes_are : nodes_after s ≡ register_nodes (new_fleet s) ++ drop (length (register_nodes (new_fleet s))) s.nodes
  unfolding nodes_after
  nodes_are = written (refusal (swap_rules s)) (register_nodes (new_fleet s)) s.nodes a.no_refusal

  holders_are : holders_after s ≡ register_holders (new_fleet s) ++ drop (length (register_holders (new_fleet s))) s.holders
  unfolding holders_after
  holders_are = written (refusal (swap_rules s)) (register_holders (new_fleet s)) s.holders a.no_refusal

  fleet_is : fleet_after s pairs ≡ new_fleet s
  fleet_is = ap (take pairs) buffer_is ∙ take_at (new_fleet s) (drop (length (new_fleet s)) s.buffer) pairs a.number_is

  vehicles_are : vehicles (new_fleet s) ≡ replaced (vehicles (fleet_of s)) s.vehicle s.tree
  vehicles_are = new.new_vehicles (fleet_of s) s.vehicle a.named a.right.is_fleet s.tree a.right.is_vehicle

pub new_vehicles : NewVehicles
new_vehicles s pairs e =
    let a = answered s pairs e in
    rw (fleet_is s pairs a) (new.new_is_fleet (fleet_of s) s.vehicle a.named a.right.is_fleet s.tree a.right.is_vehicle a.few, vehicles_are s pairs a)

-- entries in front of what stood behind them
module _ (entry : ℕ → ℕ) (l before : List ℕ) (e : l ≡ entries entry most_label 1 ++ drop (length (entries entry most_label 1)) before) where
  size : length (entries entry most_label 1) ≡ most_label
  size = entries_length entry most_label 1

  front : take most_label l ≡ entries entry most_label 1
  front = entries_first l (entries entry most_label 1) before e size

  back : drop most_label l ≡ drop most_label before
  back = entries_behind l (entries entry most_label 1) before e size

  at : (i : ℕ) → i < most_label → get_or l i 0 ≡ entry (suc i)
  at = entry_at entry l front

pub register_afresh : RegisterAfresh
register_afresh s pairs e =
    let a = answered s pairs e in
    rw (fleet_is s pairs a) (record {
      nodes_are = front (λ label. label_nodes label (new_fleet s)) (nodes_after s) s.nodes (nodes_are s pairs a);
      holders_are = front (λ label. label_holders label (vehicles (new_fleet s))) (holders_after s) s.holders (holders_are s pairs a);
    })

pub behind_untouched : BehindUntouched
behind_untouched s pairs e =
    let a = answered s pairs e in
    let fleet_rest : drop pairs (buffer_after s) ≡ drop pairs s.buffer =
    ap (drop pairs) (buffer_is s pairs a) ∙ drop_at (new_fleet s) (drop (length (new_fleet s)) s.buffer) pairs a.number_is ∙ ap (λ (k : ℕ). drop k s.buffer) a.number_is in (
      fleet_rest,
      back (λ label. label_nodes label (new_fleet s)) (nodes_after s) s.nodes (nodes_are s pairs a),
      back (λ label. label_holders label (vehicles (new_fleet s))) (holders_after s) s.holders (holders_are s pairs a),
    )

-- the tree with a number, from 1
numbered_at : (trees : List (List ℕ)) (n : ℕ) → 1 ≤ n → numbered trees n ≡ get_or trees (n - 1) []
unfolding numbered
numbered_at trees zero h = absurd (omega arith)
numbered_at trees (suc n) h = let z : n ≡ suc n - 1 = omega arith in ap (λ (i : ℕ). get_or trees i []) z

pub entry_untouched : EntryUntouched
entry_untouched s pairs label e low high old new =
    let a = answered s pairs e in
    let trees = vehicles (fleet_of s) in
    let inside : label - 1 < most_label = omega arith in
    let own : suc (label - 1) ≡ label = omega arith in
    let k : s.vehicle - 1 < length trees = omega (arith, a.named.0, a.named.1) in
    let none : label_nodes label (get_or trees (s.vehicle - 1) []) ≡ 0 = ap (label_nodes label) (sym (numbered_at trees s.vehicle a.named.0)) ∙ old in
    let nodes_stay : label_nodes label (new_fleet s) ≡ label_nodes label (fleet_of s) =
    omega (arith, nodes_set label trees (s.vehicle - 1) s.tree k, none, new, ap (label_nodes label) (vehicles_join (fleet_of s))) in
    let holders_stay : label_holders label (vehicles (new_fleet s)) ≡ label_holders label trees =
    ap (label_holders label) (vehicles_are s pairs a) ∙ holders_set label trees (s.vehicle - 1) s.tree k
    ∙ not_chosen (dec_le 1 (label_nodes label s.tree)) _ _ (λ h. absurd (omega arith)) ∙ not_chosen (dec_le 1 (label_nodes label (get_or trees (s.vehicle - 1) []))) _ _ (λ h. absurd (omega arith)) in (
      at (λ l. label_nodes l (new_fleet s)) (nodes_after s) s.nodes (nodes_are s pairs a) (label - 1) inside
          ∙ ap (λ (l : ℕ). label_nodes l (new_fleet s)) own ∙ nodes_stay ∙ ap (λ (l : ℕ). label_nodes l (fleet_of s)) (sym own)
          ∙ sym (entry_at (λ l. label_nodes l (fleet_of s)) s.nodes a.right.is_register.nodes_are (label - 1) inside),
      at (λ l. label_holders l (vehicles (new_fleet s))) (holders_after s) s.holders (holders_are s pairs a) (label - 1) inside
          ∙ ap (λ (l : ℕ). label_holders l (vehicles (new_fleet s))) own ∙ holders_stay ∙ ap (λ (l : ℕ). label_holders l trees) (sym own)
          ∙ sym (entry_at (λ l. label_holders l trees) s.holders a.right.is_register.holders_are (label - 1) inside),
    )

pub refused_untouched : RefusedUntouched
unfolding swap_answer buffer_after nodes_after holders_after
refused_untouched s n e =
    let number = refusal (swap_rules s) in
    let pairs = length (new_fleet s) in
    (left_as_was number pairs n (new_fleet s) s.buffer e, left_as_was number pairs n (register_nodes (new_fleet s)) s.nodes e, left_as_was number pairs n (register_holders (new_fleet s)) s.holders e)

-- number by number
module _ (s : Swap) where
  rules_10 : FirstBroken 10 (swap_rules s) → (¬ RightlyLentTo s) ⊎ (RightlyLentTo s × Named s × (most_nodes < length (new_fleet s)))
  unfolding swap_rules
  rules_10 (later a (later b (later c (later d (later n (later _ (later _ x27))))))) = elim x27 [ ]
  rules_10 (this a _) = inl (λ r. a r.in_buffer)
  rules_10 (later _ (this b _)) = inl (λ r. b r.is_fleet)
  rules_10 (later _ (later _ (this c _))) = inl (λ r. c r.is_vehicle)
  rules_10 (later _ (later _ (later _ (this d _)))) = inl (λ r. d r.is_register)
  rules_10 (later _ (later _ (later _ (later _ (this _ e))))) = absurd (omega arith)
  rules_10 (later a (later b (later c (later d (later n (this f _)))))) = inr (record { in_buffer = a; is_fleet = b; is_vehicle = c; is_register = d }, n, omega arith)
  rules_10 (later _ (later _ (later _ (later _ (later _ (later _ (this _ e))))))) = absurd (omega arith)

  rules_16 : FirstBroken 16 (swap_rules s) → RightlyLentTo s × (¬ Named s)
  unfolding swap_rules
  rules_16 (later a (later b (later c (later d (later _ (later _ (later _ x30))))))) = elim x30 [ ]
  rules_16 (this _ e) = absurd (omega arith)
  rules_16 (later _ (this _ e)) = absurd (omega arith)
  rules_16 (later _ (later _ (this _ e))) = absurd (omega arith)
  rules_16 (later _ (later _ (later _ (this _ e)))) = absurd (omega arith)
  rules_16 (later a (later b (later c (later d (this n _))))) = (record { in_buffer = a; is_fleet = b; is_vehicle = c; is_register = d }, n)
  rules_16 (later _ (later _ (later _ (later _ (later _ (this _ e)))))) = absurd (omega arith)
  rules_16 (later _ (later _ (later _ (later _ (later _ (later _ (this _ e))))))) = absurd (omega arith)

  rules_17 : FirstBroken 17 (swap_rules s) → RightlyLentTo s × Named s × (length (new_fleet s) ≤ most_nodes) × (length s.buffer < length (new_fleet s))
  unfolding swap_rules
  rules_17 (later a (later b (later c (later d (later n (later f (later _ x24))))))) = elim x24 [ ]
  rules_17 (this _ e) = absurd (omega arith)
  rules_17 (later _ (this _ e)) = absurd (omega arith)
  rules_17 (later _ (later _ (this _ e))) = absurd (omega arith)
  rules_17 (later _ (later _ (later _ (this _ e)))) = absurd (omega arith)
  rules_17 (later _ (later _ (later _ (later _ (this _ e))))) = absurd (omega arith)
  rules_17 (later _ (later _ (later _ (later _ (later _ (this _ e)))))) = absurd (omega arith)
  rules_17 (later a (later b (later c (later d (later n (later f (this o _))))))) = (record { in_buffer = a; is_fleet = b; is_vehicle = c; is_register = d }, n, f, omega arith)

pub refused10_exactly : Refused10Exactly
refused10_exactly s =
    let first = swap_refused_exactly s 10 (omega arith) in (
      (λ e. rules_10 s (first.0 e)),
      ⊎_elim (λ n. first.1 (not_right s n)) (λ k. let past = k.2 in first.1 (after_right s 10 k.0 (later k.1 (this (λ h. absurd (omega arith)) refl)))),
    )

pub refused16_exactly : Refused16Exactly
refused16_exactly s =
    let first = swap_refused_exactly s 16 (omega arith) in
    ((λ e. rules_16 s (first.0 e)), (λ k. first.1 (after_right s 16 k.0 (this k.1 refl))))

pub refused17_exactly : Refused17Exactly
refused17_exactly s =
    let first = swap_refused_exactly s 17 (omega arith) in
    ((λ e. rules_17 s (first.0 e)), (λ k. let few = k.2 in let short = k.3 in first.1 (after_right s 17 k.0 (later k.1 (later few (this (λ h. absurd (omega arith)) refl))))))
