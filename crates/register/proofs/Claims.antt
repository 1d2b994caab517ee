-- THE CLAIMS of the register, over the definitions that the contracts cite.
use mathlib.Core.Path.{◌≡◌, refl, sym, ap, ◌∙◌}
use mathlib.Core.List.{List, [], ◌++◌}
use Prim.Native.Nat.{ℕ, zero, suc, ◌+◌, ◌-◌}
use native.Mathlib.Omega.{arith}
use native.Mathlib.Nat.{lt_of_lt_of_le}
use lib.ListN.{length, get_or, drop}
use lib.Pow.{pow_mono}
use Rattle.terms.specs.Fleet.{vehicles}
use Rattle.terms.specs.Refusal.{refusal, Numbered, no_rule, and_rule}
use Rattle.terms.proofs.RefusalLaws.{refused_exactly, answered_exactly}
use Rattle.terms.proofs.VehicleLaws.{vehicles_join}
use Rattle.fleet.specs.declared.Answer.TheVariants.{Done}
use Rattle.fleet.proofs.AnswerLaws.{done_exactly, done_number, refused_number}
use Rattle.vehicles.specs.Vehicle.{numbered}
use Rattle.sets.proofs.SetLaws.{bit_at}
use Rattle.register.specs.Register.{most_label, label_nodes, label_holders, register_nodes, register_holders}
use Rattle.register.specs.RegisterCall.{register_rules, register_answer, nodes_output, holders_output}
use Rattle.register.specs.Claims.{HoldersExactly, HoldersSmall, EntryOf, ZeroAndEmpty, RegisterRefusedExactly, RegisterAnsweredExactly, MadeIsRegister, RegisterRefusedUntouched, RegisterBehindUntouched}
use Rattle.register.proofs.LabelLaws.{some_node, node_counted}
use Rattle.register.proofs.HolderLaws.{held_exactly, holders_bit, holders_below, empty_exactly}
use Rattle.register.proofs.EntryLaws.{entries_at}
use Rattle.register.proofs.RegisterLaws.{nodes_long, holders_long, written, left_as_was, entries_first, entries_behind}

pub holders_exactly : HoldersExactly
unfolding numbered
holders_exactly fleet label zero n = let z = n.0 in absurd (omega arith)
holders_exactly fleet label (suc k) n =
    let tree = get_or (vehicles fleet) k [] in
    let number : suc k - 1 ≡ k = omega arith in
    let own = ap (λ (b : ℕ). bit_at b (label_holders label (vehicles fleet))) number ∙ holders_bit label (vehicles fleet) k in
    let exactly = held_exactly label tree in
    ((λ m. some_node label tree (exactly.0 (sym own ∙ m))), (λ h. own ∙ exactly.1 (node_counted label tree h.0 h.1 h.2)))

pub holders_small : HoldersSmall
holders_small fleet label f = lt_of_lt_of_le (holders_below label (vehicles fleet)) (pow_mono f.trees)

pub entry_of : EntryOf
entry_of fleet label h k =
    let e : 1 + (label - 1) ≡ label = omega arith in (
      entries_at (λ l. label_nodes l fleet) most_label 1 (label - 1) (omega arith) ∙ ap (λ (l : ℕ). label_nodes l fleet) e,
      entries_at (λ l. label_holders l (vehicles fleet)) most_label 1 (label - 1) (omega arith) ∙ ap (λ (l : ℕ). label_holders l (vehicles fleet)) e,
    )

pub zero_and_empty : ZeroAndEmpty
zero_and_empty fleet label =
    let exactly = empty_exactly label (vehicles fleet) in
    let same = ap (label_nodes label) (vehicles_join fleet) in
    ((λ e. exactly.0 (same ∙ e)), (λ e. sym same ∙ exactly.1 e))

register_numbered : (fleet nodes holders : List ℕ) → Numbered (register_rules fleet nodes holders)
register_numbered fleet nodes holders = and_rule 9 refl (and_rule 16 refl (and_rule 16 refl no_rule))

pub register_refused_exactly : RegisterRefusedExactly
unfolding register_answer
register_refused_exactly fleet nodes holders n h =
    let number = refused_number (refusal (register_rules fleet nodes holders)) most_label n h in
    let first = refused_exactly n (register_numbered fleet nodes holders) h in
    ((λ e. first.0 (number.0 e)), (λ b. number.1 (first.1 b)))

pub register_answered_exactly : RegisterAnsweredExactly
unfolding register_answer
register_answered_exactly fleet nodes holders =
    let done = done_exactly (refusal (register_rules fleet nodes holders)) most_label in
    let kept = answered_exactly (register_numbered fleet nodes holders) in
    ((λ e. kept.0 (done.0 e)), (λ a. done.1 (kept.1 a)))

-- an answered call: the register's entries, and behind them what stood there
module _ (fleet nodes holders : List ℕ) (n : ℕ) (e : register_answer fleet nodes holders ≡ Done n) where
  answered : refusal (register_rules fleet nodes holders) ≡ 0
  unfolding register_answer
  answered = ((done_number (refusal (register_rules fleet nodes holders)) most_label n).0 e).0

  nodes_are : nodes_output fleet nodes holders ≡ register_nodes fleet ++ drop (length (register_nodes fleet)) nodes
  unfolding nodes_output
  nodes_are = written (refusal (register_rules fleet nodes holders)) (register_nodes fleet) nodes answered

  holders_are : holders_output fleet nodes holders ≡ register_holders fleet ++ drop (length (register_holders fleet)) holders
  unfolding holders_output
  holders_are = written (refusal (register_rules fleet nodes holders)) (register_holders fleet) holders answered

pub made_is_register : MadeIsRegister
made_is_register fleet nodes holders n e = record {
  nodes_are = entries_first _ _ _ (nodes_are fleet nodes holders n e) (nodes_long fleet);
  holders_are = entries_first _ _ _ (holders_are fleet nodes holders n e) (holders_long fleet);
}

pub register_behind_untouched : RegisterBehindUntouched
register_behind_untouched fleet nodes holders n e = (
  entries_behind _ (register_nodes fleet) nodes (nodes_are fleet nodes holders n e) (nodes_long fleet),
  entries_behind _ (register_holders fleet) holders (holders_are fleet nodes holders n e) (holders_long fleet),
)

pub register_refused_untouched : RegisterRefusedUntouched
unfolding register_answer nodes_output holders_output
register_refused_untouched fleet nodes holders n e =
    let number = refusal (register_rules fleet nodes holders) in
    (left_as_was number most_label n (register_nodes fleet) nodes e, left_as_was number most_label n (register_holders fleet) holders e)
