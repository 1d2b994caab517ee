-- LAWS. The cases at the edge hold: by decisions that compute.
use mathlib.Core.Path.{◌≡◌, refl, ap, ◌∙◌, sym}
use mathlib.Core.Bool.{Bool, true, false, ◌&&◌, true≢false}
use mathlib.Core.List.{List, [], ◌∷◌, ◌++◌}
use mathlib.Core.Option.{Option, none, some}
use Prim.Native.Nat.{ℕ, zero, suc, ◌-◌, ◌≤◌}
use native.Mathlib.Omega.{arith}
use native.Mathlib.Decide.{dec_le, ℕ_discrete}
use lib.ListN.{length, get_or, take, drop}
use lib.Seq.{get_or-take}
use Rattle.terms.specs.Tree.{IsTree}
use Rattle.terms.specs.Order.{Lighter}
use Rattle.terms.specs.Form.{IsForm}
use Rattle.terms.specs.Placing.{HeaviestPlacing}
use Rattle.terms.specs.LeftOut as w
use Rattle.terms.specs.LeftOut.{HeaviestWithout, ShownWithout}
use Rattle.terms.specs.Remarks.{Remark, HeldBy, HoldsRemark}
use Rattle.terms.specs.Fleet.{vehicles, in_front}
use Rattle.terms.specs.Lightest.{the_lightest, none_at_all}
use Rattle.terms.specs.Refusal.{refusal, output_after}
use Rattle.terms.proofs.Decide.{both?, not?, within?}
use Rattle.terms.proofs.OrderLaws.{lighter?}
use Rattle.terms.proofs.TreeLaws.{tree?}
use Rattle.terms.proofs.FormLaws.{form_unique}
use Rattle.terms.proofs.MatchingLaws.{same_length}
use Rattle.terms.proofs.LeftHeavyLaws.{in_form?, form?}
use Rattle.terms.proofs.OccursDecided.{occurs?, heaviest?}
use Rattle.terms.proofs.RemarkLaws.{holds_remark?, held_by?, heaviest_kept, shown_without_remarks}
use Rattle.terms.proofs.RemainingPlacing.{heaviest_without_unique}
use Rattle.terms.proofs.FleetLaws.{fleet?}
use Rattle.fleet.specs.declared.Answer.TheVariants.{Done}
use Rattle.fleet.specs.Answering.{answer}
use Rattle.vehicles.specs.Vehicle.{numbered, tree_numbered}
use Rattle.register.specs.Register.{most_label, label_nodes, label_holders, entries}
use Rattle.register.specs.RegisterCall.{register_rules, register_answer, nodes_output, holders_output}
use Rattle.register.proofs.Claims.{entry_of, made_is_register}
use Rattle.form.specs.FormCall.{form_of, form_rules, form_answer, form_output}
use Rattle.form.proofs.FormSteps.{form_of_is}
use Rattle.occurrence.specs.Support.{support, holding, counted}
use Rattle.occurrence.specs.SupportCall.{support_rules, support_answer}
use Rattle.occurrence.specs.declared.Placement.TheVariants.{Placed, Nowhere}
use Rattle.occurrence.specs.PlaceCall.{place_rules, placement, placement_output, place_answer, place_output}
use Rattle.listing.specs.declared.Reply.TheVariants.{Form}
use Rattle.listing.specs.Listing.{Asked, Listed}
use Rattle.listing.specs.ListedSelected.{listed?}
use Rattle.listing.specs.Calls.{step, rules, eligible, outcome, respond, output_of}
use Rattle.listing.proofs.CallLaws.{answer_found, answer_refused}
use Rattle.cases.specs.Cases.{Case, form_is, placed, not_there, support_is, comes_next, comes_end, turned_away, entry_is, Holds, AllHold, no_case, and_holds, table, the_fleet, at_2_and_3, asking, remarked, the_output, thousand}
use Rattle.cases.proofs.Words.{none_between?, none_heavier?}

-- what is to be found for each kind of case
form_holds : (tree output form : List ℕ) → IsTree tree → IsForm tree form → refusal (form_rules tree output) ≡ 0 → Holds (form_is tree output form)
unfolding Holds form_answer form_output answer output_after
form_holds tree output form t f e =
    let z : form_of tree ≡ form = form_unique (form_of_is tree t) f in
    rw (e, z, same_length f.same) (refl, refl)

module _ (fleet : List ℕ) (vehicle : ℕ) (pattern output : List ℕ) (e : refusal (place_rules fleet vehicle pattern output) ≡ 0) where
  abbrev tree : List ℕ
  tree = tree_numbered fleet vehicle

  placed_holds : (tuple : List ℕ) → ¬ HoldsRemark pattern → HeaviestPlacing pattern tree tuple → Holds (placed fleet vehicle pattern output tuple)
  unfolding Holds place_answer place_output placement placement_output
  placed_holds tuple n h = rw e (go (shown_without_remarks pattern tree))
    where
      k : HeaviestWithout (Remark tree) pattern tree tuple
      k = heaviest_kept n h

      go : (s : ShownWithout (Remark tree) pattern tree) → (placement 0 s ≡ Placed (length tuple)) × (placement_output 0 s output ≡ tuple ++ drop (length tuple) output)
      go (w.placed m o) = rw (heaviest_without_unique o k) (refl, refl)
      go (w.nowhere o) = absurd (o (record { tuple = tuple; placing = k.placing }))

  nowhere_holds : ¬ HeldBy pattern tree → Holds (not_there fleet vehicle pattern output)
  unfolding Holds place_answer place_output placement placement_output
  nowhere_holds n = rw e (go (shown_without_remarks pattern tree))
    where
      go : (s : ShownWithout (Remark tree) pattern tree) → (placement 0 s ≡ Nowhere) × (placement_output 0 s output ≡ output)
      go (w.placed m k) = absurd (n (record { tuple = m; placing = k.placing }))
      go (w.nowhere _) = (refl, refl)

next_holds : (asked : Asked) (pattern output form : List ℕ) (held : ℕ) → refusal (rules (step asked pattern output)) ≡ 0 → Listed asked form × Lighter pattern form
    → ((other : List ℕ) → Listed asked other × Lighter pattern other → ¬ Lighter other form) → support asked.fleet form ≡ held → Holds (comes_next asked pattern output form held)
unfolding Holds eligible respond output_of
next_holds asked pattern output form held e l n s =
    answer_found (step asked pattern output) (some form) e (the_lightest l n)
    ∙ ap (λ (k : ℕ). outcome (Form (length form) k) (form ++ drop (length form) output)) s

end_holds : (asked : Asked) (pattern output : List ℕ) → refusal (rules (step asked pattern output)) ≡ 0 → ((other : List ℕ) → ¬ (Listed asked other × Lighter pattern other)) → Holds (comes_end asked pattern output)
unfolding Holds eligible respond output_of
end_holds asked pattern output e n = answer_found (step asked pattern output) none e (none_at_all n)

turned_holds : (asked : Asked) (pattern output : List ℕ) (number : ℕ) → refusal (rules (step asked pattern output)) ≡ number → 1 ≤ number → Holds (turned_away asked pattern output number)
unfolding Holds output_of
turned_holds asked pattern output zero e h = absurd (omega arith)
turned_holds asked pattern output (suc number) e h = answer_refused (step asked pattern output) number e

entry_holds : (fleet nodes holders : List ℕ) (label count set : ℕ) → refusal (register_rules fleet nodes holders) ≡ 0 → (1 ≤ label) × (label ≤ most_label)
    → label_nodes label fleet ≡ count → label_holders label (vehicles fleet) ≡ set → Holds (entry_is fleet nodes holders label count set)
unfolding Holds register_answer answer
entry_holds fleet nodes holders label count set e h n k =
    let done : register_answer fleet nodes holders ≡ Done most_label = ap (λ (r : ℕ). answer r most_label) e in
    let made = made_is_register fleet nodes holders most_label done in
    let entry = entry_of fleet label h.0 h.1 in
    let at : (l : List ℕ) → get_or (take most_label l) (label - 1) 0 ≡ get_or l (label - 1) 0 = λ l. get_or-take most_label l (label - 1) 0 (omega (arith, h.0, h.1)) in (
      done,
      sym (at (nodes_output fleet nodes holders)) ∙ ap (λ (l : List ℕ). get_or l (label - 1) 0) made.nodes_are ∙ entry.0 ∙ n,
      sym (at (holders_output fleet nodes holders)) ∙ ap (λ (l : List ℕ). get_or l (label - 1) 0) made.holders_are ∙ entry.1 ∙ k,
    )

-- a proof that the case holds, if the computation finds one
unfoldable pub found_if : {A B : Type 0} → (A → B) → Dec A → Option B
found_if f (yes a) = some (f a)
found_if f (no _) = none

unfoldable form_found : (tree output form : List ℕ) → Dec (IsTree tree) → Option (Holds (form_is tree output form))
unfolding found_if both? form? refusal within? tree? dec_le ℕ_discrete
form_found s output form (yes t) = found_if (λ z. form_holds s output form t z.0 z.1) (both? (form? s form t) (ℕ_discrete (refusal (form_rules s output)) 0))
form_found s output form (no _) = none

unfoldable next_found : (asked : Asked) (pattern output form : List ℕ) (held : ℕ) → Dec (1 ≤ asked.request.threshold) → Option (Holds (comes_next asked pattern output form held))
unfolding found_if both? none_between? listed? lighter? support holding counted held_by? holds_remark? occurs? vehicles in_front refusal rules within? fleet? tree? in_form? dec_le ℕ_discrete
next_found asked pattern output form held (no _) = none
next_found asked pattern output form held (yes h) =
    found_if (λ z. next_holds asked pattern output form held z.0 z.1.0 z.1.1.0 z.1.1.1)
    (both? (ℕ_discrete (refusal (rules (step asked pattern output))) 0)
    (both? (both? (listed? asked form) (lighter? pattern form)) (both? (none_between? asked h pattern form) (ℕ_discrete (support asked.fleet form) held))))

unfoldable end_found : (asked : Asked) (pattern output : List ℕ) → Dec (1 ≤ asked.request.threshold) → Option (Holds (comes_end asked pattern output))
unfolding found_if both? none_heavier? refusal rules within? fleet? tree? in_form? dec_le ℕ_discrete
end_found asked pattern output (no _) = none
end_found asked pattern output (yes h) =
    found_if (λ z. end_holds asked pattern output z.0 z.1) (both? (ℕ_discrete (refusal (rules (step asked pattern output))) 0) (none_heavier? asked h pattern))

unfoldable computed : (c : Case) → Option (Holds c)
unfolding Holds found_if both? form_found next_found end_found rules tree? heaviest? held_by? holds_remark? occurs? not? numbered vehicles in_front refusal within? fleet? dec_le ℕ_discrete support_answer answer support holding counted label_nodes label_holders
computed (form_is tree output form) = form_found tree output form (tree? tree)
computed (placed fleet vehicle pattern output tuple) =
    found_if (λ z. placed_holds fleet vehicle pattern output z.0 tuple z.1.0 z.1.1)
    (both? (ℕ_discrete (refusal (place_rules fleet vehicle pattern output)) 0) (both? (not? (holds_remark? pattern)) (heaviest? pattern (tree_numbered fleet vehicle) tuple)))
computed (not_there fleet vehicle pattern output) =
    found_if (λ z. nowhere_holds fleet vehicle pattern output z.0 z.1) (both? (ℕ_discrete (refusal (place_rules fleet vehicle pattern output)) 0) (not? (held_by? pattern (tree_numbered fleet vehicle))))
computed (support_is fleet pattern held) =
    found_if (λ z. ap (λ (n : ℕ). answer n (support fleet pattern)) z.0 ∙ ap Done z.1) (both? (ℕ_discrete (refusal (support_rules fleet pattern)) 0) (ℕ_discrete (support fleet pattern) held))
computed (comes_next asked pattern output form held) = next_found asked pattern output form held (dec_le 1 asked.request.threshold)
computed (entry_is fleet nodes holders label count set) =
    found_if (λ z. entry_holds fleet nodes holders label count set z.0 z.1.0 z.1.1.0 z.1.1.1) (both? (ℕ_discrete (refusal (register_rules fleet nodes holders)) 0)
    (both? (within? 1 label most_label) (both? (ℕ_discrete (label_nodes label fleet) count) (ℕ_discrete (label_holders label (vehicles fleet)) set))))
computed (comes_end asked pattern output) = end_found asked pattern output (dec_le 1 asked.request.threshold)
computed (turned_away asked pattern output number) = found_if (λ z. turned_holds asked pattern output number z.0 z.1) (both? (ℕ_discrete (refusal (rules (step asked pattern output))) number) (dec_le 1 number))

unfoldable is_found : {A : Type 0} → Option A → Bool
is_found none = false
is_found (some _) = true

unfoldable all_found : List Case → Bool
unfolding is_found computed
all_found [] = true
all_found (c ∷ cs) = is_found (computed c) && all_found cs

all_found_hold : (cs : List Case) → all_found cs ≡ true → AllHold cs
unfolding all_found
all_found_hold [] e = no_case
all_found_hold (c ∷ cs) e = go (computed c) e (λ q. all_found_hold cs q)
  where
    go : (o : Option (Holds c)) → is_found o && all_found cs ≡ true → (all_found cs ≡ true → AllHold cs) → AllHold (c ∷ cs)
    go none q f = absurd (true≢false (sym q))
    go (some h) q f = and_holds h (f q)

-- THE CLAIM: every case of the table holds.
pub cases_hold : AllHold table
unfolding table the_fleet at_2_and_3 asking remarked the_output thousand entries all_found
cases_hold = all_found_hold table refl
