-- LAWS. The values of the answered calls are small: the limits of the fleet bound them.
use mathlib.Core.Path.{◌≡◌, refl, ap}
use mathlib.Core.List.{List, [], ◌∷◌}
use Prim.Native.Nat.{ℕ, zero, suc, ◌≤◌, ◌<◌}
use native.Mathlib.Omega.{arith}
use lib.ListN.{length}
use Rattle.terms.specs.Refusal.{refusal, AllKept, also, no_rule, and_rule}
use Rattle.terms.specs.Fleet.{IsFleet}
use Rattle.terms.proofs.RefusalLaws.{answered_exactly}
use Rattle.terms.proofs.RefusalParts.{kept_first, kept_later}
use Rattle.fleet.specs.Answering.{answer}
use Rattle.sheet.specs.Reading.{Reading, accepted, refused, reading, pairs_said, read_answer}
use Rattle.writing.specs.Writing.{writing}
use Rattle.sheet.specs.WriteCall.{write_rules, write_answer}
use Rattle.vehicles.specs.Vehicle.{vehicle_rules, numbered, tree_numbered, vehicle_answer}
use Rattle.sheet.proofs.WayBack.{said_is_fleet}
use Rattle.writing.proofs.WritingLaws.{writing_length}
use Rattle.register.specs.RegisterCall.{register_answer}
use Rattle.swap.specs.Swap.{Swap, new_fleet, swap_rules, swap_answer}
use Rattle.swap.proofs.Claims.{swap_numbered}
use Rattle.form.specs.FormCall.{form_rules, form_answer}
use Rattle.form.proofs.Claims.{form_numbered}
use mathlib.Core.Option.{Option, none, some}
use Rattle.occurrence.specs.Support.{support}
use Rattle.occurrence.specs.SupportCall.{support_rules, support_answer}
use Rattle.occurrence.proofs.CallLaws.{support_numbered, place_numbered}
use Rattle.occurrence.specs.PlaceCall.{place_rules, placement, place_answer}
use Rattle.terms.specs.Lightest.{Lightest, the_lightest}
use Rattle.terms.specs.LeftOut.{ShownWithout, placed, nowhere}
use Rattle.terms.proofs.RemarkLaws.{shown_without_remarks}
use Rattle.listing.specs.declared.Reply.{Reply}
use Rattle.listing.specs.Listing.{Asked, Listed}
use Rattle.listing.specs.ListedSelected.{listed_form}
use Rattle.listing.specs.Calls.{Call, start, step, asked_rules, rules, eligible, Eligible, found, found_is, asked_of, output_of, Outcome, outcome, respond, answerTo}
use Rattle.occurrence.proofs.SupportLaws.{support_most}
use Rattle.listing.proofs.AskedLaws.{kept_parts}
use Rattle.listing.proofs.CallLaws.{call_numbered}
use Rattle.batch.specs.Batch.{Batch, batch_answer}
use Rattle.filling.proofs.RowLaws.{row_few}
use Rattle.pages.specs.PagesCall.{pages_rule, pages_needed, pages_rules, pages_answer}
use Rattle.pages.proofs.PagesCallLaws.{pages_numbered}
use Rattle.crossing.specs.Number.{Fitting, most_value, placement_answer, reply_answer}

answer_fitting : (n value : ℕ) → (n ≡ 0 → value ≤ most_value) → Fitting (answer n value)
unfolding answer
answer_fitting zero value h = h refl
answer_fitting (suc n) value h = tt

pairs_read : (r : Reading) (sheet : List ℕ) → reading sheet ≡ r → length (pairs_said r) ≤ most_value
unfolding pairs_said
pairs_read (accepted pairs) sheet e = omega (arith, (said_is_fleet sheet pairs e).nodes)
pairs_read (refused number) sheet e = omega arith

pub read_fitting : (sheet output : List ℕ) → Fitting (read_answer sheet output)
unfolding read_answer
read_fitting sheet output = answer_fitting _ _ (λ _. pairs_read (reading sheet) sheet refl)

fleet_kept : (pairs output : List ℕ) → AllKept (write_rules pairs output) → IsFleet pairs
fleet_kept pairs output (also h _) = h

pub write_fitting : (pairs output : List ℕ) → Fitting (write_answer pairs output)
unfolding write_answer
write_fitting pairs output = answer_fitting _ _ (λ e. bounded (fleet_kept pairs output ((answered_exactly (and_rule 9 refl (and_rule 16 refl no_rule))).0 e)))
  where
    bounded : IsFleet pairs → length (writing pairs) ≤ most_value
    bounded f = omega (arith, f.nodes, writing_length pairs)

tree_nodes : (fleet : List ℕ) (vehicle : ℕ) → AllKept (vehicle_rules fleet vehicle) → length (tree_numbered fleet vehicle) ≤ most_value
unfolding numbered
tree_nodes fleet zero _ = omega arith
tree_nodes fleet (suc n) (also f (also within _)) = omega (arith, (f.each n (omega (arith, within.1))).nodes)

pub vehicle_fitting : (fleet : List ℕ) (vehicle : ℕ) → Fitting (vehicle_answer fleet vehicle)
unfolding vehicle_answer
vehicle_fitting fleet vehicle = answer_fitting _ _ (λ e. tree_nodes fleet vehicle ((answered_exactly (and_rule 9 refl (and_rule 15 refl no_rule))).0 e))

pub register_fitting : (fleet nodes holders : List ℕ) → Fitting (register_answer fleet nodes holders)
unfolding register_answer
register_fitting fleet nodes holders = answer_fitting _ _ (λ e. omega arith)

swap_nodes : (s : Swap) → AllKept (swap_rules s) → length (new_fleet s) ≤ most_value
unfolding swap_rules
swap_nodes s (also _ (also _ (also _ (also _ (also _ (also few _)))))) = omega (arith, few)

pub swap_fitting : (s : Swap) → Fitting (swap_answer s)
unfolding swap_answer
swap_fitting s = answer_fitting _ _ (λ e. swap_nodes s ((answered_exactly (swap_numbered s)).0 e))

form_nodes : (tree output : List ℕ) → AllKept (form_rules tree output) → length tree ≤ most_value
form_nodes tree output (also size _) = omega (arith, size.1)

pub form_fitting : (tree output : List ℕ) → Fitting (form_answer tree output)
unfolding form_answer
form_fitting tree output = answer_fitting _ _ (λ e. form_nodes tree output ((answered_exactly (form_numbered tree output)).0 e))

pub support_fitting : (fleet pattern : List ℕ) → Fitting (support_answer fleet pattern)
unfolding support_answer
support_fitting fleet pattern = answer_fitting _ _ (λ e. bounded ((answered_exactly (support_numbered fleet pattern)).0 e))
  where
    bounded : AllKept (support_rules fleet pattern) → support fleet pattern ≤ most_value
    bounded (also f _) = omega (arith, support_most fleet pattern f)

placement_fitting : {Out : ℕ → Type 0} {pattern tree : List ℕ} (n : ℕ) (s : ShownWithout Out pattern tree) → (n ≡ 0 → length pattern ≤ most_value) → Fitting (placement_answer (placement n s))
unfolding placement placement_answer
placement_fitting zero (placed tuple h) k = omega (arith, k refl, h.placing.placing.each_placed)
placement_fitting zero (nowhere _) k = omega arith
placement_fitting (suc n) s k = tt

pub place_fitting : (fleet : List ℕ) (vehicle : ℕ) (pattern output : List ℕ) → Fitting (placement_answer (place_answer fleet vehicle pattern output))
unfolding place_answer
place_fitting fleet vehicle pattern output =
    placement_fitting _ (shown_without_remarks pattern (tree_numbered fleet vehicle))
    (λ e. bounded ((answered_exactly (place_numbered fleet vehicle pattern output)).0 e))
  where
    bounded : AllKept (place_rules fleet vehicle pattern output) → length pattern ≤ most_value
    bounded (also _ (also size _)) = omega (arith, size.1)

pub asked_kept : (call : Call) → AllKept (rules call) → IsFleet (asked_of call).fleet × ((asked_of call).request.bound ≤ 16)
unfolding rules asked_of
asked_kept (start asked output) k = let p = kept_parts asked (kept_first (asked_rules asked) _ k) in (p.is_fleet, p.bound_kept.1)
asked_kept (step asked pattern output) k = let p = kept_parts asked (kept_first (asked_rules asked) _ k) in (p.is_fleet, p.bound_kept.1)

pub eligible_listed : (call : Call) (form : List ℕ) → Eligible call form → Listed (asked_of call) form
unfolding eligible asked_of
eligible_listed (start asked output) form h = h
eligible_listed (step asked pattern output) form h = h.0

count_most : (call : Call) (form : List ℕ) → IsFleet (asked_of call).fleet → (eligible call).count form ≤ 64
unfolding eligible asked_of
count_most (start asked output) form f = support_most asked.fleet form f
count_most (step asked pattern output) form f = support_most asked.fleet form f

respond_fitting : (call : Call) (n : ℕ) (f : Option (List ℕ)) (output : List ℕ) → (n ≡ 0 → AllKept (rules call)) → Lightest (Eligible call) f
    → Fitting (reply_answer (respond n f (eligible call).count output).reply)
unfolding respond reply_answer
respond_fitting call zero (some form) output k (the_lightest e _) =
    let r = asked_kept call (k refl) in
    omega (arith, count_most call form r.0, (listed_form (eligible_listed call form e)).up_to_bound, r.1)
respond_fitting call zero none output k l = omega arith
respond_fitting call (suc n) f output k l = tt

pub call_fitting : (call : Call) → Fitting (reply_answer (answerTo call).reply)
unfolding answerTo
call_fitting call = respond_fitting call (refusal (rules call)) (found call) (output_of call) (answered_exactly (call_numbered call)).0 (found_is call)

-- the parts of what a start or a step is proved to return and leave
pub reply_is : {reply : Reply} {output : List ℕ} {o : Outcome} → outcome reply output ≡ o → reply ≡ o.reply
reply_is e = ap (λ x. x.reply) e

pub output_is : {reply : Reply} {output : List ℕ} {o : Outcome} → outcome reply output ≡ o → output ≡ o.output
output_is e = ap (λ x. x.output) e

-- a batch gives no more forms than it has room for numbers
pub batch_fitting : (b : Batch) → length b.found ≤ most_value → Fitting (batch_answer b)
unfolding batch_answer
batch_fitting b h = answer_fitting _ _ (λ _. omega (arith, row_few b.asked b.pattern b.output (length b.output) (length b.found)))

-- the pages have room in the output, whose length is a number of 64 bits
pages_few : (asked : Asked) (output : List ℕ) → length output < 18446744073709551616 → AllKept (pages_rule (pages_needed asked) output ∷ []) → pages_needed asked ≤ most_value
pages_few asked output h (also room _) = omega (arith, room)

pub pages_fitting : (asked : Asked) (output : List ℕ) → length output < 18446744073709551616 → Fitting (pages_answer asked output)
unfolding pages_answer pages_rules
pages_fitting asked output h = answer_fitting _ _ (λ e. pages_few asked output h (kept_later (asked_rules asked) (pages_rule (pages_needed asked) output ∷ []) ((answered_exactly (pages_numbered asked output)).0 e)))
