-- The claims of specs/Claims, proved.
use mathlib.Core.Path.{◌≡◌, refl}
use mathlib.Core.List.{List}
use mathlib.Core.Option.{Option, none, some}
use Prim.Native.Nat.{ℕ, zero, suc, ◌+◌, ◌*◌, ◌/◌, ◌%◌, ◌≤◌, ◌<◌}
use native.Mathlib.Omega.{arith}
use lib.ListN.{length}
use lib.IntN.{pos}
use Rattle.terms.specs.Refusal.{refusal, AllKept, also}
use Rattle.terms.specs.Lightest.{Lightest, the_lightest}
use Rattle.terms.specs.LeftOut.{ShownWithout, placed, nowhere}
use Rattle.terms.proofs.RemarkLaws.{shown_without_remarks}
use Rattle.terms.proofs.RefusalLaws.{answered_exactly}
use Rattle.fleet.specs.Answering.{answer}
use Rattle.sheet.specs.Reading.{read_answer}
use Rattle.sheet.specs.WriteCall.{write_answer}
use Rattle.vehicles.specs.Vehicle.{tree_numbered, vehicle_answer}
use Rattle.register.specs.RegisterCall.{register_answer}
use Rattle.swap.specs.Swap.{swap_answer}
use Rattle.form.specs.FormCall.{form_answer}
use Rattle.occurrence.specs.declared.Placement.TheVariants.{Placed}
use Rattle.occurrence.specs.SupportCall.{support_answer}
use Rattle.occurrence.specs.PlaceCall.{place_rules, placement, place_answer}
use Rattle.listing.specs.declared.Reply.TheVariants.{Form}
use Rattle.listing.specs.ListedSelected.{listed_form}
use Rattle.listing.specs.Calls.{Call, rules, eligible, Eligible, found, found_is, output_of, respond, answerTo}
use Rattle.occurrence.proofs.CallLaws.{place_numbered}
use Rattle.listing.proofs.CallLaws.{call_numbered}
use Rattle.batch.specs.Batch.{batch_answer}
use Rattle.pages.specs.PagesCall.{pages_answer}
use Rattle.crossing.specs.Number.{number_of, placement_answer, reply_answer, told_answer, told_placement, told_reply}
use Rattle.capi.specs.Claims.{ReadTold, WriteTold, VehicleTold, FormTold, SupportTold, RegisterTold, SwapTold, PlaceTold, CallTold, BatchTold, PagesTold}
use Rattle.capi.proofs.ValueLaws.{asked_kept, eligible_listed}

answer_told : (n value : ℕ) → told_answer (number_of (answer n value)) ≡ answer n value
unfolding answer number_of told_answer
answer_told zero value = refl
answer_told (suc n) value = refl

pub read_told : ReadTold
unfolding ReadTold read_answer
read_told sheet output = answer_told _ _

pub write_told : WriteTold
unfolding WriteTold write_answer
write_told pairs output = answer_told _ _

pub vehicle_told : VehicleTold
unfolding VehicleTold vehicle_answer
vehicle_told fleet vehicle = answer_told _ _

pub form_told : FormTold
unfolding FormTold form_answer
form_told tree output = answer_told _ _

pub support_told : SupportTold
unfolding SupportTold support_answer
support_told fleet pattern = answer_told _ _

pub register_told : RegisterTold
unfolding RegisterTold register_answer
register_told fleet nodes holders = answer_told _ _

pub swap_told : SwapTold
unfolding SwapTold swap_answer
swap_told s = answer_told _ _

-- a placing has a node, so its number is not that of no
placed_told : (nodes : ℕ) → 1 ≤ nodes → told_placement (pos nodes) ≡ Placed nodes
unfolding told_placement
placed_told zero h = absurd (omega arith)
placed_told (suc n) h = refl

placement_told : {Out : ℕ → Type 0} {pattern tree : List ℕ} (n : ℕ) (s : ShownWithout Out pattern tree) → (n ≡ 0 → 1 ≤ length pattern) → told_placement (number_of (placement_answer (placement n s))) ≡ placement n s
unfolding placement placement_answer number_of told_placement
placement_told zero (placed tuple h) k = placed_told (length tuple) (omega (arith, k refl, h.placing.placing.each_placed))
placement_told zero (nowhere _) k = refl
placement_told (suc n) s k = refl

pub place_told : PlaceTold
unfolding PlaceTold place_answer
place_told fleet vehicle pattern output = placement_told _ (shown_without_remarks pattern (tree_numbered fleet vehicle)) (λ e. some_node ((answered_exactly (place_numbered fleet vehicle pattern output)).0 e))
  where
    some_node : AllKept (place_rules fleet vehicle pattern output) → 1 ≤ length pattern
    some_node (also _ (also size _)) = size.0

-- a form has a node and fewer than 100, so nodes and support are read off
form_number_told : (nodes held : ℕ) → 1 ≤ nodes → nodes < 100 → told_reply (pos (100 * held + nodes)) ≡ Form nodes held
unfolding told_reply
form_number_told nodes held h k = go (100 * held + nodes) refl
  where
    go : (n : ℕ) → n ≡ 100 * held + nodes → told_reply (pos n) ≡ Form nodes held
    go zero e = absurd (omega arith)
    go (suc n) e =
        let a : suc n % 100 ≡ nodes = omega arith in
        let b : suc n / 100 ≡ held = omega arith in
        rw (a, b)

respond_told : (call : Call) (n : ℕ) (f : Option (List ℕ)) (output : List ℕ) → (n ≡ 0 → AllKept (rules call)) → Lightest (Eligible call) f
    → told_reply (number_of (reply_answer (respond n f (eligible call).count output).reply)) ≡ (respond n f (eligible call).count output).reply
unfolding respond reply_answer number_of told_reply
respond_told call zero (some form) output k (the_lightest e _) =
    let s = listed_form (eligible_listed call form e) in
    form_number_told (length form) _ s.in_form.is_tree.has_root (omega (arith, s.up_to_bound, (asked_kept call (k refl)).1))
respond_told call zero none output k l = refl
respond_told call (suc n) f output k l = refl

pub call_told : CallTold
unfolding CallTold answerTo
call_told call = respond_told call (refusal (rules call)) (found call) (output_of call) (answered_exactly (call_numbered call)).0 (found_is call)

pub batch_told : BatchTold
unfolding BatchTold batch_answer
batch_told b = answer_told _ _

pub pages_told : PagesTold
unfolding PagesTold pages_answer
pages_told asked output = answer_told _ _
