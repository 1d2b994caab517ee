-- The claims of the library: from the number that a function returns its caller reads the layer's whole answer. `ReadTold` is proved as
-- `read_told`, and so on, in proofs/Claims.
use Rattle.std.specs.Prelude.{◌≡◌, List, ℕ}
use Rattle.sheet.specs.Reading.{read_answer}
use Rattle.sheet.specs.WriteCall.{write_answer}
use Rattle.vehicles.specs.Vehicle.{vehicle_answer}
use Rattle.register.specs.RegisterCall.{register_answer}
use Rattle.swap.specs.Swap.{Swap, swap_answer}
use Rattle.form.specs.FormCall.{form_answer}
use Rattle.occurrence.specs.SupportCall.{support_answer}
use Rattle.occurrence.specs.PlaceCall.{place_answer}
use Rattle.listing.specs.Listing.{Asked}
use Rattle.listing.specs.Calls.{Call, answerTo}
use Rattle.batch.specs.Batch.{Batch, batch_answer}
use Rattle.pages.specs.PagesCall.{pages_answer}
use Rattle.crossing.specs.Number.{number_of, placement_answer, reply_answer, told_answer, told_placement, told_reply}

unfoldable pub ReadTold : Type 0
ReadTold = (sheet output : List ℕ) → told_answer (number_of (read_answer sheet output)) ≡ read_answer sheet output

unfoldable pub WriteTold : Type 0
WriteTold = (pairs output : List ℕ) → told_answer (number_of (write_answer pairs output)) ≡ write_answer pairs output

unfoldable pub VehicleTold : Type 0
VehicleTold = (fleet : List ℕ) (vehicle : ℕ) → told_answer (number_of (vehicle_answer fleet vehicle)) ≡ vehicle_answer fleet vehicle

unfoldable pub FormTold : Type 0
FormTold = (tree output : List ℕ) → told_answer (number_of (form_answer tree output)) ≡ form_answer tree output

unfoldable pub SupportTold : Type 0
SupportTold = (fleet pattern : List ℕ) → told_answer (number_of (support_answer fleet pattern)) ≡ support_answer fleet pattern

unfoldable pub RegisterTold : Type 0
RegisterTold = (fleet nodes holders : List ℕ) → told_answer (number_of (register_answer fleet nodes holders)) ≡ register_answer fleet nodes holders

unfoldable pub SwapTold : Type 0
SwapTold = (s : Swap) → told_answer (number_of (swap_answer s)) ≡ swap_answer s

-- A placing is told from no.
unfoldable pub PlaceTold : Type 0
PlaceTold = (fleet : List ℕ) (vehicle : ℕ) (pattern output : List ℕ)
    → told_placement (number_of (placement_answer (place_answer fleet vehicle pattern output))) ≡ place_answer fleet vehicle pattern output

-- Of a start and of a step, with a register or without: the form's nodes and its support, end, or the refusal.
unfoldable pub CallTold : Type 0
CallTold = (call : Call) → told_reply (number_of (reply_answer (answerTo call).reply)) ≡ (answerTo call).reply

-- Of a batch, likewise: how many forms. What each of its numbers says is `ReadOffClaim` of batch.
unfoldable pub BatchTold : Type 0
BatchTold = (b : Batch) → told_answer (number_of (batch_answer b)) ≡ batch_answer b

-- Of pages, likewise: how many.
unfoldable pub PagesTold : Type 0
PagesTold = (asked : Asked) (output : List ℕ) → told_answer (number_of (pages_answer asked output)) ≡ pages_answer asked output
