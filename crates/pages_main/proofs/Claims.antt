-- The claims of specs/Claims, proved.
use mathlib.Core.Path.{sym, ap, ◌∙◌}
use mathlib.Core.List.{append-nil}
use Prim.Native.Nat.{ℕ}
use Rattle.entries.specs.Entries.{list_of}
use Rattle.key.specs.Input.{asked_by}
use Rattle.opening.specs.Output.{written, lines_for}
use Rattle.printing.specs.Claims.{InTurnClaim}
use Rattle.printing.proofs.Claims.{in_turn_claim}
use Rattle.joining.specs.Claims.{KeyClaim}
use Rattle.joining.proofs.Claims.{key_claim}
use Rattle.joining.specs.Joining.{joined}
use Rattle.pages_main.specs.Output.{output_for, paper_output}
use Rattle.pages_main.specs.Writing.{refusal_told, pages_written, given_for, left_for}
use Rattle.pages_main.specs.Claims.{PagesProgramClaim, SameKeyClaim}

pub pages_program_claim : PagesProgramClaim
unfolding PagesProgramClaim InTurnClaim paper_output output_for given_for left_for
pages_program_claim input failed (refusal_told number e t) = rw e (append-nil t.given ∙ t.is_line, λ _. t.is_line)
pages_program_claim input failed (pages_written rest e w f) =
    rw e ((in_turn_claim _ w.first rest.printing w.pages w.given w.by_pages).0 ∙ w.begun, λ h. w.all_given (sym f ∙ h))

pub same_key_claim : SameKeyClaim
unfolding SameKeyClaim KeyClaim paper_output output_for lines_for written
same_key_claim input = ((λ e. ap (λ (n : ℕ). joined (output_for n (list_of (asked_by input)))) e ∙ key_claim input e), (λ number e. rw e))
