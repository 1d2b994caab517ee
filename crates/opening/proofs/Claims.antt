-- The claims of specs/Claims, proved.
use mathlib.Core.Path.{◌≡◌, sym, ap, ◌∙◌}
use mathlib.Core.List.{List, ◌++◌, append-nil}
use Prim.Native.Nat.{ℕ}
use native.Mathlib.Omega.{arith}
use lib.ListN.{length, length-append}
use Rattle.listing.proofs.ListLaws.{list_unique}
use Rattle.entries.specs.Entries.{list_is}
use Rattle.run.specs.Running.{still_to_write}
use Rattle.run.specs.Claims.{EmptyTextClaim}
use Rattle.text.proofs.TextLaws.{no_elements}
use Rattle.run.proofs.Claims.{gives_beginning, empty_text_claim, parts_beginning}
use Rattle.opening.specs.Asking.{asked_for}
use Rattle.opening.specs.Output.{written, lines_for}
use Rattle.opening.specs.Claims.{WholeRunClaim, AllWrittenClaim, PartsClaim, RefusedSheetClaim, ListedSheetClaim}

pub whole_run_claim : WholeRunClaim
unfolding WholeRunClaim
whole_run_claim request sheet memory run after given e g = gives_beginning g ∙ e

pub all_written_claim : AllWrittenClaim
unfolding AllWrittenClaim EmptyTextClaim
all_written_claim request sheet memory run after given begun g line step line' t s =
    let whole : given ++ still_to_write after memory ≡ lines_for request sheet = gives_beginning g ∙ begun in
    let exactly = empty_text_claim after memory line step line' t s in (
      (λ e. sym (append-nil given) ∙ ap (λ (u : List ℕ). given ++ u) (sym (exactly.0 e)) ∙ whole),
      (λ e. exactly.1 (no_elements (still_to_write after memory) (omega (arith, ap length whole, ap length e, length-append given (still_to_write after memory))))),
    )

pub parts_claim : PartsClaim
unfolding PartsClaim
parts_claim request sheet memory run after given e g = parts_beginning g ∙ e

pub refused_sheet_claim : RefusedSheetClaim
unfolding RefusedSheetClaim lines_for written
refused_sheet_claim request sheet number e = rw e

pub listed_sheet_claim : ListedSheetClaim
unfolding ListedSheetClaim lines_for written
listed_sheet_claim request sheet entries e l = rw (e, list_unique (list_is (asked_for request sheet)) l)
