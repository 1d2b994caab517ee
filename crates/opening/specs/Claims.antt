-- The claims about what is written for a request and a sheet. Each is proved under its name in lower case, in proofs/Claims.
use Rattle.std.specs.Prelude.{◌≡◌, List, ◌++◌, ◌↔◌, ℕ, suc}
use Rattle.lines.specs.Lines.{refusal_line, end_line}
use Rattle.expansion.specs.Levels.{Tables}
use Rattle.search.specs.Counted.{Entry}
use Rattle.search.specs.declared.Request.{Request}
use Rattle.listing.specs.Listing.{IsListing}
use Rattle.run.specs.Running.{lines, still_to_write, StepIs}
use Rattle.run.specs.Claims.{Gives, GivesParts}
use Rattle.run.specs.declared.Run.{Run}
use Rattle.run.specs.declared.Step.{Step}
use Rattle.opening.specs.Asking.{asked_for, refusal_for}
use Rattle.opening.specs.Output.{lines_for}

-- As far as they go, the lines of a run are the beginning of what it had to write. With the contract of `open`, that is `lines_for` of the request
-- and the sheet.
unfoldable pub WholeRunClaim : Type 0
WholeRunClaim = (request : Request) (sheet memory : List ℕ) (run after : Run) (given : List ℕ) → still_to_write run memory ≡ lines_for request sheet → Gives memory run given after → given ++ still_to_write after memory ≡ lines_for request sheet

-- By `EmptyTextClaim` (crate run) the lines given so far are the whole output exactly if the next step gives no bytes: who stops at the first
-- empty line has all of it, who stops before it has not.
unfoldable pub AllWrittenClaim : Type 0
AllWrittenClaim = (request : Request) (sheet memory : List ℕ) (run after : Run) (given : List ℕ) → still_to_write run memory ≡ lines_for request sheet → Gives memory run given after
    → (line : List ℕ) (step : Step) (line' : List ℕ) (t : Tables) → StepIs after memory line step line' t → (step.len ≡ 0) ↔ (given ≡ lines_for request sheet)

-- Parts in a row are the same output as the lines.
unfoldable pub PartsClaim : Type 0
PartsClaim = (request : Request) (sheet memory : List ℕ) (run after : Run) (given : List ℕ) → still_to_write run memory ≡ lines_for request sheet → GivesParts memory run given after → given ++ still_to_write after memory ≡ lines_for request sheet

-- "On a refusal it writes only the word refused, a blank, the number and a line end."
unfoldable pub RefusedSheetClaim : Type 0
RefusedSheetClaim = (request : Request) (sheet : List ℕ) (number : ℕ) → refusal_for request sheet ≡ suc number → lines_for request sheet ≡ refusal_line (suc number)

-- Else the lines of the list, whichever entries are proved to be it, and the end.
unfoldable pub ListedSheetClaim : Type 0
ListedSheetClaim = (request : Request) (sheet : List ℕ) (entries : List Entry) → refusal_for request sheet ≡ 0 → IsListing (asked_for request sheet) entries → lines_for request sheet ≡ lines entries ++ end_line
