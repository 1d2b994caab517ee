-- Document 01, "The list", the key program: all that is written for a request and a sheet.
use Rattle.std.specs.Prelude.{List, ◌++◌, ℕ, zero, suc}
use Rattle.lines.specs.Lines.{refusal_line, end_line}
use Rattle.search.specs.Counted.{Entry}
use Rattle.search.specs.declared.Request.{Request}
use Rattle.entries.specs.Entries.{list_of}
use Rattle.run.specs.Running.{lines}
use Rattle.opening.specs.Asking.{refusal_for, asked_for}

-- The lines of the list's entries, "then the line `end`"; "on a refusal it writes only the word refused, a blank, the number and a line end"
unfoldable pub written : (refusal : ℕ) → List Entry → List ℕ
written zero entries = lines entries ++ end_line
written (suc number) entries = refusal_line (suc number)

unfoldable pub lines_for : Request → (sheet : List ℕ) → List ℕ
lines_for request sheet = written (refusal_for request sheet) (list_of (asked_for request sheet))
