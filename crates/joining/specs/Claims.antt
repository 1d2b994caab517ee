-- The claims about pages that are joined. Each is proved under its name in lower case, in proofs/Claims.
use Rattle.std.specs.Prelude.{◌≡◌, List, ◌++◌, ℕ}
use Rattle.lines.specs.Lines.{end_line}
use Rattle.search.specs.Counted.{Entry}
use Rattle.entries.specs.Entries.{list_of}
use Rattle.run.specs.Running.{lines}
use Rattle.key.specs.Input.{asked_by, input_refusal}
use Rattle.key.specs.Output.{key_output}
use Rattle.layout.specs.Pages.{key_pages}
use Rattle.layout.specs.Claims.{Fit}
use Rattle.joining.specs.Joining.{joined}

-- "With second lines joined on and spare blanks and blank lines gone, the pages are the list's lines as the key program writes them."
unfoldable pub JoinedClaim : Type 0
JoinedClaim = (entries : List Entry) → Fit entries → joined (key_pages entries) ≡ lines entries ++ end_line

-- So nothing of the key is missing on paper: for any input that is not refused, the pages of its list, joined, are all that the key program writes.
unfoldable pub KeyClaim : Type 0
KeyClaim = (input : List ℕ) → input_refusal input ≡ 0 → joined (key_pages (list_of (asked_by input))) ≡ key_output input
