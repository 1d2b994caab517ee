-- Document 02, "The key on a page": all that the program for pages writes, from the bytes of its input, which are those of the key program.
use Rattle.std.specs.Prelude.{List, ℕ, zero, suc}
use Rattle.lines.specs.Lines.{refusal_line}
use Rattle.search.specs.Counted.{Entry}
use Rattle.entries.specs.Entries.{list_of}
use Rattle.key.specs.Input.{input_refusal, asked_by}
use Rattle.layout.specs.Pages.{key_pages}

-- The pages of the list; on a refusal the line that the key program writes.
unfoldable pub output_for : (refusal : ℕ) → List Entry → List ℕ
output_for zero entries = key_pages entries
output_for (suc number) entries = refusal_line (suc number)

unfoldable pub paper_output : List ℕ → List ℕ
paper_output input = output_for (input_refusal input) (list_of (asked_by input))
