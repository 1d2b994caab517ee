-- What the program's loop over the pages does. As with the key program, nothing here speaks of bytes written: it is the pages that the printing
-- gave, each of which the loop hands to `write_all` before it takes the next.
use Rattle.std.specs.Prelude.{◌≡◌, Bool, false, List, [], ℕ, suc}
use Rattle.lines.specs.Lines.{refusal_line}
use Rattle.search.specs.Counted.{Entry}
use Rattle.search.specs.declared.Request.{Request}
use Rattle.entries.specs.Entries.{list_of}
use Rattle.opening.specs.Asking.{asked_for, counted_for, refusal_for}
use Rattle.layout.specs.Pages.{key_pages}
use Rattle.printing.specs.Printing.{still_to_print}
use Rattle.printing.specs.Claims.{GivesPages}
use Rattle.printing.specs.declared.Printing.{Printing}
use Rattle.pages_main.specs.declared.Rest.{Rest}

-- A printing of the entries began, and the pages from it to the one that is left gave these bytes. Unless a write failed, they are all pages.
pub record PagesWritten (fleet : List ℕ) (entries : List Entry) (rest : Rest) : Type 0 where
  pub first : Printing
  pub begun : still_to_print first fleet ≡ key_pages entries
  pub pages : ℕ
  pub given : List ℕ
  pub by_pages : GivesPages fleet first pages given rest.printing
  pub all_given : rest.failed ≡ false → given ≡ key_pages entries

-- The line of a refusal was made, these bytes; `failed` tells whether they could not be written.
pub record RefusalTold (number : ℕ) (failed : Bool) : Type 0 where
  pub given : List ℕ
  pub is_line : given ≡ refusal_line number

-- What came of a request and a sheet: their refusal was told, or the pages were written out, as far as `failed` tells.
pub data PrintedFor (request : Request) (sheet : List ℕ) (failed : Bool) : Type 0 where
  refusal_told : (number : ℕ) → refusal_for request sheet ≡ suc number → RefusalTold (suc number) failed → PrintedFor request sheet failed
  pages_written : (rest : Rest) → refusal_for request sheet ≡ 0 → PagesWritten (counted_for request sheet) (list_of (asked_for request sheet)) rest → failed ≡ rest.failed → PrintedFor request sheet failed

-- The bytes that were given, and those that were left when a write failed.
unfoldable pub given_for : {request : Request} {sheet : List ℕ} {failed : Bool} → PrintedFor request sheet failed → List ℕ
given_for (refusal_told number e told) = told.given
given_for (pages_written rest e written f) = written.given

unfoldable pub left_for : {request : Request} {sheet : List ℕ} {failed : Bool} → PrintedFor request sheet failed → List ℕ
left_for (refusal_told number e told) = []
left_for {request} {sheet} (pages_written rest e written f) = still_to_print rest.printing (counted_for request sheet)
