-- The claims about printing a page at a time. Each is proved under its name in lower case, in proofs/Claims.
use Rattle.std.specs.Prelude.{◌≡◌, ◌↔◌, List, [], ◌++◌, ℕ, suc, ◌*◌, length, take}
use Rattle.expansion.specs.Levels.{Tables}
use Rattle.search.specs.Counted.{Entry}
use Rattle.paper.specs.Paper.{page_bytes}
use Rattle.layout.specs.Pages.{blocks, key_pages, number_of_pages}
use Rattle.layout.specs.Claims.{Fit}
use Rattle.printing.specs.Printing.{blocks_ahead, still_to_print, PageIs}
use Rattle.printing.specs.declared.Printing.{Printing}
use Rattle.printing.specs.declared.Printed.{Printed}

-- So many pages that a printing gives, call after call: what they are together, and the printing after them.
pub data GivesPages (fleet : List ℕ) : Printing → (pages : ℕ) → List ℕ → Printing → Type 0 where
  no_page_yet : {printing : Printing} → GivesPages fleet printing 0 [] printing
  a_page : {printing after : Printing} {printed : Printed} {pages : ℕ} {later page page' : List ℕ} {t : Tables} → PageIs printing fleet page printed page' t → printed.len ≡ page_bytes
      → GivesPages fleet printed.printing pages later after → GivesPages fleet printing (suc pages) (take printed.len page' ++ later) after

-- The pages of a printing, one after the other, are what it had to print, as far as they go; each has its 3,942 bytes.
unfoldable pub InTurnClaim : Type 0
InTurnClaim = (fleet : List ℕ) (printing after : Printing) (pages : ℕ) (given : List ℕ) → GivesPages fleet printing pages given after
    → (given ++ still_to_print after fleet ≡ still_to_print printing fleet) × (length given ≡ pages * page_bytes)

-- Where a list is ahead, as at `Printing::begin`, the pages up to the last are the pages of the list, and as many.
unfoldable pub AllPagesClaim : Type 0
AllPagesClaim = (fleet : List ℕ) (entries : List Entry) (printing after : Printing) (pages : ℕ) (given : List ℕ) → Fit entries → blocks_ahead printing fleet ≡ blocks entries
    → GivesPages fleet printing pages given after → still_to_print after fleet ≡ [] → (given ≡ key_pages entries) × (pages ≡ number_of_pages entries)

-- There is no page exactly where nothing is left to print.
unfoldable pub NoPageClaim : Type 0
NoPageClaim = (printing : Printing) (fleet page : List ℕ) (printed : Printed) (page' : List ℕ) (t : Tables) → PageIs printing fleet page printed page' t
    → (printed.len ≡ 0) ↔ (still_to_print printing fleet ≡ [])
