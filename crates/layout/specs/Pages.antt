-- Document 02, "The key on a page": the list on pages.
use Rattle.std.specs.Prelude.{◌≡◌, List, [], ◌∷◌, ◌++◌, ℕ, suc, ◌+◌, ◌-◌, ◌≤◌, ◌<◌, length}
use Rattle.std.proofs.Math.Logic.{ite}
use Rattle.std.proofs.Math.Decide.{dec_le}
use Rattle.search.specs.Counted.{Entry}
use Rattle.paper.specs.Paper.{page_lines, Line, Block, form_lines, end_block, blank_lines, bytes_of}

-- All that goes on the pages, in its order: the lines of each form, and "the line `end` comes after the forms".
unfoldable pub blocks : List Entry → List Block
blocks [] = end_block ∷ []
blocks (entry ∷ entries) = form_lines entry.held entry.form ∷ blocks entries

-- WHAT PAGES ARE. A page is the blocks on it, so that none is "split over two pages".
abbrev pub Page : Type 0
Page = List Block

-- Lists one after the other, in one.
module _ {A : Type 0} where
  unfoldable pub concat : List (List A) → List A
  concat [] = []
  concat (s ∷ later) = s ++ concat later

-- The lines of a page: those of its blocks, "blank lines at its foot".
unfoldable pub filled : Page → List Line
filled page = concat page ++ blank_lines (page_lines - length (concat page))

unfoldable pub all_filled : List Page → List Line
all_filled [] = []
all_filled (page ∷ later) = filled page ++ all_filled later

-- How many lines the first block of a page has.
unfoldable pub first_size : Page → ℕ
first_size [] = 0
first_size (block ∷ later) = length block

-- Pages, where so many lines of the first one were taken before (none, but on the way through a proof): the blocks of each fit on it, and it
-- "is left .. only when the next form or `end` does not fit".
pub data Turned : (used : ℕ) → List Page → Type 0 where
  last_page : {used : ℕ} {page : Page} → used + length (concat page) ≤ page_lines → Turned used (page ∷ [])
  turned : {used : ℕ} {page next : Page} {later : List Page} → used + length (concat page) ≤ page_lines → page_lines < used + length (concat page) + first_size next
      → Turned 0 (next ∷ later) → Turned used (page ∷ next ∷ later)

-- The pages of some blocks.
pub record ArePages (given : List Block) (pages : List Page) : Type 0 where
  pub all_in_order : concat pages ≡ given
  pub left_late : Turned 0 pages

-- HOW THEY ARE LAID, block by block: all lines from a point of a page where so many of its lines are taken, up to the end of the last page.
unfoldable pub laid : (used : ℕ) → List Block → List Line
unfolding dec_le
laid used [] = blank_lines (page_lines - used)
laid used (block ∷ later) = ite (dec_le (used + length block) page_lines)
    (block ++ laid (used + length block) later)
    (blank_lines (page_lines - used) ++ (block ++ laid (length block) later))

-- The pages from there on, the one begun among them.
unfoldable pub pages_from : (used : ℕ) → List Block → ℕ
unfolding dec_le
pages_from used [] = 1
pages_from used (block ∷ later) = ite (dec_le (used + length block) page_lines) (pages_from (used + length block) later) (suc (pages_from (length block) later))

-- The list on pages, as bytes, and "the answer is the number of pages".
unfoldable pub key_pages : List Entry → List ℕ
key_pages entries = bytes_of (laid 0 (blocks entries))

unfoldable pub number_of_pages : List Entry → ℕ
number_of_pages entries = pages_from 0 (blocks entries)
