-- The claims about the list on pages. Each is proved under its name in lower case, in proofs/Claims.
use Rattle.std.specs.Prelude.{◌≡◌, List, [], ◌∷◌, ◌-◌, ◌*◌, ◌≤◌, ◌<◌, length}
use Rattle.terms.specs.Fleet.{IsFleet}
use Rattle.matching.specs.Limits.{most_nodes_of_a_pattern}
use Rattle.search.specs.Counted.{Entry}
use Rattle.listing.specs.Listing.{Asked, IsListing}
use Rattle.text.specs.Text.{end_word}
use Rattle.paper.specs.Paper.{page_lines, page_bytes, pairs_a_line, Line, Block, row, blank_lines, Each, HasRoom, bytes_of}
use Rattle.paper.specs.Claims.{IsRow}
use Rattle.layout.specs.Pages.{blocks, Page, filled, all_filled, ArePages, laid, pages_from, key_pages, number_of_pages}

-- Entries for which the paper has room.
abbrev pub Fit : List Entry → Type 0
Fit entries = Each (λ entry. HasRoom entry.held entry.form) entries

-- What is listed has room: the list of any request within the limits, over an accepted fleet.
unfoldable pub RoomClaim : Type 0
RoomClaim = (asked : Asked) (entries : List Entry) → IsFleet asked.fleet → asked.request.bound ≤ most_nodes_of_a_pattern → IsListing asked entries → Fit entries

-- There are pages of the list, each form whole on one of them, and each page left only when the next form or `end` does not fit; their lines,
-- with blank lines at the feet, are the bytes of the list on pages, "every page 54 lines", every line 72 columns; and the answer is how many they are.
pub record OnPages (entries : List Entry) : Type 0 where
  pub pages : List Page
  pub are_pages : ArePages (blocks entries) pages
  pub laid_so : key_pages entries ≡ bytes_of (all_filled pages)
  pub every_page : Each (λ page. length (filled page) ≡ page_lines) pages
  pub every_line : Each IsRow (all_filled pages)
  pub how_many : number_of_pages entries ≡ length pages

unfoldable pub OnPagesClaim : Type 0
OnPagesClaim = (entries : List Entry) → Fit entries → OnPages entries

-- There are no others: `ArePages` determines them.
unfoldable pub UniqueClaim : Type 0
UniqueClaim = (entries : List Entry) (pages other : List Page) → ArePages (blocks entries) pages → ArePages (blocks entries) other → pages ≡ other

-- So the bytes are 3,942 a page.
unfoldable pub SizeClaim : Type 0
SizeClaim = (entries : List Entry) → Fit entries → length (key_pages entries) ≡ number_of_pages entries * page_bytes

-- The edges of a page, case by case.
pub record EdgesClaim : Type 0 where
  -- Nothing is listed: one page, `end` on its first line, "and blank lines fill its page".
  pub empty_pages : number_of_pages [] ≡ 1
  pub empty_lines : laid 0 (blocks []) ≡ row end_word ∷ blank_lines (page_lines - 1)
  -- One line is left, and nothing else to come: `end` is the last line of the page.
  pub last_pages : pages_from (page_lines - 1) (blocks []) ≡ 1
  pub last_lines : laid (page_lines - 1) (blocks []) ≡ row end_word ∷ []
  -- The page is just full: `end` goes alone on the next, and no blank line comes between.
  pub full_pages : pages_from page_lines (blocks []) ≡ 2
  pub full_lines : laid page_lines (blocks []) ≡ row end_word ∷ blank_lines (page_lines - 1)
  -- So it is after as many forms of one line as a page has lines; with fewer there is one page.
  pub full_list : (entries : List Entry) → Each (λ entry. length entry.form ≤ pairs_a_line) entries → length entries ≡ page_lines → number_of_pages entries ≡ 2
  pub fewer : (entries : List Entry) → Each (λ entry. length entry.form ≤ pairs_a_line) entries → length entries < page_lines → number_of_pages entries ≡ 1
  -- A form of two lines where one is left is "never split": that line stays blank, and both go on the next page. Where two are left they stay.
  pub two_over : (first second : Line) (later : List Block) → laid (page_lines - 1) ((first ∷ second ∷ []) ∷ later) ≡ row [] ∷ first ∷ second ∷ laid 2 later
  pub two_stay : (first second : Line) (later : List Block) → laid (page_lines - 2) ((first ∷ second ∷ []) ∷ later) ≡ first ∷ second ∷ laid page_lines later
