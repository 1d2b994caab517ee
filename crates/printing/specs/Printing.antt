-- Document 02, "The key on a page", a page at a time: what is still to be printed at each point.
use Rattle.std.specs.Prelude.{◌≡◌, Option, Some, None, ◌⊎◌, List, [], ◌∷◌, ◌++◌, ℕ, zero, suc, ◌-◌, ◌≤◌, length, take, drop}
use Rattle.matching.specs.Limits.{most_nodes_of_a_pattern}
use Rattle.expansion.specs.Levels.{Tables, AllTables}
use Rattle.text.specs.Text.{decimal}
use Rattle.text.specs.Building.{Put}
use Rattle.search.specs.Counted.{Entry}
use Rattle.terms.specs.Remarks.{HoldsRemark}
use Rattle.search.specs.Sought.{Search, search_in}
use Rattle.search.specs.Search.{pairs_of, pattern_after, NextInput}
use Rattle.search.specs.declared.Request.{Request}
use Rattle.search.specs.declared.Pattern.{Pattern}
use Rattle.search.specs.declared.FrequentPattern.{FrequentPattern}
use Rattle.entries.specs.Entries.{rest_of}
use Rattle.paper.specs.Paper.{page_lines, page_bytes, support_columns, Block, form_lines, end_block, blank_lines, bytes_of}
use Rattle.layout.specs.Pages.{blocks, laid}
use Rattle.printing.specs.declared.Upcoming.{Upcoming}
use Rattle.printing.specs.declared.Upcoming.TheVariants.{Form, EndLine, Nothing}
use Rattle.printing.specs.declared.Printing.{Printing}
use Rattle.printing.specs.declared.Printed.{Printed}

-- The lines of what is ahead: of the form that was found, of `end`, or none.
unfoldable pub block_of : Upcoming → Pattern → Block
block_of (Form held) pattern = form_lines held (pairs_of pattern)
block_of EndLine pattern = end_block
block_of Nothing pattern = []

abbrev pub block_ahead : Printing → Block
block_ahead printing = block_of printing.ahead printing.pattern

-- All blocks ahead, where these are the entries after the pattern.
unfoldable pub blocks_from : Upcoming → Pattern → (rest : List Entry) → List Block
blocks_from (Form held) pattern rest = block_of (Form held) pattern ∷ blocks rest
blocks_from EndLine pattern rest = block_of EndLine pattern ∷ []
blocks_from Nothing pattern rest = []

abbrev pub blocks_ahead : Printing → (fleet : List ℕ) → List Block
blocks_ahead printing fleet = blocks_from printing.ahead printing.pattern (rest_of (search_in fleet printing.request) (pairs_of printing.pattern))

-- All that is still to be printed, from the top of a page; nothing where nothing is ahead.
unfoldable pub on_new_pages : List Block → List ℕ
on_new_pages [] = []
on_new_pages (block ∷ later) = bytes_of (laid 0 (block ∷ later))

abbrev pub still_to_print : Printing → (fleet : List ℕ) → List ℕ
still_to_print printing fleet = on_new_pages (blocks_ahead printing fleet)

-- The paper has room for what is ahead.
pub record OnPaper (printing : Printing) : Type 0 where
  pub within : printing.pattern.len ≤ most_nodes_of_a_pattern
  pub support_fits : (held : ℕ) → printing.ahead ≡ Form held → length (decimal held) ≤ support_columns

-- A form ahead can be gone on from: the tables are its pattern's.
unfoldable pub CanGoOn : Upcoming → Search → Pattern → (t : Tables) → Type 0
CanGoOn (Form held) search pattern t = NextInput search pattern t
CanGoOn EndLine search pattern t = Unit
CanGoOn Nothing search pattern t = Unit

-- A printing that `Printing::begin` began, with the tables that the call before it left.
pub record IsPrinting (printing : Printing) (fleet : List ℕ) (t : Tables) : Type 0 where
  pub on_paper : OnPaper printing
  pub all : AllTables fleet t
  pub ready : CanGoOn printing.ahead (search_in fleet printing.request) printing.pattern t

-- A printing that goes on with what a pattern's step found.
unfoldable pub ahead_for : Option FrequentPattern → Upcoming
ahead_for (Some found) = Form found.support
ahead_for None = EndLine

abbrev pub printing_from : Request → (given : Pattern) → Option FrequentPattern → Printing
printing_from request given next = record { ahead = ahead_for next; request = request; pattern = pattern_after given next }

-- What begins a printing: a request within its limits, a fleet with remarks taken out and its tables, and any tables of the levels, of the right
-- length.
pub record BeginInput (fleet : List ℕ) (request : Request) (t : Tables) : Type 0 where
  pub no_remarks : ¬ HoldsRemark fleet
  pub from_1 : 1 ≤ request.threshold
  pub bound_to_most : request.bound ≤ most_nodes_of_a_pattern
  pub all : AllTables fleet t

-- A printing after the block that was ahead.
pub record Onward (printing : Printing) (fleet : List ℕ) (next : Printing) (t : Tables) : Type 0 where
  pub one_less : blocks_ahead next fleet ≡ drop 1 (blocks_ahead printing fleet)
  pub goes_on : IsPrinting next fleet t

-- The foot of a page of which so many lines are taken: blank lines up to its end; but of a page that was not begun nothing.
unfoldable pub foot : (used : ℕ) → List ℕ
foot zero = []
foot (suc used) = bytes_of (blank_lines (page_lines - suc used))

-- What one page of a printing gives: the next page in front of what is lent (`page`, afterwards `page'`), which is as it was behind it, and a
-- printing that has the rest to print. There is none, and its length is 0, exactly where nothing more is to be printed.
pub record PageIs (printing : Printing) (fleet page : List ℕ) (printed : Printed) (page' : List ℕ) (t : Tables) : Type 0 where
  pub the_page : Put page 0 (take printed.len page') page' printed.len
  pub the_rest : still_to_print printing fleet ≡ take printed.len page' ++ still_to_print printed.printing fleet
  pub whole_or_none : (printed.len ≡ page_bytes) ⊎ ((printed.len ≡ 0) × (still_to_print printing fleet ≡ []))
  pub goes_on : IsPrinting printed.printing fleet t
