-- What is still to be written at each point of a run of the key program.
use Rattle.std.specs.Prelude.{◌≡◌, Option, Some, None, Bool, true, ◌⊎◌, List, [], ◌∷◌, ◌++◌, ℕ, ◌+◌, ◌*◌, ◌≤◌, ◌<◌, length, take}
use Rattle.terms.specs.Fleet.{most_nodes}
use Rattle.matching.specs.Limits.{most_nodes_of_a_pattern}
use Rattle.expansion.specs.Levels.{Tables, count_room}
use Rattle.text.specs.Building.{Put}
use Rattle.lines.specs.Lines.{form_line, refusal_line, end_line, most_line_bytes}
use Rattle.search.specs.Counted.{Entry}
use Rattle.search.specs.Sought.{Search, search_in}
use Rattle.search.specs.Search.{pairs_of, pattern_after, NextInput}
use Rattle.search.specs.declared.Request.{Request}
use Rattle.search.specs.declared.Pattern.{Pattern}
use Rattle.search.specs.declared.FrequentPattern.{FrequentPattern}
use Rattle.entries.specs.Entries.{rest_of}
use Rattle.fleet.specs.declared.Answer.{Answer}
use Rattle.fleet.specs.declared.Answer.TheVariants.{Done, Refused}
use Rattle.run.specs.declared.Stage.{Stage}
use Rattle.run.specs.declared.Stage.TheVariants.{Refusing, Listing, Ended}
use Rattle.run.specs.declared.Run.{Run}
use Rattle.run.specs.declared.Step.{Step}
use Rattle.run.specs.declared.Part.{Part}

-- "It writes one line a form: support, blank, pairs parted by blanks"
unfoldable pub lines : List Entry → List ℕ
lines [] = []
lines (entry ∷ entries) = form_line entry.held entry.form ++ lines entries

-- The search of a run; the fleet is the beginning of the memory that it was put into.
abbrev pub run_search : Run → (memory : List ℕ) → Search
run_search run memory = search_in (take run.nodes memory) run.request

-- All that is still to be written, by the stage of the run and the forms that are left.
unfoldable pub written_from : Stage → List Entry → List ℕ
written_from (Refusing number) entries = refusal_line number
written_from Listing entries = lines entries ++ end_line
written_from Ended entries = []

unfoldable pub still_to_write : Run → (memory : List ℕ) → List ℕ
still_to_write run memory = written_from run.stage (rest_of (run_search run memory) (pairs_of run.pattern))

-- The first line of it.
unfoldable pub line_from : Stage → List Entry → List ℕ
line_from (Refusing number) entries = refusal_line number
line_from Listing [] = end_line
line_from Listing (entry ∷ entries) = form_line entry.held entry.form
line_from Ended entries = []

unfoldable pub next_line : Run → (memory : List ℕ) → List ℕ
next_line run memory = line_from run.stage (rest_of (run_search run memory) (pairs_of run.pattern))

-- A run that lists: the memory has its fleet, and its pattern, the request and the tables are such as a pattern's step asks for (`NextInput`: the
-- tables are the pattern's).
pub record Ready (run : Run) (memory : List ℕ) (t : Tables) : Type 0 where
  pub nodes_within : run.nodes ≤ length memory
  pub steps : NextInput (run_search run memory) run.pattern t

-- A run that `opening::open` began.
unfoldable pub Proper : Stage → Run → (memory : List ℕ) (t : Tables) → Type 0
Proper (Refusing number) run memory t = Unit
Proper Listing run memory t = Ready run memory t
Proper Ended run memory t = Unit

abbrev pub IsRun : Run → (memory : List ℕ) (t : Tables) → Type 0
IsRun run memory t = Proper run.stage run memory t

-- The stage in which a run begins, and the nodes of its fleet, by the answer of the reading.
unfoldable pub stage_for : Answer → Stage
stage_for (Refused number) = Refusing number
stage_for (Done nodes) = Listing

unfoldable pub nodes_in : Answer → ℕ
nodes_in (Refused number) = 0
nodes_in (Done nodes) = nodes

-- A run at its beginning: it is to tell the refusal, or to list all forms, those heavier than no pairs.
pub record Begun (answer : Answer) (request : Request) (run : Run) : Type 0 where
  pub stage_is : run.stage ≡ stage_for answer
  pub nodes_are : run.nodes ≡ nodes_in answer
  pub request_is : run.request ≡ request
  pub no_nodes : run.pattern.len ≡ 0
  pub no_pairs : pairs_of run.pattern ≡ []

-- Tables of the levels, of the right length: any will do when a run begins.
pub record AnyTables (places lens counts : List ℕ) (known : List Bool) : Type 0 where
  pub all_places : length places ≡ most_nodes_of_a_pattern * most_nodes
  pub all_lens : length lens ≡ most_nodes_of_a_pattern
  pub all_counts : length counts ≡ count_room true
  pub all_known : length known ≡ most_nodes_of_a_pattern

-- What one step of a run gives: the next line in front of the one that it is lent (`line`, afterwards `line'`), and a run that has the rest to
-- write. Nothing is written exactly at the end.
pub record StepIs (run : Run) (memory line : List ℕ) (step : Step) (line' : List ℕ) (t : Tables) : Type 0 where
  pub the_line : Put line 0 (next_line run memory) line' step.len
  pub the_rest : still_to_write run memory ≡ next_line run memory ++ still_to_write step.run memory
  pub goes_on : IsRun step.run memory t

-- The most bytes of a part.
abbrev pub most_part_bytes : ℕ
most_part_bytes = 8192

-- What one part of a run gives: the next bytes in front of the buffer that it is lent (`buffer`, afterwards `buffer'`), which is as it was behind
-- them, and a run that has the rest to write. Either nothing is left, or the longest line would have no room.
pub record PartIs (run : Run) (memory buffer : List ℕ) (part : Part) (buffer' : List ℕ) (t : Tables) : Type 0 where
  pub the_bytes : Put buffer 0 (take part.len buffer') buffer' part.len
  pub the_rest : still_to_write run memory ≡ take part.len buffer' ++ still_to_write part.run memory
  pub all_that_fit : (still_to_write part.run memory ≡ []) ⊎ (most_part_bytes < part.len + most_line_bytes)
  pub goes_on : IsRun part.run memory t

-- What the tables hold after a step from this stage. At a refusal and after the end nothing is searched, and they hold what they held. After a
-- search what the tables of the levels hold is free here: with a form `goes_on` says that they are the form's; at the end of the list only their
-- lengths are known, by their types, and no later step reads them.
unfoldable pub TablesAfter : Stage → (before after : Tables) → Type 0
TablesAfter (Refusing number) before after = after ≡ before
TablesAfter Listing before after = Unit
TablesAfter Ended before after = after ≡ before

-- The same run at another stage, with another pattern.
abbrev pub run_at : Run → Stage → Pattern → Run
run_at run stage pattern = record { stage = stage; nodes = run.nodes; request = run.request; pattern = pattern }

-- The line of what a pattern's step found, and the stage of the run after it.
unfoldable pub line_for : Option FrequentPattern → List ℕ
line_for (Some found) = form_line found.support (pairs_of found.pattern)
line_for None = end_line

unfoldable pub stage_after : Option FrequentPattern → Stage
stage_after (Some found) = Listing
stage_after None = Ended

-- What a search found is told: its line stands in front, and the run goes on from it.
pub record Found (run : Run) (next : Option FrequentPattern) (line : List ℕ) (step : Step) (line' : List ℕ) : Type 0 where
  pub the_line : Put line 0 (line_for next) line' step.len
  pub the_run : step.run ≡ run_at run (stage_after next) (pattern_after run.pattern next)
