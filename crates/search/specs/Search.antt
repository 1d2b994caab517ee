-- What a pattern's step answers. The tables that it is lent stand in crate expansion (`Remembers`).
use Rattle.std.specs.Prelude.{◌≡◌, Bool, Option as RustOption, Some, None, MatchOption, List, ℕ, suc, ◌≤◌, ◌<◌, take}
use Rattle.std.proofs.Math.Option.{Option, none, some}
use Rattle.terms.specs.Form.{InForm}
use Rattle.terms.specs.Fleet.{IsFleet}
use Rattle.matching.specs.Limits.{most_nodes_of_a_pattern}
use Rattle.expansion.specs.Levels.{Tables, tables_if, AllTables, Remembers}
use Rattle.search.specs.Counted.{Counted, Entry}
use Rattle.search.specs.Finite.{heavier_finite, lightest_of}
use Rattle.search.specs.Sought.{Search, sought_forms, sought_finite}
use Rattle.search.specs.declared.Pattern.{Pattern}
use Rattle.search.specs.declared.FrequentPattern.{FrequentPattern}

-- The pairs of a pattern struct: the first `len` of its array. What the array holds after them is free.
abbrev pub pairs_of : Pattern → List ℕ
pairs_of pattern = take pattern.len pattern.nodes

unfoldable pub with_count : Counted → Option (List ℕ) → Option Entry
with_count set (some form) = some (record { form = form; held = set.count form })
with_count set none = none

-- "A step of the listing turns one pattern into the next": the lightest form that the search looks for and that is heavier than the pattern,
-- with its support, or none.
unfoldable pub next_entry : Search → List ℕ → Option Entry
next_entry search pattern = with_count (sought_forms search) (lightest_of (heavier_finite (sought_finite search) pattern))

-- What an answer says: a form with its support, or end.
unfoldable pub entry_of : RustOption FrequentPattern → Option Entry
entry_of (Some found) = some (record { form = pairs_of found.pattern; held = found.support })
entry_of None = none

-- The pattern to go on from: the form that was found, or at end the one that was given.
unfoldable pub pattern_after : (given : Pattern) → RustOption FrequentPattern → Pattern
pattern_after given (Some found) = found.pattern
pattern_after given None = given

-- What callers of a pattern's step show: threshold and bound as a request has them, a pattern within the bound, empty or a form, and its tables.
pub record NextInput (search : Search) (pattern : Pattern) (t : Tables) : Type 0 where
  pub from_1 : 1 ≤ search.threshold
  pub bound_to_most : search.bound ≤ most_nodes_of_a_pattern
  pub within : pattern.len ≤ search.bound
  pub in_form : 1 ≤ pattern.len → InForm (pairs_of pattern)
  pub remembers : Remembers search.fleet pattern.nodes pattern.len t

-- A form that was found: within the bound, with its tables.
pub record FoundIs (search : Search) (found : FrequentPattern) (t : Tables) : Type 0 where
  pub within : found.pattern.len ≤ search.bound
  pub in_form : 1 ≤ found.pattern.len → InForm (pairs_of found.pattern)
  pub remembers : Remembers search.fleet found.pattern.nodes found.pattern.len t

-- At end what the tables of the levels hold is free, but for their lengths.
abbrev pub FoundOrEnd : Search → RustOption FrequentPattern → (t : Tables) → Type 0
FoundOrEnd search next t = MatchOption next (AllTables search.fleet t) (λ found. FoundIs search found t)

pub record NextIs (search : Search) (given : Pattern) (next : RustOption FrequentPattern) (t : Tables) : Type 0 where
  pub is : entry_of next ≡ next_entry search (pairs_of given)
  pub found_or_end : FoundOrEnd search next t

-- The tables of a pattern, whose places are listed if it may be longer; the levels below stay.
pub record Arrived (fleet nodes : List ℕ) (n bound : ℕ) (parents sizes places lens : List ℕ) (known : List Bool) (places' lens' : List ℕ) (known' : List Bool) : Type 0 where
  pub may_be_longer : n < bound → (kept : Bool) (numbers counts : List ℕ) → Remembers fleet nodes n (tables_if kept parents numbers sizes places lens counts known) → Remembers fleet nodes (suc n) (tables_if kept parents numbers sizes places' lens' counts known')
  pub may_not : bound ≤ n → (places' ≡ places) × (lens' ≡ lens) × (known' ≡ known)

-- What callers show of a step whose tables are made first (crate profiles).
pub record FirstInput (search : Search) (pattern : Pattern) : Type 0 where
  pub is_fleet : IsFleet search.fleet
  pub from_1 : 1 ≤ search.threshold
  pub bound_to_most : search.bound ≤ most_nodes_of_a_pattern
  pub within : pattern.len ≤ search.bound
  pub in_form : 1 ≤ pattern.len → InForm (pairs_of pattern)
