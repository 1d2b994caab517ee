-- The tables of a pattern, level by level: level k is that of its first k pairs.
use Rattle.std.specs.Prelude.{◌≡◌, Bool, true, false, List, ℕ, suc, ◌+◌, ◌-◌, ◌*◌, ◌≤◌, ◌<◌, length, get_or, take, drop}
use Rattle.terms.specs.Form.{InForm}
use Rattle.terms.specs.Fleet.{IsFleet, most_nodes}
use Rattle.matching.specs.Limits.{most_nodes_of_a_pattern}
use Rattle.rightmost.specs.PlaceList.{Places}
use Rattle.rightmost.specs.Counts.{Counts}
use Rattle.index.specs.Index.{Parents, Sizes, Indexed}

-- All the tables that a search is lent: the fleet's (parents, numbers, sizes); the places of each level, and how many they are; the counts of each
-- level, and whether they are known; and whether the counts are kept from level to level, or have room for one level and are made anew whenever they
-- are asked for. A level is a beginning's length. Free is what they hold past the fleet's last node, past the places of a level, in `lens` at level 0,
-- in the counts of a level that is not known, and at the levels that no pattern has reached; where no counts are kept, in `counts` and `known`.
pub record Tables : Type 0 where
  pub parents : List ℕ
  pub numbers : List ℕ
  pub sizes : List ℕ
  pub places : List ℕ
  pub lens : List ℕ
  pub counts : List ℕ
  pub known : List Bool
  pub kept : Bool

abbrev pub tables_if : (kept : Bool) (parents numbers sizes places lens counts : List ℕ) (known : List Bool) → Tables
tables_if kept parents numbers sizes places lens counts known =
    record { parents = parents; numbers = numbers; sizes = sizes; places = places; lens = lens; counts = counts; known = known; kept = kept }

-- Those of a search that keeps its counts.
abbrev pub tables : (parents numbers sizes places lens counts : List ℕ) (known : List Bool) → Tables
tables = tables_if true

-- How many entries the counts of level k have: no pair that may come next is deeper than k, and one depth more is none too few.
abbrev pub level_room : (k : ℕ) → ℕ
level_room k = (k + 2) * 1000

-- Where in the table the counts of level k begin: behind those of the levels below it. And how long the table is.
unfoldable pub slot : (kept : Bool) (k : ℕ) → ℕ
slot true k = k * (k + 3) * 500
slot false k = 0

unfoldable pub count_room : (kept : Bool) → ℕ
count_room true = most_nodes_of_a_pattern * (most_nodes_of_a_pattern + 3) * 500
count_room false = (most_nodes_of_a_pattern + 1) * 1000

-- The part of a table that belongs to level k.
abbrev pub places_of : (places : List ℕ) (k : ℕ) → List ℕ
places_of places k = take most_nodes (drop (k * most_nodes) places)

abbrev pub counts_at : (counts : List ℕ) (at k : ℕ) → List ℕ
counts_at counts at k = take (level_room k) (drop at counts)

abbrev pub counts_of : (counts : List ℕ) (k : ℕ) → List ℕ
counts_of counts k = counts_at counts (slot true k) k

-- The first `count` places of level k are those of the last node of the first k pairs.
pub record PlacesAt (fleet nodes places : List ℕ) (k count : ℕ) : Type 0 where
  pub few : count ≤ most_nodes
  pub are : Places (take k nodes) fleet (take count (places_of places k))

-- The tables have their lengths, and those of the fleet are this fleet's.
pub record AllTables (fleet : List ℕ) (t : Tables) : Type 0 where
  pub indexed : Indexed fleet t.parents t.numbers t.sizes
  pub all_places : length t.places ≡ most_nodes_of_a_pattern * most_nodes
  pub all_lens : length t.lens ≡ most_nodes_of_a_pattern
  pub all_counts : length t.counts ≡ count_room t.kept
  pub all_known : length t.known ≡ most_nodes_of_a_pattern

-- THE TABLES ARE THE PATTERN'S, at the levels below n: the places of each beginning's last node, and, where they are kept and known, the supports
-- of all forms that go on from it with one pair.
pub record Remembers (fleet nodes : List ℕ) (n : ℕ) (t : Tables) : Type 0 where
  pub all : AllTables fleet t
  pub placed : (k : ℕ) → 1 ≤ k → k < n → PlacesAt fleet nodes t.places k (get_or t.lens k 0)
  pub counted : t.kept ≡ true → (k : ℕ) → k < n → get_or t.known k false ≡ true → Counts (take k nodes) fleet (counts_of t.counts k)

-- A beginning of n pairs, empty or a form, with room for one more, and the tables of its levels up to n.
pub record LevelInput (fleet nodes : List ℕ) (n threshold : ℕ) (t : Tables) : Type 0 where
  pub all_nodes : length nodes ≡ most_nodes_of_a_pattern
  pub room : n < most_nodes_of_a_pattern
  pub in_form : 1 ≤ n → InForm (take n nodes)
  pub from_1 : 1 ≤ threshold
  pub remembers : Remembers fleet nodes (suc n) t

-- What the places of level n, a form's, are made from: those of the level before it, `count` of them.
pub record EnterInput (fleet nodes : List ℕ) (n : ℕ) (parents sizes places : List ℕ) (count : ℕ) : Type 0 where
  pub is_fleet : IsFleet fleet
  pub has_parents : Parents fleet parents
  pub has_sizes : Sizes fleet sizes
  pub all_places : length places ≡ most_nodes_of_a_pattern * most_nodes
  pub all_nodes : length nodes ≡ most_nodes_of_a_pattern
  pub some : 1 ≤ n
  pub room : n < most_nodes_of_a_pattern
  pub in_form : InForm (take n nodes)
  pub before : 2 ≤ n → PlacesAt fleet nodes places (n - 1) count

-- The places of level n are made; those of the other levels stay.
pub record Entered (fleet nodes : List ℕ) (n : ℕ) (places places' : List ℕ) (count : ℕ) : Type 0 where
  pub all_places : length places' ≡ length places
  pub made : PlacesAt fleet nodes places' n count
  pub others : (k : ℕ) → ¬ (k ≡ n) → places_of places' k ≡ places_of places k

-- What the counts of level n are made from, and room for them.
pub record CountLevelInput (fleet nodes : List ℕ) (n : ℕ) (parents numbers sizes places : List ℕ) (count : ℕ) (counts : List ℕ) : Type 0 where
  pub indexed : Indexed fleet parents numbers sizes
  pub all_places : length places ≡ most_nodes_of_a_pattern * most_nodes
  pub all_nodes : length nodes ≡ most_nodes_of_a_pattern
  pub few : n < most_nodes_of_a_pattern
  pub in_form : 1 ≤ n → InForm (take n nodes)
  pub placed : 1 ≤ n → PlacesAt fleet nodes places n count
  pub room : level_room n ≤ length counts
