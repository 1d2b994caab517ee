-- What the functions that make the tables of a pattern are given.
use Rattle.std.specs.Prelude.{◌≡◌, Bool, List, ℕ, ◌*◌, ◌≤◌, ◌<◌, length, take}
use Rattle.terms.specs.Form.{InForm}
use Rattle.terms.specs.Fleet.{IsFleet, most_nodes}
use Rattle.matching.specs.Limits.{most_nodes_of_a_pattern}
use Rattle.expansion.specs.Levels.{tables_if, Remembers}

-- A form of n pairs, or none, with the tables of the levels below n; what is not lent of them stands in the record.
pub record ReachInput (fleet nodes : List ℕ) (n : ℕ) (parents sizes places lens : List ℕ) (known : List Bool) : Type 0 where
  pub all_nodes : length nodes ≡ most_nodes_of_a_pattern
  pub room : n < most_nodes_of_a_pattern
  pub in_form : 1 ≤ n → InForm (take n nodes)
  pub numbers : List ℕ
  pub counts : List ℕ
  pub kept : Bool
  pub remembers : Remembers fleet nodes n (tables_if kept parents numbers sizes places lens counts known)

-- A form of n pairs, or none, and tables of the right lengths.
pub record MakeInput (fleet nodes : List ℕ) (n : ℕ) (parents numbers sizes places lens : List ℕ) (known : List Bool) : Type 0 where
  pub is_fleet : IsFleet fleet
  pub all_nodes : length nodes ≡ most_nodes_of_a_pattern
  pub few : n ≤ most_nodes_of_a_pattern
  pub in_form : 1 ≤ n → InForm (take n nodes)
  pub all_parents : length parents ≡ most_nodes
  pub all_numbers : length numbers ≡ most_nodes
  pub all_sizes : length sizes ≡ most_nodes
  pub all_places : length places ≡ most_nodes_of_a_pattern * most_nodes
  pub all_lens : length lens ≡ most_nodes_of_a_pattern
  pub all_known : length known ≡ most_nodes_of_a_pattern
