-- Where support is counted: an accepted fleet, and a pattern within its limit.
use Rattle.std.specs.Prelude.{List, ℕ, ◌≤◌, length}
use Rattle.terms.specs.Tree.{IsTree}
use Rattle.terms.specs.Fleet.{IsFleet}
use Rattle.matching.specs.Limits.{most_nodes_of_a_pattern}

pub record CountInput (fleet pattern : List ℕ) : Type 0 where
  pub is_fleet : IsFleet fleet
  pub is_tree : IsTree pattern
  pub pattern_nodes : length pattern ≤ most_nodes_of_a_pattern
