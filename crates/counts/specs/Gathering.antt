-- What the functions that count the extensions of a pattern are given.
use Rattle.std.specs.Prelude.{◌≡◌, List, ℕ, ◌≤◌, ◌<◌, length, get_or}
use Rattle.terms.specs.Form.{InForm}
use Rattle.matching.specs.Limits.{most_nodes_of_a_pattern}
use Rattle.rightmost.specs.PlaceList.{Places}
use Rattle.rightmost.specs.Counts.{top_of, Counts}
use Rattle.index.specs.Index.{Indexed}

-- A form with the places of its last node, the fleet's tables, and room for the counts of all pairs that may come next.
pub record GatherInput (pattern fleet parents numbers sizes places counts : List ℕ) : Type 0 where
  pub in_form : InForm pattern
  pub few : length pattern ≤ most_nodes_of_a_pattern
  pub indexed : Indexed fleet parents numbers sizes
  pub listed : Places pattern fleet places
  pub room : top_of pattern ≤ length counts

-- The same with a table for the vehicle that was noted last, before the first place: nothing is counted, and no vehicle was noted.
pub record PlacesToNote (pattern fleet parents numbers sizes places counts last : List ℕ) : Type 0 where
  pub input : GatherInput pattern fleet parents numbers sizes places counts
  pub room : top_of pattern ≤ length last
  pub none_counted : (x : ℕ) → x < top_of pattern → get_or counts x 0 ≡ 0
  pub none_noted : (x : ℕ) → get_or last x 0 ≡ 0

-- The table `counts'`, as long as the one before, has the counts of the pattern's extensions.
pub record Gathered (pattern fleet counts counts' : List ℕ) : Type 0 where
  pub as_long : length counts' ≡ length counts
  pub are : Counts pattern fleet counts'
