-- What the scan of a table of counts finds: the least pair by which a beginning of a pattern goes on as a frequent form.
use Rattle.std.specs.Prelude.{◌≡◌, Option, Some, None, List, [], ◌∷◌, ◌++◌, ℕ, ◌≤◌, ◌<◌, length, get_or, take}
use Rattle.terms.specs.Form.{InForm}
use Rattle.matching.specs.Limits.{most_nodes_of_a_pattern}
use Rattle.occurrence.specs.Support.{whole_support}
use Rattle.rightmost.specs.Counts.{top_of, Counts}
use Rattle.scan.specs.declared.Extension.{Extension}

-- A form that as many vehicles hold as the threshold says.
pub record Frequent (fleet : List ℕ) (threshold : ℕ) (form : List ℕ) : Type 0 where
  pub in_form : InForm form
  pub enough : threshold ≤ whole_support fleet form

-- x is the least number above low with which the beginning is a frequent form, and held is that form's count.
pub record Extends (fleet : List ℕ) (threshold : ℕ) (beginning : List ℕ) (low x held : ℕ) : Type 0 where
  pub above : low < x
  pub frequent : Frequent fleet threshold (beginning ++ x ∷ [])
  pub support_is : held ≡ whole_support fleet (beginning ++ x ∷ [])
  pub least : (z : ℕ) → low < z → z < x → ¬ Frequent fleet threshold (beginning ++ z ∷ [])

unfoldable pub ExtensionIs : (fleet : List ℕ) (threshold : ℕ) (beginning : List ℕ) (low : ℕ) → Option Extension → Type 0
ExtensionIs fleet threshold beginning low (Some e) = Extends fleet threshold beginning low e.pair e.support
ExtensionIs fleet threshold beginning low None = (z : ℕ) → low < z → ¬ Frequent fleet threshold (beginning ++ z ∷ [])

-- The counts of the first n pairs.
pub record KnownCounts (fleet nodes : List ℕ) (n threshold : ℕ) (counts : List ℕ) : Type 0 where
  pub all_nodes : length nodes ≡ most_nodes_of_a_pattern
  pub few : n ≤ most_nodes_of_a_pattern
  pub from_1 : 1 ≤ threshold
  pub room : top_of (take n nodes) ≤ length counts
  pub are : Counts (take n nodes) fleet counts

-- The least number from `from` on, below `end`, whose count reaches the threshold; `end` if there is none.
pub record LikelyFrom (counts : List ℕ) (from end threshold x : ℕ) : Type 0 where
  pub from_on : from ≤ x
  pub to_end : x ≤ end
  pub likely : x < end → threshold ≤ get_or counts x 0
  pub unlikely : (z : ℕ) → from ≤ z → z < x → get_or counts z 0 < threshold
