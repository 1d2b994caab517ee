-- Document 02, "Closed and maximal lists", after source document 000, section 2.3: proper supertrees; closed and maximal, by any count of a pattern.
use Rattle.std.specs.Prelude.{◌≡◌, List, ℕ, suc, ◌≤◌, ◌<◌, length}
use Rattle.terms.specs.Tree.{IsTreeAnyDepth}
use Rattle.terms.specs.Placing.{Occurs}

-- A proper supertree of a pattern: a tree with more nodes in which it occurs. "Supertrees with a new root above count, and so do supertrees larger
-- than the size bound": it may have any size, any labels and any depth.
pub record ProperSupertree (pattern tree : List ℕ) : Type 0 where
  pub is_tree : IsTreeAnyDepth tree
  pub occurs : Occurs pattern tree
  pub more_nodes : length pattern < length tree

-- "supertrees of one more node"; those of them that are frequent are the pattern's blanket in 000.
pub record OneNodeSupertree (pattern tree : List ℕ) : Type 0 where
  pub is_tree : IsTreeAnyDepth tree
  pub occurs : Occurs pattern tree
  pub one_more : length tree ≡ suc (length pattern)

-- "closed lists a form if no proper supertree has the same support"
pub record Closed (count : List ℕ → ℕ) (pattern : List ℕ) : Type 0 where
  pub none_equal : (tree : List ℕ) → ProperSupertree pattern tree → ¬ (count tree ≡ count pattern)

-- "maximal lists it if no proper supertree reaches the threshold"
pub record Maximal (count : List ℕ → ℕ) (threshold : ℕ) (pattern : List ℕ) : Type 0 where
  pub none_reaches : (tree : List ℕ) → ProperSupertree pattern tree → ¬ (threshold ≤ count tree)

-- Some supertree of one more node reaches a number: the pattern's own count, then it is not closed (`closed_by_one_node`); the threshold, then it
-- is not maximal (`maximal_by_one_node`).
pub record LargerReaches (count : List ℕ → ℕ) (need : ℕ) (pattern : List ℕ) : Type 0 where
  pub tree : List ℕ
  pub larger : OneNodeSupertree pattern tree
  pub enough : need ≤ count tree
