-- What a reader keeps of the nodes read so far, and how one more joins them.
use Rattle.std.specs.Prelude.{◌≡◌, List, [], ◌∷◌, ◌++◌, ℕ, suc, ◌≤◌, ◌<◌, length, get_or}
use Rattle.terms.specs.Tree.{pair, depthAt, label_at}
use Rattle.terms.specs.Fleet.{vehicles, family}
use Rattle.terms.specs.Refusal.{refusal}
use Rattle.fleet.specs.Node.{last_depth, last_label, last_tree}
use Rattle.fleet.specs.NodeRules.{node_rules}
use Rattle.fleet.specs.declared.reader.Reader.{Reader}
use Rattle.fleet.specs.declared.State.{State}
use Rattle.fleet.specs.declared.Joining.{Joining}

-- The last node of a tree at this depth, with nothing as shallow after it, is of this family.
pub record Above (tree : List ℕ) (depth fam : ℕ) : Type 0 where
  pub place : ℕ
  pub inside : place < length tree
  pub at_depth : depthAt tree place ≡ depth
  pub later_deeper : (k : ℕ) → place < k → k < length tree → depth < depthAt tree k
  pub family_is : family (label_at tree place) ≡ fam

-- What a reader keeps of the nodes `before`: how many, the depth of a child of the last and its label, how many trees, how many nodes of
-- the last tree, and the family of the node on the way to the last one at each depth. What `families` has at depths beyond the last node's is
-- free: of no rule's concern, and often left over from nodes before.
pub record ReaderOf (before : List ℕ) (reader : Reader) (families : List ℕ) : Type 0 where
  pub nodes_are : length before ≡ reader.nodes
  pub deeper_is : suc (last_depth before) ≡ reader.deeper
  pub label_is : last_label before ≡ reader.label
  pub trees_are : length (vehicles before) ≡ reader.trees
  pub in_tree_are : length (last_tree before) ≡ reader.in_tree
  pub above : (e : ℕ) → 1 ≤ length before → e ≤ last_depth before → Above (last_tree before) e (get_or families e 0)

-- The state is that of a reader after these nodes. A state's fields are private: outside the crate each state is one of a reader.
abbrev pub StateOf : List ℕ → State → Type 0
StateOf before state = ReaderOf before state.reader state.families

-- A node joins those of a state, or breaks a rule.
pub record Joined (before : List ℕ) (state : State) (depth label : ℕ) (result : Joining) : Type 0 where
  pub number_is : result.refusal ≡ refusal (node_rules before depth label)
  pub joins : result.refusal ≡ 0 → StateOf (before ++ pair depth label ∷ []) result.state
  pub stays : 1 ≤ result.refusal → result.state ≡ state
