-- Document 01, "When the desk says no": the rows about a lent pattern or tree.
use Rattle.std.specs.Prelude.{List, ℕ, ◌≤◌, length}
use Rattle.terms.specs.Tree.{IsTree}
use Rattle.terms.specs.Refusal.{Rule}
use Rattle.terms.proofs.Decide.{within?}
use Rattle.terms.proofs.TreeLaws.{tree?}

-- 13: "pattern empty, or over the bound"
abbrev pub size_rule : (pattern : List ℕ) (bound : ℕ) → Rule
size_rule pattern bound = record { number = 13; Kept = (1 ≤ length pattern) × (length pattern ≤ bound); decide = within? 1 (length pattern) bound }

-- 14: "pattern's pairs are no tree"
abbrev pub tree_rule : List ℕ → Rule
tree_rule pattern = record { number = 14; Kept = IsTree pattern; decide = tree? pattern }
