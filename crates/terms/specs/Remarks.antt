-- Document 02, "Remarks no longer count": "Nodes of family 6 stay in sheets and keep their node numbers, but they take no part in occurrence,
-- support or the list."
use Rattle.std.specs.Prelude.{◌≡◌, List, [], ◌∷◌, ℕ, ◌<◌, length}
use Rattle.std.proofs.Math.Decide.{ℕ_discrete}
use Rattle.terms.specs.Tree.{label_at}
use Rattle.terms.specs.Fleet.{family}
use Rattle.terms.specs.LeftOut.{OccursWithout, remaining}

-- "6 remark"
abbrev pub remark_family : ℕ
remark_family = 6

-- The node at a position is a remark.
abbrev pub Remark : List ℕ → ℕ → Type 0
Remark s i = family (label_at s i) ≡ remark_family

unfoldable pub remark? : (s : List ℕ) (i : ℕ) → Dec (Remark s i)
unfolding ℕ_discrete
remark? s i = ℕ_discrete (family (label_at s i)) remark_family

-- "A vehicle holds a tree that occurs in its own": at nodes that are no remarks.
abbrev pub HeldBy : (pattern tree : List ℕ) → Type 0
HeldBy pattern tree = OccursWithout (Remark tree) pattern tree

-- "With remarks taken out": a tree, or a fleet.
unfoldable pub without_remarks : List ℕ → List ℕ
without_remarks s = remaining (remark? s) s

-- Trees, each with its remarks taken out.
unfoldable pub each_without_remarks : List (List ℕ) → List (List ℕ)
each_without_remarks [] = []
each_without_remarks (tree ∷ trees) = without_remarks tree ∷ each_without_remarks trees

-- "A pattern holding a family 6 label"
pub record HoldsRemark (pattern : List ℕ) : Type 0 where
  pub at : ℕ
  pub inside : at < length pattern
  pub is_remark : Remark pattern at
