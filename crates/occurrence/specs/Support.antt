-- Document 01, "Occurrence": "The support of a pattern is the number of vehicles' trees where it occurs."
use Rattle.std.specs.Prelude.{List, [], ◌∷◌, ℕ, ◌+◌, ◌≤◌}
use Rattle.terms.specs.Tree.{IsTreeAnyDepth}
use Rattle.terms.specs.Placing.{Occurs}
use Rattle.terms.specs.Fleet.{vehicles}
use Rattle.terms.proofs.OccursDecided.{occurs?}
use Rattle.terms.proofs.RemarkLaws.{held_by?}

-- 1 where it holds, 0 where it does not
unfoldable pub counted : {A : Type 0} → Dec A → ℕ
counted (yes _) = 1
counted (no _) = 0

-- How many of the vehicles with these trees hold the pattern; remarks "take no part in occurrence, support or the list" (document 02). (`held-by? pattern tree : Dec (HeldBy pattern
-- tree)`: its type says all that is needed of it.)
unfoldable pub holding : (pattern : List ℕ) → List (List ℕ) → ℕ
holding pattern [] = 0
holding pattern (tree ∷ trees) = counted (held_by? pattern tree) + holding pattern trees

unfoldable pub support : (fleet pattern : List ℕ) → ℕ
support fleet pattern = holding pattern (vehicles fleet)

-- The same where every node counts, remarks too: in how many of the trees the pattern occurs. By this a search goes, in a fleet with the remarks
-- taken out; that it is then the support is `support_exactly`.
unfoldable pub occurring : (pattern : List ℕ) → List (List ℕ) → ℕ
occurring pattern [] = 0
occurring pattern (tree ∷ trees) = counted (occurs? pattern tree) + occurring pattern trees

unfoldable pub whole_support : (fleet pattern : List ℕ) → ℕ
whole_support fleet pattern = occurring pattern (vehicles fleet)

-- What a count of patterns has to keep: a tree is counted no more often than one that occurs in it. For the support it is
-- `support_never_grows`. Of embeddings it is not so: "001 prunes on embedding counts, which can grow with the pattern".
abbrev pub NeverGrows : (count : List ℕ → ℕ) → Type 0
NeverGrows count = (p q : List ℕ) → IsTreeAnyDepth p → IsTreeAnyDepth q → Occurs p q → count q ≤ count p
