-- The claims about occurrence, support and the placing shown; demands 1 and 2 of the letter. `PlacedExactly` is proved as `placed_exactly`, and
-- so on: Claims, OccurrenceLaws, SupportLaws of proofs/. The contract of `matching::occurs_at` says by itself what is claimed of it.
use Rattle.std.specs.Prelude.{◌≡◌, List, [], ◌++◌, ◌↔◌, ℕ, suc, ◌≤◌, ◌<◌, length, get_or, take, drop}
use Rattle.terms.specs.Tree.{IsTree}
use Rattle.terms.specs.Matching.{SameTree}
use Rattle.terms.specs.Placing.{Occurs, OccursAt}
use Rattle.terms.specs.LeftOut.{HeaviestWithout}
use Rattle.terms.specs.Remarks.{Remark, HeldBy, HoldsRemark, without_remarks}
use Rattle.terms.specs.Fleet.{vehicles, IsFleet}
use Rattle.terms.specs.Refusal.{FirstBroken, AllKept}
use Rattle.fleet.specs.declared.Answer.TheVariants as answer
use Rattle.vehicles.specs.Vehicle.{tree_numbered}
use Rattle.occurrence.specs.declared.Placement.TheVariants.{Placed, Nowhere, Refused}
use Rattle.occurrence.specs.Support.{support, whole_support, NeverGrows}
use Rattle.occurrence.specs.SupportCall.{support_rules, support_answer}
use Rattle.occurrence.specs.PlaceCall.{place_rules, place_answer, place_output}

-- DEMAND 2. "A pattern occurs in a vehicle's tree exactly if its nodes can be placed there one to one, with labels and parent links kept": where
-- no rule is broken, the answer is that it is placed, or that it is nowhere. (`HeldBy` of terms is that there is such a placing, at nodes that are no
-- remarks.)
abbrev pub PlacedExactly : Type 1
PlacedExactly = (fleet : List ℕ) (vehicle : ℕ) (pattern output : List ℕ) → AllKept (place_rules fleet vehicle pattern output)
    → (place_answer fleet vehicle pattern output ≡ Placed (length pattern)) ↔ HeldBy pattern (tree_numbered fleet vehicle)

abbrev pub NowhereExactly : Type 1
NowhereExactly = (fleet : List ℕ) (vehicle : ℕ) (pattern output : List ℕ) → AllKept (place_rules fleet vehicle pattern output)
    → (place_answer fleet vehicle pattern output ≡ Nowhere) ↔ ¬ HeldBy pattern (tree_numbered fleet vehicle)

-- "and the heaviest placing is shown": it stands in front of the output, and "nothing past the length of the result is written".
abbrev pub HeaviestShown : Type 1
HeaviestShown = (fleet : List ℕ) (vehicle : ℕ) (pattern output : List ℕ) → AllKept (place_rules fleet vehicle pattern output)
    → (tuple : List ℕ) → HeaviestWithout (Remark (tree_numbered fleet vehicle)) pattern (tree_numbered fleet vehicle) tuple → place_output fleet vehicle pattern output ≡ tuple ++ drop (length tuple) output

-- "If there is none, the reply is no, and the output is untouched."
abbrev pub NowhereUntouched : Type 1
NowhereUntouched = (fleet : List ℕ) (vehicle : ℕ) (pattern output : List ℕ) → AllKept (place_rules fleet vehicle pattern output)
    → ¬ HeldBy pattern (tree_numbered fleet vehicle) → place_output fleet vehicle pattern output ≡ output

-- DEMAND 1 of the calls. What breaks a rule "gets the number of that rule, and lent memory then holds what it held before. A call that breaks no
-- rule is not refused." (For a placing the latter is `PlacedExactly` with `NowhereExactly`; the call for a support is lent nothing to write.)
abbrev pub PlaceRefusedExactly : Type 1
PlaceRefusedExactly = (fleet : List ℕ) (vehicle : ℕ) (pattern output : List ℕ) (n : ℕ) → 1 ≤ n
    → (place_answer fleet vehicle pattern output ≡ Refused n) ↔ FirstBroken n (place_rules fleet vehicle pattern output)

abbrev pub PlaceRefusedUntouched : Type 1
PlaceRefusedUntouched = (fleet : List ℕ) (vehicle : ℕ) (pattern output : List ℕ) (n : ℕ) → 1 ≤ n
    → FirstBroken n (place_rules fleet vehicle pattern output) → place_output fleet vehicle pattern output ≡ output

abbrev pub SupportRefusedExactly : Type 1
SupportRefusedExactly = (fleet pattern : List ℕ) (n : ℕ) → 1 ≤ n → (support_answer fleet pattern ≡ answer.Refused n) ↔ FirstBroken n (support_rules fleet pattern)

abbrev pub SupportAnsweredExactly : Type 1
SupportAnsweredExactly = (fleet pattern : List ℕ) → (support_answer fleet pattern ≡ answer.Done (support fleet pattern)) ↔ AllKept (support_rules fleet pattern)

-- Occurrence is of unordered trees: "a pattern may be in any child order", and so may the tree. At a node it is so of the pattern.
abbrev pub OccursSame : Type 0
OccursSame = (pattern other tree tree' : List ℕ) → IsTree pattern → IsTree other → IsTree tree → IsTree tree' → SameTree pattern other → SameTree tree tree'
    → Occurs pattern tree ↔ Occurs other tree'

abbrev pub OccursAtSame : Type 0
OccursAtSame = (pattern other tree : List ℕ) (v : ℕ) → IsTree pattern → IsTree other → SameTree pattern other → OccursAt pattern tree v ↔ OccursAt other tree v

-- A tree occurs in itself, and in a tree of its size only if the two are the same.
abbrev pub OccursInItself : Type 0
OccursInItself = (tree : List ℕ) → IsTree tree → Occurs tree tree

abbrev pub OccursInEqualSize : Type 0
OccursInEqualSize = (pattern tree : List ℕ) → IsTree pattern → length pattern ≡ length tree → Occurs pattern tree → SameTree pattern tree

-- The support never grows with the pattern, whatever the pairs are in which it is counted; of a tree as document 01 says it, that is `SupportFalls`.
abbrev pub SupportNeverGrows : Type 0
SupportNeverGrows = (fleet : List ℕ) → NeverGrows (support fleet)

abbrev pub WholeSupportNeverGrows : Type 0
WholeSupportNeverGrows = (fleet : List ℕ) → NeverGrows (whole_support fleet)

abbrev pub SupportFalls : Type 0
SupportFalls = (fleet pattern larger : List ℕ) → IsTree pattern → Occurs pattern larger → support fleet larger ≤ support fleet pattern

abbrev pub SupportBeginning : Type 0
SupportBeginning = (fleet tree : List ℕ) (n : ℕ) → IsTree tree → suc n ≤ length tree → support fleet tree ≤ support fleet (take (suc n) tree)

-- It is the same for the same unordered tree, and for fleets whose vehicles have the same unordered trees, one by one, when remarks are taken out.
abbrev pub SupportSame : Type 0
SupportSame = (fleet pattern other : List ℕ) → IsTree pattern → IsTree other → SameTree pattern other → support fleet pattern ≡ support fleet other

pub record SameOneByOne (trees others : List (List ℕ)) : Type 0 where
  pub as_many : length trees ≡ length others
  pub each : (n : ℕ) → n < length trees → SameTree (get_or trees n []) (get_or others n [])

abbrev pub SupportSameVehicles : Type 0
SupportSameVehicles = (fleet other pattern : List ℕ) → IsFleet fleet → IsFleet other → IsTree pattern → SameOneByOne (vehicles (without_remarks fleet)) (vehicles (without_remarks other)) → support fleet pattern ≡ support other pattern

-- "A pattern holding a family 6 label therefore occurs nowhere", and its support is 0; that of any other is what it was.
abbrev pub RemarkUnsupported : Type 0
RemarkUnsupported = (fleet pattern : List ℕ) → HoldsRemark pattern → support fleet pattern ≡ 0

abbrev pub SupportAsBefore : Type 0
SupportAsBefore = (fleet pattern : List ℕ) → ¬ HoldsRemark pattern → support fleet pattern ≡ whole_support fleet pattern

-- The support is the number of trees where the pattern occurs when the remarks are taken out, and taking them out does not change it.
abbrev pub SupportExactly : Type 0
SupportExactly = (fleet pattern : List ℕ) → IsFleet fleet → support fleet pattern ≡ whole_support (without_remarks fleet) pattern

abbrev pub SupportWithoutRemarks : Type 0
SupportWithoutRemarks = (fleet pattern : List ℕ) → IsFleet fleet → support (without_remarks fleet) pattern ≡ support fleet pattern
