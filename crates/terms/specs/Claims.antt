-- What is claimed of document 01's terms: where a definition says a thing in two ways, the two agree; and what is called "the" is there, once.
-- `ParentNearest` is proved as `parent_nearest`, and so on, in the file of proofs/ that is named.
use Rattle.std.specs.Prelude.{◌≡◌, true, List, [], ◌↔◌, ℕ, suc, ◌≤◌, ◌<◌, length, get_or, take, drop}
use Rattle.terms.specs.Tells.{decided}
use Rattle.terms.specs.Tree.{IsTree, IsParent, Nearest}
use Rattle.terms.specs.Form.{IsForm, InForm, LeftHeavy}
use Rattle.terms.specs.Placing.{Placing, Occurs, OccursAt, HeaviestPlacing}
use Rattle.terms.specs.Fits.{Fits}
use Rattle.terms.specs.Fleet.{vehicles, end_to_end, MayStandUnder, Under, IsVehicle, IsFleet}
use Rattle.terms.specs.LeftOut.{LeftOut, LeftOutOfEach, PlacingWithout, HeaviestWithout, remaining, numbers_remaining, carried_back, each_remaining}
use Rattle.terms.specs.Remarks.{Remark, HeldBy, without_remarks, each_without_remarks, HoldsRemark}
use Rattle.terms.specs.Refusal.{Rule, refusal, FirstBroken, AllKept, Numbered}

-- In a tree the parent is the nearest earlier node that is one less deep, and each node but the root has one (ParentLaws).
abbrev pub ParentNearest : Type 0
ParentNearest = (s : List ℕ) (i j : ℕ) → IsTree s → IsParent s i j ↔ Nearest s i j

abbrev pub OneParent : Type 0
OneParent = (s : List ℕ) → IsTree s → (j : ℕ) → suc j < length s → (i : ℕ) × IsParent s i (suc j) × ((k : ℕ) → IsParent s k (suc j) → k ≡ i)

-- "A fleet is 1 to 64 trees end to end" (VehicleLaws).
abbrev pub VehiclesJoin : Type 0
VehiclesJoin = (fleet : List ℕ) → end_to_end (vehicles fleet) ≡ fleet

-- "A vehicle's tree is a stretch of the fleet's pairs": it stands behind those of the vehicles before (VehicleLaws).
abbrev pub VehicleStretch : Type 0
VehicleStretch = (fleet : List ℕ) (n : ℕ) → n < length (vehicles fleet)
    → get_or (vehicles fleet) n [] ≡ take (length (get_or (vehicles fleet) n [])) (drop (length (end_to_end (take n (vehicles fleet)))) fleet)

-- "Ten rows of ten marks say which family may stand under which": what document 01's list says (FamilyLaws).
abbrev pub MarksExactly : Type 0
MarksExactly = (below above : ℕ) → below < 10 → above < 10 → MayStandUnder below above ↔ Under below above

-- "The form of a tree": there is one (FormLaws, Claims).
abbrev pub FormExists : Type 0
FormExists = (s : List ℕ) → IsTree s → (form : List ℕ) × IsForm s form

abbrev pub FormUnique : Type 0
FormUnique = (s form other : List ℕ) → IsForm s form → IsForm s other → form ≡ other

-- "Equivalently, each child's subtree is no lighter than its right neighbour's" (LeftHeavyLaws).
abbrev pub LeftHeavyExactly : Type 0
LeftHeavyExactly = (s : List ℕ) → IsTree s → InForm s ↔ LeftHeavy s

-- "A node fits if its children fit, and children fit if each node does, all in different places": the root fits exactly where a placing puts it
-- (GreedyLaws).
abbrev pub FitsExactly : Type 0
FitsExactly = (pattern tree : List ℕ) (v : ℕ) → IsTree pattern → v < length tree → Fits pattern tree 0 v ↔ OccursAt pattern tree v

-- Where the pattern occurs, there is one heaviest placing (PlacingLaws, Claims).
abbrev pub HeaviestExists : Type 0
HeaviestExists = (pattern tree : List ℕ) → Occurs pattern tree → (tuple : List ℕ) × HeaviestPlacing pattern tree tuple

abbrev pub HeaviestUnique : Type 0
HeaviestUnique = (pattern tree tuple other : List ℕ) → HeaviestPlacing pattern tree tuple → HeaviestPlacing pattern tree other → tuple ≡ other

-- LEFT-OUT NODES (RemainingFleet): a pattern is placed at counted nodes of a tree exactly as it is placed in the tree without the nodes left out, node
-- numbers carried back, each from one placing,
abbrev pub PlacedWithoutExactly : Type 1
PlacedWithoutExactly = (tree : List ℕ) (Out : ℕ → Type 0) (out? : (i : ℕ) → Dec (Out i)) → IsTree tree → LeftOut tree Out → (pattern tuple : List ℕ)
    → PlacingWithout Out pattern tree tuple ↔ ((other : List ℕ) × Placing pattern (remaining out? tree) other × (tuple ≡ carried_back (numbers_remaining out? 1 tree) other))

abbrev pub PlacedWithoutOnce : Type 1
PlacedWithoutOnce = (tree : List ℕ) (Out : ℕ → Type 0) (out? : (i : ℕ) → Dec (Out i)) → IsTree tree → LeftOut tree Out → (pattern tuple other : List ℕ)
    → Placing pattern (remaining out? tree) tuple → Placing pattern (remaining out? tree) other
    → carried_back (numbers_remaining out? 1 tree) tuple ≡ carried_back (numbers_remaining out? 1 tree) other → tuple ≡ other

-- and the heaviest from the heaviest.
abbrev pub HeaviestWithoutExactly : Type 1
HeaviestWithoutExactly = (tree : List ℕ) (Out : ℕ → Type 0) (out? : (i : ℕ) → Dec (Out i)) → IsTree tree → LeftOut tree Out → (pattern tuple : List ℕ)
    → HeaviestWithout Out pattern tree tuple ↔ ((other : List ℕ) × HeaviestPlacing pattern (remaining out? tree) other × (tuple ≡ carried_back (numbers_remaining out? 1 tree) other))

-- A fleet without its nodes left out is a fleet; its vehicles' trees are those of the vehicles, each without its nodes left out.
abbrev pub FleetWithout : Type 1
FleetWithout = (fleet : List ℕ) (Out : ℕ → Type 0) (out? : (i : ℕ) → Dec (Out i)) → IsFleet fleet → LeftOutOfEach (vehicles fleet) Out
    → IsFleet (remaining out? fleet) × (vehicles (remaining out? fleet) ≡ each_remaining out? (vehicles fleet))

-- REMARKS (RemarkLaws). "They have no children, so nothing else goes with them": remarks may be left out, and taking them out leaves a fleet.
abbrev pub RemarksLeftOut : Type 0
RemarksLeftOut = (tree : List ℕ) → IsVehicle tree → LeftOut tree (Remark tree)

abbrev pub FleetWithoutRemarks : Type 0
FleetWithoutRemarks = (fleet : List ℕ) → IsFleet fleet → IsFleet (without_remarks fleet) × (vehicles (without_remarks fleet) ≡ each_without_remarks (vehicles fleet))

-- A vehicle holds a pattern exactly if the pattern occurs in its tree with remarks taken out.
abbrev pub HeldExactly : Type 0
HeldExactly = (pattern tree : List ℕ) → IsVehicle tree → HeldBy pattern tree ↔ Occurs pattern (without_remarks tree)

-- "A pattern holding a family 6 label therefore occurs nowhere"; any other occurs where it did.
abbrev pub RemarkNowhere : Type 0
RemarkNowhere = (pattern tree : List ℕ) → HoldsRemark pattern → ¬ HeldBy pattern tree

abbrev pub HeldAsBefore : Type 0
HeldAsBefore = (pattern tree : List ℕ) → ¬ HoldsRemark pattern → HeldBy pattern tree ↔ Occurs pattern tree

-- "The placing shown": where a vehicle holds the pattern, there is one heaviest placing (RemarkLaws, Claims).
abbrev pub HeaviestHeldExists : Type 0
HeaviestHeldExists = (pattern tree : List ℕ) → HeldBy pattern tree → (tuple : List ℕ) × HeaviestWithout (Remark tree) pattern tree tuple

abbrev pub HeaviestWithoutUnique : Type 1
HeaviestWithoutUnique = (Out : ℕ → Type 0) (pattern tree tuple other : List ℕ) → HeaviestWithout Out pattern tree tuple → HeaviestWithout Out pattern tree other → tuple ≡ other

-- No remark is left when they are taken out, and where there is none nothing is taken out.
abbrev pub NoRemarkLeft : Type 0
NoRemarkLeft = (s : List ℕ) → ¬ HoldsRemark (without_remarks s)

abbrev pub NothingTakenOut : Type 0
NothingTakenOut = (s : List ℕ) → ¬ HoldsRemark s → without_remarks s ≡ s

-- DEMAND 1: what breaks a rule "gets the number of that rule", the first that is broken; "a call that breaks no rule is not refused" (Claims).
abbrev pub RefusedExactly : Type 1
RefusedExactly = (rules : List Rule) (n : ℕ) → Numbered rules → 1 ≤ n → (refusal rules ≡ n) ↔ FirstBroken n rules

abbrev pub AnsweredExactly : Type 1
AnsweredExactly = (rules : List Rule) → Numbered rules → (refusal rules ≡ 0) ↔ AllKept rules

-- A decision says yes exactly if it is so (DecidedLaws).
abbrev pub YesExactly : Type 1
YesExactly = (A : Type 0) (d : Dec A) → (decided d ≡ true) ↔ A
