-- Document 01, "Pairs, trees and the fleet": "A vehicle's tree is a stretch of the fleet's pairs, handed on uncopied when the caller names its number, from 1."
use Rattle.std.specs.Prelude.{List, [], ◌∷◌, ◌≡◌, ℕ, zero, suc, ◌-◌, ◌≤◌, ◌<◌, length, get_or, take, drop}
use Rattle.terms.specs.Tree.{depthAt}
use Rattle.terms.specs.Fleet.{vehicles, end_to_end}
use Rattle.terms.specs.Refusal.{Rule, refusal}
use Rattle.fleet.specs.declared.Answer.{Answer}
use Rattle.fleet.specs.Answering.{answer}
use Rattle.fleet.specs.Rules.{fleet_rule, vehicle_rule}

-- The rules of naming a vehicle: 10, then 16.
abbrev pub vehicle_rules : (fleet : List ℕ) (vehicle : ℕ) → List Rule
vehicle_rules fleet vehicle = fleet_rule fleet ∷ vehicle_rule fleet vehicle ∷ []

-- The tree with this number, from 1, of trees in their order; none where there is none.
unfoldable pub numbered : List (List ℕ) → (number : ℕ) → List ℕ
numbered trees zero = []
numbered trees (suc n) = get_or trees n []

abbrev pub tree_numbered : (fleet : List ℕ) (number : ℕ) → List ℕ
tree_numbered fleet number = numbered (vehicles fleet) number

-- Whether the vehicle can be named, and how many nodes its tree has.
unfoldable pub vehicle_answer : (fleet : List ℕ) (vehicle : ℕ) → Answer
vehicle_answer fleet vehicle = answer (refusal (vehicle_rules fleet vehicle)) (length (tree_numbered fleet vehicle))

-- The tree that begins at one position ends before the other: "Depth 0 begins a tree."
pub record EndsAt (s : List ℕ) (from to : ℕ) : Type 0 where
  pub after : from < to
  pub within : to ≤ length s
  pub deep : (m : ℕ) → from < m → m < to → 1 ≤ depthAt s m
  pub next : to < length s → depthAt s to ≡ 0

-- Where the tree that begins at a position ends. Behind the last pair no tree begins: all pairs end there.
pub record TreeEnd (s : List ℕ) (from to : ℕ) : Type 0 where
  pub of_tree : from < length s → EndsAt s from to
  pub of_none : length s ≤ from → to ≡ length s

-- Where the tree with this number, from 1, begins: behind those of the vehicles before it; where there is none, behind the last pair.
pub record TreeStart (fleet : List ℕ) (number from : ℕ) : Type 0 where
  pub of_tree : (1 ≤ number) × (number ≤ length (vehicles fleet)) → from ≡ length (end_to_end (take (number - 1) (vehicles fleet)))
  pub of_none : ¬ ((1 ≤ number) × (number ≤ length (vehicles fleet))) → from ≡ length fleet

-- The pairs from one position to before the other: "a stretch of the fleet's pairs".
abbrev pub stretch : (s : List ℕ) (from to : ℕ) → List ℕ
stretch s from to = take (to - from) (drop from s)
