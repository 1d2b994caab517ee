-- What makes the sets of a register exact for the forms of one node. Proved as `size_is_whole_support`: Claims of proofs/.
use Rattle.std.specs.Prelude.{◌≡◌, List, [], ◌∷◌, ℕ, ◌≤◌}
use Rattle.terms.specs.Fleet.{vehicles}
use Rattle.occurrence.specs.Support.{whole_support}
use Rattle.sets.specs.Sets.{size}
use Rattle.register.specs.Register.{most_label, label_holders}

-- As many vehicles are in a label's set as the form of that one node occurs in, every node counted: remarks too, as the register counts them.
abbrev pub SizeIsWholeSupport : Type 0
SizeIsWholeSupport = (fleet : List ℕ) (label : ℕ) → 1 ≤ label → label ≤ most_label → size (label_holders label (vehicles fleet)) ≡ whole_support fleet (label ∷ [])
