-- What stands in memory when the remarks were taken out of pairs.
use Rattle.std.specs.Prelude.{◌≡◌, List, ◌++◌, ℕ, length, drop}
use Rattle.terms.specs.Remarks.{without_remarks}

-- Those that are no remarks in front, in their order, and behind them what stood there.
abbrev pub moved_to_front : List ℕ → List ℕ
moved_to_front pairs = without_remarks pairs ++ drop (length (without_remarks pairs)) pairs

-- A fleet copied to the front of an array, and its remarks taken out of the copy: so many nodes are left, and this is the array afterwards.
abbrev pub Copied : (fleet counted after : List ℕ) (len : ℕ) → Type 0
Copied fleet counted after len = (len ≡ length (without_remarks fleet)) × (after ≡ moved_to_front fleet ++ drop (length fleet) counted)
