-- LAWS for callers of `copy_without`: what stands in front of the array is the fleet with remarks taken out.
use mathlib.Core.Path.{◌≡◌, sym, ap, ◌∙◌}
use mathlib.Core.List.{List, ◌++◌, append_assoc}
use Prim.Native.Nat.{ℕ, ◌≤◌}
use native.Mathlib.Omega.{arith}
use lib.ListN.{length, take, drop, length-append}
use lib.Seq.{take-append_seam, length-take-le}
use Rattle.terms.specs.Remarks.{without_remarks}
use Rattle.remarks.specs.TakenOut.{Copied}

module _ (fleet counted after : List ℕ) (len : ℕ) (is : Copied fleet counted after len) where
  joined : after ≡ without_remarks fleet ++ (drop (length (without_remarks fleet)) fleet ++ drop (length fleet) counted)
  joined = is.1 ∙ append_assoc (without_remarks fleet) (drop (length (without_remarks fleet)) fleet) (drop (length fleet) counted)

  pub copied_front : take len after ≡ without_remarks fleet
  copied_front =
      ap (λ (k : ℕ). take k after) is.0
      ∙ ap (take (length (without_remarks fleet))) joined
      ∙ take-append_seam (without_remarks fleet) (drop (length (without_remarks fleet)) fleet ++ drop (length fleet) counted)

  pub copied_within : len ≤ length after
  copied_within = omega (arith, is.0, ap length joined, length-append (without_remarks fleet) (drop (length (without_remarks fleet)) fleet ++ drop (length fleet) counted))

  pub copied_length : len ≡ length (take len after)
  copied_length = sym (length-take-le len after copied_within)
