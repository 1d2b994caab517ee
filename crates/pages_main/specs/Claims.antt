-- The claims about the program for pages. Each is proved under its name in lower case, in proofs/Claims.
use Rattle.std.specs.Prelude.{◌≡◌, Bool, false, List, ◌++◌, ℕ, suc}
use Rattle.key.specs.Input.{request_by, sheet_of, input_refusal}
use Rattle.key.specs.Output.{key_output}
use Rattle.joining.specs.Joining.{joined}
use Rattle.pages_main.specs.Output.{paper_output}
use Rattle.pages_main.specs.Writing.{PrintedFor, given_for, left_for}

-- The bytes given are the beginning of the output, and all of it unless a write failed.
unfoldable pub PagesProgramClaim : Type 0
PagesProgramClaim = (input : List ℕ) (failed : Bool) (p : PrintedFor (request_by input) (sheet_of input) failed) → (given_for p ++ left_for p ≡ paper_output input) × (failed ≡ false → given_for p ≡ paper_output input)

-- On paper stands what the key program writes: joined, the pages are its output; a refusal is told by the same line.
unfoldable pub SameKeyClaim : Type 0
SameKeyClaim = (input : List ℕ) → (input_refusal input ≡ 0 → joined (paper_output input) ≡ key_output input)
    × ((number : ℕ) → input_refusal input ≡ suc number → paper_output input ≡ key_output input)
