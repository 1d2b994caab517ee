-- LAWS. How long the text of a fleet is.
use mathlib.Core.Path.{◌≡◌}
use mathlib.Core.Bool.{false}
use mathlib.Core.List.{List, [], ◌∷◌, ◌++◌, append_assoc}
use Prim.Native.Nat.{ℕ, ◌*◌, ◌/◌, ◌%◌, ◌≤◌, ◌<◌}
use native.Mathlib.Omega.{arith}
use native.Mathlib.Decide.{dec_lt}
use lib.ListN.{length, length-append}
use Rattle.terms.specs.Fleet.{IsFleet}
use Rattle.fleet.proofs.NodeLaws.{NodeRight}
use Rattle.fleet.proofs.FleetGrowth.{fleet_grew, fleet_beginning}
use Rattle.text.specs.Text.{line_end, pair_text}
use Rattle.text.proofs.TextLaws.{one_digit, two_digits}
use Rattle.fleet_text.specs.FleetText.{fleet_piece, fleet_pieces, fleet_text}

-- how long the text of a pair is
pub pair_length : (x : ℕ) → x / 1000 < 100 → (1 ≤ length (pair_text x)) × (length (pair_text x) ≤ 6)
unfolding pair_text
pair_length x h = go (dec_lt (x / 1000) 10)
  where
    go : Dec (x / 1000 < 10) → (1 ≤ length (pair_text x)) × (length (pair_text x) ≤ 6)
    go (yes q) = rw (one_digit (x / 1000) q) (omega arith, omega arith)
    go (no q) = rw (two_digits (x / 1000) (omega arith) h) (omega arith, omega arith)

-- a fleet up to one of its pairs
module _ (before rest : List ℕ) (x : ℕ) (f : IsFleet (before ++ x ∷ rest)) where
  pub moved : (before ++ x ∷ []) ++ rest ≡ before ++ x ∷ rest
  moved = append_assoc before (x ∷ []) rest

  pub so_far : IsFleet (before ++ x ∷ [])
  so_far = fleet_beginning (before ++ x ∷ []) rest (omega (arith, length-append before (x ∷ []))) (rw moved f)

  pub right : NodeRight before (x / 1000) (x % 1000)
  right = (fleet_grew before x so_far).1

  pub shallow : x / 1000 < 100
  shallow = let d = right.rule5.1.1 in omega (arith, d)

-- how long the text of a fleet is
pieces_length : (rest before : List ℕ) → IsFleet (before ++ rest) → length (fleet_pieces false rest) ≤ 7 * length rest
unfolding fleet_pieces fleet_piece
pieces_length [] before f = omega arith
pieces_length (x ∷ rest) before f =
    omega (arith, length-append (pair_text x) (fleet_pieces false rest), (pair_length x (shallow before rest x f)).1, pieces_length rest (before ++ x ∷ []) (rw (moved before rest x f) f))

pub text_length : (x : ℕ) (rest : List ℕ) → IsFleet (x ∷ rest) → length (fleet_text (x ∷ rest)) ≤ 7 * length (x ∷ rest)
unfolding fleet_text fleet_pieces fleet_piece
text_length x rest f =
    omega (arith, length-append (pair_text x ++ fleet_pieces false rest) (line_end ∷ []), length-append (pair_text x) (fleet_pieces false rest), (pair_length x (shallow [] rest x f)).1, pieces_length rest (x ∷ []) f)
