-- LAWS. A piece of a fleet's text, by its parts, and the room that it needs.
use mathlib.Core.Path.{◌≡◌, refl, sym, ap, ◌∙◌}
use mathlib.Core.Logic.{◌≢◌}
use mathlib.Core.List.{List, [], ◌∷◌}
use Prim.Native.Nat.{ℕ, zero, suc, ◌+◌, ◌/◌, ◌≤◌, ◌<◌}
use native.Mathlib.Omega.{arith}
use lib.ListN.{length}
use Rattle.text.specs.Text.{pair_text, blank, line_end}
use Rattle.text.specs.Building.{most_pair_bytes, Put}
use Rattle.text.proofs.TextLaws.{then_put, put_as, put_length, five_at_least}
use Rattle.fleet_text.specs.FleetText.{parting, fleet_piece, is_first}

-- a place with room for a piece, and a line end behind it
abbrev PieceRoom : (before x at room : ℕ) → Type 0
PieceRoom before x at room = at + length (fleet_piece (is_first before) x) < room

-- the first pair of a fleet
module _ (before x : ℕ) (first : before ≡ 0) where
  alone : pair_text x ≡ fleet_piece (is_first before) x
  unfolding fleet_piece is_first
  alone = ap (λ (n : ℕ). fleet_piece (is_first n) x) (sym first)

  pub first_room : (at room : ℕ) → PieceRoom before x at room → at + most_pair_bytes ≤ room
  first_room at room h = omega (arith, h, ap length alone, five_at_least x)

  pub first_piece : {a b : List ℕ} {i j : ℕ} → Put a i (pair_text x) b j → Put a i (fleet_piece (is_first before) x) b j
  first_piece p = put_as alone p

-- any other
module _ (before x : ℕ) (later : before ≢ 0) where
  parted : (byte : ℕ) → parting (x / 1000) ≡ byte → byte ∷ pair_text x ≡ fleet_piece (is_first before) x
  unfolding fleet_piece is_first
  parted byte e = go before later
    where
      go : (n : ℕ) → n ≢ 0 → byte ∷ pair_text x ≡ fleet_piece (is_first n) x
      go zero h = absurd (h refl)
      go (suc n) h = ap (λ (b : ℕ). b ∷ pair_text x) (sym e)

  parted_room : (at room : ℕ) → PieceRoom before x at room → at + 1 + most_pair_bytes ≤ room
  parted_room at room h = omega (arith, h, ap length (parted (parting (x / 1000)) refl), five_at_least x)

  pub pair_room : {a b : List ℕ} {i j byte : ℕ} → PieceRoom before x i (length a) → Put a i (byte ∷ []) b j → j + most_pair_bytes ≤ length b
  pair_room {a} {i = i} h p = omega (arith, parted_room i (length a) h, p.size, put_length p)

  pub later_piece : {a b c : List ℕ} {i j k byte : ℕ} → parting (x / 1000) ≡ byte → Put a i (byte ∷ []) b j → Put b j (pair_text x) c k → Put a i (fleet_piece (is_first before) x) c k
  later_piece {byte = byte} e p q = put_as (parted byte e) (then_put p q)

-- what parts it from the pair before
pub root_parting : (x : ℕ) {byte : ℕ} → x < 1000 → byte ≡ line_end → parting (x / 1000) ≡ byte
unfolding parting
root_parting x h e = let z : x / 1000 ≡ 0 = omega arith in ap parting z ∙ sym e

part_child : (depth : ℕ) → 1 ≤ depth → parting depth ≡ blank
unfolding parting
part_child zero h = absurd (omega arith)
part_child (suc depth) h = refl

pub child_parting : (x : ℕ) {byte : ℕ} → 1000 ≤ x → byte ≡ blank → parting (x / 1000) ≡ byte
child_parting x h e = part_child (x / 1000) (omega arith) ∙ sym e
