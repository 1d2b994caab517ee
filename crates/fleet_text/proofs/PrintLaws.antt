-- LAWS. The text of a fleet, counted pair by pair and printed piece by piece: what holds between two turns of the loops; and the ways out of print.
use mathlib.Core.Path.{◌≡◌, refl, sym, ap, ◌∙◌}
use mathlib.Core.Bool.{Bool, true, false}
use mathlib.Core.List.{List, [], ◌∷◌, ◌++◌, append_assoc, append-nil}
use Prim.Native.Nat.{ℕ, ◌+◌, ◌≤◌, ◌<◌}
use native.Mathlib.Omega.{arith}
use lib.ListN.{length, get_or, set, take, drop, length-append, take-append-drop}
use lib.Seq.{take_all, length-take-le}
use Rattle.std.proofs.lemmas.List.{take_more}
use Rattle.terms.specs.Fleet.{vehicles, IsFleet}
use Rattle.terms.specs.Tells.{decided}
use Rattle.terms.proofs.FleetLaws.{fleet?}
use Rattle.fleet.specs.declared.Answer.TheVariants.{Done, Refused}
use Rattle.sheet.proofs.WriteOutput.{no_fleet, short_output, all_put}
use Rattle.text.specs.Text.{pair_text, line_end}
use Rattle.text.specs.Building.{Put}
use Rattle.text.proofs.TextLaws.{put_none, put_one, then_put, put_as, put_length}
use Rattle.fleet_text.specs.FleetText.{fleet_piece, fleet_pieces, fleet_text, is_first, print_answer, print_output}

later_end : (s : List ℕ) (x : ℕ) → fleet_pieces false (s ++ x ∷ []) ≡ fleet_pieces false s ++ fleet_piece false x
unfolding fleet_pieces
later_end [] x = append-nil (fleet_piece false x)
later_end (y ∷ s) x = ap (λ (w : List ℕ). fleet_piece false y ++ w) (later_end s x) ∙ sym (append_assoc (fleet_piece false y) (fleet_pieces false s) (fleet_piece false x))

pieces_end : (s : List ℕ) (x : ℕ) → fleet_pieces true (s ++ x ∷ []) ≡ fleet_pieces true s ++ fleet_piece (is_first (length s)) x
unfolding fleet_pieces is_first
pieces_end [] x = append-nil (fleet_piece true x)
pieces_end (y ∷ s) x = ap (λ (w : List ℕ). fleet_piece true y ++ w) (later_end s x) ∙ sym (append_assoc (fleet_piece true y) (fleet_pieces false s) (fleet_piece false x))

pieces_grow : (first : Bool) (s t : List ℕ) → length (fleet_pieces first s) ≤ length (fleet_pieces first (s ++ t))
unfolding fleet_pieces
pieces_grow first [] t = omega arith
pieces_grow first (x ∷ s) t = omega (arith, pieces_grow false s t, length-append (fleet_piece first x) (fleet_pieces false s), length-append (fleet_piece first x) (fleet_pieces false (s ++ t)))

text_length : (pairs : List ℕ) → length (fleet_text pairs) ≡ length (fleet_pieces true pairs) + 1
unfolding fleet_text
text_length pairs = length-append (fleet_pieces true pairs) (line_end ∷ [])

-- the bytes of the first i pairs are counted, each with what parts it from the next
abbrev pub CountedTo : (pairs : List ℕ) (i size : ℕ) → Type 0
CountedTo pairs i size = size ≡ length (fleet_pieces false (take i pairs))

pub counted_first : (pairs : List ℕ) → CountedTo pairs 0 0
unfolding fleet_pieces
counted_first pairs = refl

pub counted_next : (pairs : List ℕ) (i size more : ℕ) → CountedTo pairs i size → i < length pairs → more ≡ length (pair_text (get_or pairs i 0)) → CountedTo pairs (i + 1) (size + (more + 1))
unfolding fleet_piece
counted_next pairs i size more g h e =
    omega (arith, ap (λ (s : List ℕ). length (fleet_pieces false s)) (take_more pairs i 0 h), ap length (later_end (take i pairs) (get_or pairs i 0)), length-append (fleet_pieces false (take i pairs)) (fleet_piece false (get_or pairs i 0)))

-- the first pair has nothing before it, and the last a line end behind it
pub counted_all : (pairs : List ℕ) (i size : ℕ) → CountedTo pairs i size → length pairs ≤ i → IsFleet pairs → size ≡ length (fleet_text pairs)
unfolding fleet_pieces fleet_piece vehicles
counted_all [] i size g h f = absurd (omega (arith, f.some_tree))
counted_all (x ∷ pairs) i size g h f =
    omega (
      arith,
      ap (λ (s : List ℕ). length (fleet_pieces false s)) (take_all i (x ∷ pairs) h),
      text_length (x ∷ pairs),
      length-append (fleet_piece false x) (fleet_pieces false pairs),
      length-append (fleet_piece true x) (fleet_pieces false pairs),
    )

-- the first i pairs stand in front of the output
abbrev pub PrintedTo : (pairs : List ℕ) (i : ℕ) (output₀ output : List ℕ) (at : ℕ) → Type 0
PrintedTo pairs i output₀ output at = Put output₀ 0 (fleet_pieces true (take i pairs)) output at

pub printed_first : (pairs output : List ℕ) → PrintedTo pairs 0 output output 0
unfolding fleet_pieces
printed_first pairs output = put_none output 0 (omega arith)

module _ (pairs : List ℕ) (i : ℕ) {out₀ output : List ℕ} {at : ℕ} (g : PrintedTo pairs i out₀ output at) where
  module _ (inside : i < length pairs) where
    more : fleet_pieces true (take i pairs) ++ fleet_piece (is_first i) (get_or pairs i 0) ≡ fleet_pieces true (take (i + 1) pairs)
    more =
        ap (λ (k : ℕ). fleet_pieces true (take i pairs) ++ fleet_piece (is_first k) (get_or pairs i 0)) (sym (length-take-le i pairs (omega arith)))
        ∙ sym (pieces_end (take i pairs) (get_or pairs i 0)) ∙ ap (fleet_pieces true) (sym (take_more pairs i 0 inside))

    pub room_for : length (fleet_text pairs) ≤ length out₀ → at + length (fleet_piece (is_first i) (get_or pairs i 0)) < length output
    room_for fits =
        let w : length (fleet_pieces true (take (i + 1) pairs)) ≤ length (fleet_pieces true pairs) = rw (take-append-drop (i + 1) pairs) at (pieces_grow true (take (i + 1) pairs) (drop (i + 1) pairs)) in
        omega (arith, ap length more, length-append (fleet_pieces true (take i pairs)) (fleet_piece (is_first i) (get_or pairs i 0)), text_length pairs, g.size, put_length g)

    pub printed_next : {out' : List ℕ} {end : ℕ} → Put output at (fleet_piece (is_first i) (get_or pairs i 0)) out' end → PrintedTo pairs (i + 1) out₀ out' end
    printed_next p = put_as more (then_put g p)

  -- the line end behind the last piece
  module _ (all : length pairs ≤ i) (fits : length (fleet_text pairs) ≤ length out₀) where
    pub end_room : at < length output
    end_room = omega (arith, ap (λ (s : List ℕ). length (fleet_pieces true s)) (take_all i pairs all), text_length pairs, g.size, put_length g)

    pub printed_all : set output at line_end ≡ fleet_text pairs ++ drop (length (fleet_text pairs)) out₀
    unfolding fleet_text
    printed_all =
        let p : Put out₀ 0 (fleet_text pairs) (set output at line_end) (at + 1)
        = put_as (ap (λ (s : List ℕ). fleet_pieces true s ++ line_end ∷ []) (take_all i pairs all)) (then_put g (put_one output at line_end end_room refl)) in
        let e : at + 1 ≡ length (fleet_text pairs) = omega (arith, p.size) in
        p.is ∙ ap (λ (n : ℕ). fleet_text pairs ++ drop n out₀) e

-- the ways out of print
module _ (pairs output : List ℕ) (b : Bool) (e : b ≡ decided (fleet? pairs)) where
  pub print_10 : b ≡ false → (Refused 10 ≡ print_answer pairs output) × (output ≡ print_output pairs output)
  unfolding print_answer print_output
  print_10 = no_fleet pairs output (fleet_text pairs) b e

  pub print_17 : (size : ℕ) → b ≡ true → size ≡ length (fleet_text pairs) → length output < size → (Refused 17 ≡ print_answer pairs output) × (output ≡ print_output pairs output)
  unfolding print_answer print_output
  print_17 = short_output pairs output (fleet_text pairs) b e

  pub print_done : (size : ℕ) (exit : List ℕ) → b ≡ true → size ≡ length (fleet_text pairs) → size ≤ length output → exit ≡ fleet_text pairs ++ drop (length (fleet_text pairs)) output → (Done size ≡ print_answer pairs output) × (exit ≡ print_output pairs output)
  unfolding print_answer print_output
  print_done = all_put pairs output (fleet_text pairs) b e
