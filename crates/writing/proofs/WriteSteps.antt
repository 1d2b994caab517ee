-- LAWS. One for each way out of record_bits and packed_record, and one for each loop of the writing.
use mathlib.Core.Logic.{◌≢◌}
use mathlib.Core.Path.{◌≡◌, refl, sym, ap, ◌∙◌}
use Rattle.std.specs.Prelude.{Option, Some, None}
use Rattle.std.specs.Int.{w16, to_le_bytes}
use mathlib.Core.List.{List, [], ◌∷◌, ◌++◌}
use Prim.Native.Nat.{ℕ, zero, suc, ◌+◌, ◌*◌, ◌/◌, ◌%◌, ◌≤◌, ◌<◌}
use native.Mathlib.Omega.{arith}
use native.Mathlib.Numerals.{add-one}
use native.Mathlib.Decide.{ℕ_discrete}
use lib.ListN.{length, get_or, take, drop, length-append, take-append-drop}
use lib.Seq.{take-suc, take_all, length-take-le, paste, length-paste, take_at, drop_at, drop-drop}
use Rattle.fleet.proofs.FleetGrowth.{last_pair, last_end}
use Rattle.writing.specs.Writing.{bit_of, record_bytes, if_bit, record_after, writing, record_of, record_behind}
use Rattle.writing.proofs.WritingLaws.{bit_zero, bit_one, written_by, writing_end, writing_grows}

-- what record_bits gives, and its ways out
abbrev Bits : (bits : ℕ) (previous : Option ℕ) (x : ℕ) → Type 0
Bits bits previous x = (bits < 4) × (record_behind previous x ≡ record_bytes (bits % 2) (bits / 2) (x / 1000) (x % 1000))

pub bits_first : (x : ℕ) → Bits 3 None x
unfolding record_behind
bits_first x = (omega arith, refl)

-- the depth's bit
abbrev DepthBit : (d previous x : ℕ) → Type 0
DepthBit d previous x = (d < 2) × (bit_of (ℕ_discrete (x / 1000) (suc (previous / 1000))) ≡ d)

pub depth_set : (d previous x : ℕ) → x / 1000 ≢ previous / 1000 + 1 → d ≡ 1 → DepthBit d previous x
depth_set d previous x n e = (omega arith, bit_one (ℕ_discrete (x / 1000) (suc (previous / 1000))) (λ q. n (omega arith)) ∙ sym e)

pub depth_absent : (d previous x : ℕ) → x / 1000 ≡ previous / 1000 + 1 → d ≡ 0 → DepthBit d previous x
depth_absent d previous x w e = (omega arith, bit_zero (ℕ_discrete (x / 1000) (suc (previous / 1000))) (omega arith) ∙ sym e)

module _ (previous x d : ℕ) (g : DepthBit d previous x) where
  bits_later : (l bits : ℕ) → l < 2 → bit_of (ℕ_discrete (x % 1000) (previous % 1000)) ≡ l → bits ≡ d + 2 * l → Bits bits (Some previous) x
  unfolding record_behind
  bits_later l bits h e b =
      let z : d ≡ bits % 2 = omega (arith, g.0) in
      let w : l ≡ bits / 2 = omega (arith, g.0) in
      (omega (arith, g.0), written_by previous x (bits % 2) (bits / 2) (x / 1000) (x % 1000) (g.1 ∙ z) (e ∙ w) refl refl)

  pub bits_with_label : x % 1000 ≢ previous % 1000 → Bits (d + 2) (Some previous) x
  bits_with_label m = bits_later 1 (d + 2) (omega arith) (bit_one (ℕ_discrete (x % 1000) (previous % 1000)) m) (omega arith)

  pub bits_without_label : x % 1000 ≡ previous % 1000 → Bits d (Some previous) x
  bits_without_label m = bits_later 0 d (omega arith) (bit_zero (ℕ_discrete (x % 1000) (previous % 1000)) m) (omega arith)

-- the two bytes of a label
pub low_byte : (label : ℕ) (bytes : List ℕ) → bytes ≡ to_le_bytes w16 label → get_or bytes 0 0 ≡ label % 256
low_byte label bytes e = ap (λ (w : List ℕ). get_or w 0 0) e ∙ omega arith

pub high_byte : (label : ℕ) (bytes : List ℕ) → label < 1000 → bytes ≡ to_le_bytes w16 label → get_or bytes 1 0 ≡ label / 256
high_byte label bytes h e = ap (λ (w : List ℕ). get_or w 1 0) e ∙ omega arith

-- what packed_record gives, and its ways out
abbrev Packs : (bytes : List ℕ) (len : ℕ) (previous : Option ℕ) (x : ℕ) → Type 0
Packs bytes len previous x = (take len bytes ≡ record_behind previous x) × ((len ≤ 4) × (len ≤ length bytes))

module _ (bits : ℕ) (previous : Option ℕ) (x : ℕ) (b : Bits bits previous x) (label : List ℕ) (l : label ≡ to_le_bytes w16 (x % 1000)) where
  packed : (bytes : List ℕ) (len : ℕ) → length bytes ≡ 4 → len ≤ 4 → take len bytes ≡ record_bytes (bits % 2) (bits / 2) (x / 1000) (x % 1000) → Packs bytes len previous x
  packed bytes len n h e = (e ∙ sym b.1, (h, omega arith))

  low : get_or label 0 0 ≡ x % 1000 % 256
  low = low_byte (x % 1000) label l

  high : get_or label 1 0 ≡ x % 1000 / 256
  high = high_byte (x % 1000) label (omega arith) l

  pub packs_depth : bits % 2 ≡ 1 → Packs (bits ∷ x / 1000 ∷ get_or label 0 0 ∷ get_or label 1 0 ∷ []) (2 + 2 * (bits / 2)) previous x
  unfolding record_bytes if_bit
  packs_depth e = rw (low, high) (packed _ _ refl (omega (arith, b.0)) (go bits b.0 e))
    where
      go : (k : ℕ) → k < 4 → k % 2 ≡ 1 → take (2 + 2 * (k / 2)) (k ∷ x / 1000 ∷ x % 1000 % 256 ∷ x % 1000 / 256 ∷ []) ≡ record_bytes (k % 2) (k / 2) (x / 1000) (x % 1000)
      go zero h q = absurd (omega arith)
      go (suc zero) h q = refl
      go (suc (suc zero)) h q = absurd (omega arith)
      go (suc (suc (suc zero))) h q = refl
      go (suc (suc (suc (suc k)))) h q = absurd (omega arith)

  pub packs_no_depth : bits % 2 ≢ 1 → Packs (bits ∷ get_or label 0 0 ∷ get_or label 1 0 ∷ 0 ∷ []) (1 + 2 * (bits / 2)) previous x
  unfolding record_bytes if_bit
  packs_no_depth e = rw (low, high) (packed _ _ refl (omega (arith, b.0)) (go bits b.0 e))
    where
      go : (k : ℕ) → k < 4 → k % 2 ≢ 1 → take (1 + 2 * (k / 2)) (k ∷ x % 1000 % 256 ∷ x % 1000 / 256 ∷ 0 ∷ []) ≡ record_bytes (k % 2) (k / 2) (x / 1000) (x % 1000)
      go zero h q = refl
      go (suc zero) h q = absurd (q refl)
      go (suc (suc zero)) h q = refl
      go (suc (suc (suc zero))) h q = absurd (q refl)
      go (suc (suc (suc (suc k)))) h q = absurd (omega arith)

-- bytes put behind those at the front
pub paste_behind : (front out₀ output : List ℕ) (at : ℕ) (bytes : List ℕ) (len : ℕ) → length front ≡ at → output ≡ front ++ drop at out₀ → paste output at bytes len ≡ (front ++ take len bytes) ++ drop (at + len) out₀
paste_behind front out₀ output at bytes len n e =
    let a : take at output ≡ front = ap (take at) e ∙ take_at front (drop at out₀) at n in
    let b : drop at output ≡ drop at out₀ = ap (drop at) e ∙ drop_at front (drop at out₀) at n in
    let c : drop (at + len) output ≡ drop (at + len) out₀ = sym (drop-drop len at output) ∙ ap (drop len) b ∙ drop-drop len at out₀ in
    ap (λ (w : List ℕ). (w ++ take len bytes) ++ drop (at + len) output) a ∙ ap (λ (w : List ℕ). (front ++ take len bytes) ++ w) c

-- the first i pairs are written, and `previous` is the last of them
pub record WrittenTo (pairs : List ℕ) (i at : ℕ) (previous : Option ℕ) : Type 0 where
  pub at_is : at ≡ length (writing (take i pairs))
  pub behind : (x : ℕ) → record_behind previous x ≡ record_of i (last_pair (take i pairs)) x

pub written_first : (pairs : List ℕ) → WrittenTo pairs 0 0 None
unfolding writing record_behind record_of
written_first pairs = record { at_is = refl; behind = λ x. refl }

module _ (pairs : List ℕ) (i at : ℕ) (previous : Option ℕ) (g : WrittenTo pairs i at previous) (inside : i < length pairs) (bytes : List ℕ) (r : bytes ≡ record_behind previous (get_or pairs i 0)) where
  grown : take (suc i) pairs ≡ take i pairs ++ get_or pairs i 0 ∷ []
  grown = take-suc pairs i 0 inside

  more : writing (take (suc i) pairs) ≡ writing (take i pairs) ++ bytes
  more =
      ap writing grown ∙ writing_end (take i pairs) (get_or pairs i 0)
      ∙ ap (λ (k : ℕ). writing (take i pairs) ++ record_of k (last_pair (take i pairs)) (get_or pairs i 0)) (length-take-le i pairs (omega arith))
      ∙ ap (λ (w : List ℕ). writing (take i pairs) ++ w) (sym (r ∙ g.behind (get_or pairs i 0)))

  longer : at + length bytes ≡ length (writing (take (suc i) pairs))
  longer = omega (arith, ap length more, length-append (writing (take i pairs)) bytes, g.at_is)

  next_behind : (x : ℕ) → record_behind (Some (get_or pairs i 0)) x ≡ record_of (suc i) (last_pair (take (suc i) pairs)) x
  unfolding record_behind record_of
  next_behind x = ap (λ (y : ℕ). record_after y x) (sym (ap last_pair grown ∙ last_end (take i pairs) (get_or pairs i 0)))

  pub written_next : (len : ℕ) → length bytes ≡ len → WrittenTo pairs (i + 1) (at + len) (Some (get_or pairs i 0))
  written_next len n = rw (add-one i) (record { at_is = omega (arith, longer); behind = next_behind })

  pub room_for : at + length bytes ≤ length (writing pairs)
  room_for =
      let w : length (writing (take (suc i) pairs)) ≤ length (writing pairs) = rw (take-append-drop (suc i) pairs) at (writing_grows (take (suc i) pairs) (drop (suc i) pairs)) in
      omega (arith, longer)

  filled_next : (out₀ output : List ℕ) → output ≡ writing (take i pairs) ++ drop at out₀ → paste output at bytes (length bytes) ≡ writing (take (i + 1) pairs) ++ drop (at + length bytes) out₀
  filled_next out₀ output e =
      paste_behind (writing (take i pairs)) out₀ output at bytes (length bytes) (sym g.at_is) e
      ∙ ap (λ (w : List ℕ). (writing (take i pairs) ++ w) ++ drop (at + length bytes) out₀) (take_all (length bytes) bytes (omega arith))
      ∙ ap (λ (w : List ℕ). w ++ drop (at + length bytes) out₀) (sym more)
      ∙ ap (λ (k : ℕ). writing (take k pairs) ++ drop (at + length bytes) out₀) (sym (add-one i))

  pub filled_turn : (out₀ output out' : List ℕ) (len : ℕ) → length bytes ≡ len → out' ≡ paste output at bytes (length bytes) → length output ≡ length out₀ → length (writing pairs) ≤ length out₀ → output ≡ writing (take i pairs) ++ drop at out₀
      → (length out' ≡ length out₀) × ((out' ≡ writing (take (i + 1) pairs) ++ drop (at + len) out₀) × WrittenTo pairs (i + 1) (at + len) (Some (get_or pairs i 0)))
  filled_turn out₀ output out' len n eo el fits e = (
    ap length eo ∙ length-paste output at bytes (length bytes) (omega (arith, room_for)) (omega arith) ∙ el,
    (
      eo ∙ filled_next out₀ output e ∙ ap (λ (k : ℕ). writing (take (i + 1) pairs) ++ drop (at + k) out₀) n,
      written_next len n,
    ),
  )
