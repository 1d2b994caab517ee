-- LAWS. The round trip: a written record is read as its node, and the writing of a fleet as the fleet.
use mathlib.Core.Path.{◌≡◌, refl, sym, ap, ◌∙◌, subst}
use mathlib.Core.List.{List, [], ◌∷◌, ◌++◌, append-nil, append_assoc}
use Prim.Native.Nat.{ℕ, zero, suc, ◌+◌, ◌*◌, ◌/◌, ◌%◌, ◌≤◌}
use native.Mathlib.Omega.{arith}
use native.Mathlib.Decide.{ℕ_discrete}
use lib.ListN.{length, drop, length-append}
use Rattle.fleet.proofs.FleetGrowth.{last_pair, split_end, pair_whole, Begun, nothing_yet, a_fleet, fleet_grew}
use Rattle.sheet.proofs.ReadingPath.{Reached, start, further, reading_from}
use Rattle.fleet.proofs.NodeLaws.{NodeRight}
use Rattle.record.proofs.RecordLaws.{Right, right_zero}
use Rattle.writing.proofs.WritingLaws.{writing_end}
use Rattle.record.specs.NextRecord.{node, step_of, after_last, next_record}
use Rattle.sheet.specs.Reading.{accepted, go_on, read_on, reading}
use Rattle.fleet.specs.Node.{last_depth, last_label}
use Rattle.record.specs.Record.{field_bytes, field_or, said_depth, said_label, NoHighBit, FirstHasBoth, FieldsFit, NoNeedlessField}
use Rattle.writing.specs.Writing.{bit_of, if_bit, record_bytes, record_after, writing, record_of}
use Rattle.terms.specs.Fleet.{vehicles, IsFleet}
use Rattle.sheet.specs.Claims.{WritingReadsBack}

pub reads_node : (before : List ℕ) (bits : ℕ) (bytes : List ℕ) (d l : ℕ) → NoHighBit bits → FirstHasBoth before bits → FieldsFit bits bytes → said_depth before bits bytes ≡ d → said_label before bits bytes ≡ l
    → NodeRight before d l → NoNeedlessField before bits d l → next_record before (bits ∷ bytes) ≡ node d l (drop (field_bytes bits) bytes)
unfolding next_record step_of
reads_node before bits bytes d l r2 r3 r4 ed el nr r8 =
    let r : Right before bits bytes = record { rule2 = r2; rule3 = r3; rule4 = r4; node = rw (ed, el) nr; rule8 = rw (ed, el) r8 } in
    ap (λ (k : ℕ). step_of k (said_depth before bits bytes) (said_label before bits bytes) (drop (field_bytes bits) bytes)) (right_zero before bits bytes r)
    ∙ ap (λ (k : ℕ). node k (said_label before bits bytes) (drop (field_bytes bits) bytes)) ed
    ∙ ap (λ (k : ℕ). node d k (drop (field_bytes bits) bytes)) el

label_back : (l : ℕ) → l % 256 + 256 * (l / 256) ≡ l
label_back l = omega arith

-- a written record is read as its node
pub record_reads : (before : List ℕ) (x : ℕ) (rest : List ℕ) → 1 ≤ length before → NodeRight before (x / 1000) (x % 1000)
    → next_record before (record_after (last_pair before) x ++ rest) ≡ node (x / 1000) (x % 1000) rest
unfolding record_after record_bytes if_bit bit_of field_or
record_reads before x rest h nr = go (ℕ_discrete (x / 1000) (suc (last_depth before))) (ℕ_discrete (x % 1000) (last_label before))
  where
    go : (a : Dec (x / 1000 ≡ suc (last_depth before))) (b : Dec (x % 1000 ≡ last_label before)) → next_record before (record_bytes (bit_of a) (bit_of b) (x / 1000) (x % 1000) ++ rest) ≡ node (x / 1000) (x % 1000) rest
    go (yes a) (yes b) = reads_node before 0 rest (x / 1000) (x % 1000) (omega arith) (λ z. absurd (omega arith)) (omega arith) (sym a) (sym b) nr (λ _. ((λ z. absurd (omega arith)), (λ z. absurd (omega arith))))
    go (no a) (yes b) = reads_node before 1 (x / 1000 ∷ rest) (x / 1000) (x % 1000) (omega arith) (λ z. absurd (omega arith)) (omega arith) refl (sym b) nr (λ _. ((λ _. a), (λ z. absurd (omega arith))))
    go (yes a) (no b) = reads_node before 2 (x % 1000 % 256 ∷ x % 1000 / 256 ∷ rest) (x / 1000) (x % 1000) (omega arith) (λ z. absurd (omega arith)) (omega arith) (sym a) (label_back (x % 1000)) nr (λ _. ((λ z. absurd (omega arith)), (λ _. b)))
    go (no a) (no b) = reads_node before 3 (x / 1000 ∷ x % 1000 % 256 ∷ x % 1000 / 256 ∷ rest) (x / 1000) (x % 1000) (omega arith) (λ z. absurd (omega arith)) (omega arith) refl (label_back (x % 1000)) nr (λ _. ((λ _. a), (λ _. b)))

pub first_reads : (x : ℕ) (rest : List ℕ) → NodeRight [] (x / 1000) (x % 1000) → next_record [] (record_bytes 1 1 (x / 1000) (x % 1000) ++ rest) ≡ node (x / 1000) (x % 1000) rest
unfolding record_bytes if_bit field_or
first_reads x rest nr = reads_node [] 3 (x / 1000 ∷ x % 1000 % 256 ∷ x % 1000 / 256 ∷ rest) (x / 1000) (x % 1000) (omega arith) (λ z. (refl, refl)) (omega arith) refl (label_back (x % 1000)) nr (λ z. absurd (omega arith))

-- a written record, be it the first or a later one, is read as its node
node_reads : (before : List ℕ) (x : ℕ) (rest : List ℕ) → NodeRight before (x / 1000) (x % 1000) → next_record before (record_of (length before) (last_pair before) x ++ rest) ≡ node (x / 1000) (x % 1000) rest
unfolding record_of
node_reads [] x rest nr = first_reads x rest nr
node_reads (y ∷ before) x rest nr = record_reads (y ∷ before) x rest (omega arith) nr

-- a sheet that begins with the writing of a fleet is read as this fleet up to there
pub written_reached : (n : ℕ) (sheet pairs rest : List ℕ) → length pairs ≡ n → Begun pairs → sheet ≡ writing pairs ++ rest → Reached sheet pairs rest
unfolding writing
written_reached zero sheet [] rest len b e = subst (Reached sheet []) e start
written_reached zero sheet (x ∷ pairs) rest len b e = absurd (omega arith)
written_reached (suc n) sheet pairs rest len b e = go (split_end pairs (omega arith)) b (λ u rest'. written_reached n sheet u rest')
  where
    go : (u : List ℕ) × (x : ℕ) × (pairs ≡ u ++ x ∷ []) → Begun pairs → ((u rest' : List ℕ) → length u ≡ n → Begun u → sheet ≡ writing u ++ rest' → Reached sheet u rest') → Reached sheet pairs rest
    go z (nothing_yet q) shorter = absurd (omega (arith, ap length q))
    go z (a_fleet f) shorter =
        let u = z.0 in
        let x = z.1 in
        let own = record_of (length u) (last_pair u) x in
        let grew = fleet_grew u x (rw z.2 at f) in
        let e' : sheet ≡ writing u ++ (own ++ rest) = e ∙ ap (λ (s : List ℕ). writing s ++ rest) z.2 ∙ ap (λ (s : List ℕ). s ++ rest) (writing_end u x) ∙ append_assoc (writing u) own rest in
        let r : Reached sheet u (own ++ rest) = shorter u (own ++ rest) (omega (arith, ap length z.2, length-append u (x ∷ []))) grew.0 e' in
        subst (λ (s : List ℕ). Reached sheet s rest) (ap (λ (k : ℕ). u ++ k ∷ []) (pair_whole x) ∙ sym z.2) (further r (node_reads u x rest grew.1))

pub writing_reads_back : WritingReadsBack
unfolding read_on go_on next_record after_last vehicles
writing_reads_back pairs f = go pairs f (reading_from 1 (written_reached (length pairs) (writing pairs) pairs [] refl (a_fleet f) (sym (append-nil (writing pairs)))) (omega arith))
  where
    go : (before : List ℕ) → IsFleet before → reading (writing pairs) ≡ read_on 1 before [] → reading (writing pairs) ≡ accepted before
    go [] f e = absurd (omega (arith, f.some_tree))
    go (x ∷ before) f e = e
