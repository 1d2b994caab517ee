-- LAWS. The way back: what an accepted sheet says is a fleet, and its writing is the sheet; a refused sheet begins with the writing of what it
-- says before its wrong record.
use mathlib.Core.Path.{◌≡◌, refl, sym, ap, ◌∙◌}
use mathlib.Core.Logic.{◌≢◌}
use mathlib.Core.List.{List, [], ◌∷◌, ◌++◌, append-nil, append_assoc}
use Prim.Native.Nat.{ℕ, zero, suc, ◌+◌, ◌*◌, ◌/◌, ◌%◌, ◌≤◌, ◌<◌}
use native.Mathlib.Omega.{arith}
use native.Mathlib.Decide.{ℕ_discrete}
use lib.ListN.{length, drop, length-drop}
use lib.Seq.{get_or-drop}
use Rattle.fleet.proofs.FleetGrowth.{last_pair, Begun, nothing_yet, a_fleet, pair_depth, pair_label}
use Rattle.sheet.proofs.ReadingPath.{Reached, start, further, Said, by_rules, node_said, reached_begun, reading_from, reached_end, reached_wrong, stops_once}
use Rattle.sheet.proofs.ReadingTurns.{refused_same, accepted_at_end}
use Rattle.record.proofs.RecordLaws.{Right}
use Rattle.sheet.proofs.RoundTrip.{written_reached, writing_reads_back}
use Rattle.writing.proofs.WritingLaws.{bit_zero, bit_one, written_by, writing_end}
use Rattle.record.specs.NextRecord.{Step}
use Rattle.sheet.specs.Reading.{accepted, refused, go_on, read_on, reading, AllBytes}
use Rattle.fleet.specs.Node.{last_depth, last_label}
use Rattle.record.specs.Record.{field_bytes, field_or, said_depth, said_label}
use Rattle.sheet.specs.Refused.{WrongBehind}
use Rattle.writing.specs.Writing.{bit_of, if_bit, record_bytes, record_after, writing, record_of}
use Rattle.terms.proofs.Decide.{all_below_tail}
use Rattle.terms.specs.Fleet.{IsFleet}
use Rattle.terms.specs.Tree.{pair}
use Rattle.sheet.specs.Claims.{SaidIsFleet, SaidWritesBack, AcceptedExactly, ReadingRefusedExactly, WrongBehindUnique}

low : (a b : ℕ) → a < 256 → (a + 256 * b) % 256 ≡ a
low a b h = omega arith

high : (a b : ℕ) → a < 256 → (a + 256 * b) / 256 ≡ b
high a b h = omega arith

-- the record of what a record says is the record
record_again : (before : List ℕ) (bits : ℕ) (bytes : List ℕ) → 1 ≤ length before → AllBytes bytes → Right before bits bytes
    → record_after (last_pair before) (pair (said_depth before bits bytes) (said_label before bits bytes)) ++ drop (field_bytes bits) bytes ≡ bits ∷ bytes
unfolding field_or record_bytes if_bit
record_again before bits bytes some small r = go bits bytes small r
  where
    ending : (db lb d l : ℕ) (rest : List ℕ) → l ≤ 999 → bit_of (ℕ_discrete (pair d l / 1000) (suc (last_depth before))) ≡ db → bit_of (ℕ_discrete (pair d l % 1000) (last_label before)) ≡ lb
        → record_after (last_pair before) (pair d l) ++ rest ≡ record_bytes db lb d l ++ rest
    ending db lb d l rest h a b = ap (λ (w : List ℕ). w ++ rest) (written_by (last_pair before) (pair d l) db lb d l a b (pair_depth d l h) (pair_label d l h))

    depth_same : (d l : ℕ) → l ≤ 999 → d ≡ suc (last_depth before) → bit_of (ℕ_discrete (pair d l / 1000) (suc (last_depth before))) ≡ 0
    depth_same d l h e = bit_zero (ℕ_discrete (pair d l / 1000) (suc (last_depth before))) (pair_depth d l h ∙ e)

    depth_other : (d l : ℕ) → l ≤ 999 → d ≢ suc (last_depth before) → bit_of (ℕ_discrete (pair d l / 1000) (suc (last_depth before))) ≡ 1
    depth_other d l h n = bit_one (ℕ_discrete (pair d l / 1000) (suc (last_depth before))) (λ e. n (sym (pair_depth d l h) ∙ e))

    label_same : (d l : ℕ) → l ≤ 999 → l ≡ last_label before → bit_of (ℕ_discrete (pair d l % 1000) (last_label before)) ≡ 0
    label_same d l h e = bit_zero (ℕ_discrete (pair d l % 1000) (last_label before)) (pair_label d l h ∙ e)

    label_other : (d l : ℕ) → l ≤ 999 → l ≢ last_label before → bit_of (ℕ_discrete (pair d l % 1000) (last_label before)) ≡ 1
    label_other d l h n = bit_one (ℕ_discrete (pair d l % 1000) (last_label before)) (λ e. n (sym (pair_label d l h) ∙ e))

    go : (bits : ℕ) (bytes : List ℕ) → AllBytes bytes → Right before bits bytes
        → record_after (last_pair before) (pair (said_depth before bits bytes) (said_label before bits bytes)) ++ drop (field_bytes bits) bytes ≡ bits ∷ bytes
    go zero bytes s r =
        let h = r.node.rule6.1 in
        ending 0 0 (suc (last_depth before)) (last_label before) bytes h (depth_same (suc (last_depth before)) (last_label before) h refl) (label_same (suc (last_depth before)) (last_label before) h refl)
    go (suc zero) [] s r = absurd (omega (arith, r.rule4))
    go (suc zero) (d ∷ rest) s r =
        let h = r.node.rule6.1 in
        ending 1 0 d (last_label before) rest h (depth_other d (last_label before) h ((r.rule8 some).0 refl)) (label_same d (last_label before) h refl)
    go (suc (suc zero)) [] s r = absurd (omega (arith, r.rule4))
    go (suc (suc zero)) (a ∷ []) s r = absurd (omega (arith, r.rule4))
    go (suc (suc zero)) (a ∷ b ∷ rest) s r =
        let h = r.node.rule6.1 in
        let w : a < 256 = s 0 (omega arith) in
        ending 0 1 (suc (last_depth before)) (a + 256 * b) rest h (depth_same (suc (last_depth before)) (a + 256 * b) h refl) (label_other (suc (last_depth before)) (a + 256 * b) h ((r.rule8 some).1 refl))
        ∙ ap (λ (k : ℕ). 2 ∷ k ∷ (a + 256 * b) / 256 ∷ rest) (low a b w) ∙ ap (λ (k : ℕ). 2 ∷ a ∷ k ∷ rest) (high a b w)
    go (suc (suc (suc zero))) [] s r = absurd (omega (arith, r.rule4))
    go (suc (suc (suc zero))) (d ∷ []) s r = absurd (omega (arith, r.rule4))
    go (suc (suc (suc zero))) (d ∷ a ∷ []) s r = absurd (omega (arith, r.rule4))
    go (suc (suc (suc zero))) (d ∷ a ∷ b ∷ rest) s r =
        let h = r.node.rule6.1 in
        let w : a < 256 = s 1 (omega arith) in
        ending 1 1 d (a + 256 * b) rest h (depth_other d (a + 256 * b) h ((r.rule8 some).0 refl)) (label_other d (a + 256 * b) h ((r.rule8 some).1 refl))
        ∙ ap (λ (k : ℕ). 3 ∷ d ∷ k ∷ (a + 256 * b) / 256 ∷ rest) (low a b w) ∙ ap (λ (k : ℕ). 3 ∷ d ∷ a ∷ k ∷ rest) (high a b w)
    go (suc (suc (suc (suc k)))) bytes s r = absurd (omega (arith, r.rule2))

drop_bytes : (k : ℕ) (bytes : List ℕ) → AllBytes bytes → AllBytes (drop k bytes)
drop_bytes k bytes s i h = rw (get_or-drop k bytes i 0) (s (k + i) (omega (arith, length-drop k bytes)))

-- the first record's own bytes
first_again : (bits : ℕ) (bytes : List ℕ) → AllBytes bytes → Right [] bits bytes
    → record_bytes 1 1 (pair (said_depth [] bits bytes) (said_label [] bits bytes) / 1000) (pair (said_depth [] bits bytes) (said_label [] bits bytes) % 1000) ++ drop (field_bytes bits) bytes ≡ bits ∷ bytes
unfolding field_or record_bytes if_bit
first_again zero bytes s r = absurd (omega (arith, (r.rule3 refl).0))
first_again (suc zero) bytes s r = absurd (omega (arith, (r.rule3 refl).1))
first_again (suc (suc zero)) bytes s r = absurd (omega (arith, (r.rule3 refl).0))
first_again (suc (suc (suc zero))) [] s r = absurd (omega (arith, r.rule4))
first_again (suc (suc (suc zero))) (d ∷ []) s r = absurd (omega (arith, r.rule4))
first_again (suc (suc (suc zero))) (d ∷ a ∷ []) s r = absurd (omega (arith, r.rule4))
first_again (suc (suc (suc zero))) (d ∷ a ∷ b ∷ rest) s r =
    let h = r.node.rule6.1 in
    let w : a < 256 = s 1 (omega arith) in
    ap (λ (k : ℕ). record_bytes 1 1 k (pair d (a + 256 * b) % 1000) ++ rest) (pair_depth d (a + 256 * b) h)
    ∙ ap (λ (k : ℕ). record_bytes 1 1 d k ++ rest) (pair_label d (a + 256 * b) h)
    ∙ ap (λ (k : ℕ). 3 ∷ d ∷ k ∷ (a + 256 * b) / 256 ∷ rest) (low a b w) ∙ ap (λ (k : ℕ). 3 ∷ d ∷ a ∷ k ∷ rest) (high a b w)
first_again (suc (suc (suc (suc k)))) bytes s r = absurd (omega (arith, r.rule2))

-- the record of a node, be it the first or a later one, is the record that says it
node_again : {before bytes : List ℕ} {depth label : ℕ} {remain : List ℕ} → AllBytes bytes → Said before bytes depth label remain
    → (record_of (length before) (last_pair before) (pair depth label) ++ remain ≡ bytes) × AllBytes remain
unfolding record_of
node_again {before} s (by_rules {bits} {bytes} right) = (go before right, drop_bytes (field_bytes bits) bytes s')
  where
    s' : AllBytes bytes
    s' = all_below_tail 256 bits bytes s

    go : (before : List ℕ) → Right before bits bytes → record_of (length before) (last_pair before) (pair (said_depth before bits bytes) (said_label before bits bytes)) ++ drop (field_bytes bits) bytes ≡ bits ∷ bytes
    go [] r = first_again bits bytes s' r
    go (x ∷ before) r = record_again (x ∷ before) bits bytes (omega arith) s' r

-- what is read so far is written as the bytes read so far
reached_writes : {sheet before bytes : List ℕ} → AllBytes sheet → Reached sheet before bytes → (sheet ≡ writing before ++ bytes) × AllBytes bytes
unfolding writing
reached_writes s start = (refl, s)
reached_writes s (further {before} {bytes} {remain} {depth} {label} r e) =
    let ih = reached_writes s r in
    let n = node_again ih.1 (node_said before bytes depth label remain e) in
    let own = record_of (length before) (last_pair before) (pair depth label) in
    (ih.0 ∙ ap (λ (w : List ℕ). writing before ++ w) (sym n.0) ∙ sym (append_assoc (writing before) own remain) ∙ ap (λ (w : List ℕ). w ++ remain) (sym (writing_end before (pair depth label))), n.1)

begun_fleet : {pairs : List ℕ} → Begun pairs → 1 ≤ length pairs → IsFleet pairs
begun_fleet (a_fleet f) h = f
begun_fleet (nothing_yet q) h = absurd (omega (arith, ap length q))

pub said_reached : (sheet pairs : List ℕ) → reading sheet ≡ accepted pairs → Reached sheet pairs []
unfolding reading
said_reached sheet pairs e = reached_end (suc (length sheet)) start e

pub said_some : (sheet pairs : List ℕ) → reading sheet ≡ accepted pairs → 1 ≤ length pairs
said_some sheet pairs e = (accepted_at_end 0 pairs pairs (sym (reading_from 1 (said_reached sheet pairs e) (omega arith)) ∙ e)).0

pub said_is_fleet : SaidIsFleet
said_is_fleet sheet pairs e = begun_fleet (reached_begun (said_reached sheet pairs e)) (said_some sheet pairs e)

pub said_writes_back : SaidWritesBack
said_writes_back sheet pairs s e = sym (append-nil (writing pairs)) ∙ sym (reached_writes s (said_reached sheet pairs e)).0

pub accepted_exactly : AcceptedExactly
accepted_exactly sheet s = ((λ a. (a.0, said_is_fleet sheet a.0 a.1, said_writes_back sheet a.0 s a.1)), (λ w. (w.0, ap reading (sym w.2) ∙ writing_reads_back w.0 w.1)))

pub wrong_reached : {sheet pairs : List ℕ} {number : ℕ} (w : WrongBehind sheet pairs number) → Reached sheet pairs w.rest
wrong_reached {sheet} {pairs} w = written_reached (length pairs) sheet pairs w.rest refl (go pairs w.fleet) w.begins
  where
    go : (pairs : List ℕ) → (1 ≤ length pairs → IsFleet pairs) → Begun pairs
    go [] f = nothing_yet refl
    go (x ∷ pairs) f = a_fleet (f (omega arith))

pub refused_behind : (sheet : List ℕ) (number : ℕ) → AllBytes sheet → reading sheet ≡ refused number → (pairs : List ℕ) × WrongBehind sheet pairs number
unfolding reading
refused_behind sheet number s e =
    let stop = reached_wrong {sheet = sheet} (suc (length sheet)) start (omega arith) e in
    (stop.pairs, record { fleet = begun_fleet (reached_begun stop.reached); rest = stop.rest; begins = (reached_writes s stop.reached).0; wrong_next = stop.wrong_next })

behind_refused : {sheet pairs : List ℕ} {number : ℕ} → WrongBehind sheet pairs number → reading sheet ≡ refused number
unfolding read_on go_on
behind_refused {sheet} {pairs} w = reading_from (suc (length w.rest)) (wrong_reached w) (omega arith) ∙ ap (λ (step : Step). go_on step pairs (read_on (length w.rest))) w.wrong_next

pub reading_refused_exactly : ReadingRefusedExactly
reading_refused_exactly sheet number s = (refused_behind sheet number s, (λ w. behind_refused w.1))

pub wrong_behind_unique : WrongBehindUnique
wrong_behind_unique sheet p q m n v w = (stops_once (wrong_reached v) v.wrong_next (wrong_reached w) w.wrong_next, refused_same (sym (behind_refused v) ∙ behind_refused w))
