-- LAWS. The record on the reader's numbers is the record behind the pairs read so far; one law for each way out of fields_needed, broken and
-- judge.
use mathlib.Core.Path.{◌≡◌, refl, sym, ap, ◌∙◌}
use mathlib.Core.Logic.{◌≢◌}
use mathlib.Core.Bool.{not}
use mathlib.Core.List.{List, ◌∷◌}
use Prim.Native.Nat.{ℕ, suc, ◌+◌, ◌-◌, ◌*◌, ◌/◌, ◌%◌, ◌≤◌, ◌<◌}
use native.Mathlib.Omega.{arith}
use lib.Dec.{eqb}
use lib.ListN.{length, get_or, drop, length-drop}
use lib.Seq.{drop-cons, get_or-drop, drop-drop}
use borrow.Author.Tests.{eqb-true, eqb-false, not-true, not-false}
use Rattle.terms.specs.Tells.{Tells}
use Rattle.terms.specs.Refusal.{refusal}
use Rattle.fleet.specs.Node.{last_depth, last_label}
use Rattle.fleet.specs.NodeRules.{fit_rules}
use Rattle.fleet.specs.Numbers.{RoomLeft}
use Rattle.fleet.specs.Reader.{ReaderOf}
use Rattle.fleet.specs.declared.reader.Reader.{Reader}
use Rattle.fleet.proofs.ReaderSteps.{limit_broken, limit_kept}
use Rattle.fleet.proofs.TellsLaws.{tells_if}
use Rattle.record.specs.Record.{NoNeedlessField, field_or, field_bytes, said_depth, said_label}
use Rattle.record.specs.NextRecord.{wrong, step_of, next_record}
use Rattle.record.specs.Judging.{FieldsNeeded, FieldsAt, JudgedAt}
use Rattle.record.specs.declared.Fields.{Fields}
use Rattle.record.specs.declared.Judged.{Judged}
use Rattle.record.proofs.RecordLaws as sr
use Rattle.record.proofs.RecordLaws.{said_refusal, record_refusal}

-- rule 8
pub label_needed : (nodes deeper last bits depth label : ℕ) → nodes ≢ 0 → (bits % 2 ≡ 1 → depth ≢ deeper) → bits / 2 % 2 ≡ 1 → Tells (not (eqb label last)) (FieldsNeeded nodes deeper last bits depth label)
label_needed nodes deeper last bits depth label n d e = tells_if (not (eqb label last)) {R = FieldsNeeded nodes deeper last bits depth label}
    (λ t _. (d, (λ _. eqb-false label last (not-true (eqb label last) t)))) (λ t r. (r (omega arith)).1 e (eqb-true label last (not-false (eqb label last) t)))

-- the rules about what a record says, on the reader's numbers
module _ (before : List ℕ) (reader : Reader) (families : List ℕ) (s : ReaderOf before reader families) (bits d l : ℕ) (fits : 0 ≡ refusal (fit_rules before d l)) where
  needed_to : FieldsNeeded reader.nodes reader.deeper reader.label bits d l → NoNeedlessField before bits d l
  needed_to k = λ h. let q = k (omega (arith, s.nodes_are)) in ((λ a e. q.0 a (e ∙ s.deeper_is)), (λ a e. q.1 a (e ∙ s.label_is)))

  needed_from : NoNeedlessField before bits d l → FieldsNeeded reader.nodes reader.deeper reader.label bits d l
  needed_from k = λ h. let q = k (omega (arith, s.nodes_are)) in ((λ a e. q.0 a (e ∙ sym s.deeper_is)), (λ a e. q.1 a (e ∙ sym s.label_is)))

  pub broken_8 : ¬ FieldsNeeded reader.nodes reader.deeper reader.label bits d l → 8 ≡ said_refusal before bits d l
  broken_8 n = sr.said_8 before bits d l fits (λ r. n (needed_from r))

  module _ (needed : FieldsNeeded reader.nodes reader.deeper reader.label bits d l) where
    pub broken_9 : ¬ RoomLeft reader.nodes reader.trees reader.in_tree d → 9 ≡ said_refusal before bits d l
    broken_9 n = sr.said_later before bits d l fits 9 (needed_to needed) (limit_broken before reader families s d l n)

    pub none_broken : RoomLeft reader.nodes reader.trees reader.in_tree d → 0 ≡ said_refusal before bits d l
    none_broken room = sr.said_later before bits d l fits 0 (needed_to needed) (limit_kept before reader families s d l room)

-- the sheet from a position on
module _ (before sheet : List ℕ) (at : ℕ) where
  pub from : at < length sheet → drop at sheet ≡ get_or sheet at 0 ∷ drop (suc at) sheet
  from h = drop-cons sheet at 0 h

  pub record_wrong : (k : ℕ) → at < length sheet → record_refusal before (get_or sheet at 0) (drop (suc at) sheet) ≡ suc k → wrong (suc k) ≡ next_record before (drop at sheet)
  unfolding next_record step_of
  record_wrong k h e = rw (from h, e) refl

-- a field whose bit is set, and one that is absent
pub field_there : (r bit field absent : ℕ) → bit ≡ 1 → r ≡ field → r ≡ field_or bit field absent
unfolding field_or
field_there r bit field absent e h = rw e h

pub field_absent : (r bit field absent : ℕ) → bit < 2 → bit ≢ 1 → r ≡ absent → r ≡ field_or bit field absent
unfolding field_or
field_absent r bit field absent b e h = let z : bit ≡ 0 = omega arith in rw z h

pub judge_stops : (sheet : List ℕ) (at : ℕ) (reader : Reader) (families : List ℕ) (r : Judged) (k : ℕ) → r.number ≡ suc k
    → ((before : List ℕ) → ReaderOf before reader families → wrong (suc k) ≡ next_record before (drop at sheet)) → JudgedAt sheet at reader families r
unfolding step_of
judge_stops sheet at reader families r k e f = ((λ before s. rw e (f before s)), (λ z. absurd (omega arith)))

-- the fields of the record at a position, as they are read
module _ (before sheet : List ℕ) (at c m : ℕ) (child : suc (last_depth before) ≡ c) (same : last_label before ≡ m) (r : Fields) (f : FieldsAt sheet at c m r) where
  pub depth_said : said_depth before (get_or sheet at 0) (drop (suc at) sheet) ≡ r.depth
  depth_said =
      let bits = get_or sheet at 0 in
      let first : get_or (drop (suc at) sheet) 0 0 ≡ get_or sheet (at + 1) 0 = get_or-drop (suc at) sheet 0 0 ∙ ap (λ (k : ℕ). get_or sheet k 0) (omega arith) in
      ap (λ (y : ℕ). field_or (bits % 2) y (suc (last_depth before))) first ∙ ap (λ (y : ℕ). field_or (bits % 2) (get_or sheet (at + 1) 0) y) child ∙ sym f.depth_is

  pub label_said : said_label before (get_or sheet at 0) (drop (suc at) sheet) ≡ r.label
  label_said =
      let bits = get_or sheet at 0 in
      let bytes = drop (suc at) sheet in
      let low : get_or bytes (bits % 2) 0 ≡ get_or sheet (at + 1 + bits % 2) 0 = get_or-drop (suc at) sheet (bits % 2) 0 ∙ ap (λ (k : ℕ). get_or sheet k 0) (omega arith) in
      let high : get_or bytes (suc (bits % 2)) 0 ≡ get_or sheet (at + 1 + bits % 2 + 1) 0 = get_or-drop (suc at) sheet (suc (bits % 2)) 0 ∙ ap (λ (k : ℕ). get_or sheet k 0) (omega arith) in
      ap (λ (y : ℕ). field_or (bits / 2 % 2) (y + 256 * get_or bytes (suc (bits % 2)) 0) (last_label before)) low
      ∙ ap (λ (y : ℕ). field_or (bits / 2 % 2) (get_or sheet (at + 1 + bits % 2) 0 + 256 * y) (last_label before)) high
      ∙ ap (λ (y : ℕ). field_or (bits / 2 % 2) (get_or sheet (at + 1 + bits % 2) 0 + 256 * get_or sheet (at + 1 + bits % 2 + 1) 0) y) same ∙ sym f.label_is

pub bytes_after : (sheet : List ℕ) (at : ℕ) → drop (field_bytes (get_or sheet at 0)) (drop (suc at) sheet) ≡ drop (at + 1 + field_bytes (get_or sheet at 0)) sheet
bytes_after sheet at =
    let bits = get_or sheet at 0 in
    let there : suc at + field_bytes bits ≡ at + 1 + field_bytes bits = omega arith in
    drop-drop (field_bytes bits) (suc at) sheet ∙ ap (λ (k : ℕ). drop k sheet) there

-- the record at a position
module _ (before sheet : List ℕ) (at : ℕ) (inside : at < length sheet) where
  pub record_2 : 3 < get_or sheet at 0 → wrong 2 ≡ next_record before (drop at sheet)
  record_2 h = record_wrong before sheet at 1 inside (sr.wrong_2 before (get_or sheet at 0) (drop (suc at) sheet) (λ q. omega arith))

  pub record_3 : get_or sheet at 0 ≤ 3 → length before ≡ 0 → get_or sheet at 0 ≢ 3 → wrong 3 ≡ next_record before (drop at sheet)
  record_3 h e n = record_wrong before sheet at 2 inside (sr.wrong_3 before (get_or sheet at 0) (drop (suc at) sheet) (omega arith) (λ r. let z = r e in let a = z.0 in let b = z.1 in omega arith))

  both : (bits : ℕ) → bits ≡ 3 → (bits % 2 ≡ 1) × (bits / 2 % 2 ≡ 1)
  both bits e = (omega arith, omega arith)

  pub record_4 : get_or sheet at 0 ≤ 3 → (length before ≡ 0 → get_or sheet at 0 ≡ 3) → length sheet - at - 1 < field_bytes (get_or sheet at 0) → wrong 4 ≡ next_record before (drop at sheet)
  record_4 h f n = record_wrong before sheet at 3 inside (sr.wrong_4 before (get_or sheet at 0) (drop (suc at) sheet) (omega arith) (λ e. both (get_or sheet at 0) (f e)) (λ q. omega (arith, length-drop (suc at) sheet)))

  pub record_on : get_or sheet at 0 ≤ 3 → (length before ≡ 0 → get_or sheet at 0 ≡ 3) → field_bytes (get_or sheet at 0) ≤ length sheet - at - 1
      → (number c m : ℕ) (r : Fields) → suc (last_depth before) ≡ c → last_label before ≡ m → FieldsAt sheet at c m r → number ≡ said_refusal before (get_or sheet at 0) r.depth r.label
      → step_of number r.depth r.label (drop r.next sheet) ≡ next_record before (drop at sheet)
  unfolding next_record
  record_on h f room number c m r child same read en =
      let bits = get_or sheet at 0 in
      let bytes = drop (suc at) sheet in
      let d = r.depth in
      let l = r.label in
      let r4 = sr.right_4 before bits bytes (omega arith) (λ e. both bits (f e)) (omega (arith, length-drop (suc at) sheet)) in
      ap (λ (k : ℕ). step_of k d l (drop r.next sheet)) en
      ∙ ap (λ (w : List ℕ). step_of (said_refusal before bits d l) d l w) (ap (λ (k : ℕ). drop k sheet) read.next_is ∙ sym (bytes_after sheet at))
      ∙ ap (λ (w : ℕ). step_of (said_refusal before bits w l) w l (drop (field_bytes bits) bytes)) (sym (depth_said before sheet at c m child same r read))
      ∙ ap (λ (w : ℕ). step_of (said_refusal before bits (said_depth before bits bytes) w) (said_depth before bits bytes) w (drop (field_bytes bits) bytes)) (sym (label_said before sheet at c m child same r read))
      ∙ ap (λ (k : ℕ). step_of k (said_depth before bits bytes) (said_label before bits bytes) (drop (field_bytes bits) bytes)) (sym r4)
      ∙ ap (next_record before) (sym (from before sheet at inside))
