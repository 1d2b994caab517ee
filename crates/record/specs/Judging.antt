-- What is read of a record, and what it is judged to be, on the numbers that a reader keeps.
use Rattle.std.specs.Prelude.{◌≡◌, ◌≢◌, List, ℕ, ◌+◌, ◌*◌, ◌≤◌, ◌<◌, length, get_or, drop}
use Rattle.fleet.specs.Numbers.{MayCome}
use Rattle.fleet.specs.Reader.{ReaderOf}
use Rattle.fleet.specs.declared.reader.Reader.{Reader}
use Rattle.record.specs.Record.{depth_bit, label_bit, field_bytes, field_or}
use Rattle.record.specs.NextRecord.{step_of, next_record}
use Rattle.record.specs.declared.Fields.{Fields}
use Rattle.record.specs.declared.Judged.{Judged}

-- Rule 8 on the numbers that a reader keeps (`ReaderOf`).
abbrev pub FieldsNeeded : (nodes deeper last_label bits depth label : ℕ) → Type 0
FieldsNeeded nodes deeper last_label bits depth label = 1 ≤ nodes → (depth_bit bits ≡ 1 → depth ≢ deeper) × (label_bit bits ≡ 1 → label ≢ last_label)

-- What is read of the record at a position of the sheet, where absent fields mean this depth and label; and where it ends.
pub record FieldsAt (sheet : List ℕ) (at deeper last : ℕ) (r : Fields) : Type 0 where
  pub depth_is : r.depth ≡ field_or (depth_bit (get_or sheet at 0)) (get_or sheet (at + 1) 0) deeper
  pub label_is : r.label ≡ field_or (label_bit (get_or sheet at 0)) (get_or sheet (at + 1 + depth_bit (get_or sheet at 0)) 0 + 256 * get_or sheet (at + 1 + depth_bit (get_or sheet at 0) + 1) 0) last
  pub next_is : r.next ≡ at + 1 + field_bytes (get_or sheet at 0)

-- What a record is judged to be: behind these nodes, what the sheet says next; and where no rule is broken the reader may take the node in,
-- and the record ends behind its beginning and within the sheet.
abbrev pub JudgedAt : (sheet : List ℕ) (at : ℕ) → Reader → (families : List ℕ) → Judged → Type 0
JudgedAt sheet at reader families r = ((before : List ℕ) → ReaderOf before reader families → step_of r.number r.depth r.label (drop r.next sheet) ≡ next_record before (drop at sheet))
    × (r.number ≡ 0 → MayCome reader r.depth r.label × ((at < r.next) × (r.next ≤ length sheet)))
