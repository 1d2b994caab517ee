-- The claims about sheets; demands 1 and 2 of the letter. `WrittenReadsBack` is proved as `written_reads_back`, and so on: Claims, RoundTrip,
-- WayBack, ReadingTurns, FirstBytes of proofs/.
use Rattle.std.specs.Prelude.{◌≡◌, List, ◌∷◌, ◌++◌, ◌↔◌, ◌⊎◌, ℕ, ◌≤◌, ◌<◌, length, take, drop}
use Rattle.terms.specs.Fleet.{IsFleet}
use Rattle.terms.specs.Refusal.{FirstBroken, AllKept}
use Rattle.fleet.specs.declared.Answer.TheVariants.{Done, Refused}
use Rattle.record.specs.NextRecord.{record_rules, wrong, next_record}
use Rattle.sheet.specs.Reading.{accepted, refused, reading, read_answer, read_output, AllBytes}
use Rattle.sheet.specs.Refused.{WrongBehind}
use Rattle.writing.specs.Writing.{writing}
use Rattle.sheet.specs.WriteCall.{write_rules, write_answer, write_output}

-- DEMAND 1, of a record. "a sheet .. that breaks a rule gets the number of that rule": a record gets the number n exactly if the rule n is the
-- first of 2 to 9 that it breaks.
abbrev pub RecordRefusedExactly : Type 1
RecordRefusedExactly = (before : List ℕ) (bits : ℕ) (bytes : List ℕ) (n : ℕ) → 1 ≤ n
    → (next_record before (bits ∷ bytes) ≡ wrong n) ↔ FirstBroken n (record_rules before bits bytes)

-- DEMAND 1, of a sheet. "the first wrong record decides": a sheet is refused with a number exactly if it goes wrong with it behind the writing of
-- a fleet, or at its beginning; and behind no other.
abbrev pub ReadingRefusedExactly : Type 0
ReadingRefusedExactly = (sheet : List ℕ) (number : ℕ) → AllBytes sheet → (reading sheet ≡ refused number) ↔ ((pairs : List ℕ) × WrongBehind sheet pairs number)

abbrev pub WrongBehindUnique : Type 0
WrongBehindUnique = (sheet p q : List ℕ) (m n : ℕ) → WrongBehind sheet p m → WrongBehind sheet q n → (p ≡ q) × (m ≡ n)

-- The number is one of the table's rows 1 to 9.
abbrev pub NumberInRange : Type 0
NumberInRange = (sheet : List ℕ) (number : ℕ) → reading sheet ≡ refused number → (1 ≤ number) × (number ≤ 9)

-- "A call that breaks no rule is not refused": a sheet is accepted exactly if it is the writing of a fleet.
abbrev pub AcceptedExactly : Type 0
AcceptedExactly = (sheet : List ℕ) → AllBytes sheet → ((pairs : List ℕ) × (reading sheet ≡ accepted pairs)) ↔ ((pairs : List ℕ) × IsFleet pairs × (writing pairs ≡ sheet))

-- DEMAND 1, of `read`: it is refused with the number that the sheet gets, or with 17 where its pairs do not fit, and otherwise gives how many
-- they are.
abbrev pub ReadRefusedExactly : Type 0
ReadRefusedExactly = (sheet output : List ℕ) (n : ℕ) → 1 ≤ n
    → (read_answer sheet output ≡ Refused n) ↔ ((reading sheet ≡ refused n) ⊎ ((pairs : List ℕ) × (reading sheet ≡ accepted pairs) × (length output < length pairs) × (n ≡ 17)))

abbrev pub ReadAnsweredExactly : Type 0
ReadAnsweredExactly = (sheet output : List ℕ) (n : ℕ)
    → (read_answer sheet output ≡ Done n) ↔ ((pairs : List ℕ) × (reading sheet ≡ accepted pairs) × (length pairs ≤ length output) × (length pairs ≡ n))

-- DEMAND 1, of `write`: it is refused by the first broken rule, and answered exactly if none is broken.
abbrev pub WriteRefusedExactly : Type 1
WriteRefusedExactly = (pairs output : List ℕ) (n : ℕ) → 1 ≤ n → (write_answer pairs output ≡ Refused n) ↔ FirstBroken n (write_rules pairs output)

abbrev pub WriteAnsweredExactly : Type 1
WriteAnsweredExactly = (pairs output : List ℕ) → (write_answer pairs output ≡ Done (length (writing pairs))) ↔ AllKept (write_rules pairs output)

-- DEMAND 2. "A written sheet reads back as its fleet"; over the calls, the bytes that `write` put in its output are read as the pairs.
abbrev pub WritingReadsBack : Type 0
WritingReadsBack = (pairs : List ℕ) → IsFleet pairs → reading (writing pairs) ≡ accepted pairs

abbrev pub WrittenReadsBack : Type 0
WrittenReadsBack = (pairs output : List ℕ) (n : ℕ) → write_answer pairs output ≡ Done n → (output' : List ℕ) → length pairs ≤ length output'
    → (read_answer (take n (write_output pairs output)) output' ≡ Done (length pairs)) × (read_output (take n (write_output pairs output)) output' ≡ pairs ++ drop (length pairs) output')

-- DEMAND 2. "an accepted sheet's fleet is written as the same bytes"; over the calls, the pairs that `read` put in its output are written as the
-- sheet.
abbrev pub SaidIsFleet : Type 0
SaidIsFleet = (sheet pairs : List ℕ) → reading sheet ≡ accepted pairs → IsFleet pairs

abbrev pub SaidWritesBack : Type 0
SaidWritesBack = (sheet pairs : List ℕ) → AllBytes sheet → reading sheet ≡ accepted pairs → writing pairs ≡ sheet

abbrev pub ReadWritesBack : Type 0
ReadWritesBack = (sheet output : List ℕ) (n : ℕ) → AllBytes sheet → read_answer sheet output ≡ Done n → (output' : List ℕ) → length sheet ≤ length output'
    → (write_answer (take n (read_output sheet output)) output' ≡ Done (length sheet)) × (write_output (take n (read_output sheet output)) output' ≡ sheet ++ drop (length sheet) output')

-- Document 01, the key program: "It keeps the sheet's first 16,388 bytes, enough to decide any sheet."
abbrev pub FirstBytesDecide : Type 0
FirstBytesDecide = (sheet : List ℕ) → reading (take 16388 sheet) ≡ reading sheet
