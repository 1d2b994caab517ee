-- Document 01, "The sheet": "Reading goes record by record, and the first wrong record decides": where a refused sheet goes wrong.
use Rattle.std.specs.Prelude.{◌≡◌, List, ◌++◌, ℕ, ◌≤◌, length}
use Rattle.terms.specs.Fleet.{IsFleet}
use Rattle.record.specs.NextRecord.{wrong, next_record}
use Rattle.writing.specs.Writing.{writing}

-- The sheet goes wrong behind these pairs, a fleet or none: it begins with their writing, and the record that comes next gets this number.
pub record WrongBehind (sheet pairs : List ℕ) (number : ℕ) : Type 0 where
  pub fleet : 1 ≤ length pairs → IsFleet pairs
  pub rest : List ℕ
  pub begins : sheet ≡ writing pairs ++ rest
  pub wrong_next : next_record pairs rest ≡ wrong number
