-- What the record function answers, in the sheet's terms.
use Rattle.std.specs.Prelude.{◌≡◌, List, [], ◌∷◌, ◌++◌, ℕ, ◌≤◌, ◌<◌, drop}
use Rattle.terms.specs.Tree.{pair}
use Rattle.fleet.specs.Reader.{StateOf}
use Rattle.fleet.specs.declared.State.{State}
use Rattle.record.specs.NextRecord.{Step, node, end, wrong, next_record}
use Rattle.sheet.specs.declared.RecordAnswer.{RecordAnswer}
use Rattle.sheet.specs.declared.RecordAnswer.TheVariants.{Node, End, Refused}
use Rattle.sheet.specs.declared.Advance.{Advance}

-- An answer in the sheet's terms, with the bytes that remain.
abbrev pub step_of_answer : RecordAnswer → List ℕ → Step
step_of_answer (Node depth label) remain = node depth label remain
step_of_answer End remain = end
step_of_answer (Refused number) remain = wrong number

-- The nodes read after it.
abbrev pub nodes_after : RecordAnswer → List ℕ → List ℕ
nodes_after (Node depth label) before = before ++ pair depth label ∷ []
nodes_after End before = before
nodes_after (Refused number) before = before

-- A record's end lies behind its beginning and within the sheet; "at a wrong record it .. does not move", nor at the end.
abbrev pub Moved : RecordAnswer → (at : ℕ) (state : State) (next : ℕ) (state' : State) (size : ℕ) → Type 0
Moved (Node depth label) at state next state' size = (at < next) × (next ≤ size)
Moved End at state next state' size = (next ≡ at) × (state' ≡ state)
Moved (Refused number) at state next state' size = (next ≡ at) × (state' ≡ state)

-- What the record function gives for the bytes from the position on, after these nodes.
pub record Walked (before sheet : List ℕ) (at : ℕ) (result : Advance) : Type 0 where
  pub says : step_of_answer result.answer (drop result.next sheet) ≡ next_record before (drop at sheet)
  pub keeps : StateOf (nodes_after result.answer before) result.state
