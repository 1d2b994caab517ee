-- Document 01, "A walker over the lent sheet hands out one record a call": what its calls give, one by one and in a row.
use Rattle.std.specs.Prelude.{◌≡◌, List, [], ◌∷◌, map, ℕ, zero, suc, ◌/◌, ◌%◌, ◌≤◌, ◌<◌, length, drop}
use Rattle.std.specs.Borrow.{Bor}
use Rattle.record.specs.NextRecord.{next_record}
use Rattle.fleet.specs.Reader.{StateOf}
use Rattle.sheet.specs.Walking.{step_of_answer, nodes_after}
use Rattle.sheet.specs.declared.RecordAnswer.{RecordAnswer}
use Rattle.sheet.specs.declared.RecordAnswer.TheVariants.{Node, End, Refused}
use Rattle.walker.specs.declared.Walker.{Walker}
use Rattle.walker.specs.declared.Stepped.{Stepped}

-- "the bytes that remain"
abbrev pub remain : Walker → List ℕ
remain walker = drop walker.at walker.sheet.now

-- The walker stands over the lent sheet at its first record.
pub record IsFirst (sheet : Bor (List ℕ)) (walker : Walker) : Type 0 where
  pub over : walker.sheet ≡ sheet
  pub at_start : walker.at ≡ 0
  pub nothing_read : StateOf [] walker.state

-- A record moves the walker forward within the sheet; "at a wrong record it gives the number and does not move", nor at the end.
abbrev pub MovesBy : RecordAnswer → (walker after : Walker) → Type 0
MovesBy (Node depth label) walker after = (walker.at < after.at) × (after.at ≤ length walker.sheet.now)
MovesBy End walker after = after ≡ walker
MovesBy (Refused number) walker after = after ≡ walker

-- What a call gives: behind these nodes, the answer with the bytes that remain is what the sheet says next.
pub record Handed (walker : Walker) (result : Stepped) : Type 0 where
  pub same_sheet : result.walker.sheet ≡ walker.sheet
  pub says : (before : List ℕ) → StateOf before walker.state → step_of_answer result.answer (remain result.walker) ≡ next_record before (remain walker)
  pub keeps : (before : List ℕ) → StateOf before walker.state → StateOf (nodes_after result.answer before) result.walker.state
  pub moves : MovesBy result.answer walker result.walker

-- Calls of `next` in a row: the first on this walker, each other on the walker that the call before it gave.
pub data Calls : Walker → List Stepped → Type 0 where
  no_call : {walker : Walker} → Calls walker []
  call : {walker : Walker} {result : Stepped} {results : List Stepped} → Handed walker result → Calls result.walker results → Calls walker (result ∷ results)

-- "its depth and label"
abbrev pub node_of : ℕ → RecordAnswer
node_of pair = Node (pair / 1000) (pair % 1000)

-- The answers of so many calls, where these pairs are handed out and then the last answer is given for ever.
abbrev pub handed_out : (calls : ℕ) (pairs : List ℕ) (last : RecordAnswer) → List RecordAnswer
handed_out zero pairs last = []
handed_out (suc calls) [] last = last ∷ handed_out calls [] last
handed_out (suc calls) (pair ∷ pairs) last = node_of pair ∷ handed_out calls pairs last

-- Calls in a row over a lent sheet, however many, hand out these pairs and then give only the last answer.
abbrev pub HandsOut : (sheet pairs : List ℕ) (last : RecordAnswer) → Type 0
HandsOut sheet pairs last = (lent : Bor (List ℕ)) (walker : Walker) (results : List Stepped) → lent.now ≡ sheet → IsFirst lent walker → Calls walker results
    → map (λ (result : Stepped). result.answer) results ≡ handed_out (length results) pairs last
