-- The claims about a run of the key program, whatever began it. Each is proved under its name in lower case, in proofs/Claims.
use Rattle.std.specs.Prelude.{◌≡◌, List, [], ◌++◌, ◌↔◌, ℕ, take}
use Rattle.expansion.specs.Levels.{Tables}
use Rattle.run.specs.Running.{still_to_write, StepIs, PartIs}
use Rattle.run.specs.declared.Run.{Run}
use Rattle.run.specs.declared.Step.{Step}
use Rattle.run.specs.declared.Part.{Part}

-- The lines that a run gives, call after call: what they are together, and the run after them.
pub data Gives (memory : List ℕ) : Run → List ℕ → Run → Type 0 where
  nothing_yet : {run : Run} → Gives memory run [] run
  a_line : {run after : Run} {step : Step} {later line line' : List ℕ} {t : Tables} → StepIs run memory line step line' t → Gives memory step.run later after → Gives memory run (take step.len line' ++ later) after

-- A step gives no bytes exactly where nothing is left to write.
unfoldable pub EmptyTextClaim : Type 0
EmptyTextClaim = (run : Run) (memory line : List ℕ) (step : Step) (line' : List ℕ) (t : Tables) → StepIs run memory line step line' t → (step.len ≡ 0) ↔ (still_to_write run memory ≡ [])

-- The parts that a run gives, call after call: what they are together, and the run after them.
pub data GivesParts (memory : List ℕ) : Run → List ℕ → Run → Type 0 where
  no_part_yet : {run : Run} → GivesParts memory run [] run
  a_part : {run after : Run} {part : Part} {later buffer buffer' : List ℕ} {t : Tables} → PartIs run memory buffer part buffer' t → GivesParts memory part.run later after → GivesParts memory run (take part.len buffer' ++ later) after

-- A part gives no bytes exactly where nothing is left to write.
unfoldable pub EmptyPartClaim : Type 0
EmptyPartClaim = (run : Run) (memory buffer : List ℕ) (part : Part) (buffer' : List ℕ) (t : Tables) → PartIs run memory buffer part buffer' t → (part.len ≡ 0) ↔ (still_to_write run memory ≡ [])
