-- What the loop over the parts of a run does. Nothing here speaks of bytes written: it is the parts that the run gave, each of which the loop
-- hands to `write_all` before it takes the next. That they are what a writer holds afterwards, where that is known, the functions promise.
use Rattle.std.specs.Prelude.{◌≡◌, Bool, false, List, ◌++◌, ℕ}
use Rattle.run.specs.Running.{still_to_write}
use Rattle.run.specs.Claims.{GivesParts}
use Rattle.run.specs.declared.Run.{Run}
use Rattle.writing_out.specs.declared.Rest.{Rest}

-- The parts from the first run to the one that is left gave these bytes. Unless a write failed, they are all that the first run had to write.
pub record WrittenOut (first : Run) (memory : List ℕ) (rest : Rest) : Type 0 where
  pub given : List ℕ
  pub by_parts : GivesParts memory first given rest.run
  pub all_given : rest.failed ≡ false → given ≡ still_to_write first memory

-- What came of an output that was to be written: a run began that had it to write, and its parts were written out as far as `failed` tells.
pub record ListedFor (output : List ℕ) (failed : Bool) : Type 0 where
  pub memory : List ℕ
  pub first : Run
  pub rest : Rest
  pub begun : still_to_write first memory ≡ output
  pub written : WrittenOut first memory rest
  pub told : failed ≡ rest.failed

-- So the bytes given are the beginning of the output, and all of it unless a write failed.
unfoldable pub ProgramClaim : Type 0
ProgramClaim = (output : List ℕ) (failed : Bool) → (l : ListedFor output failed) → let given = l.written.given in
    (given ++ still_to_write l.rest.run l.memory ≡ output) × (failed ≡ false → given ≡ output)
