-- Document 01, "The list", the key program: all that it writes, from the bytes of its input.
use Rattle.std.specs.Prelude.{List, ℕ}
use Rattle.opening.specs.Output.{lines_for}
use Rattle.key.specs.Input.{request_by, sheet_of}

abbrev pub key_output : List ℕ → List ℕ
key_output input = lines_for (request_by input) (sheet_of input)
