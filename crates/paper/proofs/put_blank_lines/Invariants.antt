use mathlib.Core.Path.{◌≡◌}
use Prim.Native.Nat.{◌+◌, ◌*◌}
use Rattle.text.specs.Building.{Put}
use Rattle.paper.specs.Paper.{line_bytes, blank_lines, bytes_of}
use Rattle.paper.proofs.put_blank_lines.Given as goal

abbrev pub invariant-loop : goal.invariant-loop
invariant-loop l = (l.end ≡ l.at + line_bytes * l.counter) × Put l.initial.page l.at (bytes_of (blank_lines l.counter)) l.page l.end
