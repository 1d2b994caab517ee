use Prim.Native.Nat.{◌≤◌, ◌+◌, ◌*◌}
use lib.ListN.{take}
use Rattle.text.specs.Building.{most_digits, Put}
use Rattle.lines.specs.Lines.{pairs_text}
use Rattle.lines.proofs.form_line.Given as goal

abbrev pub invariant-loop-pair : goal.invariant-loop-pair
invariant-loop-pair l = (l.len ≤ most_digits + 7 * l.pair-index) × Put l.initial.line l.initial.len (pairs_text (take l.pair-index l.pair-items)) l.line l.len
