use mathlib.Core.Path.{◌≡◌}
use Prim.Native.Nat.{◌+◌, ◌*◌}
use lib.ListN.{take}
use Rattle.text.specs.Building.{Put}
use Rattle.paper.specs.Paper.{field_columns, fields}
use Rattle.paper.proofs.put_fields.Given as goal

abbrev pub invariant-loop-pair : goal.invariant-loop-pair
invariant-loop-pair l = (l.end ≡ l.at + field_columns * l.pair-index) × Put l.initial.page l.at (fields (take l.pair-index l.pairs)) l.page l.end
