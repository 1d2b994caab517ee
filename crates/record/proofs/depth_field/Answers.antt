use mathlib.Core.Path.{refl}
use native.Mathlib.Omega.{arith}
use Rattle.record.proofs.RecordSteps as st
use Rattle.record.proofs.depth_field.Goals as goal

pub bounds-sheet-i : goal.bounds-sheet-i
bounds-sheet-i c = omega (arith, c.requires (omega arith))

pub returns-then-bits-eq1 : goal.returns-then-bits-eq1
returns-then-bits-eq1 c = st.field_there _ _ _ _ (omega arith) c.wide.ensures

pub returns : goal.returns
returns c = st.field_absent _ _ _ _ (omega arith) (omega arith) refl
