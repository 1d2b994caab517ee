use mathlib.Core.Path.{refl}
use native.Mathlib.Omega.{arith}
use Rattle.record.proofs.RecordSteps as st
use Rattle.record.proofs.label_field.Goals as goal

pub bounds-sheet-i : goal.bounds-sheet-i
bounds-sheet-i c = omega (arith, c.requires (omega arith))

pub bounds-sheet-i-then-bits-eq1 : goal.bounds-sheet-i-then-bits-eq1
bounds-sheet-i-then-bits-eq1 c = omega (arith, c.requires (omega arith))

pub returns-then-bits-eq1 : goal.returns-then-bits-eq1
returns-then-bits-eq1 c = st.field_there _ _ _ _ (omega arith) (omega (arith, c.wide-high.ensures, c.wide-low.ensures))

pub returns : goal.returns
returns c = st.field_absent _ _ _ _ (omega arith) (omega arith) refl
