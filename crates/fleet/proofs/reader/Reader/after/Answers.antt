use native.Mathlib.Omega.{arith}
use Rattle.fleet.proofs.ReaderSteps as st
use Rattle.fleet.proofs.reader.Reader.after.Goals as goal

pub overflow_add-result-then-depth-eq0 : goal.overflow_add-result-then-depth-eq0
overflow_add-result-then-depth-eq0 c = omega (arith, c.requires.room_left.0 (omega arith))

pub returns-then-depth-eq0 : goal.returns-then-depth-eq0
returns-then-depth-eq0 c = λ before families wide s. st.after_root before _ _ s _ _ wide c.requires (omega arith)

pub overflow_add-result-3 : goal.overflow_add-result-3
overflow_add-result-3 c = omega (arith, c.requires.depth_fits.1.1)

pub overflow_add-result-4 : goal.overflow_add-result-4
overflow_add-result-4 c = omega (arith, c.requires.room_left.1.0 (omega arith))

pub returns : goal.returns
returns c = λ before families wide s. st.after_child before _ _ s _ _ wide c.requires (omega arith)
