use Rattle.fleet.proofs.ReaderSteps as st
use borrow.Author.Rules.{rules}
use Rattle.fleet.proofs.State.after.Goals as goal

pub returns : goal.returns
returns c = λ before s. (st.goes_on _ _ c.after.ensures (search rules) c.note_family.ensures s).1
