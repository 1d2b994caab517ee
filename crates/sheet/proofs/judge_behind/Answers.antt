use Rattle.sheet.proofs.WalkSteps as st
use Rattle.sheet.proofs.judge_behind.Goals as goal

pub returns : goal.returns
returns c = st.judged_of _ _ c.reader.ensures c.families-families.ensures c.judge.ensures
