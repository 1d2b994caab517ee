use Rattle.sorting.proofs.SinkLaws as st
use Rattle.sorting.proofs.insertion.sink.Goals as goal

pub returns : goal.returns
returns c = let h = c.requires in let p = c.heavier_end-c.ensures in st.sunk h.0 c.end_from-e.ensures h.2 p.passed p.next_no_heavier c.exchange.ensures
