use Rattle.exchange.proofs.ShiftSteps.{single}
use Rattle.exchange.proofs.ShiftBackSteps.{single_last}
use Rattle.exchange.proofs.ExchangeSteps.{none_exchanged, reversals}
use Rattle.exchange.proofs.exchange.Goals as goal

pub returns-then-b-c : goal.returns-then-b-c
returns-then-b-c c = none_exchanged c.if-b-c.true

pub returns-then-b-a : goal.returns-then-b-a
returns-then-b-a c = single c.if-b-a.true c.shift.ensures

pub returns-then-c-b : goal.returns-then-c-b
returns-then-c-b c = single_last c.if-c-b.true c.shift_back.ensures

pub returns : goal.returns
returns c = let h = c.requires in reversals h.0 h.1 c.reverse.ensures c.reverse-2.ensures c.reverse-3.ensures
