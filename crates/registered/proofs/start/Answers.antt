use Rattle.fleet.proofs.TellsLaws.{broken, kept}
use Rattle.registered.proofs.RegisteredLaws as l
use Rattle.std.proofs.lemmas.Bool.{not_from_false, not_from_true}
use Rattle.registered.proofs.start.Goals as goal

pub returns-then-not-accepted : goal.returns-then-not-accepted
returns-then-not-accepted c = l.start_wrong _ _ _ _ _ (broken c.accepted.result c.accepted.ensures (not_from_false _ c.if-not-accepted.true))

pub start_from-requires : goal.start_from-requires
start_from-requires c = l.lent _ _ _ (kept c.accepted.result c.accepted.ensures (not_from_true _ c.if-not-accepted.false))

pub returns : goal.returns
returns c = l.start_right _ _ _ _ _ (kept c.accepted.result c.accepted.ensures (not_from_true _ c.if-not-accepted.false)) c.start_from.ensures
