use Rattle.fleet.proofs.TellsLaws.{broken, kept}
use Rattle.registered.proofs.RegisteredLaws as l
use Rattle.std.proofs.lemmas.Bool.{not_from_false, not_from_true}
use Rattle.registered.proofs.batch.Goals as goal

pub returns-then-not-accepted : goal.returns-then-not-accepted
returns-then-not-accepted c = let z = l.batch_refused _ _ _ _ _ _ _ (broken c.accepted.result c.accepted.ensures (not_from_false _ c.if-not-accepted.true)) in record { value = z.0; output_after = z.1.0; found_after = z.1.1 }

pub batch_from-requires : goal.batch_from-requires
batch_from-requires c = l.lent _ _ _ (kept c.accepted.result c.accepted.ensures (not_from_true _ c.if-not-accepted.false))

pub returns : goal.returns
returns c = let z = l.batch_right _ _ _ _ _ _ _ (kept c.accepted.result c.accepted.ensures (not_from_true _ c.if-not-accepted.false)) (c.batch_from.ensures.value, (c.batch_from.ensures.output_after, c.batch_from.ensures.found_after)) in record { value = z.0; output_after = z.1.0; found_after = z.1.1 }
