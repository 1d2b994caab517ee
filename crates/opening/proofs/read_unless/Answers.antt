use Rattle.opening.proofs.ReadLaws.{accepted_without_room, refused_by_limits, refused_by_sheet}
use borrow.Author.Rules.{rules}
use Rattle.text.proofs.TextLaws.{taken_length}
use Rattle.opening.proofs.read_unless.Goals as goal

pub returns-then-later-eq0 : goal.returns-then-later-eq0
returns-then-later-eq0 c = record { value = rw c.if-later-eq0.true c.read_counted.ensures.value; memory_after = rw c.if-later-eq0.true c.read_counted.ensures.memory_after }

pub slice_bounds-read-end-2 : goal.slice_bounds-read-end-2
slice_bounds-read-end-2 c = taken_length c.args.memory.now (search rules)

pub returns-then-number-eq-SHORT_OUTPUT : goal.returns-then-number-eq-SHORT_OUTPUT
returns-then-number-eq-SHORT_OUTPUT c = let z = refused_by_limits _ _ _ _ _ c.if-later-eq0.false (c.read-answer.ensures.value, c.read-answer.ensures.output_after) c.in-Refused.is c.if-number-eq-SHORT_OUTPUT.true in record { value = z.0; memory_after = z.1 }

pub returns-in-Done : goal.returns-in-Done
returns-in-Done c = let z = accepted_without_room _ _ _ _ _ c.if-later-eq0.false (c.read-answer.ensures.value, c.read-answer.ensures.output_after) c.in-Done.is in record { value = z.0; memory_after = z.1 }

pub returns-else-number-eq-SHORT_OUTPUT : goal.returns-else-number-eq-SHORT_OUTPUT
returns-else-number-eq-SHORT_OUTPUT c = let z = refused_by_sheet _ _ _ _ _ c.if-later-eq0.false (c.read-answer.ensures.value, c.read-answer.ensures.output_after) c.in-Refused.is c.if-number-eq-SHORT_OUTPUT.false in record { value = z.0; memory_after = z.1 }
