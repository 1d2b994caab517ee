use mathlib.Core.Path.{refl}
use Rattle.text.proofs.TextLaws.{taken_length}
use Rattle.opening.proofs.ReadLaws.{read_within, counted_read, refused_read}
use Rattle.opening.proofs.read_counted.Goals as goal

pub read-answer-requires : goal.read-answer-requires
read-answer-requires c = tt

pub slice_bounds-take_out-end : goal.slice_bounds-take_out-end
slice_bounds-take_out-end c = read_within c.args.sheet.now c.args.memory.now _ c.requires (c.read-answer.ensures.value, c.read-answer.ensures.output_after) c.in-Done.is

pub slice_bounds-take_out-end-in-Done : goal.slice_bounds-take_out-end-in-Done
slice_bounds-take_out-end-in-Done c = taken_length _ (read_within c.args.sheet.now c.args.memory.now _ c.requires (c.read-answer.ensures.value, c.read-answer.ensures.output_after) c.in-Done.is)

pub take_out-requires : goal.take_out-requires
take_out-requires c = tt

pub returns-in-Done : goal.returns-in-Done
returns-in-Done c = let z = counted_read c.args.sheet.now c.args.memory.now _ c.requires (c.read-answer.ensures.value, c.read-answer.ensures.output_after) _ c.in-Done.is refl (c.take_out.ensures.value, c.take_out.ensures.pairs_after) in record { value = z.0; memory_after = z.1 }

pub returns-in-Refused : goal.returns-in-Refused
returns-in-Refused c = let z = refused_read c.args.sheet.now c.args.memory.now _ c.requires (c.read-answer.ensures.value, c.read-answer.ensures.output_after) c.in-Refused.is in record { value = z.0; memory_after = z.1 }
