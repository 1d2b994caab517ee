use Rattle.std.proofs.Common.{length}
use Rattle.expansion.specs.Levels.{tables}
use Rattle.run.specs.Running.{still_to_write}
use Rattle.writing_out.proofs.WritingLaws.{OnTheWay}
use Rattle.writing_out.proofs.write_lines.Given as goal

abbrev pub invariant-loop-places : goal.invariant-loop-places
invariant-loop-places g l = OnTheWay l.initial.run l.run l.memory (tables l.parents l.numbers l.sizes l.places l.lens l.counts l.known) (g.W.Write.contents l.initial.out) (g.W.Write.contents l.out)

abbrev pub decreases-loop-places : goal.decreases-loop-places
decreases-loop-places g l = length (still_to_write l.run l.memory)
