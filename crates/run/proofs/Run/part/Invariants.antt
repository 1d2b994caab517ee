use Prim.Native.Nat.{◌-◌}
use Rattle.expansion.specs.Levels.{tables}
use Rattle.run.proofs.PartLaws as laws
use Rattle.run.proofs.Run.part.Given as goal

abbrev pub invariant-loop-at : goal.invariant-loop-at
invariant-loop-at l = laws.Parting l.initial.run l.memory l.initial.buffer l.run l.at l.buffer l.line (tables l.parents l.numbers l.sizes l.places l.lens l.counts l.known)

abbrev pub decreases-loop-at : goal.decreases-loop-at
decreases-loop-at l = 8192 - l.at
