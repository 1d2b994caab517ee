use Rattle.expansion.proofs.TableLaws as t
use Rattle.expansion.proofs.tables.make.Given as goal

abbrev pub invariant-loop-level : goal.invariant-loop-level
invariant-loop-level l = t.MadeTo l.fleet l.nodes l.len l.level l.parents l.numbers l.sizes l.places l.lens l.known
