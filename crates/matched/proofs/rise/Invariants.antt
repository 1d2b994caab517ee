use Rattle.matched.proofs.AskLaws as laws
use Rattle.matched.proofs.rise.Given as goal

abbrev pub invariant-loop-next : goal.invariant-loop-next
invariant-loop-next l = laws.RiseTo l.fleet l.parents l.initial.nodes l.count l.nodes l.before l.kept l.next
