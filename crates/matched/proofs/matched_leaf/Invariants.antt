use Rattle.matched.proofs.AskLaws as laws
use Rattle.matched.proofs.matched_leaf.Given as goal

abbrev pub invariant-loop-steps : goal.invariant-loop-steps
invariant-loop-steps l = laws.BranchFrom l.pattern l.fleet l.parents l.sizes l.initial.places l.places l.count l.steps
