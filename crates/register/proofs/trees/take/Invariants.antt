use Rattle.register.proofs.TreeLaws as laws
use Rattle.register.proofs.trees.take.Given as goal

abbrev pub invariant-loop-pair : goal.invariant-loop-pair
invariant-loop-pair l = laws.TakenTo l.tree l.vehicle l.initial.nodes l.initial.holders l.pair-index l.nodes l.holders
