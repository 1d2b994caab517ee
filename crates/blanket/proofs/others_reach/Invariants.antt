use Rattle.blanket.proofs.ReachLaws as laws
use Rattle.blanket.proofs.others_reach.Given as goal

abbrev pub invariant-loop-leaf : goal.invariant-loop-leaf
invariant-loop-leaf l = laws.OthersFrom l.fleet l.nodes l.len l.need l.leaf
