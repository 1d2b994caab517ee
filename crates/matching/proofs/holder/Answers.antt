use native.Mathlib.Omega.{arith}
use Rattle.matching.proofs.FitsLaws as s
use Rattle.matching.proofs.holder.Goals as goal

pub loop-node-init : goal.loop-node-init
loop-node-init c = s.none_yet _ _ c.requires.0 c.requires.2

pub returns-then-visited-node : goal.returns-then-visited-node
returns-then-visited-node c = s.found_visited _ _ _ _ c.if-places-node.true c.if-visited-node.true

pub returns-then-places-node : goal.returns-then-places-node
returns-then-places-node c = s.found_other _ _ _ _ (omega arith) c.if-places-node.true c.if-visited-node.false
