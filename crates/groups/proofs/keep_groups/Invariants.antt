use Prim.Native.Nat.{◌-◌}
use lib.ListN.{length}
use Rattle.groups.proofs.GroupSteps as laws
use Rattle.groups.proofs.keep_groups.Given as goal

abbrev pub invariant-loop-i : goal.invariant-loop-i
invariant-loop-i l = laws.KeptTo l.equal l.fleet l.parents l.sizes l.old l.initial.new l.new l.len l.i

abbrev pub decreases-loop-i : goal.decreases-loop-i
decreases-loop-i l = length l.old - l.i
