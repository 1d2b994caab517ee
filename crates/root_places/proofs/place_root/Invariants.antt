use Prim.Native.Nat.{◌-◌}
use lib.ListN.{length}
use Rattle.root_places.proofs.RootLaws as laws
use Rattle.root_places.proofs.place_root.Given as goal

abbrev pub invariant-loop-node : goal.invariant-loop-node
invariant-loop-node l = laws.PutTo l.label l.fleet (length l.fleet) l.initial.places l.places l.len l.node

abbrev pub decreases-loop-node : goal.decreases-loop-node
decreases-loop-node l = length l.fleet - l.node
