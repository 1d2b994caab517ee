use mathlib.Core.Path.{◌≡◌}
use Prim.Native.Nat.{◌-◌}
use Rattle.groups.specs.Groups.{parent_of, GroupWithin}
use Rattle.groups.proofs.halve.Given as goal

abbrev pub invariant-loop-end : goal.invariant-loop-end
invariant-loop-end l = (l.parent ≡ parent_of l.parents l.places l.first) × GroupWithin l.parents l.places l.first l.inside l.end

abbrev pub decreases-loop-end : goal.decreases-loop-end
decreases-loop-end l = l.end - l.inside
