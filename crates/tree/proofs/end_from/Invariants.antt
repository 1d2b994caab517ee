use mathlib.Core.Path.{◌≡◌}
use Prim.Native.Nat.{ℕ, ◌+◌, ◌-◌, ◌*◌, ◌≤◌, ◌<◌}
use lib.ListN.{length}
use Rattle.terms.specs.Tree.{depthAt}
use Rattle.tree.proofs.end_from.Given as goal

abbrev pub invariant-loop-end : goal.invariant-loop-end
invariant-loop-end l = (l.from ≤ l.end) × (l.end ≤ length l.tree) × (l.deeper ≡ (depthAt l.tree l.node + 1) * 1000) × ((k : ℕ) → l.node < k → k < l.end → depthAt l.tree l.node < depthAt l.tree k)

abbrev pub decreases-loop-end : goal.decreases-loop-end
decreases-loop-end l = length l.tree - l.end
