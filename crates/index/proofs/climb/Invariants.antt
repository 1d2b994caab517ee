use Prim.Native.Nat.{◌-◌}
use Rattle.index.proofs.IndexLaws as laws
use Rattle.index.proofs.climb.Given as goal

abbrev pub invariant-loop-step : goal.invariant-loop-step
invariant-loop-step l = laws.Climbed l.fleet l.parents l.node l.steps l.here (l.steps - l._step)
