use native.Mathlib.Omega.{arith}
use mathlib.Core.Path.{refl}
use Rattle.expansion.specs.Levels.{slot}
use Rattle.expansion.proofs.LevelTables as l
use Rattle.expansion.proofs.levels.slot_of.Goals as goal

pub overflow_mul-result : goal.overflow_mul-result
overflow_mul-result c = omega (arith, l.slot_small _ c.requires)

pub overflow_mul-result-then-kept : goal.overflow_mul-result-then-kept
overflow_mul-result-then-kept c = omega (arith, l.slot_small _ c.requires)

pub returns-then-kept : goal.returns-then-kept
unfolding slot
returns-then-kept c = rw c.if-kept.true refl

pub returns : goal.returns
unfolding slot
returns c = rw c.if-kept.false refl
