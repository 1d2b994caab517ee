use native.Mathlib.Omega.{arith}
use borrow.Author.Tests.{not-true, not-false}
use Rattle.occurrence.proofs.CallLaws as s
use Rattle.std.proofs.lemmas.Bool.{not_from_false, not_from_true}
use Rattle.occurrence.proofs.pattern_refusal.Goals as goal

pub returns-then-not-is_fleet : goal.returns-then-not-is_fleet
returns-then-not-is_fleet c = s.refused_10 _ c.args.pattern.now c.is_fleet.result c.is_fleet.ensures (not-true c.is_fleet.result (not_from_false _ c.if-not-is_fleet.true))

pub returns-then-pattern-eq0 : goal.returns-then-pattern-eq0
returns-then-pattern-eq0 c = s.refused_empty _ c.args.pattern.now c.is_fleet.result c.is_fleet.ensures (not-false c.is_fleet.result (not_from_true _ c.if-not-is_fleet.false)) c.if-pattern-eq0.true

pub returns-then-pattern-gt-PATTERN_NODES : goal.returns-then-pattern-gt-PATTERN_NODES
returns-then-pattern-gt-PATTERN_NODES c = s.refused_long _ c.args.pattern.now c.is_fleet.result c.is_fleet.ensures (not-false c.is_fleet.result (not_from_true _ c.if-not-is_fleet.false)) (omega (arith, c.if-pattern-gt-PATTERN_NODES.true))

pub returns-then-not-is_tree : goal.returns-then-not-is_tree
returns-then-not-is_tree c = s.refused_14 _ c.args.pattern.now c.is_fleet.result c.is_fleet.ensures c.is_tree.result c.is_tree.ensures (not-false c.is_fleet.result (not_from_true _ c.if-not-is_fleet.false)) (omega arith, omega arith) (not-true c.is_tree.result (not_from_false _ c.if-not-is_tree.true))

pub returns : goal.returns
returns c = s.refused_not _ c.args.pattern.now c.is_fleet.result c.is_fleet.ensures c.is_tree.result c.is_tree.ensures (not-false c.is_fleet.result (not_from_true _ c.if-not-is_fleet.false)) (omega arith, omega arith) (not-false c.is_tree.result (not_from_true _ c.if-not-is_tree.false))
