use native.Mathlib.Omega.{arith}
use Rattle.register.proofs.RegisterLaws as l
use Rattle.std.proofs.lemmas.Bool.{not_from_false, not_from_true}
use Rattle.register.proofs.register.Goals as goal

pub returns-then-not-is_fleet : goal.returns-then-not-is_fleet
returns-then-not-is_fleet c = let z = l.no_fleet _ _ _ c.is_fleet.result c.is_fleet.ensures (not_from_false _ c.if-not-is_fleet.true) in record { value = z.0; nodes_after = z.1.0; holders_after = z.1.1 }

pub returns-then-nodes-lt-LABELS : goal.returns-then-nodes-lt-LABELS
returns-then-nodes-lt-LABELS c = let z = l.nodes_short _ _ _ c.is_fleet.result c.is_fleet.ensures (not_from_true _ c.if-not-is_fleet.false) (omega arith) in record { value = z.0; nodes_after = z.1.0; holders_after = z.1.1 }

pub returns-then-holders-lt-LABELS : goal.returns-then-holders-lt-LABELS
returns-then-holders-lt-LABELS c = let z = l.holders_short _ _ _ c.is_fleet.result c.is_fleet.ensures (not_from_true _ c.if-not-is_fleet.false) (omega arith) (omega arith) in record { value = z.0; nodes_after = z.1.0; holders_after = z.1.1 }

pub clear-requires : goal.clear-requires
clear-requires c = (omega arith, omega arith)

pub add_all-requires : goal.add_all-requires
add_all-requires c = l.cleared_input _ _ _ c.is_fleet.result c.is_fleet.ensures (not_from_true _ c.if-not-is_fleet.false) (omega arith) (omega arith) c.clear.ensures

pub returns : goal.returns
returns c = let z = l.made _ _ _ c.is_fleet.result c.is_fleet.ensures (not_from_true _ c.if-not-is_fleet.false) (omega arith) (omega arith) c.clear.ensures c.add_all.ensures in record { value = z.0; nodes_after = z.1.0; holders_after = z.1.1 }
