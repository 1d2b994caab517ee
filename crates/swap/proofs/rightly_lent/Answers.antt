use Rattle.swap.proofs.CallLaws as l
use Rattle.std.proofs.lemmas.Bool.{not_from_false, not_from_true}
use Rattle.swap.proofs.rightly_lent.Goals as goal

pub returns-then-used-buffer : goal.returns-then-used-buffer
returns-then-used-buffer c = l.past_buffer _ _ _ _ _ c.if-used-buffer.true

pub slice_bounds-fleet-end : goal.slice_bounds-fleet-end
slice_bounds-fleet-end c = l.front_length _ _ c.if-used-buffer.false

pub returns-then-not-is_fleet : goal.returns-then-not-is_fleet
returns-then-not-is_fleet c = l.no_fleet _ _ _ _ _ c.is_fleet.result c.is_fleet.ensures (not_from_false _ c.if-not-is_fleet.true)

pub returns-then-not-is_vehicle : goal.returns-then-not-is_vehicle
returns-then-not-is_vehicle c = l.no_tree _ _ _ _ _ c.is_fleet.result c.is_fleet.ensures c.is_vehicle.result c.is_vehicle.ensures (not_from_false _ c.if-not-is_vehicle.true)

pub is_register-requires : goal.is_register-requires
is_register-requires c = l.a_fleet c.args.buffer.now c.args.used c.args.tree.now c.args.nodes.now c.args.holders.now c.is_fleet.result c.is_fleet.ensures (not_from_true _ c.if-not-is_fleet.false)

pub returns-then-not-is_register : goal.returns-then-not-is_register
returns-then-not-is_register c = l.other_register _ _ _ _ _ c.is_fleet.result c.is_fleet.ensures c.is_vehicle.result c.is_vehicle.ensures c.is_register.result c.is_register.ensures (not_from_false _ c.if-not-is_register.true)

pub returns : goal.returns
returns c = l.all_right _ _ _ _ _ c.is_fleet.result c.is_fleet.ensures c.is_vehicle.result c.is_vehicle.ensures c.is_register.result c.is_register.ensures c.if-used-buffer.false (not_from_true _ c.if-not-is_fleet.false) (not_from_true _ c.if-not-is_vehicle.false) (not_from_true _ c.if-not-is_register.false)
