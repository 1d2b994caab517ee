use mathlib.Core.List.{[]}
use Rattle.sheet.proofs.WriteOutput as wl
use Rattle.sheet.proofs.write.Goals as goal

pub size-size-requires : goal.size-size-requires
size-size-requires c = wl.fleet_nodes c.args.pairs.now [] c.is_fleet.result c.is_fleet.ensures c.if-is_fleet.true

pub returns-then-output-size : goal.returns-then-output-size
returns-then-output-size c = let z = wl.write_17 c.args.pairs.now c.args.output.now c.is_fleet.result c.is_fleet.ensures c.size-size.result c.if-is_fleet.true c.size-size.ensures c.if-output-size.true in record { value = z.0; output_after = z.1 }

pub returns-then-is_fleet : goal.returns-then-is_fleet
returns-then-is_fleet c = let z = wl.write_done c.args.pairs.now c.args.output.now c.is_fleet.result c.is_fleet.ensures c.size-size.result _ c.if-is_fleet.true c.size-size.ensures c.if-output-size.false c.fill.ensures in record { value = z.0; output_after = z.1 }

pub returns : goal.returns
returns c = let z = wl.write_10 c.args.pairs.now c.args.output.now c.is_fleet.result c.is_fleet.ensures c.if-is_fleet.false in record { value = z.0; output_after = z.1 }
