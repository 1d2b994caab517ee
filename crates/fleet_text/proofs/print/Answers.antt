use Rattle.terms.proofs.DecidedLaws.{true_holds}
use Rattle.fleet_text.proofs.PrintLaws as pl
use Rattle.fleet_text.proofs.print.Goals as goal

pub size-size-requires : goal.size-size-requires
size-size-requires c = true_holds _ _ c.is_fleet.ensures c.if-is_fleet.true

pub returns-then-output-size : goal.returns-then-output-size
returns-then-output-size c = let z = pl.print_17 c.args.pairs.now c.args.output.now c.is_fleet.result c.is_fleet.ensures c.size-size.result c.if-is_fleet.true c.size-size.ensures c.if-output-size.true in record { value = z.0; output_after = z.1 }

pub returns-then-is_fleet : goal.returns-then-is_fleet
returns-then-is_fleet c = let z = pl.print_done c.args.pairs.now c.args.output.now c.is_fleet.result c.is_fleet.ensures c.size-size.result _ c.if-is_fleet.true c.size-size.ensures c.if-output-size.false c.fill.ensures in record { value = z.0; output_after = z.1 }

pub returns : goal.returns
returns c = let z = pl.print_10 c.args.pairs.now c.args.output.now c.is_fleet.result c.is_fleet.ensures c.if-is_fleet.false in record { value = z.0; output_after = z.1 }
