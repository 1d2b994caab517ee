use Rattle.sheet.proofs.ReadOutput as rl
use Rattle.sheet.proofs.read.Goals as goal

pub returns-then-output-nodes : goal.returns-then-output-nodes
returns-then-output-nodes c = let z = rl.read_short _ _ c.count-counted.result c.count-counted.ensures _ c.in-Done.is c.if-output-nodes.true in record { value = z.0; output_after = z.1 }

pub fill-requires : goal.fill-requires
fill-requires c = rl.read_ready c.args.sheet.now c.args.output.now c.count-counted.result c.count-counted.ensures _ c.in-Done.is c.if-output-nodes.false

pub returns-in-Refused : goal.returns-in-Refused
returns-in-Refused c = let z = rl.read_refused _ _ c.count-counted.result c.count-counted.ensures _ c.in-Refused.is in record { value = z.0; output_after = z.1 }

pub returns-else-output-nodes : goal.returns-else-output-nodes
returns-else-output-nodes c = let z = rl.read_done _ _ c.count-counted.result c.count-counted.ensures _ _ c.in-Done.is c.if-output-nodes.false c.fill.ensures in record { value = z.0; output_after = z.1 }
