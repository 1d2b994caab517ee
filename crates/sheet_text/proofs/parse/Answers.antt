use mathlib.Core.Path.{sym, ◌∙◌}
use Rattle.sheet_text.proofs.FillLaws as fl
use Rattle.sheet_text.proofs.parse.Goals as goal

pub returns-then-pairs-nodes : goal.returns-then-pairs-nodes
returns-then-pairs-nodes c = let z = fl.parse_short c.args.text.now c.args.pairs.now _ (sym c.in-Pairs.is ∙ c.count-counted.ensures) c.if-pairs-nodes.true in record { value = z.0; pairs_after = z.1 }

pub fill-requires : goal.fill-requires
fill-requires c = fl.text_fits c.args.text.now c.args.pairs.now _ (sym c.in-Pairs.is ∙ c.count-counted.ensures) c.if-pairs-nodes.false

pub returns-in-Refused : goal.returns-in-Refused
returns-in-Refused c = let z = fl.parse_refused c.args.text.now c.args.pairs.now _ _ (sym c.in-Refused.is ∙ c.count-counted.ensures) in record { value = z.0; pairs_after = z.1 }

pub returns-else-pairs-nodes : goal.returns-else-pairs-nodes
returns-else-pairs-nodes c = let z = fl.parse_done c.args.text.now c.args.pairs.now _ _ (sym c.in-Pairs.is ∙ c.count-counted.ensures) c.if-pairs-nodes.false c.fill.ensures in record { value = z.0; pairs_after = z.1 }
