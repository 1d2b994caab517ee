use Rattle.std.proofs.Common.{arith, ◌∙◌}
use Rattle.fleet.proofs.TellsLaws.{broken, kept}
use Rattle.std.proofs.lemmas.Bool.{not_from_false, not_from_true}
use Rattle.token.proofs.TokenLaws as tk
use Rattle.token.proofs.pair_at.Goals.{then-next-text-via-then-next-text, then-next-text-via-else-next-text+then-not-is_digit}
use Rattle.token.proofs.pair_at.Goals as goal

pub returns-then-next-text-clause-text_value : goal.returns-then-next-text-clause-text_value
returns-then-next-text-clause-text_value c = elim c.then-next-text.branch [
  | then-next-text-via-then-next-text w ↦ tk.depth_short c.args.text.now c.args.at w.if-next-text.true
  | then-next-text-via-else-next-text+then-not-is_digit w ↦ tk.depth_wrong c.args.text.now c.args.at (omega (arith, w.if-next-text.false)) (broken w.is_digit.result w.is_digit.ensures (not_from_false _ w.if-not-is_digit.true))
]

pub returns-then-not-is_digit-2-clause-text_value : goal.returns-then-not-is_digit-2-clause-text_value
returns-then-not-is_digit-2-clause-text_value c = rw c.value-first.ensures.0 at c.label_at.ensures.text_value ∙ tk.depth_one c.args.text.now c.args.at (omega arith) (kept c.is_digit.result c.is_digit.ensures (not_from_true _ c.if-not-is_digit.false)) (broken c.is_digit-2.result c.is_digit-2.ensures (not_from_false _ c.if-not-is_digit-2.true))

pub returns-clause-text_value : goal.returns-clause-text_value
returns-clause-text_value c = rw (c.value-first.ensures.0, c.value-second.ensures.0) at c.label_at-2.ensures.text_value ∙ tk.depth_two c.args.text.now c.args.at (omega arith) (kept c.is_digit.result c.is_digit.ensures (not_from_true _ c.if-not-is_digit.false)) (kept c.is_digit-2.result c.is_digit-2.ensures (not_from_true _ c.if-not-is_digit-2.false))
