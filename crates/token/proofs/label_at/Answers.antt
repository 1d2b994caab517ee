use native.Mathlib.Omega.{arith}
use Rattle.fleet.proofs.TellsLaws.{broken, kept}
use Rattle.std.proofs.lemmas.Bool.{not_from_false, not_from_true}
use Rattle.token.proofs.TokenLaws as tk
use Rattle.token.proofs.label_at.Goals.{then-text-at-lt4-via-then-text-at-lt4, then-text-at-lt4-via-else-text-at-lt4+then-not-is_label}
use Rattle.token.proofs.label_at.Goals as goal

pub returns-then-text-at-lt4-clause-text_value : goal.returns-then-text-at-lt4-clause-text_value
returns-then-text-at-lt4-clause-text_value c = elim c.then-text-at-lt4.branch [
  | then-text-at-lt4-via-then-text-at-lt4 w ↦ tk.label_short c.args.text.now c.args.at c.args.depth w.if-text-at-lt4.true
  | then-text-at-lt4-via-else-text-at-lt4+then-not-is_label w ↦ tk.label_wrong c.args.text.now c.args.at c.args.depth (omega (arith, w.if-text-at-lt4.false)) (broken w.is_label.result w.is_label.ensures (not_from_false _ w.if-not-is_label.true))
]

pub returns-clause-text_value : goal.returns-clause-text_value
returns-clause-text_value c = rw (c.value.ensures.0, c.value-2.ensures.0, c.value-3.ensures.0) (tk.label_read c.args.text.now c.args.at c.args.depth (omega arith) (kept c.is_label.result c.is_label.ensures (not_from_true _ c.if-not-is_label.false)))
