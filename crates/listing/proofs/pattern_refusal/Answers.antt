use Rattle.listing.proofs.StartStepLaws as s
use Rattle.terms.proofs.DecidedLaws.{denied, not_denied}
use mathlib.Core.Path.{◌∙◌}
use native.Mathlib.Omega.{arith}
use Rattle.std.proofs.lemmas.Bool.{not_from_false, not_from_true}
use Rattle.listing.proofs.pattern_refusal.Goals as goal

pub returns-then-pattern-lt1 : goal.returns-then-pattern-lt1
returns-then-pattern-lt1 c = s.no_size c.args.pattern.now c.args.bound (λ h. let k = h.0 in omega arith)

pub returns-then-pattern-bound : goal.returns-then-pattern-bound
returns-then-pattern-bound c = s.no_size c.args.pattern.now c.args.bound (λ h. let k = h.1 in omega arith)

pub returns-then-not-is_tree : goal.returns-then-not-is_tree
returns-then-not-is_tree c = s.no_tree _ _ (omega arith) (omega arith) (denied _ (not_from_false _ c.if-not-is_tree.true) ∙ c.is_tree.ensures)

pub returns-then-not-in_form : goal.returns-then-not-in_form
returns-then-not-in_form c = s.no_form _ _ (omega arith) (omega arith) (not_denied _ (not_from_true _ c.if-not-is_tree.false) ∙ c.is_tree.ensures) (denied _ (not_from_false _ c.if-not-in_form.true) ∙ c.in_form.ensures)

pub returns : goal.returns
returns c = s.a_form _ _ (omega arith) (omega arith) (not_denied _ (not_from_true _ c.if-not-is_tree.false) ∙ c.is_tree.ensures) (not_denied _ (not_from_true _ c.if-not-in_form.false) ∙ c.in_form.ensures)
