use mathlib.Core.Path.{◌∙◌}
use Rattle.terms.proofs.DecidedLaws.{denied, not_denied, said_yes}
use Rattle.registered.proofs.RegisteredLaws as l
use Rattle.std.proofs.lemmas.Bool.{not_from_false, not_from_true}
use Rattle.registered.proofs.accepted.Goals as goal

pub returns-then-not-is_fleet : goal.returns-then-not-is_fleet
returns-then-not-is_fleet c = l.no_fleet _ _ _ (denied _ (not_from_false _ c.if-not-is_fleet.true) ∙ c.is_fleet.ensures)

pub is_register-requires : goal.is_register-requires
is_register-requires c = said_yes _ (not_denied _ (not_from_true _ c.if-not-is_fleet.false) ∙ c.is_fleet.ensures)

pub returns : goal.returns
returns c = l.by_register _ _ _ _ (not_denied _ (not_from_true _ c.if-not-is_fleet.false) ∙ c.is_fleet.ensures) c.is_register.ensures
