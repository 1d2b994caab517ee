use native.Mathlib.Omega.{arith}
use Rattle.profiles.proofs.SelectsLaws as l
use Rattle.profiles.proofs.selects.Goals as goal
use Rattle.profiles.proofs.selects.Goals.{then-request-eq-CLOSED, else-request-eq-CLOSED}

pub reaches-requires : goal.reaches-requires
reaches-requires c = let i = c.requires in
    i.testable _ (elim c.if-request-eq-CLOSED.branch [
      | then-request-eq-CLOSED k ↦ omega (arith, k.need-is, i.from_1, i.enough)
      | else-request-eq-CLOSED k ↦ omega (arith, k.need-is, i.from_1)
    ])

pub returns-then-request-eq-FULL : goal.returns-then-request-eq-FULL
returns-then-request-eq-FULL c = l.full_selects _ _ _ c.if-request-eq-FULL.true

pub returns-else-request-eq-FULL : goal.returns-else-request-eq-FULL
returns-else-request-eq-FULL c = l.selects_told c.requires c.reaches.result c.if-request-eq-FULL.false (elim c.if-request-eq-CLOSED.branch [
  | then-request-eq-CLOSED k ↦ l.own_support k.if-request-eq-CLOSED.true k.need-is
  | else-request-eq-CLOSED k ↦ l.the_threshold k.if-request-eq-CLOSED.false k.need-is
]) c.reaches.ensures
