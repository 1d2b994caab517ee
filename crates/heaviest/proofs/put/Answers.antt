use native.Mathlib.Omega.{arith}
use Rattle.matching.proofs.FitsLaws.{fits_tells}
use Rattle.heaviest.proofs.RaiseLaws as s
use Rattle.heaviest.proofs.put.Goals as goal
use Rattle.heaviest.proofs.put.Goals.{then-other-eq-NOBODY-via-then-other-eq-NOBODY, then-other-eq-NOBODY-via-else-other-eq-NOBODY+then-augment}

pub augment-requires : goal.augment-requires
augment-requires c = let a = c.requires.0 in (s.augment_input a c.holder-other.ensures c.if-other-lt-VISITED.true (λ z. omega (arith, z, c.if-other-eq-NOBODY.false)), c.requires.1)

pub returns-then-other-eq-NOBODY : goal.returns-then-other-eq-NOBODY
returns-then-other-eq-NOBODY c = let a = c.requires.0 in
    let fit = fits_tells (rw c.if-fits.true at c.fits.ensures) in
    elim c.then-other-eq-NOBODY.branch [
      | then-other-eq-NOBODY-via-then-other-eq-NOBODY w ↦ rw w.places-is (s.put_free a c.holder-other.ensures w.if-other-eq-NOBODY.true fit)
      | then-other-eq-NOBODY-via-else-other-eq-NOBODY+then-augment w ↦ rw w.places-is (s.put_via a c.holder-other.ensures c.if-other-lt-VISITED.true w.if-other-eq-NOBODY.false fit (rw w.if-augment.true at w.augment.ensures))
    ]

pub returns-else-augment : goal.returns-else-augment
returns-else-augment c = s.put_stuck c.requires.0 c.holder-other.ensures c.if-other-lt-VISITED.true c.if-other-eq-NOBODY.false (rw c.if-augment.false at c.augment.ensures)

pub returns-else-fits : goal.returns-else-fits
returns-else-fits c = s.put_unfit c.requires.0 (fits_tells (rw c.if-fits.false at c.fits.ensures))

pub returns-else-other-lt-VISITED : goal.returns-else-other-lt-VISITED
returns-else-other-lt-VISITED c = s.put_held c.requires.0 c.holder-other.ensures c.if-other-lt-VISITED.false
