use native.Mathlib.Omega.{arith}
use Rattle.fleet.proofs.ReaderSteps as st
use Rattle.fleet.proofs.TellsLaws as tl
use Rattle.std.proofs.lemmas.Bool.{not_from_false, not_from_true}
use Rattle.fleet.proofs.rules.unfit.Goals as goal
use Rattle.fleet.proofs.rules.unfit.Goals.{then-label-eq0-via-then-label-eq0, then-label-eq0-via-else-label-eq0+then-label-gt-LABEL}

pub returns-then-not-depth_fits : goal.returns-then-not-depth_fits
returns-then-not-depth_fits c = record { by_index = (λ before s. st.unfit_5 before _ _ s _ _ (tl.broken c.depth_fits.result c.depth_fits.ensures (not_from_false _ c.if-not-depth_fits.true))); depth_fits = (λ z. absurd (omega arith)) }

pub returns-then-label-eq0 : goal.returns-then-label-eq0
returns-then-label-eq0 c = record { by_index = (λ before s. st.unfit_6 before _ _ s _ _ (tl.kept c.depth_fits.result c.depth_fits.ensures (not_from_true _ c.if-not-depth_fits.false)) (λ h. elim c.then-label-eq0.branch [ then-label-eq0-via-then-label-eq0 w ↦ omega (arith, w.if-label-eq0.true, h.0) | then-label-eq0-via-else-label-eq0+then-label-gt-LABEL w ↦ omega (arith, w.if-label-gt-LABEL.true, h.1) ])); depth_fits = (λ z. absurd (omega arith)) }

pub family_fits-requires : goal.family_fits-requires
family_fits-requires c = (c.requires, tl.kept_deep c.depth_fits.result _ _ _ c.depth_fits.ensures (not_from_true _ c.if-not-depth_fits.false))

pub returns-then-not-family_fits : goal.returns-then-not-family_fits
returns-then-not-family_fits c = record { by_index = (λ before s. st.unfit_7 before _ _ s _ _ (tl.kept c.depth_fits.result c.depth_fits.ensures (not_from_true _ c.if-not-depth_fits.false)) (omega arith, omega arith) (tl.broken c.family_fits.result c.family_fits.ensures (not_from_false _ c.if-not-family_fits.true))); depth_fits = (λ z. absurd (omega arith)) }

pub returns : goal.returns
returns c = let fits = tl.kept c.depth_fits.result c.depth_fits.ensures (not_from_true _ c.if-not-depth_fits.false) in
    record { by_index = (λ before s. st.fit before _ _ s _ _ fits (omega arith, omega arith) (tl.kept c.family_fits.result c.family_fits.ensures (not_from_true _ c.if-not-family_fits.false))); depth_fits = (λ z. (fits, omega arith)) }
