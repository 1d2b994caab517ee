use native.Mathlib.Omega.{arith}
use Rattle.fleet.specs.NodeRules.{node_rules}
use Rattle.fleet.proofs.NodeLaws as nl
use Rattle.fleet.proofs.ReaderSteps as st
use Rattle.fleet.proofs.TellsLaws as tl
use Rattle.std.proofs.lemmas.Bool.{not_from_false, not_from_true}
use Rattle.fleet.proofs.rules.broken.Goals as goal

pub returns-then-number-gt0 : goal.returns-then-number-gt0
unfolding node_rules
returns-then-number-gt0 c = record { by_index = (λ before s. nl.unfit_first before _ _ _ _ c.if-number-gt0.true (c.unfit-number.ensures.by_index before s)); may_come = (λ z. absurd (omega (arith, c.if-number-gt0.true))) }

pub returns-then-not-room_left : goal.returns-then-not-room_left
returns-then-not-room_left c = record { by_index = (λ before s. st.broken_9 before _ _ s _ _ (omega (arith, c.unfit-number.ensures.by_index before s)) (tl.broken c.room_left.result c.room_left.ensures (not_from_false _ c.if-not-room_left.true))); may_come = (λ z. absurd (omega arith)) }

pub returns : goal.returns
returns c = let room = tl.kept c.room_left.result c.room_left.ensures (not_from_true _ c.if-not-room_left.false) in
    let fits = c.unfit-number.ensures.depth_fits (omega arith) in
    record { by_index = (λ before s. st.none_broken before _ _ s _ _ (omega (arith, c.unfit-number.ensures.by_index before s)) room); may_come = (λ z. record { depth_fits = fits.0; label_to_999 = fits.1; room_left = room }) }
