use mathlib.Core.Path.{sym, ◌∙◌}
use native.Mathlib.Omega.{arith}
use Rattle.terms.proofs.TreeLaws.{tree?}
use Rattle.terms.proofs.DecidedLaws.{said_yes, denied, not_denied}
use Rattle.form.proofs.InFormSteps as st
use Rattle.std.proofs.lemmas.Bool.{not_from_false, not_from_true}
use Rattle.form.proofs.in_form.Goals as goal

pub returns-then-not-is_tree : goal.returns-then-not-is_tree
returns-then-not-is_tree c = st.no_tree _ (denied _ (not_from_false _ c.if-not-is_tree.true) ∙ c.is_tree.ensures)

pub loop-j-init : goal.loop-j-init
loop-j-init c = st.begun _ (said_yes (tree? _) (not_denied _ (not_from_true _ c.if-not-is_tree.false) ∙ c.is_tree.ensures))

pub left-i-requires : goal.left-i-requires
left-i-requires c = (c.loop-j.invariant.is_tree, st.has_left c.loop-j.invariant (omega (arith, c.loop-j-test.true)) (omega (arith, c.if-pattern-j.true)))

pub subtree_end-f-requires : goal.subtree_end-f-requires
subtree_end-f-requires c = (c.loop-j.invariant.is_tree, c.loop-j.invariant.inside)

pub lighter-requires : goal.lighter-requires
lighter-requires c = let left = c.left-i.ensures.0 in
    let own = c.subtree_end-f.ensures in
    (omega arith, omega arith, omega arith, omega arith)

pub returns-then-lighter : goal.returns-then-lighter
returns-then-lighter c = st.heavier_no _ _ _ _ c.left-i.ensures c.subtree_end-f.ensures c.loop-j.invariant.is_tree c.loop-j.invariant.inside (sym c.if-lighter.true ∙ c.lighter.ensures)

pub loop-j-preserved-else-lighter : goal.loop-j-preserved-else-lighter
loop-j-preserved-else-lighter c = st.one_more _ _ c.loop-j.invariant (omega (arith, c.loop-j-test.true)) (st.no_heavier _ _ _ _ c.left-i.ensures c.subtree_end-f.ensures (sym c.if-lighter.false ∙ c.lighter.ensures))

pub loop-j-preserved : goal.loop-j-preserved
loop-j-preserved c = st.one_more _ _ c.loop-j.invariant (omega (arith, c.loop-j-test.true)) (st.first_child _ _ c.if-pattern-j.false)

pub returns : goal.returns
returns c = st.all_checked _ _ c.loop-j.invariant (omega (arith, c.loop-j-test.false))
