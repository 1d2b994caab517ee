use mathlib.Core.Path.{sym, ap, ◌∙◌}
use native.Mathlib.Omega.{arith}
use lib.ListN.{length}
use Rattle.terms.proofs.TreeLaws.{tree?}
use Rattle.terms.proofs.DecidedLaws.{denied, not_denied, said_yes}
use Rattle.form.proofs.FormSteps as st
use Rattle.std.proofs.lemmas.Bool.{not_from_false, not_from_true}
use Rattle.form.proofs.form.Goals as goal

pub returns-then-n-eq0 : goal.returns-then-n-eq0
returns-then-n-eq0 c = let z = st.refused_size _ _ (λ h. omega (arith, h.0)) in record { value = z.0; output_after = z.1 }

pub returns-then-n-gt-TREE_NODES : goal.returns-then-n-gt-TREE_NODES
returns-then-n-gt-TREE_NODES c = let z = st.refused_size _ _ (λ h. omega (arith, h.1)) in record { value = z.0; output_after = z.1 }

pub returns-then-not-is_tree : goal.returns-then-not-is_tree
returns-then-not-is_tree c = let z = st.refused_tree _ _ c.if-n-eq0.false c.if-n-gt-TREE_NODES.false (denied _ (not_from_false _ c.if-not-is_tree.true) ∙ c.is_tree.ensures) in record { value = z.0; output_after = z.1 }

pub returns-then-output-n : goal.returns-then-output-n
returns-then-output-n c = let z = st.refused_output _ _ c.if-n-eq0.false c.if-n-gt-TREE_NODES.false (not_denied _ (not_from_true _ c.if-not-is_tree.false) ∙ c.is_tree.ensures) (omega (arith, c.if-output-n.true, c.if-n-eq0.false)) in record { value = z.0; output_after = z.1 }

pub slice_bounds-sort-end-2 : goal.slice_bounds-sort-end-2
slice_bounds-sort-end-2 c = let a = c.args in sym (ap length (st.front_copied a.tree.now a.output.now _ c.copy.ensures))

pub sort-requires : goal.sort-requires
sort-requires c = st.tree_copied _ _ _ c.copy.ensures (said_yes (tree? _) (not_denied _ (not_from_true _ c.if-not-is_tree.false) ∙ c.is_tree.ensures))

pub returns : goal.returns
returns c = let z = st.answered _ _ _ _ c.if-n-eq0.false c.if-n-gt-TREE_NODES.false (not_denied _ (not_from_true _ c.if-not-is_tree.false) ∙ c.is_tree.ensures) c.if-output-n.false
    c.copy.ensures c.sort.ensures in record { value = z.0; output_after = z.1 }
