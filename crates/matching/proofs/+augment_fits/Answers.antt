use native.Mathlib.Omega.{arith}
use Rattle.matching.proofs.FitsLaws as s
use Rattle.matching.proofs.NeedLaws as n
use Rattle.matching.proofs.+augment_fits.Goals as goal
use Rattle.matching.proofs.+augment_fits.Goals.{augment-then-other-eq-NOBODY-via-then-other-eq-NOBODY, augment-then-other-eq-NOBODY-via-else-other-eq-NOBODY+then-augment}

pub fits-offset_bounds-pattern-node : goal.fits-offset_bounds-pattern-node
fits-offset_bounds-pattern-node t c = n.node_doubled c.requires.0.nodes

pub fits-bounds-pattern-node : goal.fits-bounds-pattern-node
fits-bounds-pattern-node t c = c.requires.0.nodes.node

pub fits-overflow_add-deeper : goal.fits-overflow_add-deeper
fits-overflow_add-deeper t c = (n.below_children c.requires.0.nodes).0

pub fits-overflow_mul-deeper : goal.fits-overflow_mul-deeper
fits-overflow_mul-deeper t c = (n.below_children c.requires.0.nodes).1

pub fits-subtree_end-end-requires : goal.fits-subtree_end-end-requires
fits-subtree_end-end-requires t c = (c.requires.0.nodes.trees.pattern_is_tree, c.requires.0.nodes.node)

pub fits-loop-child-init : goal.fits-loop-child-init
fits-loop-child-init t c = s.fits_start _ _ _ _ _ _ c.requires.0 c.subtree_end-end.ensures

pub fits-offset_bounds-pattern-child : goal.fits-offset_bounds-pattern-child
fits-offset_bounds-pattern-child t c = n.child_doubled c.loop-child.invariant.nodes (s.child_inside _ _ _ _ _ _ _ _ c.loop-child.invariant c.loop-child-test.true)

pub fits-bounds-pattern-child : goal.fits-bounds-pattern-child
fits-bounds-pattern-child t c = s.child_inside _ _ _ _ _ _ _ _ c.loop-child.invariant c.loop-child-test.true

pub fits-augment-requires : goal.fits-augment-requires
fits-augment-requires t c = (n.into_children c.decreases c.loop-child.invariant.nodes.node, (s.augment_input _ _ _ _ _ _ _ _ c.loop-child.invariant c.loop-child-test.true c.if-pattern-child.true, c.requires.1))

pub fits-returns-then-not-augment : goal.fits-returns-then-not-augment
fits-returns-then-not-augment t c = s.fits_stuck _ _ _ _ _ _ _ _ c.loop-child.invariant _ _ c.loop-child-test.true c.if-pattern-child.true (rw c.if-not-augment.true at c.augment.ensures)

pub fits-loop-child-preserved-else-not-augment : goal.fits-loop-child-preserved-else-not-augment
fits-loop-child-preserved-else-not-augment t c = s.fits_matched _ _ _ _ _ _ _ _ c.loop-child.invariant _ _ c.loop-child-test.true (rw c.if-not-augment.false at c.augment.ensures)

pub fits-loop-child-preserved : goal.fits-loop-child-preserved
fits-loop-child-preserved t c = s.fits_skip _ _ _ _ _ _ _ _ c.loop-child.invariant c.loop-child-test.true c.if-pattern-child.false

pub fits-returns : goal.fits-returns
fits-returns t c = s.fits_end _ _ _ _ _ _ _ _ c.loop-child.invariant c.loop-child-test.false

pub augment-bounds-visited-child : goal.augment-bounds-visited-child
augment-bounds-visited-child t c = n.child_below c.requires.0.nodes c.requires.0.child

pub augment-pair_wanted-pair-requires : goal.augment-pair_wanted-pair-requires
augment-pair_wanted-pair-requires t c = (c.requires.0.nodes.trees, c.requires.0.child.inside, c.requires.0.nodes.image)

pub augment-least_below-least-requires : goal.augment-least_below-least-requires
augment-least_below-least-requires t c = let v = c.requires.0.nodes in (v.trees.tree_is_tree, v.trees.tree_nodes, v.image)

pub augment-least_size-size-requires : goal.augment-least_size-size-requires
augment-least_size-size-requires t c = let z = c.requires in (z.0.nodes.trees.pattern_is_tree, z.0.child.inside, n.some_size z.0.nodes z.1)

pub augment-loop-place-init : goal.augment-loop-place-init
augment-loop-place-init t c = s.augment_start c.requires.0 c.requires.1 c.pair_wanted-pair.ensures c.least_size-size.ensures

pub augment-next_child-place-requires : goal.augment-next_child-place-requires
augment-next_child-place-requires t c = (s.scan_input c.loop-place.invariant, c.requires.1, c.least_below-least.ensures)

pub augment-returns-then-place-tree : goal.augment-returns-then-place-tree
augment-returns-then-place-tree t c = s.augment_nowhere c.requires.0 c.loop-place.invariant c.next_child-place.ensures c.if-place-tree.true

pub augment-holder-other-requires : goal.augment-holder-other-requires
augment-holder-other-requires t c = s.holder_input c.loop-place.invariant c.next_child-place.ensures

pub augment-fits-requires : goal.augment-fits-requires
augment-fits-requires t c = (n.into_child _ _ c.decreases c.loop-place.invariant.input.child.before, (s.fits_input c.loop-place.invariant c.next_child-place.ensures c.if-place-tree.false, c.requires.1))

pub augment-augment-requires : goal.augment-augment-requires
augment-augment-requires t c = (n.along_path _ _ c.decreases (s.fewer_now c.requires.0 c.loop-place.invariant), (s.augment_other_input c.loop-place.invariant c.next_child-place.ensures c.holder-other.ensures c.if-other-lt-VISITED.true (λ z. omega (arith, z, c.if-other-eq-NOBODY.false)), c.requires.1))

pub augment-offset_bounds-places-child : goal.augment-offset_bounds-places-child
augment-offset_bounds-places-child t c = n.child_eightfold c.requires.0.nodes c.requires.0.child

pub augment-bounds-places-child : goal.augment-bounds-places-child
augment-bounds-places-child t c = n.child_below c.requires.0.nodes c.requires.0.child

pub augment-returns-then-other-eq-NOBODY : goal.augment-returns-then-other-eq-NOBODY
augment-returns-then-other-eq-NOBODY t c =
    let a = c.requires.0 in
    let v = c.loop-place.invariant in
    let f = c.next_child-place.ensures in
    let fit = s.fits_tells (rw c.if-fits.true at c.fits.ensures) in
    elim c.then-other-eq-NOBODY.branch [
      | augment-then-other-eq-NOBODY-via-then-other-eq-NOBODY w ↦ rw (w.places-is, w.visited-is) (s.augment_free a v f c.if-place-tree.false fit c.holder-other.ensures w.if-other-eq-NOBODY.true)
      | augment-then-other-eq-NOBODY-via-else-other-eq-NOBODY+then-augment w ↦ rw (w.places-is, w.visited-is) (s.augment_via a v f c.if-place-tree.false fit c.holder-other.ensures c.if-other-lt-VISITED.true w.if-other-eq-NOBODY.false (rw w.if-augment.true at w.augment.ensures))
    ]

pub augment-loop-place-smaller-then-fits : goal.augment-loop-place-smaller-then-fits
augment-loop-place-smaller-then-fits t c = s.nearer_end c.loop-place.invariant c.next_child-place.ensures c.if-place-tree.false

pub augment-loop-place-preserved-then-fits : goal.augment-loop-place-preserved-then-fits
augment-loop-place-preserved-then-fits t c = s.again_stuck c.loop-place.invariant c.next_child-place.ensures c.if-place-tree.false c.holder-other.ensures c.if-other-lt-VISITED.true c.if-other-eq-NOBODY.false (rw c.if-augment.false at c.augment.ensures)

pub augment-loop-place-smaller-else-fits : goal.augment-loop-place-smaller-else-fits
augment-loop-place-smaller-else-fits t c = s.nearer_end c.loop-place.invariant c.next_child-place.ensures c.if-place-tree.false

pub augment-loop-place-preserved-else-fits : goal.augment-loop-place-preserved-else-fits
augment-loop-place-preserved-else-fits t c = s.again_unfit c.loop-place.invariant c.next_child-place.ensures c.if-place-tree.false (s.fits_tells (rw c.if-fits.false at c.fits.ensures))

pub augment-loop-place-smaller : goal.augment-loop-place-smaller
augment-loop-place-smaller t c = s.nearer_end c.loop-place.invariant c.next_child-place.ensures c.if-place-tree.false

pub augment-loop-place-preserved : goal.augment-loop-place-preserved
augment-loop-place-preserved t c = s.again_visited c.loop-place.invariant c.next_child-place.ensures c.if-place-tree.false c.holder-other.ensures c.if-other-lt-VISITED.false
