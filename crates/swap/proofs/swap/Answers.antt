use native.Mathlib.Omega.{arith}
use Rattle.swap.specs.Swap.{swap_of}
use Rattle.swap.proofs.CallLaws as l
use Rattle.std.proofs.lemmas.Bool.{not_from_false, not_from_true}
use Rattle.swap.proofs.swap.Goals as goal

pub returns-then-not-rightly_lent : goal.returns-then-not-rightly_lent
returns-then-not-rightly_lent c = let z = let a = c.args in
    let s = swap_of a.buffer.now a.used a.vehicle a.tree.now a.nodes.now a.holders.now in
    l.swap_not_right s c.rightly_lent.result c.rightly_lent.ensures (not_from_false _ c.if-not-rightly_lent.true) in record { value = z.0; buffer_after = z.1.0; nodes_after = z.1.1.0; holders_after = z.1.1.1 }

pub slice_bounds-fleet-end : goal.slice_bounds-fleet-end
slice_bounds-fleet-end c = let a = c.args in
    let s = swap_of a.buffer.now a.used a.vehicle a.tree.now a.nodes.now a.holders.now in
    l.in_buffer s c.rightly_lent.result c.rightly_lent.ensures (not_from_true _ c.if-not-rightly_lent.false)

pub slice_bounds-fleet-end-2 : goal.slice_bounds-fleet-end-2
slice_bounds-fleet-end-2 c = let a = c.args in
    let s = swap_of a.buffer.now a.used a.vehicle a.tree.now a.nodes.now a.holders.now in
    l.front_length _ _ (l.in_buffer s c.rightly_lent.result c.rightly_lent.ensures (not_from_true _ c.if-not-rightly_lent.false))

pub returns-then-from-used : goal.returns-then-from-used
returns-then-from-used c = let z = let a = c.args in
    let s = swap_of a.buffer.now a.used a.vehicle a.tree.now a.nodes.now a.holders.now in
    l.swap_not_named s c.rightly_lent.result c.rightly_lent.ensures (not_from_true _ c.if-not-rightly_lent.false) _ c.tree_start-from.ensures c.if-from-used.true in record { value = z.0; buffer_after = z.1.0; nodes_after = z.1.1.0; holders_after = z.1.1.1 }

pub overflow_add-total : goal.overflow_add-total
overflow_add-total c = let a = c.args in
    let s = swap_of a.buffer.now a.used a.vehicle a.tree.now a.nodes.now a.holders.now in
    let part = l.part s c.rightly_lent.result c.rightly_lent.ensures (not_from_true _ c.if-not-rightly_lent.false) _ c.tree_start-from.ensures c.if-from-used.false _ c.tree_end-to.ensures in
    let few = l.few_nodes s c.rightly_lent.result c.rightly_lent.ensures (not_from_true _ c.if-not-rightly_lent.false) _ c.tree_start-from.ensures c.if-from-used.false _ c.tree_end-to.ensures in
    omega (arith, part.0, few.0, few.1.0, few.1.1)

pub overflow_sub-total : goal.overflow_sub-total
overflow_sub-total c = let a = c.args in
    let s = swap_of a.buffer.now a.used a.vehicle a.tree.now a.nodes.now a.holders.now in
    let part = l.part s c.rightly_lent.result c.rightly_lent.ensures (not_from_true _ c.if-not-rightly_lent.false) _ c.tree_start-from.ensures c.if-from-used.false _ c.tree_end-to.ensures in
    let few = l.few_nodes s c.rightly_lent.result c.rightly_lent.ensures (not_from_true _ c.if-not-rightly_lent.false) _ c.tree_start-from.ensures c.if-from-used.false _ c.tree_end-to.ensures in
    omega (arith, part.0, few.0, few.1.0, few.1.1)

pub overflow_add-total-2 : goal.overflow_add-total-2
overflow_add-total-2 c = let a = c.args in
    let s = swap_of a.buffer.now a.used a.vehicle a.tree.now a.nodes.now a.holders.now in
    let part = l.part s c.rightly_lent.result c.rightly_lent.ensures (not_from_true _ c.if-not-rightly_lent.false) _ c.tree_start-from.ensures c.if-from-used.false _ c.tree_end-to.ensures in
    let few = l.few_nodes s c.rightly_lent.result c.rightly_lent.ensures (not_from_true _ c.if-not-rightly_lent.false) _ c.tree_start-from.ensures c.if-from-used.false _ c.tree_end-to.ensures in
    omega (arith, part.0, few.0, few.1.0, few.1.1)

pub returns-then-total-gt-NODES : goal.returns-then-total-gt-NODES
returns-then-total-gt-NODES c = let z = let a = c.args in
    let s = swap_of a.buffer.now a.used a.vehicle a.tree.now a.nodes.now a.holders.now in
    l.swap_past s c.rightly_lent.result c.rightly_lent.ensures (not_from_true _ c.if-not-rightly_lent.false) _ c.tree_start-from.ensures c.if-from-used.false _ c.tree_end-to.ensures c.if-total-gt-NODES.true in record { value = z.0; buffer_after = z.1.0; nodes_after = z.1.1.0; holders_after = z.1.1.1 }

pub returns-then-total-room : goal.returns-then-total-room
returns-then-total-room c = let z = let a = c.args in
    let s = swap_of a.buffer.now a.used a.vehicle a.tree.now a.nodes.now a.holders.now in
    l.swap_short s c.rightly_lent.result c.rightly_lent.ensures (not_from_true _ c.if-not-rightly_lent.false) _ c.tree_start-from.ensures c.if-from-used.false _ c.tree_end-to.ensures c.if-total-gt-NODES.false c.if-total-room.true in record { value = z.0; buffer_after = z.1.0; nodes_after = z.1.1.0; holders_after = z.1.1.1 }

pub slice_bounds-old-count : goal.slice_bounds-old-count
slice_bounds-old-count c = let a = c.args in
    let s = swap_of a.buffer.now a.used a.vehicle a.tree.now a.nodes.now a.holders.now in
    let part = l.part s c.rightly_lent.result c.rightly_lent.ensures (not_from_true _ c.if-not-rightly_lent.false) _ c.tree_start-from.ensures c.if-from-used.false _ c.tree_end-to.ensures in
    omega (arith, part.0, part.1)

pub slice_bounds-old-start : goal.slice_bounds-old-start
slice_bounds-old-start c = let a = c.args in
    let s = swap_of a.buffer.now a.used a.vehicle a.tree.now a.nodes.now a.holders.now in
    let part = l.part s c.rightly_lent.result c.rightly_lent.ensures (not_from_true _ c.if-not-rightly_lent.false) _ c.tree_start-from.ensures c.if-from-used.false _ c.tree_end-to.ensures in
    omega (arith, part.0, part.1)

pub slice_bounds-old-end : goal.slice_bounds-old-end
slice_bounds-old-end c = let a = c.args in
    let s = swap_of a.buffer.now a.used a.vehicle a.tree.now a.nodes.now a.holders.now in
    let part = l.part s c.rightly_lent.result c.rightly_lent.ensures (not_from_true _ c.if-not-rightly_lent.false) _ c.tree_start-from.ensures c.if-from-used.false _ c.tree_end-to.ensures in
    omega (arith, part.0, part.1)

pub take-requires : goal.take-requires
take-requires c = let a = c.args in
    let s = swap_of a.buffer.now a.used a.vehicle a.tree.now a.nodes.now a.holders.now in
    l.swap_take s c.rightly_lent.result c.rightly_lent.ensures (not_from_true _ c.if-not-rightly_lent.false) _ c.tree_start-from.ensures c.if-from-used.false _ c.tree_end-to.ensures c.if-total-gt-NODES.false

pub add-requires : goal.add-requires
add-requires c = let a = c.args in
    let s = swap_of a.buffer.now a.used a.vehicle a.tree.now a.nodes.now a.holders.now in
    l.swap_add s c.rightly_lent.result c.rightly_lent.ensures (not_from_true _ c.if-not-rightly_lent.false) _ c.tree_start-from.ensures c.if-from-used.false _ c.tree_end-to.ensures c.if-total-gt-NODES.false c.take.ensures

pub replace-requires : goal.replace-requires
replace-requires c = let a = c.args in
    let s = swap_of a.buffer.now a.used a.vehicle a.tree.now a.nodes.now a.holders.now in
    l.swap_replace s c.rightly_lent.result c.rightly_lent.ensures (not_from_true _ c.if-not-rightly_lent.false) _ c.tree_start-from.ensures c.if-from-used.false _ c.tree_end-to.ensures c.if-total-gt-NODES.false c.take.ensures c.if-total-room.false

pub returns : goal.returns
returns c = let z = let a = c.args in
    let s = swap_of a.buffer.now a.used a.vehicle a.tree.now a.nodes.now a.holders.now in
    l.swap_done s c.rightly_lent.result c.rightly_lent.ensures (not_from_true _ c.if-not-rightly_lent.false) _ c.tree_start-from.ensures c.if-from-used.false _ c.tree_end-to.ensures c.if-total-gt-NODES.false c.take.ensures c.if-total-room.false c.add.ensures c.replace.ensures in record { value = z.0; buffer_after = z.1.0; nodes_after = z.1.1.0; holders_after = z.1.1.1 }
