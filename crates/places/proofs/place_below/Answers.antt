use Rattle.places.proofs.BelowLaws as l
use Rattle.places.proofs.place_below.Goals as goal

pub overflow_add-pair : goal.overflow_add-pair
overflow_add-pair c = l.pair_fits c.loop-old_place.invariant c.loop-old_place-test.true

pub put_children-len-requires : goal.put_children-len-requires
put_children-len-requires c = l.children_input c.loop-old_place.invariant c.loop-old_place-test.true

pub loop-old_place-preserved : goal.loop-old_place-preserved
loop-old_place-preserved c = l.below_more c.loop-old_place.invariant c.loop-old_place-test.true c.put_children-len.ensures

pub returns : goal.returns
returns c = l.below_end c.loop-old_place.invariant c.loop-old_place-test.false
