use Rattle.places.proofs.PlaceLastLaws as l
use Rattle.places.proofs.put_kids.Goals as goal

pub overflow_mul-pair : goal.overflow_mul-pair
overflow_mul-pair c = (l.pair_fits c.requires.0).1

pub overflow_add-pair-2 : goal.overflow_add-pair-2
overflow_add-pair-2 c = (l.pair_fits c.requires.0).2

pub returns-then-end-len : goal.returns-then-end-len
returns-then-end-len c = l.put_none c.requires.0 c.requires.1 c.put_children-end.ensures c.if-end-len.true

pub returns-then-leaves : goal.returns-then-leaves
returns-then-leaves c = l.put_all c.requires.0 c.requires.1 c.put_children-end.ensures c.if-end-len.false c.if-leaves.true

pub keep_beside-requires : goal.keep_beside-requires
keep_beside-requires c = (c.requires.0, l.children_rise c.requires.0 c.requires.1 c.put_children-end.ensures)

pub returns : goal.returns
returns c = l.put_kept c.requires.0 c.requires.1 c.put_children-end.ensures c.if-end-len.false c.keep_beside.ensures
