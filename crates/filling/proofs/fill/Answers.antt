use native.Mathlib.Omega.{arith}
use borrow.Author.Rules.{rules}
use Rattle.filling.proofs.FillLaws as l
use Rattle.filling.proofs.fill.Goals as goal

pub loop-given-init : goal.loop-given-init
loop-given-init c = l.begins c.requires.0 c.requires.2 c.requires.3

pub overflow_sub-output : goal.overflow_sub-output
overflow_sub-output c = omega (arith, c.loop-given.invariant.at_within, c.loop-given.invariant.same_output)

pub next-next-requires : goal.next-next-requires
next-next-requires c = (c.requires.1, c.loop-given.invariant.input)

pub shape_of-places-in_default : goal.shape_of-places-in_default
shape_of-places-in_default c = omega (arith, c.loop-given.invariant.input.remembers.all.all_places, c.requires.2.remembers.all.all_places)

pub shape_of-counts-in_default : goal.shape_of-counts-in_default
shape_of-counts-in_default c = omega (arith, c.loop-given.invariant.input.remembers.all.all_counts, c.requires.2.remembers.all.all_counts)

pub shape_of-output-in_default : goal.shape_of-output-in_default
shape_of-output-in_default c = c.loop-given.invariant.same_output

pub shape_of-found-in_default : goal.shape_of-found-in_default
shape_of-found-in_default c = c.loop-given.invariant.same_found

pub returns-in_default : goal.returns-in_default
returns-in_default c = l.list_ends c.loop-given.invariant (search rules) c.in_default.is c.next-next.ensures

pub put-at-requires : goal.put-at-requires
put-at-requires c = l.put_input c.loop-given.invariant (search rules) _ c.in-Some.is c.next-next.ensures (search rules)

pub number-requires : goal.number-requires
number-requires c = l.number_input c.loop-given.invariant (search rules) _ c.in-Some.is c.next-next.ensures (search rules)

pub offset_bounds-found-given : goal.offset_bounds-found-given
offset_bounds-found-given c = omega (arith, c.loop-given-test.true, c.loop-given.invariant.same_found)

pub overflow_add-given : goal.overflow_add-given
overflow_add-given c = omega (arith, c.loop-given-test.true, c.loop-given.invariant.same_found)

pub loop-given-smaller : goal.loop-given-smaller
loop-given-smaller c = l.one_less c.loop-given.found c.loop-given.given c.number.result c.loop-given-test.true

pub loop-given-preserved : goal.loop-given-preserved
loop-given-preserved c = l.one_more c.loop-given.invariant (search rules) _ c.in-Some.is c.next-next.ensures (search rules) c.loop-given-test.true c.put-at.ensures c.number.ensures

pub shape_of-places-else-output-at : goal.shape_of-places-else-output-at
shape_of-places-else-output-at c = omega (arith, c.loop-given.invariant.input.remembers.all.all_places, c.requires.2.remembers.all.all_places)

pub shape_of-counts-else-output-at : goal.shape_of-counts-else-output-at
shape_of-counts-else-output-at c = omega (arith, c.loop-given.invariant.input.remembers.all.all_counts, c.requires.2.remembers.all.all_counts)

pub shape_of-output-else-output-at : goal.shape_of-output-else-output-at
shape_of-output-else-output-at c = c.loop-given.invariant.same_output

pub shape_of-found-else-output-at : goal.shape_of-found-else-output-at
shape_of-found-else-output-at c = c.loop-given.invariant.same_found

pub returns-else-output-at : goal.returns-else-output-at
returns-else-output-at c = l.no_room_left c.loop-given.invariant (search rules)

pub shape_of-places-after-loop-given : goal.shape_of-places-after-loop-given
shape_of-places-after-loop-given c = omega (arith, c.loop-given.invariant.input.remembers.all.all_places, c.requires.2.remembers.all.all_places)

pub shape_of-counts-after-loop-given : goal.shape_of-counts-after-loop-given
shape_of-counts-after-loop-given c = omega (arith, c.loop-given.invariant.input.remembers.all.all_counts, c.requires.2.remembers.all.all_counts)

pub shape_of-output-after-loop-given : goal.shape_of-output-after-loop-given
shape_of-output-after-loop-given c = c.loop-given.invariant.same_output

pub shape_of-found-after-loop-given : goal.shape_of-found-after-loop-given
shape_of-found-after-loop-given c = c.loop-given.invariant.same_found

pub returns-after-loop-given : goal.returns-after-loop-given
returns-after-loop-given c = l.no_number_left c.loop-given.invariant (search rules)
