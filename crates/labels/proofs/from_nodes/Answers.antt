use native.Mathlib.Omega.{arith}
use lib.ListN.{length-append}
use Rattle.std.proofs.Common.{rules}
use Rattle.std.proofs.lemmas.Slice.Zip.{zip_turn, zip_end}
use Rattle.counts.proofs.CountLaws.{gathered_after}
use Rattle.labels.proofs.CountedLaws as l
use Rattle.labels.proofs.from_nodes.Goals as goal

pub loop-pair-init : goal.loop-pair-init
loop-pair-init c = l.labels_start c.requires.0 c.requires.1 (omega (arith, c.requires.2, c.clear.ensures.0)) c.clear.ensures.1

pub note-requires : goal.note-requires
note-requires c =
    let turn = zip_turn c.args.fleet.now c.args.numbers.now c.loop-pair.yielded c.into_iter-pair-iterator.result c.loop-pair.pair-iterator c.next.new.self c.next.result (search rules) (search rules) c.loop-pair.yielded_by (c.in-Some.field-0-0, c.in-Some.field-0-1) c.in-Some.is c.next.ensures.steps in
    rw (turn.2 0) (l.labels_room c.loop-pair.invariant)

pub loop-pair-preserved : goal.loop-pair-preserved
loop-pair-preserved c =
    let turn = zip_turn c.args.fleet.now c.args.numbers.now c.loop-pair.yielded c.into_iter-pair-iterator.result c.loop-pair.pair-iterator c.next.new.self c.next.result (search rules) (search rules) c.loop-pair.yielded_by (c.in-Some.field-0-0, c.in-Some.field-0-1) c.in-Some.is c.next.ensures.steps in
    simp length-append (l.labels_next c.loop-pair.invariant turn.0 (rw (turn.2 0, turn.3 0) at c.note.ensures))

pub returns : goal.returns
returns c =
    let end = zip_end c.args.fleet.now c.args.numbers.now c.loop-pair.yielded c.into_iter-pair-iterator.result c.loop-pair.pair-iterator c.next.new.self c.next.result (search rules) (search rules) c.loop-pair.yielded_by c.in-None.is c.next.ensures.steps in
    gathered_after c.clear.ensures.0 (l.labels_end c.loop-pair.invariant (omega (arith, end, c.loop-pair.invariant.is_fleet.nodes, c.told-numbers)))
