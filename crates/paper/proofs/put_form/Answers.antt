use mathlib.Core.Path.{refl}
use borrow.Author.Rules.{rules}
use Rattle.paper.proofs.RowLaws.{first_few, left_few}
use Rattle.paper.proofs.PutLaws.{first_room, second_room, size_one, size_two, one_put, two_put, second_part}
use Rattle.paper.proofs.put_form.Goals as goal

pub put_first-next-requires : goal.put_first-next-requires
put_first-next-requires c = (c.requires.0, first_few c.args.form.now, first_room _ c.args.form.now c.args.at c.requires.2)

pub put_second-requires : goal.put_second-requires
put_second-requires c = (rw second_part (left_few c.args.form.now c.requires.1), second_room _ c.args.form.now c.if-form-gt-PAIRS.true c.put_first-next.ensures.value c.requires.2 c.put_first-next.ensures.put)

pub returns-then-form-gt-PAIRS : goal.returns-then-form-gt-PAIRS
returns-then-form-gt-PAIRS c = let e = size_two c.args.form.now c.if-form-gt-PAIRS.true c.args.held in record { put = two_put _ c.args.form.now c.if-form-gt-PAIRS.true refl (second_part c.args.form.now) c.put_first-next.ensures.put c.put_second.ensures.put; value = search rules }

pub put_first-requires : goal.put_first-requires
put_first-requires c = (c.requires.0, c.if-form-gt-PAIRS.false, first_room _ c.args.form.now c.args.at c.requires.2)

pub returns : goal.returns
returns c = let e = size_one c.args.form.now c.if-form-gt-PAIRS.false c.args.held in record { put = one_put _ c.args.form.now c.if-form-gt-PAIRS.false c.put_first.ensures.put; value = search rules }
