use borrow.Author.Rules.{rules}
use mathlib.Core.Path.{refl}
use Rattle.expansion.specs.Levels.{count_room}
use Rattle.profiles.proofs.FirstLaws as f
use Rattle.profiles.proofs.first_step.Goals as goal

pub slice_bounds-make-end : goal.slice_bounds-make-end
slice_bounds-make-end c = refl

pub make-requires : goal.make-requires
make-requires c = f.make_input c.args.given (search rules) c.requires.1 refl refl refl refl refl refl

pub slice_bounds-next-end-2 : goal.slice_bounds-next-end-2
slice_bounds-next-end-2 c = refl

pub next-requires : goal.next-requires
unfolding count_room
next-requires c = (c.requires.0, f.next_input c.requires.1 (c.make.ensures _ _ refl))

pub returns : goal.returns
returns c = f.first_is _ c.next.ensures
