use borrow.Author.Rules.{rules}
use mathlib.Core.Path.{refl}
use Rattle.expansion.specs.Levels.{count_room}
use Rattle.profiles.proofs.FirstLaws as f
use Rattle.filling.proofs.fill_anew.Goals as goal

pub slice_bounds-make-end : goal.slice_bounds-make-end
slice_bounds-make-end c = refl

pub make-requires : goal.make-requires
make-requires c = f.make_input c.args.first (search rules) c.requires.2 refl refl refl refl refl refl

pub slice_bounds-fill-end-2 : goal.slice_bounds-fill-end-2
slice_bounds-fill-end-2 c = refl

pub fill-requires : goal.fill-requires
unfolding count_room
fill-requires c = (c.requires.0, c.requires.1, f.next_input c.requires.2 (c.make.ensures _ _ refl), c.requires.3)

pub returns : goal.returns
returns c = c.fill.ensures
