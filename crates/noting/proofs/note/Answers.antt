use native.Mathlib.Omega.{arith}
use mathlib.Core.Path.{refl}
use Rattle.noting.proofs.NoteLaws as n
use Rattle.noting.proofs.note.Goals as goal

pub bounds-last-x : goal.bounds-last-x
bounds-last-x c = c.requires.in_last _ refl

pub bounds-last-x-then-last-x : goal.bounds-last-x-then-last-x
bounds-last-x-then-last-x c = c.requires.in_last _ refl

pub bounds-counts-x : goal.bounds-counts-x
bounds-counts-x c = c.requires.in_counts _ refl

pub overflow_add-counts : goal.overflow_add-counts
overflow_add-counts c = omega (arith, n.note_fits c.requires c.if-last-x.true)

pub bounds-counts-x-then-last-x : goal.bounds-counts-x-then-last-x
bounds-counts-x-then-last-x c = c.requires.in_counts _ refl

pub returns-then-last-x : goal.returns-then-last-x
returns-then-last-x c = n.note_new c.requires c.if-last-x.true

pub returns-else-last-x : goal.returns-else-last-x
returns-else-last-x c = n.note_again c.if-last-x.false
