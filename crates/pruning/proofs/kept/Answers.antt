use mathlib.Core.Path.{sym}
use borrow.Author.Rules.{rules}
use Rattle.std.proofs.lemmas.Slice.Eq.{bytes_eq-Decides}
use Rattle.pruning.proofs.PruningLaws as l
use Rattle.pruning.proofs.kept.Goals as goal

pub slice_bounds-eq-end : goal.slice_bounds-eq-end
slice_bounds-eq-end c = l.front_few _ c.if-known-len.true c.requires (search rules)

pub returns-then-eq : goal.returns-then-eq
returns-then-eq c = rw c.in_ok-known.was (λ fleet n m. l.known_on c.if-known-len.true ((bytes_eq-Decides _ _).0 (sym c.if-eq.ensures)) m)
