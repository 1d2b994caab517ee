use borrow.Author.Rules.{rules}
use mathlib.Core.Path.{refl}
use Rattle.fleet.proofs.TellsLaws.{told_yes, told_no}
use Rattle.profiles.proofs.WalkLaws as l
use Rattle.profiles.proofs.next.Goals as goal

pub loop-found-init : goal.loop-found-init
loop-found-init c = (l.begins c.requires.1, tt)

pub next-requires : goal.next-requires
next-requires c = (c.requires.0, c.loop-found.invariant.0.input)

pub shape_of-places-in_err-found : goal.shape_of-places-in_err-found
shape_of-places-in_err-found c = l.places_kept (l.at_end c.in_err-found.was c.next.ensures).found_or_end c.requires.1.remembers.all

pub shape_of-counts-in_err-found : goal.shape_of-counts-in_err-found
shape_of-counts-in_err-found c = l.counts_kept (l.at_end c.in_err-found.was c.next.ensures).found_or_end c.requires.1.remembers.all refl

pub returns-in_err-found : goal.returns-in_err-found
returns-in_err-found c = rw c.from_residual.ensures (l.ends c.loop-found.invariant.0 (l.at_end c.in_err-found.was c.next.ensures))

pub assess-assessed-requires : goal.assess-assessed-requires
assess-assessed-requires c = record { found_input = l.found_input c.loop-found.invariant.0 (l.at_form c.in_ok-found.was c.next.ensures) (search rules); by_index = (_, c.loop-found.invariant.1) }

pub shape_of-places-then-assessed : goal.shape_of-places-then-assessed
shape_of-places-then-assessed c = l.places_kept (l.at_form c.in_ok-found.was c.next.ensures).found_or_end.remembers.all c.requires.1.remembers.all

pub shape_of-counts-then-assessed : goal.shape_of-counts-then-assessed
shape_of-counts-then-assessed c = l.counts_kept (l.at_form c.in_ok-found.was c.next.ensures).found_or_end.remembers.all c.requires.1.remembers.all refl

pub returns-then-assessed : goal.returns-then-assessed
returns-then-assessed c = l.gives c.loop-found.invariant.0 (l.at_form c.in_ok-found.was c.next.ensures) (told_yes _ c.assess-assessed.ensures.listed c.if-assessed.true)

pub loop-found-smaller : goal.loop-found-smaller
loop-found-smaller c = l.fewer_left c.loop-found.invariant.0 (l.at_form c.in_ok-found.was c.next.ensures)

pub loop-found-preserved : goal.loop-found-preserved
loop-found-preserved c = (l.looks_on c.loop-found.invariant.0 (l.at_form c.in_ok-found.was c.next.ensures) (told_no _ c.assess-assessed.ensures.listed c.if-assessed.false), c.assess-assessed.ensures.matched)
