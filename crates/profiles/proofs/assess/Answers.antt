use mathlib.Core.Path.{sym}
use native.Mathlib.Omega.{arith}
use Rattle.fleet.proofs.TellsLaws.{told_yes}
use Rattle.blanket.proofs.ReachLaws.{first_input}
use Rattle.profiles.proofs.AssessLaws as l
use Rattle.profiles.proofs.assess.Goals as goal

pub kept-known-requires : goal.kept-known-requires
kept-known-requires c = l.few c.requires.found_input

pub returns-then-request-eq-FULL : goal.returns-then-request-eq-FULL
returns-then-request-eq-FULL c = l.told_full c.if-request-eq-FULL.true (c.kept-known.ensures _ c.requires.by_index.0 c.requires.by_index.1)

pub covers-requires : goal.covers-requires
covers-requires c = l.few c.requires.found_input

pub returns-then-covers : goal.returns-then-covers
returns-then-covers c = l.told_covered c.requires.found_input c.if-request-eq-FULL.false (c.kept-known.ensures _ c.requires.by_index.0 c.requires.by_index.1) (told_yes c.covers.result c.covers.ensures c.if-covers.true)

pub find_matched-found-requires : goal.find_matched-found-requires
find_matched-found-requires c = first_input (c.requires.found_input.testable 1 (omega arith))

pub returns-then-is_some : goal.returns-then-is_some
returns-then-is_some c = l.told_found c.requires.found_input _ c.if-request-eq-FULL.false c.find_matched-found.ensures (sym c.if-is_some.ensures)

pub selects-listed-requires : goal.selects-listed-requires
selects-listed-requires c = c.requires.found_input

pub returns : goal.returns
returns c = l.told_tested c.selects-listed.result (c.kept-known.ensures _ c.requires.by_index.0 c.requires.by_index.1) c.selects-listed.ensures
