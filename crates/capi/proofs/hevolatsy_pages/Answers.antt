use mathlib.Core.Path.{sym, subst}
use borrow.Author.Rules.{rules}
use Rattle.crossing.specs.Number.{Fitting}
use Rattle.crossing.proofs.NumberLaws.{passed_on}
use Rattle.capi.proofs.ValueLaws.{pages_fitting}
use Rattle.capi.proofs.hevolatsy_pages.Goals as goal

pub request_from-requires : goal.request_from-requires
request_from-requires c = tt

pub pages-requires : goal.pages-requires
pages-requires c = tt

pub number-requires : goal.number-requires
number-requires c = subst Fitting (sym c.pages.ensures.value) (pages_fitting _ _ (search rules))

pub returns : goal.returns
returns c = let said = rw c.request_from.ensures at c.pages.ensures in
    record { value = passed_on _ _ _ c.number.ensures.value c.number.ensures.sfits said.value; output_after = said.output_after }
