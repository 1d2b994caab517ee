-- Claims of specs/Claims whose laws are used with their arguments left out; the others are proved in the files that are named there.
use Rattle.terms.specs.Claims.{FormUnique, HeaviestUnique, HeaviestWithoutUnique, RefusedExactly, AnsweredExactly}
use Rattle.terms.proofs.FormLaws as forms
use Rattle.terms.proofs.PlacingLaws as placings
use Rattle.terms.proofs.RemainingPlacing as remaining
use Rattle.terms.proofs.RefusalLaws as refusals

pub form_unique : FormUnique
form_unique s form other a b = forms.form_unique a b

pub heaviest_unique : HeaviestUnique
heaviest_unique pattern tree tuple other a b = placings.heaviest_unique a b

pub heaviest_without_unique : HeaviestWithoutUnique
heaviest_without_unique Out pattern tree tuple other a b = remaining.heaviest_without_unique a b

pub refused_exactly : RefusedExactly
refused_exactly rules n = refusals.refused_exactly n

pub answered_exactly : AnsweredExactly
answered_exactly rules = refusals.answered_exactly
