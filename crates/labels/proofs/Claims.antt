-- THE CLAIM of labels, over the definitions that the contracts cite.
use native.Mathlib.Omega.{arith}
use Rattle.terms.specs.Fleet.{vehicles}
use Rattle.occurrence.specs.Support.{whole_support}
use Rattle.labels.specs.Claims.{SizeIsWholeSupport}
use Rattle.labels.proofs.OneNode.{label_tree}
use Rattle.labels.proofs.SetLaws.{size_occurring}

pub size_is_whole_support : SizeIsWholeSupport
unfolding whole_support
size_is_whole_support fleet label low high = size_occurring (label_tree label low (omega arith)) (vehicles fleet)
