use mathlib.Core.Path.{◌≡◌}
use lib.ListN.{length}
use Rattle.terms.specs.Fleet.{most_nodes}
use Rattle.turned_places.proofs.MakingLaws as laws
use Rattle.turned_places.proofs.place_onward.Given as goal

abbrev pub invariant-loop-k : goal.invariant-loop-k
invariant-loop-k l = laws.OnwardTo l.fleet l.nodes l.len l.parents l.sizes l.list l.known l.k × (length l.old ≡ most_nodes)
