-- The list as a sequence of entries: all of them, and those after a pattern.
use Rattle.std.specs.Prelude.{List, ℕ}
use Rattle.search.specs.Counted.{Entry, heavier_than}
use Rattle.search.specs.Finite.{heavier_finite}
use Rattle.search.specs.Sought.{Search}
use Rattle.profiles.specs.Selected.{selected_forms, selected_finite}
use Rattle.listing.specs.Listing.{Asked, IsListOf, IsListing}
use Rattle.listing.specs.Claims.{ListExistsClaim}
use Rattle.listing.proofs.Demand3.{list_exists_claim}
use Rattle.listing.proofs.ListLaws.{list_exists}

-- The list that is asked for: the one with `IsListing`, as `list_is` says.
unfoldable pub list_of : Asked → List Entry
unfolding ListExistsClaim
list_of asked = (list_exists_claim asked).0

pub list_is : (asked : Asked) → IsListing asked (list_of asked)
unfolding list_of ListExistsClaim
list_is asked = (list_exists_claim asked).1

-- The list of the forms of a search at its profile that are heavier than a pattern.
pub rest_exists : (search : Search) (pattern : List ℕ) → (entries : List Entry) × IsListOf (heavier_than (selected_forms search) pattern) entries
rest_exists search pattern = list_exists (heavier_finite (selected_finite search) pattern)

-- It is the one with `IsListOf`, as `rest_is` says.
unfoldable pub rest_of : Search → List ℕ → List Entry
rest_of search pattern = (rest_exists search pattern).0

pub rest_is : (search : Search) (pattern : List ℕ) → IsListOf (heavier_than (selected_forms search) pattern) (rest_of search pattern)
unfolding rest_of
rest_is search pattern = (rest_exists search pattern).1
