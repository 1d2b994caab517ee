-- LAWS. What is listed over an accepted fleet, within the limits, has room on the paper.
use mathlib.Core.Path.{◌≡◌}
use mathlib.Core.List.{List, [], ◌∷◌}
use Prim.Native.Nat.{ℕ, suc, ◌≤◌, ◌<◌}
use native.Mathlib.Omega.{arith}
use lib.ListN.{length, get_or}
use Rattle.terms.specs.Form.{InForm}
use Rattle.terms.specs.Fleet.{IsFleet, most_trees}
use Rattle.matching.specs.Limits.{most_nodes_of_a_pattern}
use Rattle.occurrence.proofs.SupportLaws.{support_most, whole_support_most}
use Rattle.search.specs.Counted.{Entry}
use Rattle.search.specs.Sought.{Search, count_in, Sought}
use Rattle.listing.specs.Listing.{Asked, IsListing, no_entry, formAt}
use Rattle.listing.specs.ListedSelected.{listed_form}
use Rattle.paper.specs.Paper.{Each, none, also, HasRoom}
use Rattle.text.proofs.TextLaws.{decimal_length}
use Rattle.layout.specs.Claims.{Fit}

each_from : {A : Type 0} {P : A → Type 0} (d : A) (s : List A) → ((i : ℕ) → i < length s → P (get_or s i d)) → Each P s
each_from d [] h = none
each_from d (x ∷ s) h = also (h 0 (omega arith)) (each_from d s (λ i k. h (suc i) (omega arith)))

room_of : {form : List ℕ} {held : ℕ} → held ≤ most_trees → InForm form → length form ≤ most_nodes_of_a_pattern → HasRoom held form
room_of {form} {held} few f l = record {
  support_fits = decimal_length held 1 (omega (arith, few));
  pairs_small = each_from 0 form (λ i h. omega (arith, (f.is_tree.pairs i h).depth_to_15));
  two_lines = omega (arith, l);
}

-- a form that a search looks for, with its support
pub sought_room : (search : Search) (form : List ℕ) (held : ℕ) → IsFleet search.fleet → search.bound ≤ most_nodes_of_a_pattern → Sought search form → held ≡ count_in search form → HasRoom held form
sought_room search form held fleet bound s e = room_of (omega (arith, e, whole_support_most search.fleet form fleet)) s.in_form (omega (arith, s.up_to_bound))

-- a list
pub list_room : (asked : Asked) (entries : List Entry) → IsFleet asked.fleet → asked.request.bound ≤ most_nodes_of_a_pattern → IsListing asked entries → Fit entries
list_room asked entries fleet bound l =
    each_from no_entry entries
    (λ i h. let s = listed_form (l.all_held i h) in room_of (omega (arith, l.with_count i h, support_most asked.fleet (formAt entries i) fleet)) s.in_form (omega (arith, s.up_to_bound)))
