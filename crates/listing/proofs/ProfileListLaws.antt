-- The claims about closed and maximal lists: parts of the full list; a maximal form is closed; nothing is lost.
use mathlib.Core.Path.{◌≡◌}
use mathlib.Core.List.{List}
use Prim.Native.Nat.{ℕ, ◌<◌}
use native.Mathlib.Omega.{arith}
use lib.ListN.{length}
use Rattle.terms.specs.Placing.{Occurs}
use Rattle.terms.specs.Fleet.{most_nodes_of_a_tree}
use Rattle.terms.proofs.TreeLaws.{tree_any_depth}
use Rattle.supertrees.specs.Profile.{Selects, full}
use Rattle.supertrees.specs.Claims.{TooLargeClaim, ClosedAboveClaim, MaximalAboveClaim}
use Rattle.supertrees.proofs.ProfileLaws.{maximal_closed}
use Rattle.supertrees.proofs.Claims.{too_large_claim, closed_above_claim, maximal_above_claim}
use Rattle.listing.specs.Listing.{Asked, at_profile, count_of, Listed}
use Rattle.listing.specs.ListedSelected.{count_never_grows, listed_form, form_listed}
use Rattle.listing.specs.Claims.{Acceptable, PartOfFullClaim, MaximalIsClosedClaim, MaximalPartOfClosedClaim, ClosedAboveListedClaim, FrequentMaximal, ListedByMaximalClaim}
use Rattle.listing.proofs.AskedLaws.{kept_parts}
use Rattle.listing.proofs.ListLaws.{list_part}

-- what a profile lists, the full list has
pub listed_full : {asked : Asked} {form : List ℕ} → Listed asked form → Listed (at_profile full asked) form
unfolding Selects
listed_full l = let s = listed_form l in form_listed (record { in_form = s.in_form; up_to_bound = s.up_to_bound; enough = s.enough; selects = tt })

pub part_of_full_claim : PartOfFullClaim
unfolding PartOfFullClaim
part_of_full_claim asked entries whole a b = list_part a b (λ e h. record { holds = listed_full h.holds; counted = h.counted })

pub maximal_is_closed_claim : MaximalIsClosedClaim
unfolding MaximalIsClosedClaim Selects
maximal_is_closed_claim asked form l =
    let s = listed_form l in
    form_listed (record { in_form = s.in_form; up_to_bound = s.up_to_bound; enough = s.enough; selects = maximal_closed (count_of asked) asked.request.threshold form s.enough s.selects })

pub maximal_part_of_closed_claim : MaximalPartOfClosedClaim
unfolding MaximalPartOfClosedClaim MaximalIsClosedClaim
maximal_part_of_closed_claim asked entries whole a b = list_part a b (λ e h. record { holds = maximal_is_closed_claim asked e.form h.holds; counted = h.counted })

-- what is asked of an accepted fleet: no vehicle holds a tree larger than a vehicle's
too_large : (asked : Asked) → Acceptable asked → (tree : List ℕ) → most_nodes_of_a_tree < length tree → count_of asked tree ≡ 0
unfolding TooLargeClaim
too_large asked r tree h = (too_large_claim asked.fleet tree (kept_parts asked r).is_fleet h).0

pub closed_above_listed_claim : ClosedAboveListedClaim
unfolding ClosedAboveListedClaim ClosedAboveClaim
closed_above_listed_claim asked form r l =
    let s = listed_form l in
    closed_above_claim (count_of asked) most_nodes_of_a_tree form (count_never_grows asked) (too_large asked r) (tree_any_depth s.in_form.is_tree) (omega (arith, (kept_parts asked r).threshold_kept.0, s.enough))

pub listed_by_maximal_claim : ListedByMaximalClaim
unfolding ListedByMaximalClaim MaximalAboveClaim Selects
listed_by_maximal_claim asked form r i small = (to, from)
  where
    to : Listed (at_profile full asked) form → (tree : List ℕ) × Occurs form tree × FrequentMaximal asked tree
    to l =
        let z = maximal_above_claim (count_of asked) most_nodes_of_a_tree asked.request.threshold form (count_never_grows asked) (too_large asked r) (tree_any_depth i.is_tree) (kept_parts asked r).threshold_kept.0 (listed_form l).enough in
        (z.0, z.2, record { is_tree = z.1; enough = z.3; is_maximal = z.4 })

    from : (tree : List ℕ) × Occurs form tree × FrequentMaximal asked tree → Listed (at_profile full asked) form
    from z = form_listed (record {
      in_form = i;
      up_to_bound = small;
      enough = omega (arith, z.2.enough, count_never_grows asked form z.0 (tree_any_depth i.is_tree) z.2.is_tree z.1);
      selects = tt;
    })
