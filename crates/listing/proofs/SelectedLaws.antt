-- LAWS. What is listed is what the step at its profile goes through (crate profiles), in the fleet with remarks taken out.
use Rattle.std.proofs.Common.{sym, arith, List, ℕ}
use Rattle.terms.specs.Fleet.{IsFleet}
use Rattle.terms.proofs.TreeLaws.{tree_any_depth}
use Rattle.supertrees.proofs.ProfileLaws.{selects_same}
use Rattle.profiles.specs.Selected.{Selected}
use Rattle.listing.specs.Listing.{Asked, Listed}
use Rattle.listing.specs.ListedSelected.{search_of, listed_form, form_listed, count_sought}

pub listed_selected : {asked : Asked} {form : List ℕ} → IsFleet asked.fleet → Listed asked form → Selected (search_of asked) form
listed_selected {asked} {form} f l =
    let s = listed_form l in
    record {
      sought = record { in_form = s.in_form; up_to_bound = s.up_to_bound; enough = omega (arith, s.enough, count_sought asked f form) };
      selects = selects_same (λ t _. count_sought asked f t) asked.request.profile asked.request.threshold form (tree_any_depth s.in_form.is_tree) s.selects;
    }

pub selected_listed : {asked : Asked} {form : List ℕ} → IsFleet asked.fleet → Selected (search_of asked) form → Listed asked form
selected_listed {asked} {form} f k =
    let s = k.sought in
    form_listed (record {
      in_form = s.in_form;
      up_to_bound = s.up_to_bound;
      enough = omega (arith, s.enough, count_sought asked f form);
      selects = selects_same (λ t _. sym (count_sought asked f t)) asked.request.profile asked.request.threshold form (tree_any_depth s.in_form.is_tree) k.selects;
    })
