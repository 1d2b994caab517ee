-- What is listed, said of the form itself, and by which search it is found; it is a finite set. That it is what the step at its profile goes through
-- (crate profiles), in the fleet with remarks taken out: `listed_selected` and `selected_listed` in proofs/SelectedLaws.
use Rattle.std.specs.Prelude.{◌≡◌, List, ℕ, ◌≤◌, length}
use Rattle.std.proofs.Common.{arith}
use Rattle.std.proofs.Math.Decide.{dec_le}
use Rattle.terms.specs.Form.{InForm}
use Rattle.terms.specs.Fleet.{IsFleet}
use Rattle.terms.specs.Remarks.{without_remarks}
use Rattle.terms.proofs.Decide.{both?, map?}
use Rattle.terms.proofs.LeftHeavyLaws.{in_form?}
use Rattle.terms.proofs.MatchingLaws.{same_length}
use Rattle.terms.proofs.FormLaws.{form_in_form}
use Rattle.terms.proofs.TreeLaws.{tree_any_depth}
use Rattle.terms.proofs.OccursDecided.{occurs?}
use Rattle.terms.proofs.RemarkLaws.{held_by?}
use Rattle.occurrence.specs.Support.{counted, holding, support, NeverGrows}
use Rattle.occurrence.proofs.SupportLaws.{support_never_grows, support_exactly, never_grows_same}
use Rattle.supertrees.specs.Profile.{Selects}
use Rattle.supertrees.proofs.ProfileLaws.{selects?}
use Rattle.search.specs.Finite.{Finite}
use Rattle.search.specs.Sought.{Search, search_in, count_in}
use Rattle.listing.specs.Listing.{Asked, count_of, Listed, listed_forms}

-- The search by which what is asked for is found: it knows no remarks.
abbrev pub search_of : Asked → Search
search_of asked = search_in (without_remarks asked.fleet) asked.request

-- All that is proved of lists asks of the counts: they never grow with the pattern.
pub count_never_grows : (asked : Asked) → NeverGrows (count_of asked)
count_never_grows asked = support_never_grows asked.fleet

-- What is listed, said of the form itself.
pub record ListedForm (asked : Asked) (form : List ℕ) : Type 0 where
  pub in_form : InForm form
  pub up_to_bound : length form ≤ asked.request.bound
  pub enough : asked.request.threshold ≤ count_of asked form
  pub selects : Selects asked.request.profile (count_of asked) asked.request.threshold form

pub listed_form : {asked : Asked} {form : List ℕ} → Listed asked form → ListedForm asked form
listed_form {asked} {form} l = record {
  in_form = form_in_form l.is_tree l.its_form;
  up_to_bound = omega (arith, l.up_to_bound, same_length l.its_form.same);
  enough = omega (arith, l.enough, never_grows_same (count_never_grows asked) (tree_any_depth l.is_tree) (tree_any_depth l.its_form.is_tree) l.its_form.same);
  selects = l.selects;
}

pub form_listed : {asked : Asked} {form : List ℕ} → ListedForm asked form → Listed asked form
form_listed {form = form} s = record { tree = form; is_tree = s.in_form.is_tree; up_to_bound = s.up_to_bound; enough = s.enough; its_form = s.in_form; selects = s.selects }

-- THE LAW between what is asked for and the search: of an accepted fleet the same forms, with the same counts.
pub count_sought : (asked : Asked) → IsFleet asked.fleet → (form : List ℕ) → count_of asked form ≡ count_in (search_of asked) form
count_sought asked f form = support_exactly asked.fleet form f

-- The listed forms are a finite, decided set.
unfoldable pub listed? : (asked : Asked) (form : List ℕ) → Dec (Listed asked form)
unfolding map? both? in_form? support holding counted held_by? occurs? dec_le selects?
listed? asked form = told (both? (in_form? form) (both? (dec_le (length form) asked.request.bound) (dec_le asked.request.threshold (support asked.fleet form))))
  where
    told : Dec (InForm form × ((length form ≤ asked.request.bound) × (asked.request.threshold ≤ count_of asked form))) → Dec (Listed asked form)
    told (no n) = no (λ l. let s = listed_form l in n (s.in_form, (s.up_to_bound, s.enough)))
    told (yes h) = map?
        (λ k. form_listed (record { in_form = h.0; up_to_bound = h.1.0; enough = h.1.1; selects = k }))
        (λ l. (listed_form l).selects)
        (selects? asked.request.profile (count_of asked) (count_never_grows asked) asked.request.threshold form (tree_any_depth h.0.is_tree))

unfoldable pub listed_finite : (asked : Asked) → Finite (listed_forms asked)
unfolding listed?
listed_finite asked = record {
  most = asked.request.bound;
  within = λ form l. let s = listed_form l in (s.up_to_bound, λ i h. omega (arith, (s.in_form.is_tree.pairs i h).depth_to_15));
  decide = listed? asked;
}
