-- What a search gets and looks for. It knows nothing of calls: all that is asked for beside these four is settled before it. That what is listed are
-- those of its forms that the profile selects stands in crate listing (`listed_selected`, `selected_listed`).
use Rattle.std.specs.Prelude.{List, ℕ, ◌≤◌, length}
use Rattle.std.proofs.Common.{arith}
use Rattle.std.proofs.Math.Decide.{dec_le}
use Rattle.terms.specs.Form.{InForm}
use Rattle.terms.proofs.Decide.{both?, map?}
use Rattle.terms.proofs.LeftHeavyLaws.{in_form?}
use Rattle.terms.proofs.OccursDecided.{occurs?}
use Rattle.occurrence.specs.Support.{counted, occurring, whole_support, NeverGrows}
use Rattle.occurrence.proofs.SupportLaws.{whole_support_never_grows}
use Rattle.search.specs.declared.Request.{Request}
use Rattle.search.specs.Counted.{Counted}
use Rattle.search.specs.Finite.{Finite}

-- An accepted fleet, every node of which counts; how many vehicles are enough, and how many nodes a form may have. Which of these forms a profile
-- selects is told above the search, in crate profiles.
pub record Search : Type 0 where
  pub fleet : List ℕ
  pub threshold : ℕ
  pub bound : ℕ
  pub profile : ℕ

abbrev pub search_in : (fleet : List ℕ) → Request → Search
search_in fleet request = record { fleet = fleet; threshold = request.threshold; bound = request.bound; profile = request.profile }

-- The count by which the search goes.
abbrev pub count_in : Search → List ℕ → ℕ
count_in search = whole_support search.fleet

-- A form that the search looks for.
pub record Sought (search : Search) (form : List ℕ) : Type 0 where
  pub in_form : InForm form
  pub up_to_bound : length form ≤ search.bound
  pub enough : search.threshold ≤ count_in search form

abbrev pub sought_forms : Search → Counted
sought_forms search = record { Holds = Sought search; count = count_in search }

-- All that the search asks of the counts: they never grow with the pattern.
pub search_never_grows : (search : Search) → NeverGrows (count_in search)
search_never_grows search = whole_support_never_grows search.fleet

-- The set is finite and decided.
unfoldable pub sought? : (search : Search) (form : List ℕ) → Dec (Sought search form)
unfolding map? both? in_form? whole_support occurring counted occurs? dec_le
sought? search form = map?
    (λ h. record { in_form = h.0; up_to_bound = h.1.0; enough = h.1.1 })
    (λ s. (s.in_form, (s.up_to_bound, s.enough)))
    (both? (in_form? form) (both? (dec_le (length form) search.bound) (dec_le search.threshold (whole_support search.fleet form))))

unfoldable pub sought_finite : (search : Search) → Finite (sought_forms search)
unfolding sought?
sought_finite search = record {
  most = search.bound;
  within = λ form s. (s.up_to_bound, λ i h. omega (arith, (s.in_form.is_tree.pairs i h).depth_to_15));
  decide = sought? search;
}
