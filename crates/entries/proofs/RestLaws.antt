-- LAWS. The list of the forms heavier than a pattern: the next form, and those heavier than it.
use mathlib.Core.Path.{◌≡◌, refl, sym, ap, ◌∙◌}
use mathlib.Core.List.{List, [], ◌∷◌}
use mathlib.Core.Option.{Option, none, some}
use Prim.Native.Nat.{ℕ, zero, suc, ◌≤◌, ◌<◌}
use native.Mathlib.Omega.{arith}
use lib.ListN.{length, get_or}
use Rattle.terms.specs.Order.{Lighter, shorter}
use Rattle.terms.specs.Fleet.{IsFleet}
use Rattle.terms.specs.Remarks.{HoldsRemark, without_remarks}
use Rattle.terms.proofs.RemarkLaws.{nothing_taken_out}
use Rattle.terms.specs.Lightest.{Lightest, the_lightest, none_at_all}
use Rattle.terms.proofs.OrderLaws.{lighter_trans, Compared, is_lighter, is_equal, is_heavier, compare_weight}
use Rattle.search.specs.Counted.{Entry}
use Rattle.search.specs.Finite.{heavier_finite, lightest_of, lightest_is}
use Rattle.search.specs.declared.Request.{Request}
use Rattle.search.specs.Sought.{Search, search_in, count_in}
use Rattle.search.specs.Search.{with_count}
use Rattle.profiles.specs.Selected.{Selected, selected_forms, selected_finite, next_selected}
use Rattle.listing.specs.Listing.{Asked, asks, no_entry, formAt}
use Rattle.listing.specs.ListedSelected.{search_of, count_sought}
use Rattle.listing.proofs.SelectedLaws.{listed_selected, selected_listed}
use Rattle.listing.specs.Claims.{RemarksTakenOutClaim}
use Rattle.listing.proofs.RemarkListLaws.{remarks_taken_out_claim}
use Rattle.listing.proofs.ListLaws.{list_unique, list_other}
use Rattle.entries.specs.Entries.{list_of, list_is, rest_of, rest_is}

-- what comes after a pattern is the lightest heavier form, then what comes after that form
module _ (search : Search) (pattern form : List ℕ) (selected : Selected search form) (heavier : Lighter pattern form)
    (least : (other : List ℕ) → Selected search other × Lighter pattern other → ¬ Lighter other form) where
  abbrev after : List Entry
  after = rest_of search form

  abbrev its_entry : Entry
  its_entry = record { form = form; held = count_in search form }

  in_order : (i j : ℕ) → i < j → j < suc (length after) → Lighter (formAt (its_entry ∷ after) i) (formAt (its_entry ∷ after) j)
  in_order i zero h k = absurd (omega arith)
  in_order zero (suc j) h k = ((rest_is search form).all_held j (omega arith)).1
  in_order (suc i) (suc j) h k = (rest_is search form).lightest_first i j (omega arith) (omega arith)

  each_held : (i : ℕ) → i < suc (length after) → Selected search (formAt (its_entry ∷ after) i) × Lighter pattern (formAt (its_entry ∷ after) i)
  each_held zero h = (selected, heavier)
  each_held (suc i) h = let z = (rest_is search form).all_held i (omega arith) in (z.0, lighter_trans heavier z.1)

  each_counted : (i : ℕ) → i < suc (length after) → (get_or (its_entry ∷ after) i no_entry).held ≡ count_in search (formAt (its_entry ∷ after) i)
  each_counted zero h = refl
  each_counted (suc i) h = (rest_is search form).with_count i (omega arith)

  found_there : (other : List ℕ) → Selected search other × Lighter pattern other → (i : ℕ) × (i < suc (length after)) × (formAt (its_entry ∷ after) i ≡ other)
  found_there other h = go (compare_weight form other)
    where
      go : Compared form other → (i : ℕ) × (i < suc (length after)) × (formAt (its_entry ∷ after) i ≡ other)
      go (is_equal e) = (0, omega arith, e)
      go (is_lighter l) = let z = (rest_is search form).none_missing other (h.0, l) in let q = z.1 in (suc z.0, omega arith, z.2)
      go (is_heavier l) = absurd (least other h l)

  rest_cons : rest_of search pattern ≡ its_entry ∷ after
  rest_cons = list_unique (rest_is search pattern) (record { lightest_first = in_order; all_held = each_held; with_count = each_counted; none_missing = found_there })

-- nothing comes after a pattern than which no form of the profile is heavier
rest_nil : (search : Search) (pattern : List ℕ) → ((form : List ℕ) → ¬ (Selected search form × Lighter pattern form)) → rest_of search pattern ≡ []
rest_nil search pattern f = list_unique (rest_is search pattern) (record {
  lightest_first = λ i j h k. absurd (omega arith);
  all_held = λ i h. absurd (omega arith);
  with_count = λ i h. absurd (omega arith);
  none_missing = λ form h. absurd (f form h);
})

-- what a pattern's step finds comes first
pub record Follows (search : Search) (pattern : List ℕ) (entry : Entry) : Type 0 where
  pub first : rest_of search pattern ≡ entry ∷ rest_of search entry.form
  pub selected : Selected search entry.form
  pub counted : entry.held ≡ count_in search entry.form

follows : (search : Search) (pattern : List ℕ) (o : Option (List ℕ)) (entry : Entry) → Lightest (λ form. Selected search form × Lighter pattern form) o → with_count (selected_forms search) o ≡ some entry → Follows search pattern entry
unfolding with_count
follows search pattern (some form) entry (the_lightest a least) e =
    let same : record { form = form; held = count_in search form } ≡ entry = cc in
    rw same at here
  where
    here : Follows search pattern (record { form = form; held = count_in search form })
    here = record { first = rest_cons search pattern form a.0 a.1 least; selected = a.0; counted = refl }
follows search pattern none entry l e = absurd (let z : ◌≡◌ {A = ℕ} 0 1 = cc in omega arith)

pub next_follows : (search : Search) (pattern : List ℕ) (entry : Entry) → next_selected search pattern ≡ some entry → Follows search pattern entry
unfolding next_selected
next_follows search pattern entry e = follows search pattern (lightest_of (heavier_finite (selected_finite search) pattern)) entry (lightest_is (heavier_finite (selected_finite search) pattern)) e

none_follows : (search : Search) (pattern : List ℕ) (o : Option (List ℕ)) → Lightest (λ form. Selected search form × Lighter pattern form) o → with_count (selected_forms search) o ≡ none → rest_of search pattern ≡ []
unfolding with_count
none_follows search pattern none (none_at_all f) e = rest_nil search pattern f
none_follows search pattern (some form) l e = absurd (let z : ◌≡◌ {A = ℕ} 0 1 = cc in omega arith)

pub end_follows : (search : Search) (pattern : List ℕ) → next_selected search pattern ≡ none → rest_of search pattern ≡ []
unfolding next_selected
end_follows search pattern e = none_follows search pattern (lightest_of (heavier_finite (selected_finite search) pattern)) (lightest_is (heavier_finite (selected_finite search) pattern)) e

-- after the empty sequence comes the whole list
over_nothing : (form : List ℕ) → 1 ≤ length form → Lighter [] form
over_nothing [] h = absurd (omega arith)
over_nothing (x ∷ form) h = shorter

pub rest_of_nothing : (asked : Asked) → IsFleet asked.fleet → rest_of (search_of asked) [] ≡ list_of asked
rest_of_nothing asked f = list_unique
    (list_other (rest_is (search_of asked) []) (λ e b. record { holds = selected_listed f b.holds.0; counted = b.counted ∙ sym (count_sought asked f e.form) })
    (λ e b. let s = listed_selected f b.holds in record { holds = (s, over_nothing e.form s.sought.in_form.is_tree.has_root); counted = b.counted ∙ count_sought asked f e.form }))
    (list_is asked)

-- of a fleet that has no remarks
pub rest_of_whole : (fleet : List ℕ) (request : Request) → IsFleet fleet → ¬ HoldsRemark fleet → rest_of (search_in fleet request) [] ≡ list_of (asks fleet request)
rest_of_whole fleet request f n = ap (λ (s : List ℕ). rest_of (search_in s request) []) (sym (nothing_taken_out fleet n)) ∙ rest_of_nothing (asks fleet request) f

-- the list of a fleet is that of the fleet with remarks taken out
pub list_without_remarks : (fleet : List ℕ) (request : Request) → IsFleet fleet → list_of (asks (without_remarks fleet) request) ≡ list_of (asks fleet request)
unfolding RemarksTakenOutClaim
list_without_remarks fleet request f = list_unique (list_is (asks (without_remarks fleet) request)) (((remarks_taken_out_claim fleet request f).1 (list_of (asks fleet request))).0 (list_is (asks fleet request)))
