-- LAWS. Document 01's example "given whole": its six lines are the list, by a decision that computes; and of these the closed and the maximal ones.
use mathlib.Core.Path.{◌≡◌, refl, sym, ap, ◌∙◌}
use mathlib.Core.Bool.{true}
use mathlib.Core.List.{List, [], ◌∷◌}
use Prim.Native.Nat.{ℕ, zero, suc, ◌+◌, ◌≤◌, ◌<◌}
use native.Mathlib.Omega.{arith}
use native.Mathlib.Decide.{dec_lt, ℕ_discrete}
use lib.ListN.{length, get_or}
use Rattle.terms.specs.Order.{Lighter}
use Rattle.terms.specs.Fleet.{vehicles, in_front}
use Rattle.terms.specs.Tells.{decided}
use Rattle.terms.proofs.Decide.{both?, map?, not?, implies?, all_below?, some_below?, by_computing}
use Rattle.terms.proofs.OrderLaws.{lighter?, lighter_irrefl, compare_weight, Compared, is_lighter, is_equal, is_heavier}
use Rattle.terms.proofs.OccursDecided.{occurs?}
use Rattle.terms.specs.Remarks.{HeldBy}
use Rattle.terms.proofs.RemarkLaws.{holds_remark?, held_by?}
use Rattle.terms.proofs.TreeLaws.{tree?, tree_any_depth}
use Rattle.supertrees.specs.Supertree.{Closed, Maximal}
use Rattle.supertrees.specs.Profile.{Selects, closed, maximal}
use Rattle.supertrees.proofs.AnyDepth.{occurs_no_larger}
use Rattle.supertrees.proofs.ProfileLaws.{maximal_closed}
use Rattle.occurrence.specs.Support.{support, holding, counted}
use Rattle.search.specs.Counted.{Entry}
use Rattle.listing.specs.Listing.{Asked, at_profile, Listed, no_entry, formAt, IsListing}
use Rattle.listing.specs.ListedSelected.{listed?, listed_form, form_listed}
use Rattle.listing.proofs.ProfileListLaws.{listed_full}
use Rattle.cases.specs.Cases.{the_fleet, at_2_and_3, asking}
use Rattle.cases.specs.Examples.{the_lines, largest, the_line, WorkedExample, ClosedExample, MaximalExample, NoneClosedExample}
use Rattle.cases.proofs.Words.{some_word?, alphabet, listed_over}

unfoldable pub equal? : (u v : List ℕ) → Dec (u ≡ v)
unfolding compare_weight
equal? u v = go (compare_weight u v)
  where
    go : Compared u v → Dec (u ≡ v)
    go (is_lighter h) = no (λ e. lighter_irrefl v (rw e at h))
    go (is_equal e) = yes e
    go (is_heavier h) = no (λ e. lighter_irrefl v (rw e at h))

abbrev pub InList : List Entry → List ℕ → Type 0
InList entries u = (i : ℕ) × (i < length entries) × (formAt entries i ≡ u)

unfoldable pub in_list? : (entries : List Entry) (u : List ℕ) → Dec (InList entries u)
unfolding some_below? equal? dec_lt
in_list? entries u = some_below? (λ i. formAt entries i ≡ u) (λ i. equal? (formAt entries i) u) (length entries)

pub found_in : (entries : List Entry) (u : List ℕ) → Dec (InList entries u) → (¬ InList entries u → ⊥) → InList entries u
found_in entries u (yes h) f = h
found_in entries u (no h) f = absurd (f h)

unfoldable pub is_listing? : (asked : Asked) → 1 ≤ asked.request.threshold → (entries : List Entry) → Dec (IsListing asked entries)
unfolding map? both? not? implies? all_below? lighter? listed? support holding counted held_by? holds_remark? occurs? vehicles in_front some_word? alphabet in_list? dec_lt ℕ_discrete
is_listing? asked h entries = map?
    (λ z. record {
      lightest_first = λ i j a b. z.0 j b i a;
      all_held = z.1.0;
      with_count = z.1.1.0;
      none_missing = λ u l. found_in entries u (in_list? entries u) (λ k. z.1.1.1 (u, (listed_form l).up_to_bound, listed_over asked u h l, (l, k)));
    })
    (λ l. ((λ j b i a. l.lightest_first i j a b), (l.all_held, (l.with_count, λ w. w.3.1 (l.none_missing w.0 w.3.0)))))
    (both? (all_below? (λ j. (i : ℕ) → i < j → Lighter (formAt entries i) (formAt entries j)) (λ j. all_below? (λ i. Lighter (formAt entries i) (formAt entries j)) (λ i. lighter? (formAt entries i) (formAt entries j)) j) (length entries))
    (both? (all_below? (λ i. Listed asked (formAt entries i)) (λ i. listed? asked (formAt entries i)) (length entries))
    (both? (all_below? (λ i. (get_or entries i no_entry).held ≡ support asked.fleet (formAt entries i)) (λ i. ℕ_discrete (get_or entries i no_entry).held (support asked.fleet (formAt entries i))) (length entries))
    (not? (some_word? (alphabet asked.fleet asked.request.bound) asked.request.bound (λ u. Listed asked u × ¬ InList entries u) (λ u. both? (listed? asked u) (not? (in_list? entries u))))))))

-- THE CLAIM: the list for the example's fleet at 2 and 3.
pub worked_example : WorkedExample
unfolding the_fleet at_2_and_3 the_lines decided is_listing?
worked_example = by_computing (is_listing? at_2_and_3 (omega arith) the_lines) refl

-- what both vehicles hold has no more nodes than the second
held_by_both : (q : List ℕ) → 2 ≤ support the_fleet q → length q ≤ 3
unfolding the_fleet support holding counted vehicles in_front
held_by_both q h = go (held_by? q (101 ∷ 1201 ∷ 2301 ∷ 1202 ∷ [])) (held_by? q largest) h
  where
    go : (d : Dec (HeldBy q (101 ∷ 1201 ∷ 2301 ∷ 1202 ∷ []))) (d' : Dec (HeldBy q largest)) → 2 ≤ counted d + (counted d' + 0) → length q ≤ 3
    go _ (yes o) k = occurs_no_larger (record { tuple = o.tuple; placing = o.placing.placing })
    go (yes _) (no _) k = absurd (omega arith)
    go (no _) (no _) k = absurd (omega arith)

largest_maximal : Maximal (support the_fleet) 2 largest
largest_maximal = record { none_reaches = λ q s h. omega (arith, s.more_nodes, held_by_both q h) }

largest_held : 2 ≤ support the_fleet largest
unfolding the_fleet support holding counted held_by? holds_remark? occurs? vehicles in_front
largest_held = omega arith

-- the others occur in it, and are held by both
not_closed : (form : List ℕ) → decided (occurs? form largest) ≡ true → length form < 3 → support the_fleet form ≡ 2 → ¬ Closed (support the_fleet) form
unfolding the_fleet support holding counted held_by? holds_remark? occurs? vehicles in_front decided tree?
not_closed form o h e k = k.none_equal largest (record { is_tree = tree_any_depth (by_computing (tree? largest) refl); occurs = by_computing (occurs? form largest) o; more_nodes = h }) (sym e)

only_largest : (i : ℕ) → i < 6 → Closed (support the_fleet) (formAt the_lines i) → formAt the_lines i ≡ largest
unfolding the_lines the_fleet support holding counted held_by? holds_remark? occurs? vehicles in_front decided
only_largest zero h k = absurd (not_closed (101 ∷ []) refl (omega arith) refl k)
only_largest (suc zero) h k = absurd (not_closed (101 ∷ 1201 ∷ []) refl (omega arith) refl k)
only_largest (suc (suc zero)) h k = absurd (not_closed (101 ∷ 1202 ∷ []) refl (omega arith) refl k)
only_largest (suc (suc (suc zero))) h k = refl
only_largest (suc (suc (suc (suc zero)))) h k = absurd (not_closed (201 ∷ []) refl (omega arith) refl k)
only_largest (suc (suc (suc (suc (suc zero))))) h k = absurd (not_closed (202 ∷ []) refl (omega arith) refl k)
only_largest (suc (suc (suc (suc (suc (suc i)))))) h k = absurd (omega arith)

-- the line is the list at a profile whose forms are closed, if the largest is among them
one_line : (profile : ℕ) → ((form : List ℕ) → Listed (at_profile profile at_2_and_3) form → Closed (support the_fleet) form) → Selects profile (support the_fleet) 2 largest → IsListing (at_profile profile at_2_and_3) the_line
unfolding at_2_and_3 the_lines the_fleet support holding counted held_by? holds_remark? occurs? vehicles in_front
one_line profile f s = record {
  lightest_first = λ i j a b. absurd (omega arith);
  all_held = held;
  with_count = counted_2;
  none_missing = λ form l. let w = worked_example.none_missing form (listed_full l) in (0, omega arith, sym (only_largest w.0 w.1 (rw w.2 (f form l))) ∙ w.2);
}
  where
    held : (i : ℕ) → i < 1 → Listed (at_profile profile at_2_and_3) (formAt the_line i)
    held zero h = let z = listed_form (worked_example.all_held 3 (omega arith)) in form_listed (record { in_form = z.in_form; up_to_bound = z.up_to_bound; enough = z.enough; selects = s })
    held (suc i) h = absurd (omega arith)

    counted_2 : (i : ℕ) → i < 1 → (get_or the_line i no_entry).held ≡ support the_fleet (formAt the_line i)
    counted_2 zero h = refl
    counted_2 (suc i) h = absurd (omega arith)

-- THE CLAIMS on the closed and the maximal list
pub closed_example : ClosedExample
unfolding Selects asking at_2_and_3
closed_example = one_line closed (λ form l. (listed_form l).selects) (maximal_closed (support the_fleet) 2 largest largest_held largest_maximal)

pub maximal_example : MaximalExample
unfolding Selects asking at_2_and_3
maximal_example = one_line maximal (λ form l. let z = listed_form l in maximal_closed (support the_fleet) 2 form z.enough z.selects) largest_maximal

pub none_closed_example : NoneClosedExample
unfolding Selects asking at_2_and_3 the_lines
none_closed_example = record {
  lightest_first = λ i j a b. absurd (omega arith);
  all_held = λ i a. absurd (omega arith);
  with_count = λ i a. absurd (omega arith);
  none_missing = λ form l.
      let z = listed_form l in
      let w = worked_example.none_missing form (form_listed (record { in_form = z.in_form; up_to_bound = omega (arith, z.up_to_bound); enough = z.enough; selects = tt })) in
      let e : form ≡ largest = sym w.2 ∙ only_largest w.0 w.1 (rw w.2 z.selects) in
      absurd (omega (arith, z.up_to_bound, ap length e));
}
