-- LAWS. One for each way out of the functions that check, start and step.
use mathlib.Core.Path.{◌≡◌, refl, sym, ap, ◌∙◌}
use mathlib.Core.Bool.{true, false}
use mathlib.Core.List.{List, [], ◌∷◌, ◌++◌}
use mathlib.Core.Option.{Option, none, some}
use Prim.Native.Nat.{ℕ, zero, suc, ◌≤◌, ◌<◌}
use native.Mathlib.Omega.{arith}
use lib.ListN.{length, take, drop}
use lib.Seq.{length-take-le}
use Rattle.terms.specs.Form.{InForm}
use Rattle.terms.specs.Fleet.{IsFleet}
use Rattle.terms.specs.Order.{Lighter, shorter}
use Rattle.terms.specs.Lightest.{Lightest, the_lightest, none_at_all}
use Rattle.terms.specs.Refusal.{refusal, AllKept, also, Numbered, no_rule, and_rule}
use Rattle.terms.specs.Tells.{decided}
use Rattle.terms.proofs.DecidedLaws.{said_yes, said_no}
use Rattle.terms.proofs.TreeLaws.{tree?}
use Rattle.terms.proofs.FleetLaws.{fleet?}
use Rattle.terms.specs.Remarks.{HoldsRemark, without_remarks}
use Rattle.terms.proofs.RemarkLaws.{fleet_without_remarks, nothing_taken_out}
use Rattle.terms.proofs.LeftHeavyLaws.{in_form?}
use Rattle.terms.proofs.RefusalLaws.{kept_on, broken_here, answered_exactly}
use Rattle.terms.proofs.RefusalParts.{refused_first, refused_later}
use Rattle.fleet.specs.Rules.{fleet_rule, output_rule}
use Rattle.tree.specs.Rules.{size_rule, tree_rule}
use Rattle.remarks.specs.TakenOut.{Copied}
use Rattle.remarks.proofs.CopiedLaws.{copied_front}
use Rattle.matching.specs.Limits.{most_nodes_of_a_pattern}
use Rattle.search.specs.declared.Pattern.{Pattern}
use Rattle.search.specs.declared.FrequentPattern.{FrequentPattern}
use Rattle.std.specs.Prelude.{Option as RustOption, Some, None, IfSome}
use Rattle.search.specs.declared.Request.{Request}
use Rattle.search.specs.Counted.{Entry}
use Rattle.search.specs.Finite.{heavier_finite, lightest_of, lightest_is}
use Rattle.search.specs.Sought.{Search, search_in}
use Rattle.search.specs.Search.{pairs_of, with_count, entry_of, FirstInput}
use Rattle.supertrees.specs.Profile.{maximal}
use Rattle.profiles.specs.Selected.{Selected, selected_forms, selected_finite, next_selected, SelectedFirst}
use Rattle.listing.specs.declared.Reply.TheVariants.{Form, End, Refused}
use Rattle.listing.specs.Listing.{Asked, asks, count_of, Listed}
use Rattle.listing.specs.ListedSelected.{search_of, count_sought}
use Rattle.listing.proofs.SelectedLaws.{listed_selected, selected_listed}
use Rattle.listing.specs.Calls.{start, step, threshold_rule, bound_rule, profile_rule, form_rule, request_rules, lent_rules, asked_rules, pattern_rules, rules, eligible, output_of, outcome, respond, handed, answerTo, most_threshold}
use Rattle.listing.proofs.AskedLaws.{asked_numbered, kept_parts}
use Rattle.listing.proofs.CallLaws.{answer_found, answer_refused}

-- the rules of a request, one after the other
module _ (request : Request) where
  pub no_threshold : ¬ ((1 ≤ request.threshold) × (request.threshold ≤ most_threshold)) → 11 ≡ refusal (request_rules request)
  no_threshold h = sym (broken_here (threshold_rule request.threshold) (bound_rule request.bound ∷ profile_rule request.profile ∷ []) h)

  to_bound : 1 ≤ request.threshold → request.threshold ≤ most_threshold → refusal (request_rules request) ≡ refusal (bound_rule request.bound ∷ profile_rule request.profile ∷ [])
  to_bound h k = kept_on (threshold_rule request.threshold) (bound_rule request.bound ∷ profile_rule request.profile ∷ []) (h, k)

  pub no_bound : 1 ≤ request.threshold → request.threshold ≤ most_threshold → ¬ ((1 ≤ request.bound) × (request.bound ≤ most_nodes_of_a_pattern)) → 12 ≡ refusal (request_rules request)
  no_bound h k l = sym (to_bound h k ∙ broken_here (bound_rule request.bound) (profile_rule request.profile ∷ []) l)

  module _ (h : 1 ≤ request.threshold) (k : request.threshold ≤ most_threshold) (l : 1 ≤ request.bound) (m : request.bound ≤ most_nodes_of_a_pattern) where
    to_profile : refusal (request_rules request) ≡ refusal (profile_rule request.profile ∷ [])
    to_profile = to_bound h k ∙ kept_on (bound_rule request.bound) (profile_rule request.profile ∷ []) (l, m)

    pub no_profile : maximal < request.profile → 19 ≡ refusal (request_rules request)
    no_profile n = sym (to_profile ∙ broken_here (profile_rule request.profile) [] (λ k. omega arith))

    pub in_limits : request.profile ≤ maximal → 0 ≡ refusal (request_rules request)
    unfolding refusal
    in_limits n = sym (to_profile ∙ kept_on (profile_rule request.profile) [] n)

-- the rules of all that is asked
module _ (q : Asked) where
  pub no_fleet : false ≡ decided (fleet? q.fleet) → 10 ≡ refusal (asked_rules q)
  no_fleet e = sym (broken_here (fleet_rule q.fleet) (lent_rules q.register q.fleet ++ request_rules q.request) (said_no (fleet? q.fleet) e))

-- a fleet: the request's rules are left
pub a_fleet : {fleet : List ℕ} {r : ℕ} (request : Request) → IsFleet fleet → r ≡ refusal (request_rules request) → r ≡ refusal (asked_rules (asks fleet request))
a_fleet {fleet} request f e = e ∙ sym (kept_on (fleet_rule fleet) (request_rules request) f)

pub fleet_told : (fleet : List ℕ) → true ≡ decided (fleet? fleet) → IsFleet fleet
fleet_told fleet e = said_yes (fleet? fleet) e

-- the rules of a pattern
module _ (p : List ℕ) (bound : ℕ) where
  pub no_size : ¬ ((1 ≤ length p) × (length p ≤ bound)) → 13 ≡ refusal (pattern_rules p bound)
  no_size h = sym (broken_here (size_rule p bound) (tree_rule p ∷ form_rule p ∷ []) h)

  to_tree : 1 ≤ length p → length p ≤ bound → refusal (pattern_rules p bound) ≡ refusal (tree_rule p ∷ form_rule p ∷ [])
  to_tree a b = kept_on (size_rule p bound) (tree_rule p ∷ form_rule p ∷ []) (a, b)

  pub no_tree : 1 ≤ length p → length p ≤ bound → false ≡ decided (tree? p) → 14 ≡ refusal (pattern_rules p bound)
  no_tree a b e = sym (to_tree a b ∙ broken_here (tree_rule p) (form_rule p ∷ []) (said_no (tree? p) e))

  pub no_form : 1 ≤ length p → length p ≤ bound → true ≡ decided (tree? p) → false ≡ decided (in_form? p) → 15 ≡ refusal (pattern_rules p bound)
  no_form a b t e = sym (to_tree a b ∙ kept_on (tree_rule p) (form_rule p ∷ []) (said_yes (tree? p) t) ∙ broken_here (form_rule p) [] (said_no (in_form? p) e))

  pub a_form : 1 ≤ length p → length p ≤ bound → true ≡ decided (tree? p) → true ≡ decided (in_form? p) → 0 ≡ refusal (pattern_rules p bound)
  unfolding refusal
  a_form a b t e = sym (to_tree a b ∙ kept_on (tree_rule p) (form_rule p ∷ []) (said_yes (tree? p) t) ∙ kept_on (form_rule p) [] (said_yes (in_form? p) e))

-- what the parts say together
pub pattern_numbered : (p : List ℕ) (bound : ℕ) → Numbered (pattern_rules p bound)
pattern_numbered p bound = and_rule 12 refl (and_rule 13 refl (and_rule 14 refl no_rule))

-- what is asked and not refused
pub record Accepted (q : Asked) : Type 0 where
  pub is_fleet : IsFleet q.fleet
  pub from_1 : 1 ≤ q.request.threshold
  pub bound_to_most : q.request.bound ≤ most_nodes_of_a_pattern

pub accepted : (q : Asked) (r : ℕ) → r ≡ refusal (asked_rules q) → r ≡ 0 → Accepted q
accepted q r e z =
    let k = kept_parts q ((answered_exactly (asked_numbered q)).0 (sym e ∙ z)) in
    record { is_fleet = k.is_fleet; from_1 = k.threshold_kept.0; bound_to_most = k.bound_kept.1 }

pub within_bound : (p : List ℕ) (bound r : ℕ) → r ≡ refusal (pattern_rules p bound) → r ≡ 0 → length p ≤ bound
within_bound p bound r e z = go ((answered_exactly (pattern_numbered p bound)).0 (sym e ∙ z))
  where
    go : AllKept (pattern_rules p bound) → length p ≤ bound
    go (also s _) = s.1

pub its_form : (p : List ℕ) (bound r : ℕ) → r ≡ refusal (pattern_rules p bound) → r ≡ 0 → InForm p
its_form p bound r e z = go ((answered_exactly (pattern_numbered p bound)).0 (sym e ∙ z))
  where
    go : AllKept (pattern_rules p bound) → InForm p
    go (also s (also t (also f _))) = f

long_enough : (bound : ℕ) (output : List ℕ) → bound ≤ length output → refusal (output_rule bound output ∷ []) ≡ 0
unfolding refusal
long_enough bound output h = kept_on (output_rule bound output) [] h

too_short : (bound : ℕ) (output : List ℕ) → length output < bound → refusal (output_rule bound output ∷ []) ≡ 17
too_short bound output h = broken_here (output_rule bound output) [] (λ k. omega arith)

-- every form is heavier than the empty sequence
heavier_than_none : {search : Search} {u : List ℕ} → Selected search u → Lighter [] u
heavier_than_none {u = u} s = go u s.sought.in_form.is_tree.has_root
  where
    go : (u : List ℕ) → 1 ≤ length u → Lighter [] u
    go [] h = absurd (omega arith)
    go (x ∷ u) h = shorter

-- the lightest of one set is that of every set with the same forms
pub lightest_other : {A B : List ℕ → Type 0} {o : Option (List ℕ)} → ((u : List ℕ) → A u → B u) → ((u : List ℕ) → B u → A u) → Lightest A o → Lightest B o
lightest_other f g (the_lightest h l) = the_lightest (f _ h) (λ u k. l u (g u k))
lightest_other f g (none_at_all n) = none_at_all (λ u k. n u (g u k))

-- what is found heavier than a pattern
abbrev selected_next : Search → List ℕ → Option (List ℕ)
selected_next search p = lightest_of (heavier_finite (selected_finite search) p)

selected_is : (search : Search) (p : List ℕ) → Lightest (λ u. Selected search u × Lighter p u) (selected_next search p)
selected_is search p = lightest_is (heavier_finite (selected_finite search) p)

from_none : (q : Asked) → IsFleet q.fleet → Lightest (Listed q) (selected_next (search_of q) [])
from_none q a = lightest_other (λ u k. selected_listed a k.0) (λ u k. (listed_selected a k, heavier_than_none (listed_selected a k))) (selected_is (search_of q) [])

from_pattern : (q : Asked) → IsFleet q.fleet → (p : List ℕ) → Lightest (λ u. Listed q u × Lighter p u) (selected_next (search_of q) p)
from_pattern q a p = lightest_other (λ u k. (selected_listed a k.0, k.1)) (λ u k. (listed_selected a k.0, k.1)) (selected_is (search_of q) p)

-- what the search found is told with the support
told : (q : Asked) → IsFleet q.fleet → (f : Option (List ℕ)) (output : List ℕ) → handed (with_count (selected_forms (search_of q)) f) output ≡ respond 0 f (count_of q) output
unfolding handed with_count respond
told q a (some form) output = ap (λ (n : ℕ). outcome (Form (length form) n) (form ++ drop (length form) output)) (sym (count_sought q a form))
told q a none output = refl

module _ (q : Asked) (output : List ℕ) (r : ℕ) (e : r ≡ refusal (asked_rules q)) where
  pub start_refused : ¬ (r ≡ 0) → outcome (Refused r) output ≡ answerTo (start q output)
  unfolding rules output_of
  start_refused n = go r refl
    where
      go : (k : ℕ) → k ≡ r → outcome (Refused r) output ≡ answerTo (start q output)
      go zero z = absurd (n (sym z))
      go (suc k) z = ap (λ (m : ℕ). outcome (Refused m) output) (sym z) ∙ sym (answer_refused (start q output) k (refused_first (asked_rules q) (output_rule q.request.bound output ∷ []) k (sym e ∙ sym z)))

  pub start_short : r ≡ 0 → length output < q.request.bound → outcome (Refused 17) output ≡ answerTo (start q output)
  unfolding rules output_of
  start_short z h = sym (answer_refused (start q output) 16 (refused_later (output_rule q.request.bound output ∷ []) (asked_numbered q) (sym e ∙ z) ∙ too_short q.request.bound output h))

  pub start_given : r ≡ 0 → q.request.bound ≤ length output → (given : Pattern) → pairs_of given ≡ [] → (next : RustOption FrequentPattern) → SelectedFirst (search_of q) given next → handed (entry_of next) output ≡ answerTo (start q output)
  unfolding rules output_of eligible next_selected
  start_given z h given p next n =
      let a = (accepted q r e z).is_fleet in
      let f = selected_next (search_of q) [] in
      let k : refusal (rules (start q output)) ≡ 0 = refused_later (output_rule q.request.bound output ∷ []) (asked_numbered q) (sym e ∙ z) ∙ long_enough q.request.bound output h in
      let s : entry_of next ≡ with_count (selected_forms (search_of q)) f = rw p at n.is in
      ap (λ (o : Option Entry). handed o output) s ∙ told q a f output ∙ sym (answer_found (start q output) f k (from_none q a))

module _ (q : Asked) (p output : List ℕ) (r : ℕ) (e : r ≡ refusal (asked_rules q)) where
  pub step_refused : ¬ (r ≡ 0) → outcome (Refused r) output ≡ answerTo (step q p output)
  unfolding rules output_of
  step_refused n = go r refl
    where
      go : (k : ℕ) → k ≡ r → outcome (Refused r) output ≡ answerTo (step q p output)
      go zero z = absurd (n (sym z))
      go (suc k) z = ap (λ (m : ℕ). outcome (Refused m) output) (sym z)
          ∙ sym (answer_refused (step q p output) k (refused_first (asked_rules q) (pattern_rules p q.request.bound ++ output_rule q.request.bound output ∷ []) k (sym e ∙ sym z)))

  module _ (r' : ℕ) (z : r ≡ 0) (e' : r' ≡ refusal (pattern_rules p q.request.bound)) where
    to_pattern : refusal (rules (step q p output)) ≡ refusal (pattern_rules p q.request.bound ++ output_rule q.request.bound output ∷ [])
    unfolding rules
    to_pattern = refused_later (pattern_rules p q.request.bound ++ output_rule q.request.bound output ∷ []) (asked_numbered q) (sym e ∙ z)

    to_output : r' ≡ 0 → refusal (rules (step q p output)) ≡ refusal (output_rule q.request.bound output ∷ [])
    to_output z' = to_pattern ∙ refused_later (output_rule q.request.bound output ∷ []) (pattern_numbered p q.request.bound) (sym e' ∙ z')

    pub pattern_refused : ¬ (r' ≡ 0) → outcome (Refused r') output ≡ answerTo (step q p output)
    unfolding output_of
    pattern_refused n = go r' refl
      where
        go : (k : ℕ) → k ≡ r' → outcome (Refused r') output ≡ answerTo (step q p output)
        go zero x = absurd (n (sym x))
        go (suc k) x = ap (λ (m : ℕ). outcome (Refused m) output) (sym x)
            ∙ sym (answer_refused (step q p output) k (to_pattern ∙ refused_first (pattern_rules p q.request.bound) (output_rule q.request.bound output ∷ []) k (sym e' ∙ sym x)))

    pub step_short : r' ≡ 0 → length output < q.request.bound → outcome (Refused 17) output ≡ answerTo (step q p output)
    unfolding output_of
    step_short z' h = sym (answer_refused (step q p output) 16 (to_output z' ∙ too_short q.request.bound output h))

    pub step_given : r' ≡ 0 → q.request.bound ≤ length output → (given : Pattern) → pairs_of given ≡ p → (next : RustOption FrequentPattern) → SelectedFirst (search_of q) given next → handed (entry_of next) output ≡ answerTo (step q p output)
    unfolding output_of eligible next_selected
    step_given z' h given g next n =
        let a = (accepted q r e z).is_fleet in
        let f = selected_next (search_of q) p in
        let s : entry_of next ≡ with_count (selected_forms (search_of q)) f = rw g at n.is in
        ap (λ (o : Option Entry). handed o output) s ∙ told q a f output ∙ sym (answer_found (step q p output) f (to_output z' ∙ long_enough q.request.bound output h) (from_pattern q a p))

-- `put`
pub part_length : (len : ℕ) (nodes : List ℕ) → len ≤ most_nodes_of_a_pattern → length nodes ≡ most_nodes_of_a_pattern → len ≡ length (take len nodes)
part_length len nodes h s = sym (length-take-le len nodes (omega arith))

pub put_pairs : (len : ℕ) (nodes : List ℕ) {exit : List ℕ} (output : List ℕ) → len ≤ most_nodes_of_a_pattern → length nodes ≡ most_nodes_of_a_pattern → exit ≡ take len nodes ++ drop (length (take len nodes)) output → exit ≡ take len nodes ++ drop len output
put_pairs len nodes output h s e = e ∙ ap (λ (k : ℕ). take len nodes ++ drop k output) (sym (part_length len nodes h s))

-- `give`
pub given_form : {next : RustOption FrequentPattern} (found : FrequentPattern) (output exit : List ℕ) → next ≡ Some found → length found.pattern.nodes ≡ most_nodes_of_a_pattern → found.pattern.len ≤ most_nodes_of_a_pattern
    → exit ≡ pairs_of found.pattern ++ drop found.pattern.len output → outcome (Form found.pattern.len found.support) exit ≡ handed (entry_of next) output
unfolding handed entry_of
given_form found output exit e s h x =
    let n : length (pairs_of found.pattern) ≡ found.pattern.len = length-take-le found.pattern.len found.pattern.nodes (omega arith) in
    rw (e, n, x)

pub given_end : {next : RustOption FrequentPattern} (output : List ℕ) → next ≡ None → outcome End output ≡ handed (entry_of next) output
unfolding handed entry_of
given_end output e = rw e

pub first_input : {q : Asked} (pattern : Pattern) → Accepted q → pattern.len ≤ q.request.bound → (1 ≤ pattern.len → InForm (pairs_of pattern)) → FirstInput (search_of q) pattern
first_input {q} pattern a h f = record { is_fleet = (fleet_without_remarks q.fleet a.is_fleet).0; from_1 = a.from_1; bound_to_most = a.bound_to_most; within = h; in_form = f }

-- the pattern of lent pairs that no rule turns away
pub few_pairs : {q : Asked} {n : ℕ} → Accepted q → n ≤ q.request.bound → n ≤ most_nodes_of_a_pattern
few_pairs a h = omega (arith, a.bound_to_most)

pub first_input_of : {q : Asked} {r : ℕ} (pattern : Pattern) → Accepted q → (p : List ℕ) → r ≡ refusal (pattern_rules p q.request.bound) → r ≡ 0 → (pattern.len ≡ length p) × (pairs_of pattern ≡ p)
    → FirstInput (search_of q) pattern
first_input_of {q} {r} pattern a p e z is = first_input pattern a (omega (arith, is.0, within_bound p q.request.bound r e z)) (λ _. rw is.1 (its_form p q.request.bound r e z))

pub give_input : {q : Asked} {given : Pattern} (next : RustOption FrequentPattern) (output : List ℕ) → Accepted q → SelectedFirst (search_of q) given next → q.request.bound ≤ length output
    → IfSome next (λ found. (found.pattern.len ≤ most_nodes_of_a_pattern) × (found.pattern.len ≤ length output))
give_input None output a n h = tt
give_input (Some found) output a n h = (omega (arith, n.within, a.bound_to_most), omega (arith, n.within))

-- `find`: nothing is taken out
pub as_it_is : {fleet : List ℕ} {request : Request} {given : Pattern} → ¬ HoldsRemark fleet → FirstInput (search_in (without_remarks fleet) request) given → FirstInput (search_in fleet request) given
as_it_is {fleet} n i = rw (nothing_taken_out fleet n) at i

pub found_as_it_is : {fleet : List ℕ} {request : Request} {given : Pattern} {next : RustOption FrequentPattern} → ¬ HoldsRemark fleet → SelectedFirst (search_in fleet request) given next → SelectedFirst (search_in (without_remarks fleet) request) given next
found_as_it_is {fleet} n i = rw (nothing_taken_out fleet n) i

-- remarks are taken out
module _ (fleet counted after : List ℕ) (len : ℕ) (is : Copied fleet counted after len) {request : Request} {given : Pattern} where
  pub counted_input : FirstInput (search_in (without_remarks fleet) request) given → FirstInput (search_in (take len after) request) given
  counted_input i = rw (copied_front fleet counted after len is) i

  pub found_counted : {next : RustOption FrequentPattern} → SelectedFirst (search_in (take len after) request) given next → SelectedFirst (search_in (without_remarks fleet) request) given next
  found_counted i = rw (copied_front fleet counted after len is) at i
