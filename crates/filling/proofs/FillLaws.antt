-- LAWS. The loop that fills the outputs of a batch: what it has given, and what is left.
use mathlib.Core.Path.{◌≡◌, refl, sym, ap, ◌∙◌}
use mathlib.Core.List.{List, [], ◌∷◌, ◌++◌, append_assoc, append-nil}
use mathlib.Core.Option.{Option, none, some}
use Prim.Native.Nat.{ℕ, suc, ◌+◌, ◌-◌, ◌≤◌, ◌<◌}
use native.Mathlib.Omega.{arith}
use native.Mathlib.Numerals.{add-one}
use lib.ListN.{length, get_or, take, drop, set, length-append, length-drop, length-set, drop_of_length-le}
use lib.Seq.{take_all, length-take-le, take_at, drop_at, drop-drop, drop-cons, set_at}
use Rattle.terms.specs.Form.{InForm}
use Rattle.terms.specs.Fleet.{IsFleet, most_nodes}
use Rattle.terms.specs.Remarks.{HoldsRemark, without_remarks}
use Rattle.terms.proofs.RemarkLaws.{no_remark_left}
use Rattle.terms.specs.Refusal.{refusal, AllKept, none as no_more, also}
use Rattle.terms.proofs.RefusalLaws.{all_kept_refusal}
use Rattle.matching.specs.Limits.{most_nodes_of_a_pattern}
use Rattle.occurrence.proofs.SupportLaws.{whole_support_most}
use Rattle.expansion.specs.Levels.{Tables}
use Rattle.search.specs.declared.Pattern.{Pattern}
use Rattle.search.specs.declared.FrequentPattern.{FrequentPattern}
use Rattle.std.specs.Prelude.{Option as RustOption, Some, None}
use Rattle.search.specs.Counted.{Entry}
use Rattle.search.specs.Finite.{heavier_finite, lightest_of}
use Rattle.search.specs.Sought.{Search, search_in, count_in}
use Rattle.profiles.specs.Selected.{selected_forms, selected_finite, next_selected, SelectedNext}
use Rattle.profiles.proofs.FirstLaws.{first_is}
use Rattle.search.specs.declared.Request.{Request}
use Rattle.search.specs.Search.{pairs_of, with_count, entry_of, NextInput, FirstInput}
use Rattle.listing.specs.Listing.{Asked, asks}
use Rattle.listing.specs.Calls.{pattern_rules, answerTo, handed}
use Rattle.listing.proofs.StartStepLaws.{part_length, accepted, found_as_it_is}
use Rattle.listing.proofs.RemarkListLaws.{asked_without_remarks}
use Rattle.remarks.specs.TakenOut.{Copied}
use Rattle.remarks.proofs.CopiedLaws.{copied_front}
use Rattle.filling.specs.Row.{call_after, row_entries}
use Rattle.filling.specs.Filling.{number_for, pairs_given, numbers_given, after_rules, FillInput, Filled}
use Rattle.filling.proofs.RowLaws.{call_finds, row_full, row_none, row_found, row_ended, row_without_remarks}

pub pairs_append : (es fs : List Entry) → pairs_given (es ++ fs) ≡ pairs_given es ++ pairs_given fs
unfolding pairs_given
pairs_append [] fs = refl
pairs_append (e ∷ es) fs = ap (λ (l : List ℕ). e.form ++ l) (pairs_append es fs) ∙ sym (append_assoc e.form (pairs_given es) (pairs_given fs))

pub numbers_append : (es fs : List Entry) → numbers_given (es ++ fs) ≡ numbers_given es ++ numbers_given fs
unfolding numbers_given
numbers_append [] fs = refl
numbers_append (e ∷ es) fs = ap (λ (l : List ℕ). number_for (length e.form) e.held ∷ l) (numbers_append es fs)

pub numbers_length : (es : List Entry) → length (numbers_given es) ≡ length es
unfolding numbers_given
numbers_length [] = refl
numbers_length (e ∷ es) = ap suc (numbers_length es)

-- pairs put behind the first `at`, where others stand in front
put_behind : (front form output output' : List ℕ) (at len : ℕ) → output' ≡ front ++ drop at output → length front ≡ at → take at output' ++ form ++ drop (at + len) output' ≡ (front ++ form) ++ drop (at + len) output
put_behind front form output output' at len e l =
    let a : take at output' ≡ front = ap (take at) e ∙ take_at front (drop at output) at l in
    let b : drop at output' ≡ drop at output = ap (drop at) e ∙ drop_at front (drop at output) at l in
    let c : drop (at + len) output' ≡ drop (at + len) output = sym (drop-drop len at output') ∙ ap (drop len) b ∙ drop-drop len at output in
    rw (a, c)

-- and a number behind the first `given`
set_behind : (front found found' : List ℕ) (given v : ℕ) → found' ≡ front ++ drop given found → length front ≡ given → given < length found → set found' given v ≡ (front ++ v ∷ []) ++ drop (given + 1) found
set_behind front found found' given v e l h =
    let a : found' ≡ front ++ get_or found given 0 ∷ drop (suc given) found = e ∙ ap (λ (r : List ℕ). front ++ r) (drop-cons found given 0 h) in
    rw (a, set_at front (get_or found given 0) (drop (suc given) found) v given l, append_assoc front (v ∷ []) (drop (given + 1) found), add-one given)

length_behind : (front output output' : List ℕ) (at : ℕ) → output' ≡ front ++ drop at output → length front ≡ at → at ≤ length output → length output' ≡ length output
length_behind front output output' at e l h = ap length e ∙ length-append front (drop at output) ∙ omega (arith, length-drop at output)

-- `put`
pub copy_room : (len : ℕ) (nodes output : List ℕ) (at : ℕ) → len ≤ most_nodes_of_a_pattern → length nodes ≡ most_nodes_of_a_pattern → at + len ≤ length output
    → length (take len nodes) ≤ length (take (length output - at) (drop at output))
copy_room len nodes output at few sixteen room =
    let a : take (length output - at) (drop at output) ≡ drop at output = take_all (length output - at) (drop at output) (simp length-drop (omega arith)) in
    rw (a, length-drop at output, ← part_length len nodes few sixteen) (omega arith)

pub copied : (len : ℕ) (nodes output rest rest' : List ℕ) (at : ℕ) → len ≤ most_nodes_of_a_pattern → length nodes ≡ most_nodes_of_a_pattern → at + len ≤ length output
    → rest ≡ take (length output - at) (drop at output) → rest' ≡ take len nodes ++ drop (length (take len nodes)) rest
    → take at output ++ (rest' ++ drop (length output - at) (drop at output)) ≡ take at output ++ take len nodes ++ drop (at + len) output
copied len nodes output rest rest' at few sixteen room r e =
    let z : drop (length output - at) (drop at output) ≡ [] = drop_of_length-le (drop at output) {i = length output - at} (simp length-drop (omega arith)) in
    let a : rest ≡ drop at output = r ∙ take_all (length output - at) (drop at output) (simp length-drop (omega arith)) in
    let b : rest' ≡ take len nodes ++ drop (at + len) output = e ∙ (rw (← part_length len nodes few sixteen, a, drop-drop len at output)) in
    rw (z, append-nil rest', b, append_assoc (take at output) (take len nodes) (drop (at + len) output))

-- the count of a form that the search found
held_is : (search : Search) (p : List ℕ) (entry : Entry) → some entry ≡ next_selected search p → entry.held ≡ count_in search entry.form
unfolding next_selected with_count
held_is search p entry e = go (lightest_of (heavier_finite (selected_finite search) p)) e
  where
    go : (o : Option (List ℕ)) → some entry ≡ with_count (selected_forms search) o → entry.held ≡ count_in search entry.form
    go none q = let z : ◌≡◌ {A = ℕ} 0 1 = cc in absurd (omega arith)
    go (some f) q =
        let s : entry ≡ record { form = f; held = count_in search f } = cc in
        ap (λ (x : Entry). x.held) s ∙ ap (λ (x : Entry). count_in search x.form) (sym s)

-- The loop: `done` are the forms given, and what is left is what calls in a row give after the pattern that was given last.
pub record Filling (asked : Asked) (first output found : List ℕ) (pattern : Pattern) (at given : ℕ) (output' found' : List ℕ) (t : Tables) : Type 0 where
  pub done : List Entry
  pub whole : row_entries asked first output (length output) (length found) ≡ done ++ row_entries asked (pairs_of pattern) output (length output - at) (length found - given)
  pub at_is : length (pairs_given done) ≡ at
  pub given_is : length done ≡ given
  pub pairs : output' ≡ pairs_given done ++ drop at output
  pub numbers : found' ≡ numbers_given done ++ drop given found
  pub at_within : at ≤ length output
  pub given_within : given ≤ length found
  pub same_output : length output' ≡ length output
  pub same_found : length found' ≡ length found
  pub input : NextInput (search_in asked.fleet asked.request) pattern t
  pub no_remarks : ¬ HoldsRemark asked.fleet
  pub may : FillInput asked (pairs_of pattern)

pub begins : {asked : Asked} {output found : List ℕ} {pattern : Pattern} {t : Tables} → ¬ HoldsRemark asked.fleet → NextInput (search_in asked.fleet asked.request) pattern t → FillInput asked (pairs_of pattern)
    → Filling asked (pairs_of pattern) output found pattern 0 0 output found t
unfolding pairs_given numbers_given
begins {asked} {output} {found} {pattern} n i m = record {
  done = [];
  whole = let a : length output - 0 ≡ length output = omega arith in let b : length found - 0 ≡ length found = omega arith in rw (a, b);
  at_is = refl;
  given_is = refl;
  pairs = refl;
  numbers = refl;
  at_within = omega arith;
  given_within = omega arith;
  same_output = refl;
  same_found = refl;
  input = i;
  no_remarks = n;
  may = m;
}

-- a form may be gone on from
pub form_follows : (asked : Asked) (p : List ℕ) → length p ≤ asked.request.bound → (1 ≤ length p → InForm p) → refusal (after_rules p asked.request.bound) ≡ 0
unfolding after_rules refusal
form_follows asked [] h f = refl
form_follows asked (x ∷ p) h f =
    let k = f (omega arith) in
    let size : (1 ≤ length (x ∷ p)) × (length (x ∷ p) ≤ asked.request.bound) = (omega arith, h) in
    let all : AllKept (pattern_rules (x ∷ p) asked.request.bound) = also size (also k.is_tree (also k no_more)) in
    all_kept_refusal all

module _ {asked : Asked} {first output found : List ℕ} {pattern : Pattern} {at given : ℕ} {output' found' : List ℕ} {t : Tables} (w : Filling asked first output found pattern at given output' found' t) where
  -- nothing is left: all is given
  all_given : row_entries asked (pairs_of pattern) output (length output - at) (length found - given) ≡ [] → Filled asked first output found given output' found'
  all_given e =
      let entries : row_entries asked first output (length output) (length found) ≡ w.done = w.whole ∙ ap (λ (l : List Entry). w.done ++ l) e ∙ simp append-nil in
      record {
        as_many = rw entries (sym w.given_is);
        pairs = rw (entries, w.at_is) w.pairs;
        numbers = rw (entries, numbers_length w.done, w.given_is) w.numbers;
      }

  pub no_number_left : length found' ≤ given → Filled asked first output found given output' found'
  no_number_left h =
      let z : length found - given ≡ 0 = omega (arith, w.same_found) in
      all_given (rw z (row_none asked (pairs_of pattern) output (length output - at)))

  pub no_room_left : length output' - at < asked.request.bound → Filled asked first output found given output' found'
  no_room_left h = all_given (row_full asked (pairs_of pattern) output (length output - at) (length found - given) (omega (arith, w.same_output)))

  module _ {t' : Tables} (room : asked.request.bound ≤ length output' - at) where
    finds : (next : RustOption FrequentPattern) → SelectedNext (search_in asked.fleet asked.request) pattern next t' → answerTo (call_after asked (pairs_of pattern) output) ≡ handed (entry_of next) output
    finds next n = call_finds asked output pattern next w.may (omega (arith, w.same_output)) (found_as_it_is w.no_remarks (first_is next n))

    -- the list ends here
    pub list_ends : {next : RustOption FrequentPattern} → next ≡ None → SelectedNext (search_in asked.fleet asked.request) pattern next t' → Filled asked first output found given output' found'
    unfolding entry_of
    list_ends {next} e n = all_given (row_ended asked (pairs_of pattern) output (length output - at) (length found - given) (rw e at (finds next n)))

    module _ {next : RustOption FrequentPattern} (form : FrequentPattern) (e : next ≡ Some form) (selected : SelectedNext (search_in asked.fleet asked.request) pattern next t') (sixteen : length form.pattern.nodes ≡ most_nodes_of_a_pattern) where
      n : SelectedNext (search_in asked.fleet asked.request) pattern (Some form) t'
      n = rw e at selected

      pub few_nodes : form.pattern.len ≤ most_nodes_of_a_pattern
      few_nodes = omega (arith, n.found_or_end.within, w.input.bound_to_most)

      form_length : length (pairs_of form.pattern) ≡ form.pattern.len
      form_length = length-take-le form.pattern.len form.pattern.nodes (omega (arith, few_nodes))

      pub number_input : (form.pattern.len ≤ most_nodes_of_a_pattern) × (form.support ≤ 64)
      unfolding entry_of
      number_input =
          let s = held_is (search_in asked.fleet asked.request) (pairs_of pattern) (record { form = pairs_of form.pattern; held = form.support }) n.is in
          (few_nodes, omega (arith, s, whole_support_most asked.fleet (pairs_of form.pattern) w.input.remembers.all.indexed.is_fleet))

      pub put_input : (form.pattern.len ≤ most_nodes_of_a_pattern) × (at + form.pattern.len ≤ length output')
      put_input = (few_nodes, omega (arith, n.found_or_end.within, w.at_within, w.same_output))

      -- one form more
      pub goes_on : given < length found'
          → Filling asked first output found form.pattern (at + form.pattern.len) (given + 1) (take at output' ++ pairs_of form.pattern ++ drop (at + form.pattern.len) output')
          (set found' given (number_for form.pattern.len form.support)) t'
      unfolding entry_of pairs_given numbers_given
      goes_on h = record {
        done = w.done ++ entry ∷ [];
        whole = w.whole ∙ ap (λ (l : List Entry). w.done ++ l) row ∙ sym (append_assoc w.done (entry ∷ []) _);
        at_is = at_now;
        given_is = simp (length-append, w.given_is);
        pairs = output_is;
        numbers = set_behind (numbers_given w.done) found found' given _ w.numbers (numbers_length w.done ∙ w.given_is) (omega (arith, w.same_found)) ∙ ap (λ (l : List ℕ). l ++ drop (given + 1) found) (sym numbers_are);
        at_within = omega (arith, put_input.1, w.same_output);
        given_within = omega (arith, w.same_found);
        same_output = length_behind (pairs_given (w.done ++ entry ∷ [])) output _ (at + form.pattern.len) output_is at_now (omega (arith, put_input.1, w.same_output));
        same_found = length-set found' given _ ∙ w.same_found;
        input = record { from_1 = w.input.from_1; bound_to_most = w.input.bound_to_most; within = n.found_or_end.within; in_form = n.found_or_end.in_form; remembers = n.found_or_end.remembers };
        no_remarks = w.no_remarks;
        may = record { accepted = w.may.accepted; may_follow = form_follows asked (pairs_of form.pattern) (omega (arith, form_length, n.found_or_end.within)) (λ k. n.found_or_end.in_form (omega (arith, form_length))) };
      }
        where
          len : ℕ
          len = form.pattern.len

          entry : Entry
          entry = record { form = pairs_of form.pattern; held = form.support }

          pairs_are : pairs_given (w.done ++ entry ∷ []) ≡ pairs_given w.done ++ entry.form
          pairs_are = pairs_append w.done (entry ∷ []) ∙ ap (λ (l : List ℕ). pairs_given w.done ++ l) (append-nil entry.form)

          numbers_are : numbers_given (w.done ++ entry ∷ []) ≡ numbers_given w.done ++ number_for len form.support ∷ []
          numbers_are = numbers_append w.done (entry ∷ []) ∙ ap (λ (k : ℕ). numbers_given w.done ++ number_for k form.support ∷ []) form_length

          at_now : length (pairs_given (w.done ++ entry ∷ [])) ≡ at + len
          at_now = ap length pairs_are ∙ length-append (pairs_given w.done) entry.form ∙ omega (arith, w.at_is, form_length)

          output_is : take at output' ++ pairs_of form.pattern ++ drop (at + len) output' ≡ pairs_given (w.done ++ entry ∷ []) ++ drop (at + len) output
          output_is = put_behind (pairs_given w.done) entry.form output output' at len w.pairs w.at_is ∙ ap (λ (l : List ℕ). l ++ drop (at + len) output) (sym pairs_are)

          row : row_entries asked (pairs_of pattern) output (length output - at) (length found - given) ≡ entry ∷ row_entries asked (pairs_of form.pattern) output (length output - (at + len)) (length found - (given + 1))
          row =
              let a : length found - given ≡ suc (length found - (given + 1)) = omega (arith, w.same_found) in
              let b : length output - at - length entry.form ≡ length output - (at + len) = omega (arith, form_length) in
              let r = row_found asked (pairs_of pattern) output (length output - at) (length found - (given + 1)) entry (omega (arith, w.same_output)) (finds (Some form) n) in
              rw a (r ∙ ap (λ (k : ℕ). entry ∷ row_entries asked entry.form output k (length found - (given + 1))) b)

      pub one_more : {at' v : ℕ} {output'' : List ℕ} → given < length found' → (at' ≡ at + form.pattern.len) × (output'' ≡ take at output' ++ pairs_of form.pattern ++ drop (at + form.pattern.len) output') → v ≡ number_for form.pattern.len form.support
          → Filling asked first output found form.pattern at' (given + 1) output'' (set found' given v) t'
      one_more h (a, o) v = rw (a, o, v) (goes_on h)

-- the loop ends
pub one_less : (found : List ℕ) (given v : ℕ) → given < length found → length (set found given v) - (given + 1) < length found - given
one_less found given v h = omega (arith, length-set found given v)

-- `fill_counted`
module _ (fleet : List ℕ) (request : Request) (p : List ℕ) (i : FillInput (asks fleet request) p) where
  pub is_fleet : IsFleet fleet
  is_fleet = (accepted (asks fleet request) 0 (sym i.accepted) refl).is_fleet

  pub few_nodes_of : length fleet ≤ most_nodes
  few_nodes_of = is_fleet.nodes

  -- in front of the array stands the fleet without its remarks
  module _ (counted after : List ℕ) (len : ℕ) (is : Copied fleet counted after len) where
    pub none_left : ¬ HoldsRemark (take len after)
    none_left = rw (copied_front fleet counted after len is) (no_remark_left fleet)

    pub counted_may : FillInput (asks (take len after) request) p
    counted_may = rw (copied_front fleet counted after len is) (record { accepted = sym (asked_without_remarks fleet request is_fleet) ∙ i.accepted; may_follow = i.may_follow })

    pub counted_first : {first : Pattern} → FirstInput (search_in (without_remarks fleet) request) first → FirstInput (search_in (take len after) request) first
    counted_first f = rw (copied_front fleet counted after len is) f

    pub counted_filled : {output found : List ℕ} {given : ℕ} {output' found' : List ℕ} → Filled (asks (take len after) request) p output found given output' found' → Filled (asks fleet request) p output found given output' found'
    counted_filled {output} {found} {given} {output'} {found'} f =
        let g : Filled (asks (without_remarks fleet) request) p output found given output' found' = rw (copied_front fleet counted after len is) at f in
        let e = row_without_remarks fleet request is_fleet output (length found) p (length output) in
        record { as_many = rw e g.as_many; pairs = rw e g.pairs; numbers = rw e g.numbers }
