-- LAWS. The step at a profile, from steps of the search: the next form that the profile lists is the next form of the search, if the profile lists
-- it; else it is looked for from there on.
use mathlib.Core.Path.{◌≡◌, sym, ap, ◌∙◌}
use mathlib.Core.List.{List, []}
use mathlib.Core.Option.{Option, none, some}
use Prim.Native.Nat.{ℕ, ◌<◌}
use native.Mathlib.Omega.{arith}
use lib.ListN.{length}
use Rattle.terms.specs.Order.{Lighter}
use Rattle.terms.specs.Lightest.{Lightest, the_lightest, none_at_all}
use Rattle.terms.proofs.LightestLaws.{lightest_unique}
use Rattle.terms.proofs.OrderLaws.{lighter_trans, compare_weight, Compared, is_lighter, is_equal, is_heavier}
use Rattle.matching.specs.Limits.{most_nodes_of_a_pattern}
use Rattle.noting.specs.Noting.{pair_limit}
use Rattle.supertrees.specs.Profile.{Selects}
use Rattle.expansion.specs.Levels.{Tables, AllTables, count_room}
use Rattle.search.specs.Counted.{Entry}
use Rattle.search.specs.Finite.{heavier_finite, lightest_of, lightest_is}
use Rattle.search.specs.Sought.{Search, Sought, count_in, sought_forms, sought_finite}
use Rattle.search.specs.Search.{pairs_of, with_count, next_entry, entry_of, NextInput, NextIs}
use Rattle.search.specs.declared.Pattern.{Pattern}
use Rattle.search.specs.declared.FrequentPattern.{FrequentPattern}
use Rattle.std.specs.Prelude.{Option as RustOption, Some, None}
use Rattle.profiles.specs.Selected.{Selected, selected_forms, selected_finite, next_selected, FoundInput, SelectedNext}
use Rattle.profiles.proofs.MeasureLaws.{heavier_sequences, fewer_heavier}

-- the forms of a set that are heavier than p
abbrev pub Heavier : (List ℕ → Type 0) → List ℕ → List ℕ → Type 0
Heavier Set p s = Set s × Lighter p s

-- the lightest of a set, and the lightest of a part of it
module _ (Set Part : List ℕ → Type 0) (part : (s : List ℕ) → Part s → Set s) (p : List ℕ) where
  next_in_part : {f : List ℕ} → Lightest (Heavier Set p) (some f) → Part f → Lightest (Heavier Part p) (some f)
  next_in_part (the_lightest m least) k = the_lightest (k, m.1) (λ other o. least other (part other o.0, o.1))

  end_of_part : Lightest (Heavier Set p) none → Lightest (Heavier Part p) none
  end_of_part (none_at_all n) = none_at_all (λ s h. n s (part s h.0, h.1))

  -- what is in the part and heavier than p is heavier than the next of the whole, if that is not in the part
  past : {f : List ℕ} → Lightest (Heavier Set p) (some f) → ¬ Part f → (s : List ℕ) → Heavier Part p s → Heavier Part f s
  past {f} (the_lightest m least) k s h = (h.0, go (compare_weight f s))
    where
      go : Compared f s → Lighter f s
      go (is_lighter l) = l
      go (is_equal e) = absurd (k (rw e h.0))
      go (is_heavier l) = absurd (least s (part s h.0, h.1) l)

  look_on : {f : List ℕ} {r : Option (List ℕ)} → Lightest (Heavier Set p) (some f) → Lighter p f → ¬ Part f → Lightest (Heavier Part f) r → Lightest (Heavier Part p) r
  look_on l a k (the_lightest m least) = the_lightest (m.0, lighter_trans a m.1) (λ other o. least other (past l k other o))
  look_on l a k (none_at_all n) = none_at_all (λ s h. n s (past l k s h))

-- What a step of the search tells, if it gives a form.
pub record Found (search : Search) (p form : List ℕ) (held : ℕ) : Type 0 where
  pub is : Lightest (Heavier (Sought search) p) (some form)
  pub sought : Sought search form
  pub heavier : Lighter p form
  pub counted : held ≡ count_in search form

abbrev form_in : Option Entry → List ℕ
form_in none = []
form_in (some e) = e.form

abbrev held_in : Option Entry → ℕ
held_in none = 0
held_in (some e) = e.held

found_of : (search : Search) (p : List ℕ) (o : Option (List ℕ)) {form : List ℕ} {held : ℕ} → Lightest (Heavier (Sought search) p) o → some (record { form = form; held = held }) ≡ with_count (sought_forms search) o → Found search p form held
unfolding with_count
found_of search p none l e = let y : ◌≡◌ {A = ℕ} 0 1 = cc in absurd (omega arith)
found_of search p (some f) {form} {held} l e = go l (ap form_in e) (ap held_in e)
  where
    go : Lightest (Heavier (Sought search) p) (some f) → form ≡ f → held ≡ count_in search f → Found search p form held
    go (the_lightest m least) same h = rw same (record { is = the_lightest m least; sought = m.0; heavier = m.1; counted = h })

end_of : (search : Search) (p : List ℕ) (o : Option (List ℕ)) → Lightest (Heavier (Sought search) p) o → none ≡ with_count (sought_forms search) o → Lightest (Heavier (Sought search) p) none
unfolding with_count
end_of search p none l e = l
end_of search p (some f) l e = let y : ◌≡◌ {A = ℕ} 0 1 = cc in absurd (omega arith)

module _ {search : Search} {pattern : Pattern} {t : Tables} where
  pub found_by : {f : FrequentPattern} → NextIs search pattern (Some f) t → Found search (pairs_of pattern) (pairs_of f.pattern) f.support
  unfolding entry_of next_entry
  found_by n = let f = heavier_finite (sought_finite search) (pairs_of pattern) in found_of search (pairs_of pattern) (lightest_of f) (lightest_is f) n.is

  none_left : NextIs search pattern None t → Lightest (Heavier (Sought search) (pairs_of pattern)) none
  unfolding entry_of next_entry
  none_left n = let f = heavier_finite (sought_finite search) (pairs_of pattern) in end_of search (pairs_of pattern) (lightest_of f) (lightest_is f) n.is

-- what a step told, where its answer is known
pub at_end : {search : Search} {pattern : Pattern} {next : RustOption FrequentPattern} {t : Tables} → next ≡ None → NextIs search pattern next t → NextIs search pattern None t
at_end e n = rw e at n

pub at_form : {search : Search} {pattern : Pattern} {next : RustOption FrequentPattern} {found : FrequentPattern} {t : Tables} → next ≡ Some found → NextIs search pattern next t → NextIs search pattern (Some found) t
at_form e n = rw e at n

-- what is the lightest is what the step at the profile gives
next_is : (search : Search) (s : List ℕ) (o : Option (List ℕ)) → Lightest (Heavier (Selected search) s) o → next_selected search s ≡ with_count (selected_forms search) o
unfolding next_selected
next_is search s o l = ap (with_count (selected_forms search)) (lightest_unique (lightest_is (heavier_finite (selected_finite search) s)) l)

-- The walk has come to a pattern, with its tables: what the profile lists next after it is what it lists next after the one given.
pub record Walking (search : Search) (given pattern : Pattern) (t : Tables) : Type 0 where
  pub input : NextInput search pattern t
  pub passed : (o : Option (List ℕ)) → Lightest (Heavier (Selected search) (pairs_of pattern)) o → Lightest (Heavier (Selected search) (pairs_of given)) o

pub begins : {search : Search} {given : Pattern} {t : Tables} → NextInput search given t → Walking search given given t
begins i = record { input = i; passed = λ o l. l }

-- the tables keep their lengths
pub places_kept : {fleet : List ℕ} {t t' : Tables} → AllTables fleet t' → AllTables fleet t → length t'.places ≡ length t.places
places_kept a b = a.all_places ∙ sym b.all_places

pub counts_kept : {fleet : List ℕ} {t t' : Tables} → AllTables fleet t' → AllTables fleet t → t'.kept ≡ t.kept → length t'.counts ≡ length t.counts
counts_kept a b e = a.all_counts ∙ ap count_room e ∙ sym b.all_counts

-- how many sequences are left
abbrev pub left_after : Search → Pattern → ℕ
left_after search pattern = heavier_sequences pair_limit search.bound (pairs_of pattern)

module _ {search : Search} {given pattern : Pattern} {t t' : Tables} (w : Walking search given pattern t) where
  pub ends : NextIs search pattern None t' → SelectedNext search given None t'
  unfolding entry_of with_count
  ends n = record {
    is = sym (next_is search (pairs_of given) none (w.passed none (end_of_part (Sought search) (Selected search) (λ s h. h.sought) (pairs_of pattern) (none_left n))));
    found_or_end = n.found_or_end;
  }

  module _ {found : FrequentPattern} (n : NextIs search pattern (Some found) t') where
    f : Found search (pairs_of pattern) (pairs_of found.pattern) found.support
    f = found_by n

    pub found_input : length found.pattern.nodes ≡ most_nodes_of_a_pattern → FoundInput search found.pattern.nodes found.pattern.len found.support t'.parents t'.numbers t'.sizes t'.places t'.lens
    found_input sixteen = let r = n.found_or_end.remembers in record {
      support_is = f.counted;
      testable = λ need h. record {
        indexed = r.all.indexed;
        all_nodes = sixteen;
        few = omega (arith, n.found_or_end.within, w.input.bound_to_most);
        is_tree = f.sought.in_form.is_tree;
        all_places = r.all.all_places;
        all_lens = r.all.all_lens;
        placed = r.placed;
        from_1 = h;
      };
      from_1 = w.input.from_1;
      enough = omega (arith, f.counted, f.sought.enough);
    }

    pub gives : Selects search.profile (count_in search) search.threshold (pairs_of found.pattern) → SelectedNext search given (Some found) t'
    unfolding entry_of with_count
    gives k = record {
      is = sym (next_is search (pairs_of given) (some form) (w.passed (some form) (next_in_part (Sought search) (Selected search) (λ s h. h.sought) (pairs_of pattern) f.is (record { sought = f.sought; selects = k }))) ∙ ap some same);
      found_or_end = n.found_or_end;
    }
      where
        form : List ℕ
        form = pairs_of found.pattern

        same : ◌≡◌ {A = Entry} (record { form = form; held = count_in search form }) (record { form = form; held = found.support })
        same = λ i. record { form = form; held = sym f.counted i }

    pub looks_on : ¬ Selects search.profile (count_in search) search.threshold (pairs_of found.pattern) → Walking search given found.pattern t'
    looks_on k = record {
      input = record { from_1 = w.input.from_1; bound_to_most = w.input.bound_to_most; within = n.found_or_end.within; in_form = n.found_or_end.in_form; remembers = n.found_or_end.remembers };
      passed = λ o l. w.passed o (look_on (Sought search) (Selected search) (λ s h. h.sought) (pairs_of pattern) f.is f.heavier (λ s. k s.selects) l);
    }

    pub fewer_left : left_after search found.pattern < left_after search pattern
    unfolding sought_finite
    fewer_left =
        let h = (sought_finite search).within (pairs_of found.pattern) f.sought in
        fewer_heavier pair_limit search.bound (pairs_of pattern) (pairs_of found.pattern) f.heavier h.0 h.1
