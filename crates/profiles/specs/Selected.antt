-- Document 02, "Closed and maximal lists": of the forms that a search looks for, those that its profile lists; and the step from one to the next.
use Rattle.std.specs.Prelude.{◌≡◌, Option as RustOption, IfSome, List, ℕ, ◌≤◌, take}
use Rattle.std.proofs.Math.Option.{Option}
use Rattle.terms.specs.Tells.{Tells}
use Rattle.terms.proofs.TreeLaws.{tree_any_depth}
use Rattle.supertrees.specs.Profile.{Selects}
use Rattle.supertrees.proofs.ProfileLaws.{selects?}
use Rattle.expansion.specs.Levels.{Tables}
use Rattle.blanket.specs.Blanket.{ReachesInput}
use Rattle.search.specs.Counted.{Counted, Entry}
use Rattle.search.specs.Finite.{Finite, heavier_finite, lightest_of}
use Rattle.search.specs.Sought.{Search, count_in, Sought, sought?, sought_finite, search_never_grows}
use Rattle.search.specs.Search.{pairs_of, with_count, entry_of, FoundOrEnd}
use Rattle.search.specs.declared.Pattern.{Pattern}
use Rattle.search.specs.declared.FrequentPattern.{FrequentPattern}
use Rattle.pruning.specs.Pruning.{MatchedBeginning}
use Rattle.profiles.specs.declared.Assessed.{Assessed}

-- A form that the search looks for, and that its profile lists.
pub record Selected (search : Search) (form : List ℕ) : Type 0 where
  pub sought : Sought search form
  pub selects : Selects search.profile (count_in search) search.threshold form

abbrev pub selected_forms : Search → Counted
selected_forms search = record { Holds = Selected search; count = count_in search }

-- The set is finite and decided.
unfoldable pub selected_if : (search : Search) (form : List ℕ) → Dec (Sought search form) → Dec (Selected search form)
unfolding selects?
selected_if search form (no n) = no (λ s. n s.sought)
selected_if search form (yes s) = told (selects? search.profile (count_in search) (search_never_grows search) search.threshold form (tree_any_depth s.in_form.is_tree))
  where
    told : Dec (Selects search.profile (count_in search) search.threshold form) → Dec (Selected search form)
    told (yes k) = yes (record { sought = s; selects = k })
    told (no n) = no (λ z. n z.selects)

unfoldable pub selected_finite : (search : Search) → Finite (selected_forms search)
unfolding selected_if sought? sought_finite
selected_finite search = record {
  most = search.bound;
  within = λ form s. (sought_finite search).within form s.sought;
  decide = λ form. selected_if search form (sought? search form);
}

-- The step at a profile: the lightest form of it that is heavier than the pattern, with its support, or none.
unfoldable pub next_selected : Search → List ℕ → Option Entry
next_selected search pattern = with_count (selected_forms search) (lightest_of (heavier_finite (selected_finite search) pattern))

-- A form of n pairs that the search found, with its support and its tables.
pub record FoundInput (search : Search) (nodes : List ℕ) (n held : ℕ) (parents numbers sizes places lens : List ℕ) : Type 0 where
  pub support_is : held ≡ count_in search (take n nodes)
  pub testable : (need : ℕ) → 1 ≤ need → ReachesInput search.fleet nodes n need parents numbers sizes places lens
  pub from_1 : 1 ≤ search.threshold
  pub enough : search.threshold ≤ held

-- What is told of it: whether the profile lists it, and a matched beginning, if one is known.
pub record Told (search : Search) (nodes : List ℕ) (n : ℕ) (assessed : Assessed) : Type 0 where
  pub listed : Tells assessed.listed (Selects search.profile (count_in search) search.threshold (take n nodes))
  pub matched : MatchedBeginning search.fleet nodes n assessed.matched

-- What it answers. At end what the tables of the levels hold is free, but for their lengths.
pub record SelectedNext (search : Search) (given : Pattern) (next : RustOption FrequentPattern) (t : Tables) : Type 0 where
  pub is : entry_of next ≡ next_selected search (pairs_of given)
  pub found_or_end : FoundOrEnd search next t

-- The same of a step whose tables are made first and are gone with the call.
pub record SelectedFirst (search : Search) (given : Pattern) (next : RustOption FrequentPattern) : Type 0 where
  pub is : entry_of next ≡ next_selected search (pairs_of given)
  pub within : IfSome next (λ found. found.pattern.len ≤ search.bound)
