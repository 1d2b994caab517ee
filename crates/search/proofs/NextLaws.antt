-- LAWS. The loop of a pattern's step: from the whole pattern to ever shorter beginnings.
use mathlib.Core.Path.{◌≡◌, refl, sym, ap, ◌∙◌}
use mathlib.Core.Bool.{Bool}
use mathlib.Core.List.{List, [], ◌∷◌, ◌++◌}
use mathlib.Core.Option.{Option, none, some}
use Prim.Native.Nat.{ℕ, suc, ◌+◌, ◌-◌, ◌*◌, ◌≤◌, ◌<◌}
use native.Mathlib.Omega.{arith}
use native.Mathlib.Numerals.{add-one}
use native.Mathlib.Decide.{dec_lt}
use lib.ListN.{length, get_or, take, drop, set, length-append, take-append-drop}
use lib.Seq.{take-suc, take-suc-set, take-set-le, take-take, drop-cons, get_or-take, length-take-le}
use mir.Syntax.{w64}
use mir.Val.{Fits}
use Rattle.terms.specs.Order.{Lighter}
use Rattle.terms.specs.Form.{InForm}
use Rattle.terms.specs.Lightest.{Lightest}
use Rattle.terms.proofs.BeginningLaws.{beginning_in_form}
use Rattle.terms.proofs.LightestLaws.{lightest_unique}
use Rattle.matching.specs.Limits.{most_nodes_of_a_pattern}
use Rattle.expansion.specs.Levels.{Tables, tables_if, count_room, AllTables, Remembers, LevelInput}
use Rattle.scan.specs.Scan.{ExtensionIs}
use Rattle.expansion.specs.Making.{ReachInput}
use Rattle.std.specs.Prelude.{Some, None}
use Rattle.scan.specs.declared.Extension.{Extension}
use Rattle.search.specs.declared.Pattern.{Pattern}
use Rattle.search.specs.Counted.{Entry}
use Rattle.search.specs.Finite.{heavier_finite, lightest_is}
use Rattle.search.specs.Sought.{Search, Sought, count_in, sought_forms, sought_finite}
use Rattle.search.specs.Search.{pairs_of, with_count, next_entry, entry_of, Arrived, NextInput, NextIs}
use Rattle.search.proofs.FrequentLaws.{sought_frequent, frequent_sought, sought_closed, sought_positive}
use Rattle.search.proofs.SearchOrder as order

-- what is the lightest is what a step gives
pub next_is : (search : Search) (s : List ℕ) (o : Option (List ℕ)) → Lightest (λ u. Sought search u × Lighter s u) o → next_entry search s ≡ with_count (sought_forms search) o
unfolding next_entry
next_is search s o l = ap (with_count (sought_forms search)) (lightest_unique (lightest_is (heavier_finite (sought_finite search) s)) l)

-- the tables of fewer levels, and those of a pattern that differs only behind them
pub remembers_less : {fleet nodes : List ℕ} {m n : ℕ} {t : Tables} → m ≤ n → Remembers fleet nodes n t → Remembers fleet nodes m t
remembers_less h r = record { all = r.all; placed = λ k a b. r.placed k a (omega arith); counted = λ q k b. r.counted q k (omega arith) }

-- tables of the counts are as long, if both are kept or neither is
pub as_long : {fleet nodes : List ℕ} {n : ℕ} {search : Search} {given : Pattern} {t t' : Tables} → Remembers fleet nodes n t' → NextInput search given t → t'.kept ≡ t.kept → length t'.counts ≡ length t.counts
as_long r i e = r.all.all_counts ∙ ap count_room e ∙ sym i.remembers.all.all_counts

remembers_set : {fleet nodes : List ℕ} {n : ℕ} {t : Tables} (x : ℕ) → Remembers fleet nodes (suc n) t → Remembers fleet (set nodes n x) (suc n) t
remembers_set {fleet} {nodes} {n} {t} x r = record {
  all = r.all;
  placed = λ k a b. let old = r.placed k a b in record { few = old.few; are = rw (take-set-le k nodes n x (omega arith)) old.are };
  counted = λ q k b e. rw (take-set-le k nodes n x (omega arith)) (r.counted q k b e);
}

-- What the search goes on knowing of what it was given.
pub record GivenPattern (search : Search) (given : Pattern) : Type 0 where
  pub all_nodes : length given.nodes ≡ most_nodes_of_a_pattern
  pub from_1 : 1 ≤ search.threshold
  pub bound_to_most : search.bound ≤ most_nodes_of_a_pattern
  pub within : given.len ≤ search.bound
  pub in_form : 1 ≤ given.len → InForm (pairs_of given)

-- The search has come to the first len of the pairs; where one more may follow, their tables are listed.
pub record AtBeginning (search : Search) (given : Pattern) (len low : ℕ) (t : Tables) : Type 0 where
  pub input : GivenPattern search given
  pub shorter : len ≤ given.len
  pub searching : order.Searching (Sought search) (sought_closed search) (pairs_of given) (take len given.nodes) low
  pub below : Remembers search.fleet given.nodes len t
  pub here : len < search.bound → Remembers search.fleet given.nodes (suc len) t

-- `arrive`: where one pair more may follow, the places of the pattern are listed; else all is as it was
pub arrived_there : {fleet nodes : List ℕ} {n bound : ℕ} {parents sizes places lens places' lens' : List ℕ} {known known' : List Bool} → n < bound
    → ((kept : Bool) (numbers counts : List ℕ) → Remembers fleet nodes n (tables_if kept parents numbers sizes places lens counts known) → Remembers fleet nodes (suc n) (tables_if kept parents numbers sizes places' lens' counts known'))
    → Arrived fleet nodes n bound parents sizes places lens known places' lens' known'
arrived_there h f = record { may_be_longer = λ _. f; may_not = λ k. absurd (omega arith) }

pub arrived_already : {fleet nodes : List ℕ} {n bound : ℕ} {parents sizes places lens : List ℕ} {known : List Bool} → bound ≤ n → Arrived fleet nodes n bound parents sizes places lens known places lens known
arrived_already h = record { may_be_longer = λ k. absurd (omega arith); may_not = λ _. (refl, refl, refl) }

pub reach_input : {search : Search} {given : Pattern} {parents numbers sizes places lens counts : List ℕ} {known : List Bool} {kept : Bool} → length given.nodes ≡ most_nodes_of_a_pattern
    → NextInput search given (tables_if kept parents numbers sizes places lens counts known) → given.len < search.bound → ReachInput search.fleet given.nodes given.len parents sizes places lens known
reach_input {numbers = numbers} {counts = counts} {kept = kept} sixteen i h = record { all_nodes = sixteen; room = omega (arith, i.bound_to_most); in_form = i.in_form; numbers = numbers; counts = counts; kept = kept; remembers = i.remembers }

pub begins : (search : Search) (given : Pattern) (kept : Bool) (parents numbers sizes places lens counts : List ℕ) (known : List Bool) {places' lens' : List ℕ} {known' : List Bool}
    → length given.nodes ≡ most_nodes_of_a_pattern → NextInput search given (tables_if kept parents numbers sizes places lens counts known) → Arrived search.fleet given.nodes given.len search.bound parents sizes places lens known places' lens' known'
    → AtBeginning search given given.len 0 (tables_if kept parents numbers sizes places' lens' counts known')
begins search given kept parents numbers sizes places lens counts known {places'} {lens'} {known'} sixteen i a = record {
  input = record { all_nodes = sixteen; from_1 = i.from_1; bound_to_most = i.bound_to_most; within = i.within; in_form = i.in_form };
  shorter = omega arith;
  searching = order.search_begins (Sought search) (sought_closed search) (pairs_of given) (λ z l. sought_positive search (pairs_of given) z l);
  below = go (dec_lt given.len search.bound);
  here = λ h. a.may_be_longer h kept numbers counts i.remembers;
}
  where
    go : Dec (given.len < search.bound) → Remembers search.fleet given.nodes given.len (tables_if kept parents numbers sizes places' lens' counts known')
    go (yes h) = remembers_less (omega arith) (a.may_be_longer h kept numbers counts i.remembers)
    go (no h) = let same = a.may_not (omega arith) in rw (same.0, same.1, same.2) i.remembers

-- numbers that fit, each with the one fact that it needs
pub doubled_fits : {n : ℕ} → n < most_nodes_of_a_pattern → Fits w64 (n * 2)
doubled_fits h = omega arith

pub next_fits : {n : ℕ} → n < most_nodes_of_a_pattern → Fits w64 (n + 1)
next_fits h = omega arith

pub shorter_less : {n : ℕ} → ¬ (n ≡ 0) → n - 1 < n
shorter_less h = omega arith

module _ {search : Search} {given : Pattern} {len low : ℕ} {t : Tables} (w : AtBeginning search given len low t) where
  pub beginning_length : length (take len given.nodes) ≡ len
  beginning_length = length-take-le len given.nodes (omega (arith, w.shorter, w.input.within, w.input.bound_to_most, w.input.all_nodes))

  -- a pair more, or one less, fits the array
  pub len_room : len < search.bound → len < most_nodes_of_a_pattern
  len_room h = omega (arith, w.input.bound_to_most)

  pub shorter_room : ¬ (len ≡ 0) → len - 1 < most_nodes_of_a_pattern
  shorter_room h = omega (arith, w.shorter, w.input.within, w.input.bound_to_most)

  pub level_input : len < search.bound → LevelInput search.fleet given.nodes len search.threshold t
  level_input h = record { all_nodes = w.input.all_nodes; room = omega (arith, w.input.bound_to_most); in_form = λ k. go (len - 1) (omega arith); from_1 = w.input.from_1; remembers = w.here h }
    where
      go : (m : ℕ) → suc m ≡ len → InForm (take len given.nodes)
      go m e =
          let l : length (pairs_of given) ≡ given.len = length-take-le given.len given.nodes (omega (arith, w.input.within, w.input.bound_to_most, w.input.all_nodes)) in
          let f : InForm (take (suc m) (pairs_of given)) = beginning_in_form (pairs_of given) m (omega (arith, w.shorter)) (w.input.in_form (omega (arith, w.shorter))) in
          rw (e, take-take len given.len given.nodes w.shorter) at f

  pub next_found : (e : Extension) {t' : Tables} → len < search.bound → ExtensionIs search.fleet search.threshold (take len given.nodes) low (Some e) → Remembers search.fleet given.nodes (suc len) t'
      → NextIs search given (Some (record { pattern = record { nodes = set given.nodes len e.pair; len = len + 1 }; support = e.support })) t'
  unfolding ExtensionIs entry_of with_count
  next_found e {t'} h x r = record {
    is = sym (next_is search (pairs_of given) (some (q ++ e.pair ∷ [])) lightest ∙ ap some same);
    found_or_end = record { within = omega arith; in_form = λ _. rw p x.frequent.in_form; remembers = rw (add-one len) (remembers_set e.pair r) };
  }
    where
      q : List ℕ
      q = take len given.nodes

      p : take (len + 1) (set given.nodes len e.pair) ≡ q ++ e.pair ∷ []
      p = let i : len < length given.nodes = omega (arith, w.input.bound_to_most, w.input.all_nodes) in rw (add-one, take-suc-set)

      size : length (q ++ e.pair ∷ []) ≤ search.bound
      size = omega (arith, length-append q (e.pair ∷ []), beginning_length)

      lightest : Lightest (λ u. Sought search u × Lighter (pairs_of given) u) (some (q ++ e.pair ∷ []))
      lightest = order.search_found (Sought search) (sought_closed search) w.searching e.pair x.above (frequent_sought x.frequent size) (λ z a b l. x.least z a b (sought_frequent l))

      same : ◌≡◌ {A = Entry} (record { form = q ++ e.pair ∷ []; held = count_in search (q ++ e.pair ∷ []) }) (record { form = take (len + 1) (set given.nodes len e.pair); held = e.support })
      same = λ i. record { form = sym p i; held = sym x.support_is i }

abbrev pub Done : Search → Pattern → ℕ → Type 0
Done search given len = order.Exhausted (Sought search) (sought_closed search) (pairs_of given) (take len given.nodes)

-- no sought form goes on after this beginning: it has no room
pub none_longer : {search : Search} {given : Pattern} {len low : ℕ} {t : Tables} → AtBeginning search given len low t → search.bound ≤ len → Done search given len
none_longer {search} {given} {len} w h = order.search_exhausted (Sought search) (sought_closed search) w.searching
    (λ z a l. omega (arith, l.up_to_bound, length-append (take len given.nodes) (z ∷ []), length-take-le len given.nodes (omega (arith, w.shorter, w.input.within, w.input.bound_to_most, w.input.all_nodes))))

-- or nothing extends it
pub none_extends : {search : Search} {given : Pattern} {len low : ℕ} {t : Tables} → AtBeginning search given len low t
    → ExtensionIs search.fleet search.threshold (take len given.nodes) low None → Done search given len
unfolding ExtensionIs
none_extends {search} w e = order.search_exhausted (Sought search) (sought_closed search) w.searching (λ z a l. e z a (sought_frequent l))

pub next_end : {search : Search} (given : Pattern) (len : ℕ) (t : Tables) → GivenPattern search given → Done search given len → len ≡ 0 → AllTables search.fleet t
    → NextIs search given None t
unfolding entry_of with_count
next_end {search} given len t i d e a = record {
  is = sym (next_is search (pairs_of given) none (order.search_ended (Sought search) (sought_closed search) (rw e at d)));
  found_or_end = a;
}

pub goes_shorter : {search : Search} {given : Pattern} {len low : ℕ} {t t' : Tables} → AtBeginning search given len low t
    → Done search given len × Remembers search.fleet given.nodes len t' → ¬ (len ≡ 0) → AtBeginning search given (len - 1) (get_or given.nodes (len - 1) 0) t'
goes_shorter {search} {given} {len} {t' = t'} w (d, r) some_left = go (len - 1) (omega arith)
  where
    n : ℕ
    n = given.len

    nodes : List ℕ
    nodes = given.nodes

    go : (m : ℕ) → suc m ≡ len → AtBeginning search given m (get_or nodes m 0) t'
    go m e = record {
      input = w.input;
      shorter = omega (arith, w.shorter);
      searching = order.search_shorter (Sought search) (sought_closed search) (get_or nodes m 0) (drop (suc m) (take n nodes)) split (rw last at d);
      below = remembers_less (omega arith) r;
      here = λ _. rw e r;
    }
      where
        inside : m < length nodes
        inside = omega (arith, w.shorter, w.input.within, w.input.bound_to_most, w.input.all_nodes)

        last : take len nodes ≡ take m nodes ++ get_or nodes m 0 ∷ []
        last = rw (← e) (take-suc nodes m 0 inside)

        t : List ℕ
        t = take n nodes

        split : take n nodes ≡ take m nodes ++ get_or nodes m 0 ∷ drop (suc m) (take n nodes)
        split =
            let b : m < length t = omega (arith, length-take-le n nodes (omega (arith, w.input.within, w.input.bound_to_most, w.input.all_nodes)), w.shorter) in
            let p : take m t ≡ take m nodes = take-take m n nodes (omega (arith, w.shorter)) in
            let x : get_or t m 0 ≡ get_or nodes m 0 = get_or-take n nodes m 0 (omega (arith, w.shorter)) in
            let r : drop m t ≡ get_or t m 0 ∷ drop (suc m) t = drop-cons t m 0 b in
            let whole : take m t ++ drop m t ≡ t = take-append-drop m t in
            cc
