-- LAWS. The tables from level to level.
use mathlib.Core.Path.{◌≡◌, sym, ap, ◌∙◌}
use mathlib.Core.Bool.{Bool, true, false}
use mathlib.Core.List.{List}
use Prim.Native.Nat.{ℕ, suc, ◌+◌, ◌-◌, ◌≤◌, ◌<◌}
use native.Mathlib.Omega.{arith}
use native.Mathlib.Decide.{ℕ_discrete}
use lib.ListN.{length, get_or, take, set, length-set, length-replicate, replicate}
use lib.Seq.{get_or-set_same, get_or-set_other, length-take-le, take-take}
use Rattle.terms.specs.Form.{InForm}
use Rattle.terms.proofs.BeginningLaws.{beginning_in_form}
use Rattle.matching.specs.Limits.{most_nodes_of_a_pattern}
use Rattle.rightmost.specs.Counts.{Counts}
use Rattle.index.specs.Index.{Indexed, IndexInput}
use Rattle.expansion.specs.Levels.{tables_if, count_room, counts_of, PlacesAt, Remembers, EnterInput, Entered}
use Rattle.expansion.specs.Making.{ReachInput, MakeInput}

truth : Bool → ℕ
truth true = 1
truth false = 0

-- what is not known is not said to be
not_known : {b : Bool} → b ≡ false → b ≡ true → ⊥
unfolding truth
not_known e f = let z : ◌≡◌ {A = ℕ} 0 1 = ap truth (sym e ∙ f) in omega arith

-- the counts of the level that is reached are not known, those below stay
module _ {fleet nodes : List ℕ} {n : ℕ} {parents numbers sizes places lens counts : List ℕ} {known : List Bool} {kept : Bool} (room : n < most_nodes_of_a_pattern)
    (m : Remembers fleet nodes n (tables_if kept parents numbers sizes places lens counts known)) where
  counted_below : kept ≡ true → (k : ℕ) → k < suc n → get_or (set known n false) k false ≡ true → Counts (take k nodes) fleet (counts_of counts k)
  counted_below kept k h e = go (ℕ_discrete k n)
    where
      go : Dec (k ≡ n) → Counts (take k nodes) fleet (counts_of counts k)
      go (yes q) = absurd (not_known (get_or-set_same known n false false (omega (arith, m.all.all_known))) (rw q at e))
      go (no q) = m.counted kept k (omega arith) (sym (get_or-set_other known n k false false q) ∙ e)

  pub reach_nothing : n ≡ 0 → Remembers fleet nodes (suc n) (tables_if kept parents numbers sizes places lens counts (set known n false))
  reach_nothing e = record {
    all = record { indexed = m.all.indexed; all_places = m.all.all_places; all_lens = m.all.all_lens; all_counts = m.all.all_counts; all_known = length-set known n false ∙ m.all.all_known };
    placed = λ k a b. absurd (omega arith);
    counted = counted_below;
  }

  pub reach_enter : {places' : List ℕ} {count : ℕ} → Entered fleet nodes n places places' count → Remembers fleet nodes (suc n) (tables_if kept parents numbers sizes places' (set lens n count) counts (set known n false))
  reach_enter {places'} {count} r = record {
    all = record {
      indexed = m.all.indexed;
      all_places = r.all_places ∙ m.all.all_places;
      all_lens = length-set lens n count ∙ m.all.all_lens;
      all_counts = m.all.all_counts;
      all_known = length-set known n false ∙ m.all.all_known;
    };
    placed = λ k a b. go k a b (ℕ_discrete k n);
    counted = counted_below;
  }
    where
      go : (k : ℕ) → 1 ≤ k → k < suc n → Dec (k ≡ n) → PlacesAt fleet nodes places' k (get_or (set lens n count) k 0)
      go k a b (yes q) = rw (q, get_or-set_same lens n count 0 (omega (arith, m.all.all_lens))) r.made
      go k a b (no q) =
          let old = m.placed k a (omega arith) in
          rw (get_or-set_other lens n k count 0 q) (record { few = old.few; are = rw (r.others k q) old.are })

pub enter_input : {fleet nodes : List ℕ} {n : ℕ} {parents sizes places lens : List ℕ} {known : List Bool} → ReachInput fleet nodes n parents sizes places lens known → ¬ (n ≡ 0)
    → EnterInput fleet nodes n parents sizes places (get_or lens (n - 1) 0)
enter_input i some = let t = i.remembers.all in record {
  is_fleet = t.indexed.is_fleet;
  has_parents = t.indexed.has_parents;
  has_sizes = t.indexed.has_sizes;
  all_places = t.all_places;
  all_nodes = i.all_nodes;
  some = omega arith;
  room = i.room;
  in_form = i.in_form (omega arith);
  before = λ h. i.remembers.placed _ (omega arith) (omega arith);
}

-- `make`: the levels so far
pub record MadeTo (fleet nodes : List ℕ) (n level : ℕ) (parents numbers sizes places lens : List ℕ) (known : List Bool) : Type 0 where
  pub all_nodes : length nodes ≡ most_nodes_of_a_pattern
  pub few : n ≤ most_nodes_of_a_pattern
  pub in_form : 1 ≤ n → InForm (take n nodes)
  pub to_end : level ≤ n
  pub made : (kept : Bool) (counts : List ℕ) → length counts ≡ count_room kept → Remembers fleet nodes level (tables_if kept parents numbers sizes places lens counts known)

pub index_input : {fleet nodes : List ℕ} {n : ℕ} {parents numbers sizes places lens : List ℕ} {known : List Bool} → MakeInput fleet nodes n parents numbers sizes places lens known → IndexInput fleet parents numbers sizes
index_input i = record { is_fleet = i.is_fleet; all_parents = i.all_parents; all_numbers = i.all_numbers; all_sizes = i.all_sizes }

pub made_none : {fleet nodes : List ℕ} {n : ℕ} {parents numbers sizes parents' numbers' sizes' places lens : List ℕ} {known : List Bool} → MakeInput fleet nodes n parents numbers sizes places lens known → Indexed fleet parents' numbers' sizes'
    → MadeTo fleet nodes n 0 parents' numbers' sizes' places lens known
made_none i x = record {
  all_nodes = i.all_nodes;
  few = i.few;
  in_form = i.in_form;
  to_end = omega arith;
  made = λ kept counts h. record {
    all = record { indexed = x; all_places = i.all_places; all_lens = i.all_lens; all_counts = h; all_known = i.all_known };
    placed = λ k a b. absurd (omega arith);
    counted = λ kept k b. absurd (omega arith);
  };
}

zeros : List ℕ
zeros = replicate 152000 0

all_zeros : length zeros ≡ count_room true
unfolding zeros count_room
all_zeros = let z : ℕ = 0 in length-replicate 152000 z

shorter_form : (nodes : List ℕ) (n level : ℕ) → length nodes ≡ most_nodes_of_a_pattern → n ≤ most_nodes_of_a_pattern → level < n → InForm (take n nodes) → 1 ≤ level → InForm (take level nodes)
shorter_form nodes n level all few h f some = go (level - 1) (omega arith)
  where
    go : (m : ℕ) → suc m ≡ level → InForm (take level nodes)
    go m e = rw (e, take-take level n nodes (omega arith)) at (beginning_in_form (take n nodes) m (omega (arith, length-take-le n nodes (omega arith))) f)

pub reach_input : {fleet nodes : List ℕ} {n level : ℕ} {parents numbers sizes places lens : List ℕ} {known : List Bool} → MadeTo fleet nodes n level parents numbers sizes places lens known → level < n → ReachInput fleet nodes level parents sizes places lens known
reach_input {numbers = numbers} w h = record {
  all_nodes = w.all_nodes;
  room = omega (arith, w.few);
  in_form = λ some. shorter_form _ _ _ w.all_nodes w.few h (w.in_form (omega arith)) some;
  numbers = numbers;
  counts = zeros;
  kept = true;
  remembers = w.made true zeros all_zeros;
}

pub made_more : {fleet nodes : List ℕ} {n level : ℕ} {parents numbers sizes places lens places' lens' : List ℕ} {known known' : List Bool} → MadeTo fleet nodes n level parents numbers sizes places lens known → level < n
    → ((kept : Bool) (numbers counts : List ℕ) → Remembers fleet nodes level (tables_if kept parents numbers sizes places lens counts known) → Remembers fleet nodes (suc level) (tables_if kept parents numbers sizes places' lens' counts known'))
    → MadeTo fleet nodes n (level + 1) parents numbers sizes places' lens' known'
made_more {level = level} {numbers = numbers} w h f =
    let e : suc level ≡ level + 1 = omega arith in
    record { all_nodes = w.all_nodes; few = w.few; in_form = w.in_form; to_end = omega arith; made = λ kept counts k. rw e at (f kept numbers counts (w.made kept counts k)) }

pub same_places : {fleet nodes : List ℕ} {n level : ℕ} {parents numbers sizes parents' numbers' sizes' places lens places' lens' : List ℕ} {known known' : List Bool} → MakeInput fleet nodes n parents numbers sizes places lens known
    → MadeTo fleet nodes n level parents' numbers' sizes' places' lens' known' → length places' ≡ length places
same_places i w = (w.made true zeros all_zeros).all.all_places ∙ sym i.all_places

pub made_all : {fleet nodes : List ℕ} {n level : ℕ} {parents numbers sizes places lens : List ℕ} {known : List Bool} → MadeTo fleet nodes n level parents numbers sizes places lens known → n ≤ level
    → (kept : Bool) (counts : List ℕ) → length counts ≡ count_room kept → Remembers fleet nodes n (tables_if kept parents numbers sizes places lens counts known)
made_all {n = n} {level = level} w h kept counts k = let e : level ≡ n = omega (arith, w.to_end) in rw e at (w.made kept counts k)
