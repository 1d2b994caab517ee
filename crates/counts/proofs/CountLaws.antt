-- LAWS. The table of counts, from the places of the pattern's last node.
use mathlib.Core.Path.{◌≡◌, refl, ◌∙◌}
use mathlib.Core.List.{List}
use Prim.Native.Nat.{ℕ, zero, suc, ◌+◌, ◌≤◌, ◌<◌}
use native.Mathlib.Omega.{arith}
use lib.ListN.{length, get_or, replicate, length-replicate}
use Rattle.terms.specs.Tree.{depthAt}
use Rattle.terms.specs.Form.{InForm}
use Rattle.terms.specs.Fleet.{most_nodes}
use Rattle.rightmost.specs.Ends.{last_of}
use Rattle.rightmost.specs.NextPair.{MayComeNext}
use Rattle.rightmost.specs.Counts.{top_of}
use Rattle.rightmost.proofs.LevelLaws.{level_test}
use Rattle.rightmost.proofs.CountLaws.{counts_end}
use Rattle.branch.specs.Branch.{LevelsOf}
use Rattle.noting.specs.Noting.{PassesAt, PlaceNoted, LimitsToNote}
use Rattle.noting.proofs.GatherLaws.{Tested, GatheredTo, gather_start, next_input, gather_next}
use Rattle.counts.specs.Gathering.{GatherInput, PlacesToNote, Gathered}

pub zeros_at : (n x : ℕ) → ◌≡◌ {A = ℕ} (get_or (replicate n 0) x 0) 0
zeros_at zero x = refl
zeros_at (suc n) zero = refl
zeros_at (suc n) (suc x) = zeros_at n x

-- THE TEST of a level, by its limit
pub level_tested : {p fleet heaviest equal : List ℕ} → LevelsOf p heaviest equal → Tested (MayComeNext p) (PassesAt fleet heaviest equal) p fleet
level_tested l = record { test = λ {x} {b} {level} o e c. ((λ z. (level_test (l.each level b o) e c).0 z.by_limit), (λ z. record { by_limit = (level_test (l.each level b o) e c).1 z })) }

-- GATHERING (`note_places`): the first i places are done
pub record GatheringTo (p fleet parents numbers sizes places counts₀ last₀ heaviest equal seen counts last : List ℕ) (i : ℕ) : Type 0 where
  pub in_form : InForm p
  pub levels : LevelsOf p heaviest equal
  pub gathered : GatheredTo (MayComeNext p) (PassesAt fleet heaviest equal) p fleet parents numbers sizes places counts₀ last₀ seen counts last i

pub gathering_start : {p fleet parents numbers sizes places counts last heaviest equal : List ℕ} → PlacesToNote p fleet parents numbers sizes places counts last → LevelsOf p heaviest equal
    → GatheringTo p fleet parents numbers sizes places counts last heaviest equal (replicate 16 most_nodes) counts last 0
gathering_start i l = record {
  in_form = i.input.in_form;
  levels = l;
  gathered = gather_start (record {
    is_tree = i.input.in_form.is_tree;
    indexed = i.input.indexed;
    listed = i.input.listed;
    room_counts = i.input.room;
    room_last = i.room;
    none_counted = i.none_counted;
    none_noted = i.none_noted;
  }) (level_tested l);
}

module _ {p fleet parents numbers sizes places counts₀ last₀ heaviest equal seen counts last : List ℕ} {i : ℕ} (w : GatheringTo p fleet parents numbers sizes places counts₀ last₀ heaviest equal seen counts last i) where
  pub gathering_end : length places ≤ i → Gathered p fleet counts₀ counts
  gathering_end h =
      let g = w.gathered in
      let all : i ≡ length places = omega (arith, g.within) in
      record { as_long = g.as_long; are = counts_end w.in_form g.indexed.has_numbers.are g.listed (rw all at g.counts_from) }

  pub gathering_input : (h : i < length places) → LimitsToNote fleet parents sizes heaviest equal (get_or places i 0) (depthAt p (last_of p)) (get_or numbers (get_or places i 0) 0) seen counts last
  gathering_input h = record { at = next_input w.gathered h; small = w.levels.small }

  pub gathering_next : (h : i < length places) {seen' counts' last' : List ℕ}
      → PlaceNoted (PassesAt fleet heaviest equal) fleet (get_or places i 0) (depthAt p (last_of p)) (get_or numbers (get_or places i 0) 0) seen counts last seen' counts' last'
      → GatheringTo p fleet parents numbers sizes places counts₀ last₀ heaviest equal seen' counts' last' (i + 1)
  gathering_next h n = record { in_form = w.in_form; levels = w.levels; gathered = gather_next w.gathered h n }

-- `gather`: after `clear`, with a table of zeros for the vehicle noted last
pub places_to_note : {p fleet parents numbers sizes places counts₀ counts : List ℕ} {end : ℕ} (n : ℕ) → GatherInput p fleet parents numbers sizes places counts₀ → end ≡ top_of p
    → (length counts ≡ length counts₀) × ((x : ℕ) → x < end → get_or counts x 0 ≡ 0) → end ≤ n → PlacesToNote p fleet parents numbers sizes places counts (replicate n 0)
places_to_note n i e (l, z) h = record {
  input = record { in_form = i.in_form; few = i.few; indexed = i.indexed; listed = i.listed; room = omega (arith, i.room) };
  room = omega (arith, length-replicate {A = ℕ} n 0);
  none_counted = λ x b. z x (omega arith);
  none_noted = zeros_at n;
}

pub gathered_after : {p fleet counts₀ counts counts' : List ℕ} → length counts ≡ length counts₀ → Gathered p fleet counts counts' → Gathered p fleet counts₀ counts'
gathered_after l g = record { as_long = g.as_long ∙ l; are = g.are }
