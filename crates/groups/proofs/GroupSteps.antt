-- LAWS. Places that have one parent: where they end in a list, found by halves; a part of a list put behind another.
use mathlib.Core.Path.{◌≡◌, refl, sym, ap, ◌∙◌}
use mathlib.Core.Logic.{◌≢◌}
use mathlib.Core.List.{List, [], ◌++◌, append-nil}
use Prim.Native.Nat.{ℕ, ◌+◌, ◌-◌, ◌/◌, ◌≤◌, ◌<◌}
use native.Mathlib.Omega.{arith}
use lib.ListN.{length, get_or, take, drop, drop_of_length-le}
use lib.Seq.{slice, length-slice}
use borrow.Rule.Slice.PartMut.{put_mid, mid_of, same_len_mid}
use Rattle.std.specs.List.{between}
use Rattle.std.proofs.lemmas.List.Edits.{length-between}
use Rattle.std.proofs.lemmas.Slice.{between_is, take-put_mid}
use Rattle.terms.specs.Fleet.{most_nodes}
use Rattle.groups.specs.Putting.{PutBehind}
use Rattle.groups.specs.Groups.{parent_of, GroupsInput, GroupWithin, Group, PartInput, KeepInput, siblings, LargeGroups, none, large, small}

-- BY HALVES
module _ {parents places : List ℕ} {first low high : ℕ} (g : GroupWithin parents places first low high) where
  module _ (h : 1 < high - low) where
    abbrev middle : ℕ
    middle = low + (high - low) / 2

    pub middle_in : middle < length places
    middle_in = omega (arith, g.within)

    pub upper_half : parent_of parents places middle ≡ parent_of parents places first → GroupWithin parents places first middle high
    upper_half e = record { input = g.input; from = omega (arith, g.from); order = omega arith; within = g.within; same = e; other = g.other }

    pub lower_half : parent_of parents places middle ≢ parent_of parents places first → GroupWithin parents places first low middle
    lower_half n = record { input = g.input; from = g.from; order = omega arith; within = omega (arith, middle_in); same = g.same; other = λ _. n }

-- BY STEPS THAT DOUBLE
pub record DoubledTo (parents places : List ℕ) (first parent low high : ℕ) : Type 0 where
  pub input : GroupsInput parents places
  pub is_parent : parent ≡ parent_of parents places first
  pub from : first ≤ low
  pub order : low < high
  pub within : low < length places
  pub not_far : high ≤ low + (low - first) + 1
  pub same : parent_of parents places low ≡ parent_of parents places first

module _ {parents places : List ℕ} {first parent low high : ℕ} (r : DoubledTo parents places first parent low high) where
  pub passed : high < length places → get_or parents (get_or places high 0) 0 ≢ parent → GroupWithin parents places first low high
  passed h n = record { input = r.input; from = r.from; order = r.order; within = omega arith; same = r.same; other = λ _ e. n (e ∙ sym r.is_parent) }

-- A PART
pub part_put : {places : List ℕ} {first end : ℕ} {list : List ℕ} {len : ℕ} {part : List ℕ} → PartInput places first end list len → part ≡ between first end places ++ drop (length (between first end places)) (mid_of len (len + (end - first) - len) list) → PutBehind list len (slice first end places) (put_mid len (len + (end - first) - len) list part) (len + (end - first))
part_put {places} {first} {end} {list} {len} {part} p e = record {
  same_length = same_len_mid len (len + (end - first) - len) list part (omega (arith, ap length all, long, room));
  as_many = omega (arith, length-slice first end places p.within);
  put = take-put_mid len (len + (end - first) - len) list part (len + (end - first)) (omega (arith, ap length all, long)) (omega (arith, p.order, p.no_further, p.within, p.few, p.room)) ∙ ap (λ (l : List ℕ). take len list ++ l) (all ∙ between_is places first end);
}
  where
    long : length (between first end places) ≡ end - first
    long = length-between places first end p.within

    room : length (mid_of len (len + (end - first) - len) list) ≡ len + (end - first) - len
    room = length-between list len (len + (end - first)) (omega (arith, p.order, p.no_further, p.within, p.few, p.room))

    none_left : drop (length (between first end places)) (mid_of len (len + (end - first) - len) list) ≡ []
    none_left = drop_of_length-le (mid_of len (len + (end - first) - len) list) {i = length (between first end places)} (omega (arith, long, room))

    all : part ≡ between first end places
    all = e ∙ ap (λ (l : List ℕ). between first end places ++ l) none_left ∙ append-nil (between first end places)

-- GROUP BY GROUP
pub no_more : {a b : ℕ} → ¬ (a < b) → b ≤ a
no_more n = omega arith

pub record KeptTo (equal : ℕ) (fleet parents sizes old new₀ new : List ℕ) (len i : ℕ) : Type 0 where
  pub input : KeepInput fleet parents sizes old
  pub room : most_nodes ≤ length new₀
  pub same_length : length new ≡ length new₀
  pub within : i ≤ length old
  pub no_further : len ≤ i
  pub are : LargeGroups fleet parents old equal i (take len new)

pub kept_start : (equal : ℕ) {fleet parents sizes old new : List ℕ} → KeepInput fleet parents sizes old → most_nodes ≤ length new → KeptTo equal fleet parents sizes old new new 0 0
kept_start equal g h = record { input = g; room = h; same_length = refl; within = omega arith; no_further = omega arith; are = none }

module _ {equal : ℕ} {fleet parents sizes old new₀ new : List ℕ} {len i : ℕ} (r : KeptTo equal fleet parents sizes old new₀ new len i) where
  module _ {end : ℕ} (g : Group parents old i end) where
    pub group_order : i ≤ end
    group_order = omega (arith, g.from)

    pub kept_more : {new' : List ℕ} {len' : ℕ} → equal < siblings fleet parents old i → PutBehind new len (slice i end old) new' len' → KeptTo equal fleet parents sizes old new₀ new' len' end
    kept_more h p = record {
      input = r.input;
      room = r.room;
      same_length = p.same_length ∙ r.same_length;
      within = g.within;
      no_further = omega (arith, p.as_many, length-slice i end old g.within, r.no_further, group_order);
      are = rw p.put (large g h r.are);
    }

    pub kept_less : siblings fleet parents old i ≤ equal → KeptTo equal fleet parents sizes old new₀ new len end
    kept_less h = record { input = r.input; room = r.room; same_length = r.same_length; within = g.within; no_further = omega (arith, r.no_further, group_order); are = small g h r.are }
