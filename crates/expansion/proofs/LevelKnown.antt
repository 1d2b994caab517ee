-- LAWS. The counts of a level are known, or are made; where they are kept, those of the levels below stay.
use mathlib.Core.Path.{◌≡◌, refl, sym, ◌∙◌}
use mathlib.Core.Bool.{Bool, true, false}
use mathlib.Core.List.{List}
use Prim.Native.Nat.{ℕ, suc, ◌+◌, ◌-◌, ◌≤◌, ◌<◌}
use native.Mathlib.Omega.{arith}
use native.Mathlib.Decide.{ℕ_discrete}
use lib.ListN.{length, get_or, take, drop, set, length-set, length-drop}
use lib.Seq.{get_or-set_other, length-take-le}
use Rattle.rightmost.specs.Counts.{Counts}
use Rattle.counts.specs.Gathering.{Gathered}
use Rattle.scan.specs.Scan.{KnownCounts}
use Rattle.expansion.specs.Levels.{tables_if, level_room, slot, count_room, counts_at, counts_of, LevelInput, CountLevelInput, Remembers}
use Rattle.expansion.proofs.LevelTables.{pasted, pasted_there, pasted_before, pasted_length, top_fits, slot_below, slot_room, slot_is}

-- the tables after that, with other counts
pub record Known (fleet nodes : List ℕ) (n : ℕ) (kept : Bool) (parents numbers sizes places lens counts : List ℕ) (counts' : List ℕ) (known' : List Bool) : Type 0 where
  pub same_length : length counts' ≡ length counts
  pub are : Counts (take n nodes) fleet (counts_at counts' (slot kept n) n)
  pub remembers : Remembers fleet nodes (suc n) (tables_if kept parents numbers sizes places lens counts' known')

-- the level's part, as the code cuts it out
abbrev pub cut_counts : (counts : List ℕ) (at n : ℕ) → List ℕ
cut_counts counts at n = take (at + level_room n - at) (drop at counts)

pub cut_is : (counts : List ℕ) (at n : ℕ) → cut_counts counts at n ≡ counts_at counts at n
cut_is counts at n = let e : at + level_room n - at ≡ level_room n = omega arith in rw e refl

module _ {fleet nodes parents numbers sizes places lens counts : List ℕ} {known : List Bool} {kept : Bool} {n threshold : ℕ} (i : LevelInput fleet nodes n threshold (tables_if kept parents numbers sizes places lens counts known)) where
  pub room_at : slot kept n + level_room n ≤ length counts
  room_at = slot_room kept n counts i.room i.remembers.all.all_counts

  pub end_small : slot kept n + level_room n ≤ 152000
  unfolding count_room
  end_small = go kept i.remembers.all.all_counts room_at
    where
      go : (b : Bool) → length counts ≡ count_room b → slot kept n + level_room n ≤ length counts → slot kept n + level_room n ≤ 152000
      go true e h = omega arith
      go false e h = omega arith

  part_long : length (counts_at counts (slot kept n) n) ≡ level_room n
  part_long = length-take-le (level_room n) (drop (slot kept n) counts) (omega (arith, length-drop (slot kept n) counts, room_at))

  pub count_input : CountLevelInput fleet nodes n parents numbers sizes places (get_or lens n 0) (cut_counts counts (slot kept n) n)
  count_input = record {
    indexed = i.remembers.all.indexed;
    all_places = i.remembers.all.all_places;
    all_nodes = i.all_nodes;
    few = i.room;
    in_form = i.in_form;
    placed = λ h. i.remembers.placed n h (omega arith);
    room = rw (cut_is counts (slot kept n) n) (omega (arith, part_long));
  }

  pub already : kept ≡ true → get_or known n false ≡ true → Known fleet nodes n kept parents numbers sizes places lens counts counts known
  already k e = record { same_length = refl; are = rw (slot_is n k) (i.remembers.counted k n (omega arith) e); remembers = i.remembers }

  pub made_now : {ys : List ℕ} → Gathered (take n nodes) fleet (cut_counts counts (slot kept n) n) ys
      → Known fleet nodes n kept parents numbers sizes places lens counts (pasted counts ys (slot kept n) (slot kept n + level_room n - slot kept n)) (set known n true)
  made_now {ys} g =
      let size : slot kept n + level_room n - slot kept n ≡ level_room n = omega arith in
      rw size
      (record {
        same_length = all_counts;
        are = made;
        remembers = record {
          all = record {
            indexed = i.remembers.all.indexed;
            all_places = i.remembers.all.all_places;
            all_lens = i.remembers.all.all_lens;
            all_counts = all_counts ∙ i.remembers.all.all_counts;
            all_known = length-set known n true ∙ i.remembers.all.all_known;
          };
          placed = i.remembers.placed;
          counted = λ q k h e. go q k h e (ℕ_discrete k n);
        };
      })
    where
      counts' : List ℕ
      counts' = pasted counts ys (slot kept n) (level_room n)

      long : length ys ≡ level_room n
      long = (rw (cut_is counts (slot kept n) n) at g.as_long) ∙ part_long

      within : slot kept n ≤ length counts
      within = omega (arith, room_at)

      all_counts : length (pasted counts ys (slot kept n) (level_room n)) ≡ length counts
      all_counts = pasted_length counts ys (slot kept n) (level_room n) long room_at

      made : Counts (take n nodes) fleet (counts_at (pasted counts ys (slot kept n) (level_room n)) (slot kept n) n)
      made = rw (pasted_there counts ys (slot kept n) (level_room n) long within) g.are

      stays : kept ≡ true → (k : ℕ) → k < n → counts_of (pasted counts ys (slot kept n) (level_room n)) k ≡ counts_of counts k
      stays q k h = pasted_before counts ys (slot kept n) (level_room n) (slot true k) (level_room k) within (rw (slot_is n q) (slot_below k n h))

      go : kept ≡ true → (k : ℕ) → k < suc n → get_or (set known n true) k false ≡ true → Dec (k ≡ n) → Counts (take k nodes) fleet (counts_of (pasted counts ys (slot kept n) (level_room n)) k)
      go q k h e (yes d) = rw (d, ← slot_is n q) made
      go q k h e (no d) = rw (stays q k (omega arith)) (i.remembers.counted q k h (sym (get_or-set_other known n k true false d) ∙ e))

  pub still_room : {counts' : List ℕ} {known' : List Bool} → Known fleet nodes n kept parents numbers sizes places lens counts counts' known' → slot kept n + level_room n ≤ length counts'
  still_room k = omega (arith, room_at, k.same_length)

  pub scan_input : {counts' : List ℕ} {known' : List Bool} → Known fleet nodes n kept parents numbers sizes places lens counts counts' known' → KnownCounts fleet nodes n threshold (cut_counts counts' (slot kept n) n)
  scan_input {counts'} k = rw (cut_is counts' (slot kept n) n) (record {
    all_nodes = i.all_nodes;
    few = omega (arith, i.room);
    from_1 = i.from_1;
    room = omega (arith, top_fits nodes n (omega (arith, i.all_nodes, i.room)) i.in_form, length-take-le (level_room n) (drop (slot kept n) counts') (omega (arith, length-drop (slot kept n) counts', room_at, k.same_length)));
    are = k.are;
  })
