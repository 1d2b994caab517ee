-- LAWS. The parts of the tables that belong to the levels.
use mathlib.Core.Path.{◌≡◌, refl, sym, ap, ◌∙◌}
use mathlib.Core.Logic.{◌⊎◌, inl, inr}
use mathlib.Core.Bool.{Bool, true, false}
use mathlib.Core.List.{List, [], ◌++◌, append_assoc}
use Prim.Native.Nat.{ℕ, zero, suc, ◌+◌, ◌-◌, ◌*◌, ◌≤◌, ◌<◌}
use native.Mathlib.Omega.{arith}
use lib.ListN.{length, take, drop, length-append, length-drop, take-append-drop}
use lib.Seq.{take-append-le, drop-append-le, drop-append-add, take_at, drop_at, length-take-le, drop-drop, take-take}
use Rattle.terms.specs.Tree.{depthAt, IsTree}
use Rattle.terms.specs.Form.{InForm}
use Rattle.terms.specs.Fleet.{most_nodes}
use Rattle.matching.specs.Limits.{most_nodes_of_a_pattern}
use Rattle.rightmost.specs.Counts.{top_of}
use Rattle.counts.specs.Gathering.{GatherInput, Gathered}
use Rattle.scan.proofs.ScanLaws.{front_length}
use Rattle.expansion.specs.Levels.{level_room, slot, count_room, places_of, PlacesAt, CountLevelInput}

-- a part of a list after other numbers were put in the place of n of them, from a on
abbrev pub pasted : (xs ys : List ℕ) (a n : ℕ) → List ℕ
pasted xs ys a n = take a xs ++ (ys ++ drop n (drop a xs))

pub pasted_there : (xs ys : List ℕ) (a n : ℕ) → length ys ≡ n → a ≤ length xs → take n (drop a (pasted xs ys a n)) ≡ ys
pasted_there xs ys a n e h = ap (take n) (drop_at (take a xs) (ys ++ drop n (drop a xs)) a (length-take-le a xs h)) ∙ take_at ys (drop n (drop a xs)) n e

before_part : (xs zs : List ℕ) (a c n : ℕ) → a ≤ length xs → c + n ≤ a → take n (drop c (take a xs ++ zs)) ≡ take n (drop c (take a xs))
before_part xs zs a c n h k =
    ap (take n) (drop-append-le c (take a xs) zs (omega (arith, length-take-le a xs h)))
    ∙ take-append-le n (drop c (take a xs)) zs (omega (arith, length-take-le a xs h, length-drop c (take a xs)))

pub pasted_before : (xs ys : List ℕ) (a n c m : ℕ) → a ≤ length xs → c + m ≤ a → take m (drop c (pasted xs ys a n)) ≡ take m (drop c xs)
pasted_before xs ys a n c m h k =
    before_part xs (ys ++ drop n (drop a xs)) a c m h k
    ∙ sym (ap (λ (zs : List ℕ). take m (drop c zs)) (sym (take-append-drop a xs)) ∙ before_part xs (drop a xs) a c m h k)

pub pasted_behind : (xs ys : List ℕ) (a n c : ℕ) → length ys ≡ n → a ≤ length xs → a + n ≤ c → take n (drop c (pasted xs ys a n)) ≡ take n (drop c xs)
pasted_behind xs ys a n c e h k = ap (take n) (go (c - (a + n)) (omega arith))
  where
    whole : pasted xs ys a n ≡ (take a xs ++ ys) ++ drop n (drop a xs)
    whole = sym (append_assoc (take a xs) ys (drop n (drop a xs)))

    long : length (take a xs ++ ys) ≡ a + n
    long = omega (arith, length-append (take a xs) ys, length-take-le a xs h)

    go : (m : ℕ) → c ≡ (a + n) + m → drop c (pasted xs ys a n) ≡ drop c xs
    go m q =
        rw (q, whole) (ap (λ (k : ℕ). drop (k + m) ((take a xs ++ ys) ++ drop n (drop a xs))) (sym long) ∙ drop-append-add (take a xs ++ ys) (drop n (drop a xs)) m
        ∙ ap (drop m) (drop-drop n a xs) ∙ drop-drop m (a + n) xs)

pub pasted_length : (xs ys : List ℕ) (a n : ℕ) → length ys ≡ n → a + n ≤ length xs → length (pasted xs ys a n) ≡ length xs
pasted_length xs ys a n e h = omega (arith, length-append (take a xs) (ys ++ drop n (drop a xs)), length-append ys (drop n (drop a xs)), length-take-le a xs (omega arith), length-drop n (drop a xs), length-drop a xs)

pub pasted_other : (xs ys : List ℕ) (a n c : ℕ) → length ys ≡ n → a ≤ length xs → (c + n ≤ a) ⊎ (a + n ≤ c) → take n (drop c (pasted xs ys a n)) ≡ take n (drop c xs)
pasted_other xs ys a n c e h (inl k) = pasted_before xs ys a n c n h k
pasted_other xs ys a n c e h (inr k) = pasted_behind xs ys a n c e h k

-- THE ROOM OF A LEVEL: no node of a tree is deeper than its number
depth_index : {s : List ℕ} → IsTree s → (i : ℕ) → i < length s → depthAt s i ≤ i
depth_index t zero h = omega (arith, t.root_depth)
depth_index t (suc i) h = omega (arith, t.later_to_next i h, depth_index t i (omega arith))

pub top_fits : (nodes : List ℕ) (n : ℕ) → n ≤ length nodes → (1 ≤ n → InForm (take n nodes)) → top_of (take n nodes) ≤ level_room n
top_fits nodes zero h f = omega arith
top_fits nodes (suc m) h f =
    let long = length-take-le (suc m) nodes h in
    omega (arith, long, depth_index (f (omega arith)).is_tree (length (take (suc m) nodes) - 1) (omega (arith, long)))

-- a level's part ends where the next one's begins, or before it, and within the table
pub slot_below : (k n : ℕ) → k < n → slot true k + level_room k ≤ slot true n
unfolding slot
slot_below k n h = let m = n - k - 1 in let e : n ≡ k + 1 + m = omega arith in omega (arith, ap (λ (z : ℕ). z * (z + 3) * 500) e)

pub slot_room : (kept : Bool) (n : ℕ) (counts : List ℕ) → n < most_nodes_of_a_pattern → length counts ≡ count_room kept → slot kept n + level_room n ≤ length counts
unfolding slot count_room
slot_room true n counts h e = let m = 15 - n in let d : 15 ≡ n + m = omega arith in omega (arith, ap (λ (z : ℕ). (z + 1) * (z + 4) * 500) d)
slot_room false n counts h e = omega arith

-- `slot_of`
pub slot_small : (n : ℕ) → n ≤ most_nodes_of_a_pattern → n * (n + 3) ≤ 304
slot_small n h = let m = 16 - n in let d : 16 ≡ n + m = omega arith in omega (arith, ap (λ (z : ℕ). z * (z + 3)) d)

pub slot_is : {kept : Bool} (n : ℕ) → kept ≡ true → slot kept n ≡ slot true n
slot_is n e = rw e refl

-- `count_level`: where the parts of level n end
pub some_pairs : {n : ℕ} → ¬ (n ≡ 0) → 1 ≤ n
some_pairs h = omega arith

pub counted_places_end : {fleet nodes parents numbers sizes places counts : List ℕ} {n count : ℕ} → CountLevelInput fleet nodes n parents numbers sizes places count counts → ¬ (n ≡ 0) → n * most_nodes + count ≤ length places
counted_places_end i h = omega (arith, (i.placed (some_pairs h)).few, i.all_places, i.few)

-- the first `count` places of level n, as the code cuts them out
pub cut_places : {fleet nodes places : List ℕ} {n count : ℕ} → PlacesAt fleet nodes places n count → take (n * most_nodes + count - n * most_nodes) (drop (n * most_nodes) places) ≡ take count (places_of places n)
cut_places {fleet} {nodes} {places} {n} {count} p =
    let e : n * most_nodes + count - n * most_nodes ≡ count = omega arith in
    rw e (sym (take-take count most_nodes (drop (n * most_nodes) places) p.few))

pub gather_input : {fleet nodes parents numbers sizes places counts : List ℕ} {n count : ℕ} → CountLevelInput fleet nodes n parents numbers sizes places count counts → ¬ (n ≡ 0)
    → GatherInput (take n nodes) fleet parents numbers sizes (take (n * most_nodes + count - n * most_nodes) (drop (n * most_nodes) places)) counts
gather_input {nodes = nodes} {n = n} i h =
    let within : n ≤ length nodes = omega (arith, i.all_nodes, i.few) in
    record {
      in_form = i.in_form (some_pairs h);
      few = omega (arith, front_length n nodes within, i.few);
      indexed = i.indexed;
      listed = rw (cut_places (i.placed (some_pairs h))) (i.placed (some_pairs h)).are;
      room = omega (arith, top_fits nodes n within i.in_form, i.room);
    }

pub labels_gathered : {fleet counts counts' : List ℕ} {n : ℕ} (nodes : List ℕ) → n ≡ 0 → Gathered [] fleet counts counts' → Gathered (take n nodes) fleet counts counts'
labels_gathered nodes z g = rw z g
