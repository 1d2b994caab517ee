-- LAWS. The list of places of the longer pattern, made from that of the pattern: from place to place, and its end.
use mathlib.Core.Path.{◌≡◌, refl, sym, ap, ◌∙◌}
use mathlib.Core.Logic.{◌≢◌, ◌⊎◌, ⊎_elim}
use mathlib.Core.List.{List, [], ◌++◌}
use Prim.Native.Nat.{ℕ, zero, suc, ◌+◌, ◌-◌, ◌%◌, ◌≤◌, ◌<◌}
use native.Mathlib.Omega.{arith}
use native.Mathlib.Decide.{dec_lt}
use lib.ListN.{length, get_or, length-append, get_or-append}
use lib.Seq.{get_or-append-add}
use Rattle.terms.specs.Tree.{depthAt, IsTree}
use Rattle.terms.specs.Matching.{placeAt}
use Rattle.rightmost.specs.Ends.{PlacedAt, LastPlace, last_of, Up, IsChild, children, NewChild, Seated, LeavesOnly}
use Rattle.rightmost.specs.PlaceList.{Rising, Before, Places, Kids, steps_to, PlacesFrom}
use Rattle.rightmost.proofs.UpLaws.{up_unique}
use Rattle.rightmost.proofs.BranchLaws.{placed_maps, branch_place, branch_root}
use Rattle.rightmost.proofs.LongerLaws.{longer, longer_end, depth_last}
use Rattle.rightmost.proofs.SupportByPlaces.{spare_exactly}
use Rattle.rightmost.proofs.SeatLaws.{last_by_seats, seats_leaves}
use Rattle.rightmost.proofs.LastPlaceLaws.{places_exactly}
use Rattle.rightmost.proofs.PlaceOrder.{up_split, before_trans, before_up, before_child, before_siblings}

-- two lists end to end
left_at : (u v : List ℕ) (i : ℕ) → i < length u → get_or (u ++ v) i 0 ≡ get_or u i 0
left_at u v i h = get_or-append u v 0 i h

right_at : (u v : List ℕ) (i : ℕ) → length u ≤ i → get_or (u ++ v) i 0 ≡ get_or v (i - length u) 0
right_at u v i h = let e : length u + (i - length u) ≡ i = omega arith in ap (λ (j : ℕ). get_or (u ++ v) j 0) (sym e) ∙ get_or-append-add u v (i - length u) 0

-- THE KIDS of a place d of b, in the ways of the search

-- d has no child to spare: none
pub kids_none : {p q : List ℕ} {x b d : ℕ} → NewChild p x b → PlacedAt p q b d → ¬ (children p b (x % 1000) < children q d (x % 1000)) → Kids p q b d (x % 1000) []
kids_none {p} {q} {x} {b} {d} e z n = record { each = λ i h. absurd (omega arith); none_missing = λ w c s. absurd (n (more w c s)); rising = λ i j a h. absurd (omega arith) }
  where
    more : (w : ℕ) → IsChild q d (x % 1000) w → Seated p q b d (x % 1000) w → children p b (x % 1000) < children q d (x % 1000)
    more w c s = let r = (last_by_seats e).1 (z, c, s) in ((spare_exactly e).0 (record { tuple = r.tuple; placing = r.placing; there = r.there })).1

all_kids : {p q : List ℕ} {b d l : ℕ} {kids : List ℕ} → ((w : ℕ) → IsChild q d l w → Seated p q b d l w) → Rising q d l kids → Kids p q b d l kids
all_kids f r = record { each = λ i h. (r.each i h, f _ (r.each i h)); none_missing = λ w c _. r.none_missing w c; rising = r.rising }

pub kids_leaves : (p q : List ℕ) (b d l : ℕ) (kids : List ℕ) → IsTree p → b < length p → PlacedAt p q b d → LeavesOnly p b l → children p b l < children q d l → Rising q d l kids → Kids p q b d l kids
kids_leaves p q b d l kids t h z f n r = all_kids (λ w c. seats_leaves t h (placed_maps z) c f n) r

-- FROM PLACE TO PLACE
pub from_none : (p : List ℕ) (x b : ℕ) (q old : List ℕ) → PlacesFrom p x b q old 0 []
from_none p x b q old = record { each = λ m h. absurd (omega arith); none_missing = λ k d w h. absurd (omega arith); in_order = λ i j a h. absurd (omega arith) }

-- the next place has an ancestor that was there: nothing new
pub from_again : {p : List ℕ} {x b : ℕ} {q old : List ℕ} {n : ℕ} {new : List ℕ} (m d : ℕ) → m < n → Up q d (steps_to p b) (get_or old m 0) → Up q d (steps_to p b) (get_or old n 0) → PlacesFrom p x b q old n new → PlacesFrom p x b q old (suc n) new
from_again {p} {x} {b} {q} {old} {n} {new} m d h u u' f = record {
  each = λ i l. let z = f.each i l in let y = z.2 in (z.0, z.1, omega arith, z.3, z.4, z.5);
  none_missing = λ k c w l v e s. at k c w l v e s (dec_lt k n);
  in_order = f.in_order;
}
  where
    at : (k c w : ℕ) → k < suc n → Up q c (steps_to p b) (get_or old k 0) → IsChild q c (x % 1000) w → Seated p q b c (x % 1000) w → Dec (k < n) → (i : ℕ) × (i < length new) × (get_or new i 0 ≡ w)
    at k c w l v e s (yes r) = f.none_missing k c w r v e s
    at k c w l v e s (no r) =
        let y : k ≡ n = omega arith in
        let z : c ≡ d = up_unique (rw y at v) u' in
        f.none_missing m d w h u (rw z at e) (rw z at s)

-- its ancestor is another than that of the place before: its kids are new
pub from_more : {p : List ℕ} {x b : ℕ} {q old : List ℕ} {n : ℕ} {new kids : List ℕ} (d : ℕ) → NewChild p x b → Places p q old → n < length old → Up q d (steps_to p b) (get_or old n 0)
    → ((m c : ℕ) → suc m ≡ n → Up q c (steps_to p b) (get_or old m 0) → c ≢ d) → Kids p q b d (x % 1000) kids → PlacesFrom p x b q old n new → PlacesFrom p x b q old (suc n) (new ++ kids)
from_more {p} {x} {b} {q} {old} {n} {new} {kids} d e places inside u other kid f = record { each = λ m h. each m h (dec_lt m (length new)); none_missing = λ k c w l v r s. missing k c w l v r s (dec_lt k n); in_order = λ i j a h. order i j a h (dec_lt i (length new)) (dec_lt j (length new)) }
  where
    len : length (new ++ kids) ≡ length new + length kids
    len = length-append new kids

    D : ℕ
    D = depthAt p (last_of p)

    e_b : depthAt p b ≤ D
    e_b = e.on_branch.no_deeper

    back : D - steps_to p b ≡ depthAt p b
    back = omega (arith, e_b)

    each : (m : ℕ) → m < length (new ++ kids) → Dec (m < length new) → (k c : ℕ) × (k < suc n) × Up q c (steps_to p b) (get_or old k 0) × IsChild q c (x % 1000) (get_or (new ++ kids) m 0) × Seated p q b c (x % 1000) (get_or (new ++ kids) m 0)
    each m h (yes l) = let z = f.each m l in let y = z.2 in let w = left_at new kids m l in (z.0, z.1, omega arith, z.3, rw w z.4, rw w z.5)
    each m h (no l) = let z = kid.each (m - length new) (omega (arith, len)) in let w = right_at new kids m (omega arith) in (n, d, omega arith, u, rw w z.0, rw w z.1)

    there : (w : ℕ) → (i : ℕ) × (i < length kids) × (get_or kids i 0 ≡ w) → (i : ℕ) × (i < length (new ++ kids)) × (get_or (new ++ kids) i 0 ≡ w)
    there w z = let h = z.1 in (length new + z.0, omega (arith, len), get_or-append-add new kids z.0 0 ∙ z.2)

    missing : (k c w : ℕ) → k < suc n → Up q c (steps_to p b) (get_or old k 0) → IsChild q c (x % 1000) w → Seated p q b c (x % 1000) w → Dec (k < n) → (i : ℕ) × (i < length (new ++ kids)) × (get_or (new ++ kids) i 0 ≡ w)
    missing k c w l v r s (yes a) = let z = f.none_missing k c w a v r s in let y = z.1 in (z.0, omega (arith, len), left_at new kids z.0 y ∙ z.2)
    missing k c w l v r s (no a) =
        let y : k ≡ n = omega arith in
        let same : c ≡ d = up_unique (rw y at v) u in
        there w (kid.none_missing w (rw same at r) (rw same at s))

    -- an ancestor of an earlier place comes before d
    earlier : (k c : ℕ) → k < n → Up q c (steps_to p b) (get_or old k 0) → Before q (depthAt p b) c d
    earlier k c l v = last n refl
      where
        step : (i j c c' : ℕ) → i < j → j < length old → Up q c (steps_to p b) (get_or old i 0) → Up q c' (steps_to p b) (get_or old j 0) → (c ≡ c') ⊎ Before q (depthAt p b) c c'
        step i j c c' a h v v' = rw back at (before_up (places.in_order i j a h) (omega arith) v v')

        last : (i : ℕ) → n ≡ i → Before q (depthAt p b) c d
        last zero r = absurd (omega arith)
        last (suc i) r = go (dec_lt k i)
          where
            -- the ancestor of the place just before
            near : (c' : ℕ) → Up q c' (steps_to p b) (get_or old i 0) → Before q (depthAt p b) c' d
            near c' v' = ⊎_elim (λ y. absurd (other i c' (sym r) v' y)) (λ y. y) (step i n c' d (omega arith) inside v' u)

            own : (z : LastPlace p q (get_or old i 0)) → (c' : ℕ) × Up q c' (steps_to p b) (get_or old i 0)
            own z = let here : placeAt z.tuple (last_of p) ≡ get_or old i 0 = omega (arith, z.there) in (placeAt z.tuple b, rw here at (branch_place e.is_tree e.on_branch z.placing))

            up_i : (c' : ℕ) × Up q c' (steps_to p b) (get_or old i 0)
            up_i = own (places.each i (omega arith))

            go : Dec (k < i) → Before q (depthAt p b) c d
            go (yes a) = ⊎_elim (λ y. rw y (near up_i.0 up_i.1)) (λ y. before_trans y (near up_i.0 up_i.1)) (step k i c up_i.0 a (omega arith) v up_i.1)
            go (no a) = let y : k ≡ i = omega arith in near c (rw y at v)

    root_of_d : (r : ℕ) × Up q r (depthAt p b) d
    root_of_d =
        let z = places.each n inside in
        let here : placeAt z.tuple (last_of p) ≡ get_or old n 0 = omega (arith, z.there) in
        let y : Up q (placeAt z.tuple 0) (D - 0) (get_or old n 0) = rw here at (branch_place e.is_tree (branch_root p e.is_tree) z.placing) in
        let w : Up q (placeAt z.tuple 0) (D - 0 - steps_to p b) d = up_split u y (omega arith) in
        let r : D - 0 - steps_to p b ≡ depthAt p b = omega (arith, e_b) in
        (placeAt z.tuple 0, rw r at w)

    order : (i j : ℕ) → i < j → j < length (new ++ kids) → Dec (i < length new) → Dec (j < length new) → Before q (suc (depthAt p b)) (get_or (new ++ kids) i 0) (get_or (new ++ kids) j 0)
    order i j a h (yes l) (yes m) = rw (left_at new kids i l, left_at new kids j m) (f.in_order i j a m)
    order i j a h (yes l) (no m) =
        let z = f.each i l in
        let y = kid.each (j - length new) (omega (arith, len)) in
        rw (left_at new kids i l, right_at new kids j (omega arith)) (before_child (earlier z.0 z.1 z.2 z.3) z.4.0 y.0.0)
    order i j a h (no l) (yes m) = absurd (omega arith)
    order i j a h (no l) (no m) =
        let z = kid.each (i - length new) (omega (arith, len)) in
        let y = kid.each (j - length new) (omega (arith, len)) in
        rw (right_at new kids i (omega arith), right_at new kids j (omega arith)) (before_siblings root_of_d.1 z.0.0 y.0.0 (kid.rising (i - length new) (j - length new) (omega arith) (omega (arith, len))))

-- AT THE END: all the places of the longer pattern
pub from_all : {p : List ℕ} {x b : ℕ} {q old new : List ℕ} → NewChild p x b → Places p q old → PlacesFrom p x b q old (length old) new → Places (longer p x) q new
from_all {p} {x} {b} {q} {old} {new} e places f = record { each = each; none_missing = missing; in_order = λ i j a h. rw depth (f.in_order i j a h) }
  where
    depth : depthAt (longer p x) (last_of (longer p x)) ≡ suc (depthAt p b)
    depth = ap (depthAt (longer p x)) (longer_end p x) ∙ depth_last p x ∙ e.one_deeper

    each : (i : ℕ) → i < length new → LastPlace (longer p x) q (get_or new i 0)
    each i h = let z = f.each i h in (places_exactly e).1 (get_or old z.0 0, z.1, places.each z.0 z.2, z.3, z.4, z.5)

    missing : (w : ℕ) → LastPlace (longer p x) q w → (i : ℕ) × (i < length new) × (get_or new i 0 ≡ w)
    missing w l =
        let z = (places_exactly e).0 l in
        let y = places.none_missing z.0 z.2 in
        f.none_missing y.0 z.1 w y.1 (rw y.2 z.3) z.4 z.5
