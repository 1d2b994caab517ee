-- LAWS. What the search tests and reads, by the definitions: one node, leaves, children, pairs, repeats; and its counts.
use mathlib.Core.Path.{◌≡◌, refl, sym, ap, ◌∙◌}
use mathlib.Core.Logic.{◌↔◌}
use mathlib.Core.List.{List, [], ◌∷◌}
use Prim.Native.Nat.{ℕ, suc, ◌+◌, ◌-◌, ◌*◌, ◌/◌, ◌%◌, ◌≤◌, ◌<◌}
use native.Mathlib.Omega.{arith}
use native.Mathlib.Decide.{dec_lt, ℕ_discrete}
use lib.ListN.{length, get_or, length-drop}
use Rattle.terms.specs.Tree.{depthAt, label_at, IsTree, IsParent}
use Rattle.terms.specs.Placing.{Occurs}
use Rattle.terms.specs.Form.{InForm, LeftHeavy, NoLighterThanNext}
use Rattle.terms.proofs.LeftHeavyLaws.{left_heavy_exactly}
use Rattle.terms.specs.Fleet.{vehicles}
use Rattle.occurrence.specs.Support.{whole_support}
use Rattle.rightmost.specs.Ends.{LastPlace, last_of, Up, IsChild, child?, children, NewChild, LeavesOnly}
use Rattle.rightmost.specs.Vehicles.{VehicleNumbered, VehiclesNumbered, Noted}
use Rattle.rightmost.specs.NextPair.{LastNeighbours, Repeats}
use Rattle.rightmost.specs.PlaceList.{Places, Tally}
use Rattle.rightmost.proofs.Counting.{but_one, some_one}
use Rattle.rightmost.proofs.UpLaws.{up_depth, up_image, up_root}
use Rattle.rightmost.proofs.BranchLaws.{placed_maps, maps_placed, last_inside}
use Rattle.rightmost.proofs.LongerLaws.{longer}
use Rattle.rightmost.proofs.FleetPlaces.{spare_in_vehicle, occurs_in_vehicle}
use Rattle.rightmost.proofs.PlaceOrder.{before_roots}
use Rattle.rightmost.proofs.LastPlaceLaws.{child_is_pair}
use Rattle.rightmost.proofs.TallyLaws.{tally_support}

-- A PATTERN OF ONE NODE: its places are the nodes with its label
pub single_exactly : {q : List ℕ} {x w : ℕ} → IsTree (x ∷ []) → LastPlace (x ∷ []) q w ↔ ((w < length q) × (label_at q w ≡ x % 1000))
single_exactly {q} {x} {w} t = (to, from)
  where
    to : LastPlace (x ∷ []) q w → (w < length q) × (label_at q w ≡ x % 1000)
    to z = let m = placed_maps z in (omega (arith, m.there, m.embeds.bound 0 (omega arith)), ap (label_at q) (sym m.there) ∙ sym (m.embeds.labels 0 (omega arith)))

    only : (i : ℕ) → i < 1 → i ≡ 0
    only i h = omega arith

    from : (w < length q) × (label_at q w ≡ x % 1000) → LastPlace (x ∷ []) q w
    from z = maps_placed t (omega arith) (record {
      map = λ _. w;
      embeds = record {
        bound = λ i h. z.0;
        labels = λ i h. ap (label_at (x ∷ [])) (only i h) ∙ sym z.1;
        inj = λ i j h k e. only i h ∙ sym (only j k);
        parents = λ i j h k r. absurd (omega (arith, r.before));
      };
      there = refl;
    })

pub single_places : {q places : List ℕ} {x : ℕ} → IsTree (x ∷ []) → ((i : ℕ) → i < length places → (get_or places i 0 < length q) × (label_at q (get_or places i 0) ≡ x % 1000))
    → ((w : ℕ) → w < length q → label_at q w ≡ x % 1000 → (i : ℕ) × (i < length places) × (get_or places i 0 ≡ w)) → ((i j : ℕ) → i < j → j < length places → get_or places i 0 < get_or places j 0) → Places (x ∷ []) q places
single_places {q} {places} {x} t each all rise = record {
  each = λ i h. (single_exactly t).1 (each i h);
  none_missing = λ w l. let z = (single_exactly t).0 l in all w z.0 z.1;
  in_order = λ i j a h. rw t.root_depth (before_roots (rise i j a h));
}

-- CHILDREN: the first child is the next node, if that is deeper
pub child_next : {s : List ℕ} {c i : ℕ} → IsParent s c i → depthAt s c < depthAt s (suc c)
child_next {s} {c} {i} r = go (ℕ_discrete (suc c) i)
  where
    go : Dec (suc c ≡ i) → depthAt s c < depthAt s (suc c)
    go (yes e) = omega (arith, ap (depthAt s) e, r.one_deeper)
    go (no e) = r.between (suc c) (omega arith) (omega (arith, r.before))

pub next_child : {s : List ℕ} {c : ℕ} → suc c < length s → depthAt s (suc c) ≡ suc (depthAt s c) → IsParent s c (suc c)
next_child h e = record { before = omega arith; inside = h; one_deeper = e; between = λ k a b. absurd (omega arith) }

-- so leaves are told by the node behind them
pub leaves_test : {p : List ℕ} {x b : ℕ} → NewChild p x b → ((i : ℕ) → b < i → suc i < length p → get_or p i 0 ≡ x → ¬ (x / 1000 < depthAt p (suc i))) → LeavesOnly p b (x % 1000)
leaves_test {p} {x} {b} e f c i k r =
    let z = (child_is_pair e c k.0.inside).0 k in
    f c z.0 (omega (arith, r.before, r.inside)) z.1 (omega (arith, child_next r, ap (λ (y : ℕ). y / 1000) z.1))

-- where there is a child there is one to count
pub child_counts : {q : List ℕ} {d l w : ℕ} → IsChild q d l w → 0 < children q d l
unfolding children
child_counts {q} {d} {l} {w} c = omega (arith, but_one (child? q d l) w (length q) c.0.inside c)

pub counted_child : (q : List ℕ) (d l : ℕ) → 0 < children q d l → (w : ℕ) × IsChild q d l w
unfolding children
counted_child q d l h = let z = some_one {C = λ _. ⊥} {f = λ i. i} (child? q d l) (length q) h in (z.place, z.is_so)

-- PAIRS: how much deeper a place is than its node, the same all along
pub depth_shift : {p q : List ℕ} {w : ℕ} → IsTree p → LastPlace p q w → depthAt p (last_of p) ≤ depthAt q w
depth_shift {p} {q} {w} t z =
    let m = placed_maps z in
    omega (arith, ap (depthAt q) m.there, up_depth (up_image m.embeds (last_inside p t) (up_root p t (last_of p) (last_inside p t))))

-- the pair x of the pattern that a child c of a place of b stands for
pub pair_below : {p q : List ℕ} {x b d w c : ℕ} → NewChild p x b → LastPlace p q w → Up q d (depthAt p (last_of p) - depthAt p b) w → IsParent q d c → (label_at q c ≡ x % 1000) ↔ (get_or q c 0 ≡ x + 1000 * (depthAt q w - depthAt p (last_of p)))
pair_below {p} {q} {x} {b} {d} {w} {c} e z u r = ((λ h. omega (arith, deep, e.one_deeper)), (λ h. omega (arith, deep, e.one_deeper)))
  where
    deep : depthAt q c ≡ suc (depthAt p b) + (depthAt q w - depthAt p (last_of p))
    deep = omega (arith, r.one_deeper, up_depth u, depth_shift e.is_tree z, e.on_branch.no_deeper)

-- REPEATS: the last of two neighbours is never longer than what it repeats
pub repeats_of : {s : List ℕ} {i j : ℕ} → LastNeighbours s i j → ((k : ℕ) → j + k < length s → get_or s (i + k) 0 ≡ get_or s (j + k) 0) → Repeats s i j
repeats_of {s} {i} {j} l f k h = (go (dec_lt (i + k) j), f k h)
  where
    before : i < j
    before = l.ends.after

    go : Dec (i + k < j) → i + k < j
    go (yes q) = q
    go (no q) =
        let e : i + (j - i) ≡ j = omega arith in
        let same : get_or s j 0 ≡ get_or s (j + (j - i)) 0 = ap (λ (m : ℕ). get_or s m 0) (sym e) ∙ f (j - i) (omega arith) in
        absurd (omega (arith, l.last.deeper (j + (j - i)) (omega arith) (omega arith), ap (λ (y : ℕ). y / 1000) same))

-- COUNTS: the longer pattern occurs in a vehicle exactly if its number is noted
pub noted_exactly : {fleet table p : List ℕ} {x b i : ℕ} → NewChild p x b → VehicleNumbered fleet table i → Occurs (longer p x) (get_or (vehicles fleet) i []) ↔ Noted p x b fleet table (suc i)
noted_exactly {fleet} {table} {p} {x} {b} {i} e v = ((λ o. to ((spare_in_vehicle v.stands e).0 (rw v.tree at o))), (λ n. rw v.tree ((spare_in_vehicle v.stands e).1 (from n))))
  where
    inside : {w : ℕ} → LastPlace p fleet w → w < length fleet
    inside l = omega (arith, l.there, l.placing.to_last (last_of p) (last_inside p e.is_tree))

    to : (w d : ℕ) × (v.start ≤ w) × (w < v.end) × LastPlace p fleet w × Up fleet d (depthAt p (last_of p) - depthAt p b) w × (children p b (x % 1000) < children fleet d (x % 1000)) → Noted p x b fleet table (suc i)
    to z = record { place = z.0; spare = record { d = z.1; last_place = z.4; up = z.5; more = z.6 }; in_vehicle = v.has z.0 z.2 z.3 }

    from : Noted p x b fleet table (suc i) → (w d : ℕ) × (v.start ≤ w) × (w < v.end) × LastPlace p fleet w × Up fleet d (depthAt p (last_of p) - depthAt p b) w × (children p b (x % 1000) < children fleet d (x % 1000))
    from n = let s = n.spare in let r = v.only n.place (inside s.last_place) n.in_vehicle in (n.place, s.d, r.0, r.1, s.last_place, s.up, s.more)

-- THE CLAIM: what is tallied for the pair x is the whole support of the longer pattern.
pub tallied_support : {fleet table p : List ℕ} {x b last count : ℕ} → VehiclesNumbered fleet table → NewChild p x b → Tally (Noted p x b fleet table) (suc (length (vehicles fleet))) last count → whole_support fleet (longer p x) ≡ count
tallied_support {fleet} {table} {p} {x} {b} n e t = tally_support fleet (longer p x) (λ i h. noted_exactly e (n.each i h)) t

-- and a label's node, for patterns of one node
pub label_exactly : {fleet table : List ℕ} {x i : ℕ} → IsTree (x ∷ []) → VehicleNumbered fleet table i → Occurs (x ∷ []) (get_or (vehicles fleet) i []) ↔ ((w : ℕ) × (w < length fleet) × (label_at fleet w ≡ x % 1000) × (get_or table w 0 ≡ suc i))
label_exactly {fleet} {table} {x} {i} t v = ((λ o. to ((occurs_in_vehicle v.stands t).0 (rw v.tree at o))), (λ n. rw v.tree ((occurs_in_vehicle v.stands t).1 (from n))))
  where
    to : (w : ℕ) × (v.start ≤ w) × (w < v.end) × LastPlace (x ∷ []) fleet w → (w : ℕ) × (w < length fleet) × (label_at fleet w ≡ x % 1000) × (get_or table w 0 ≡ suc i)
    to z = let y = (single_exactly t).0 z.3 in (z.0, y.0, y.1, v.has z.0 z.1 z.2)

    from : (w : ℕ) × (w < length fleet) × (label_at fleet w ≡ x % 1000) × (get_or table w 0 ≡ suc i) → (w : ℕ) × (v.start ≤ w) × (w < v.end) × LastPlace (x ∷ []) fleet w
    from n = let r = v.only n.0 n.1 n.3 in (n.0, r.0, r.1, (single_exactly t).1 (n.1, n.2))

-- one node is a form
pub single_form : {x : ℕ} → IsTree (x ∷ []) → InForm (x ∷ [])
unfolding LeftHeavy NoLighterThanNext
single_form {x} t = (left_heavy_exactly (x ∷ []) t).1 (λ i h n m r l. absurd (omega (arith, r.after, length-drop i (x ∷ []))))
