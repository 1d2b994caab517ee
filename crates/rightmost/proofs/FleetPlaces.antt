-- LAWS. Places in a fleet's pairs are those in the vehicle that they stand in.
use mathlib.Core.Path.{◌≡◌, refl, sym, ap, ◌∙◌}
use mathlib.Core.Logic.{◌↔◌}
use mathlib.Core.List.{List, [], ◌∷◌}
use Prim.Native.Nat.{ℕ, zero, suc, ◌+◌, ◌-◌, ◌/◌, ◌%◌, ◌≤◌, ◌<◌}
use native.Mathlib.Omega.{arith}
use native.Mathlib.Decide.{dec_lt, dec_le}
use lib.ListN.{length, get_or, drop, length-drop}
use lib.Seq.{length-take-le, get_or-take, get_or-drop}
use Rattle.terms.specs.Tree.{depthAt, label_at, IsTree, IsParent}
use Rattle.terms.specs.Placing.{Occurs}
use Rattle.terms.specs.Fleet.{vehicles}
use Rattle.terms.proofs.PreorderLinks.{Embeds}
use Rattle.terms.specs.Fits.{Fits, fits, Edge}
use Rattle.terms.proofs.OccursDecided.{occurs?}
use Rattle.vehicles.specs.Vehicle.{stretch}
use Rattle.occurrence.specs.Support.{counted, occurring, whole_support}
use Rattle.rightmost.specs.Vehicles.{Vehicle}
use Rattle.rightmost.specs.Ends.{PlacedAt, LastPlace, last_of, Up, itself, above, IsChild, SeatedOf, children, count_below, NewChild}
use Rattle.rightmost.proofs.UpLaws.{up_root, up_image, up_before, up_between}
use Rattle.rightmost.proofs.BranchLaws.{placed_maps, maps_placed, branch_exactly, occurs_exactly, last_inside}
use Rattle.rightmost.proofs.LongerLaws.{longer, longer_length, longer_tree}
use Rattle.rightmost.proofs.SupportByPlaces.{spare_exactly}
use Rattle.occurrence.proofs.SupportLaws.{counted_iff}

module _ {s : List ℕ} {a e : ℕ} (v : Vehicle s a e) where
  len : length (stretch s a e) ≡ e - a
  len = length-take-le (e - a) (drop a s) (omega (arith, length-drop a s, v.ends.within))

  at : (i : ℕ) → i < e - a → get_or (stretch s a e) i 0 ≡ get_or s (a + i) 0
  at i h = get_or-take (e - a) (drop a s) i 0 h ∙ get_or-drop a s i 0

  dep : (i : ℕ) → i < e - a → depthAt (stretch s a e) i ≡ depthAt s (a + i)
  dep i h = ap (λ (x : ℕ). x / 1000) (at i h)

  lab : (i : ℕ) → i < e - a → label_at (stretch s a e) i ≡ label_at s (a + i)
  lab i h = ap (λ (x : ℕ). x % 1000) (at i h)

  parent_out : {i j : ℕ} → IsParent (stretch s a e) i j → IsParent s (a + i) (a + j)
  parent_out {i} {j} r =
      let b : j < e - a = omega (arith, r.inside, len) in
      let c : i < e - a = omega (arith, r.before) in
      record {
        before = omega (arith, r.before);
        inside = omega (arith, v.ends.within);
        one_deeper = omega (arith, r.one_deeper, dep i c, dep j b);
        between = λ k l m. between k l m (omega arith) c;
      }
    where
      between : (k : ℕ) → a + i < k → k < a + j → a + (k - a) ≡ k → i < e - a → depthAt s (a + i) < depthAt s k
      between k l m q c = omega (arith, r.between (k - a) (omega arith) (omega arith), dep i c, dep (k - a) (omega (arith, r.inside, len)), ap (depthAt s) q)

  parent_in : {i j : ℕ} → a + j < e → IsParent s (a + i) (a + j) → IsParent (stretch s a e) i j
  parent_in {i} {j} h r =
      let before' : a + i < a + j = r.before in
      let b : j < e - a = omega arith in
      let c : i < e - a = omega arith in
      record {
        before = omega arith;
        inside = omega (arith, len);
        one_deeper = omega (arith, r.one_deeper, dep i c, dep j b);
        between = λ k l m. omega (arith, r.between (a + k) (omega arith) (omega arith), dep i c, dep k (omega arith));
      }

  -- a node and its ancestors stand in one vehicle
  pub same_vehicle : {d k w : ℕ} → Up s d k w → w < length s → a ≤ w → w < e → (a ≤ d) × (d < e)
  same_vehicle {d} {k} {w} u h l m = (go (dec_le a d), omega (arith, up_before u))
    where
      go : Dec (a ≤ d) → a ≤ d
      go (yes q) = q
      go (no q) = absurd (omega (arith, up_between u a (omega arith) l, v.starts))

  pub same_vehicle_down : {d k w : ℕ} → Up s d k w → w < length s → a ≤ d → d < e → (a ≤ w) × (w < e)
  same_vehicle_down {d} {k} {w} u h l m = (omega (arith, up_before u), go (dec_lt w e))
    where
      go : Dec (w < e) → w < e
      go (yes q) = q
      go (no q) = absurd (omega (arith, up_between u e m (omega arith), v.ends.next (omega arith)))

  embeds_out : {p : List ℕ} {φ : ℕ → ℕ} → Embeds p (stretch s a e) φ → Embeds p s (λ i. a + φ i)
  embeds_out {p} {φ} o = record {
    bound = λ i h. omega (arith, o.bound i h, len, v.ends.within);
    labels = λ i h. o.labels i h ∙ lab (φ i) (omega (arith, o.bound i h, len));
    inj = λ i j h k q. o.inj i j h k (omega arith);
    parents = λ i j h k r. parent_out (o.parents i j h k r);
  }

  embeds_in : {p : List ℕ} {φ : ℕ → ℕ} → ((i : ℕ) → i < length p → (a ≤ φ i) × (φ i < e)) → Embeds p s φ → Embeds p (stretch s a e) (λ i. φ i - a)
  embeds_in {p} {φ} f o = record {
    bound = λ i h. below i h;
    labels = λ i h. o.labels i h ∙ ap (label_at s) (sym (back i h)) ∙ sym (lab (φ i - a) (omega (arith, below i h, len)));
    inj = λ i j h k q. o.inj i j h k (omega (arith, back i h, back j k));
    parents = λ i j h k r. parent_in (omega (arith, back j k, (f j k).1)) (rw (back i h, back j k) (o.parents i j h k r));
  }
    where
      back : (i : ℕ) → i < length p → a + (φ i - a) ≡ φ i
      back i h = let z = (f i h).0 in omega arith

      below : (i : ℕ) → i < length p → φ i - a < length (stretch s a e)
      below i h = let z = (f i h).0 in let y = (f i h).1 in omega (arith, len)

  -- one node of the pattern in the vehicle: all of them
  all_in : {p : List ℕ} {φ : ℕ → ℕ} {i : ℕ} → IsTree p → Embeds p s φ → i < length p → a ≤ φ i → φ i < e → (j : ℕ) → j < length p → (a ≤ φ j) × (φ j < e)
  all_in {p} {φ} {i} t o h l m j k =
      let root = same_vehicle (up_image o h (up_root p t i h)) (o.bound i h) l m in
      same_vehicle_down (up_image o k (up_root p t j k)) (o.bound j k) root.0 root.1

  -- THE CLAIM: places in the vehicle's tree are those in the fleet's pairs
  pub fleet_places : {p : List ℕ} {i w : ℕ} → IsTree p → i < length p → PlacedAt p (stretch s a e) i w ↔ (PlacedAt p s i (a + w) × (a + w < e))
  fleet_places {p} {i} {w} t h = (to, from)
    where
      to : PlacedAt p (stretch s a e) i w → PlacedAt p s i (a + w) × (a + w < e)
      to z =
          let m = placed_maps z in
          let b = m.embeds.bound i h in
          (maps_placed t h (record { map = λ j. a + m.map j; embeds = embeds_out m.embeds; there = ap (λ (j : ℕ). a + j) m.there }), omega (arith, len, m.there, b))

      from : PlacedAt p s i (a + w) × (a + w < e) → PlacedAt p (stretch s a e) i w
      from z =
          let m = placed_maps z.0 in
          let y = z.1 in
          let o = embeds_in (all_in t m.embeds h (omega (arith, m.there)) (omega (arith, m.there))) m.embeds in
          maps_placed t h (record { map = λ j. m.map j - a; embeds = o; there = omega (arith, m.there) })

  pub places_inside : {p : List ℕ} {i w : ℕ} → IsTree p → i < length p → a ≤ w → w < e → PlacedAt p s i w → PlacedAt p (stretch s a e) i (w - a)
  places_inside {p} {i} {w} t h l m z = let q : a + (w - a) ≡ w = omega arith in (fleet_places t h).1 (rw q z, omega arith)

  -- The pattern occurs in a vehicle exactly if some last place stands in it.
  pub occurs_in_vehicle : {p : List ℕ} → IsTree p → Occurs p (stretch s a e) ↔ ((w : ℕ) × (a ≤ w) × (w < e) × LastPlace p s w)
  occurs_in_vehicle {p} t = (to, λ z. (occurs_exactly t).1 (z.0 - a, places_inside t (last_inside p t) z.1 z.2 z.3))
    where
      to : Occurs p (stretch s a e) → (w : ℕ) × (a ≤ w) × (w < e) × LastPlace p s w
      to o =
          let z = (occurs_exactly t).0 o in
          let y = (fleet_places t (last_inside p t)).0 z.1 in
          (a + z.0, omega arith, y.1, y.0)

  -- One pair more: exactly if some last place in it has an ancestor with a child to spare.
  pub spare_in_vehicle : {p : List ℕ} {x b : ℕ} → NewChild p x b
      → Occurs (longer p x) (stretch s a e) ↔ ((w d : ℕ) × (a ≤ w) × (w < e) × LastPlace p s w × Up s d (depthAt p (last_of p) - depthAt p b) w × (children p b (x % 1000) < children s d (x % 1000)))
  spare_in_vehicle {p} {x} {b} k = (to, from)
    where
      inb : b < length (longer p x)
      inb = omega (arith, k.on_branch.inside, longer_length p x)

      inside : {p : List ℕ} {w : ℕ} → IsTree p → LastPlace p s w → w < length s
      inside {p} t l = omega (arith, l.there, l.placing.to_last (last_of p) (last_inside p t))

      to : Occurs (longer p x) (stretch s a e) → (w d : ℕ) × (a ≤ w) × (w < e) × LastPlace p s w × Up s d (depthAt p (last_of p) - depthAt p b) w × (children p b (x % 1000) < children s d (x % 1000))
      to o =
          let z : PlacedAt (longer p x) (stretch s a e) b (get_or o.tuple b 0 - 1) = record { tuple = o.tuple; placing = o.placing; there = omega (arith, o.placing.from_1 b inb) } in
          let y = (fleet_places (longer_tree k) inb).0 z in
          let r = (spare_exactly k).0 y.0 in
          let u = (branch_exactly k.is_tree k.on_branch).0 r.0 in
          let i = same_vehicle_down u.2 (inside k.is_tree u.1) (omega arith) y.1 in
          (u.0, a + (get_or o.tuple b 0 - 1), i.0, i.1, u.1, u.2, r.1)

      from : (w d : ℕ) × (a ≤ w) × (w < e) × LastPlace p s w × Up s d (depthAt p (last_of p) - depthAt p b) w × (children p b (x % 1000) < children s d (x % 1000)) → Occurs (longer p x) (stretch s a e)
      from z =
          let r = (spare_exactly {d = z.1} k).1 ((branch_exactly k.is_tree k.on_branch).1 (z.0, z.4, z.5), z.6) in
          let i = same_vehicle z.5 (inside k.is_tree z.4) z.2 z.3 in
          let y = places_inside (longer_tree k) inb i.0 i.1 r in
          record { tuple = y.tuple; placing = y.placing }

  -- What fits in the vehicle's tree fits in the fleet's pairs.
  fits_out : {p : List ℕ} {i w : ℕ} → w < e - a → Fits p (stretch s a e) i w → Fits p s i (a + w)
  fits_out {p} {i} {w} h (fits l to kid sub inj) =
      fits (l ∙ lab w h) (λ x. a + to x) (λ x r. parent_out (kid x r)) (λ x r. fits_out (omega (arith, (kid x r).inside, len)) (sub x r)) (λ x y r r' q. inj x y r r' (omega arith))

  fits_into : {p : List ℕ} {i w : ℕ} (u : ℕ) → a ≤ w → w < e → w - a ≡ u → Fits p s i w → Fits p (stretch s a e) i u
  fits_into {p} {i} {w} u g h q (fits l to kid sub inj) =
      fits (l ∙ ap (label_at s) back ∙ sym (lab u (omega arith))) (λ x. to x - a) (λ x r. parent_in (omega (arith, (in_it x r).0, (in_it x r).1)) (parent_at x r))
      (λ x r. fits_into (to x - a) (in_it x r).0 (in_it x r).1 refl (sub x r)) (λ x y r r' k. inj x y r r' (omega (arith, (in_it x r).0, (in_it y r').0)))
    where
      back : w ≡ a + u
      back = omega arith

      in_it : (x : ℕ) → IsParent p i x → (a ≤ to x) × (to x < e)
      in_it x r = same_vehicle_down (above (kid x r) (itself refl)) (kid x r).inside g h

      parent_at : (x : ℕ) → IsParent p i x → IsParent s (a + u) (a + (to x - a))
      parent_at x r = let z : a + (to x - a) ≡ to x = omega (arith, (in_it x r).0) in rw (z, sym back) (kid x r)

  pub fleet_child : {d l w : ℕ} → a + w < e → IsChild (stretch s a e) d l w ↔ IsChild s (a + d) l (a + w)
  fleet_child {d} {l} {w} h = ((λ c. (parent_out c.0, sym (lab w (omega arith)) ∙ c.1)), (λ c. (parent_in h c.0, lab w (omega arith) ∙ c.1)))

  -- Children are seated in the vehicle's tree as in the fleet's pairs.
  pub fleet_seated : (p : List ℕ) (L : ℕ → Type 0) (d w : ℕ) → a + d < e → SeatedOf L p (stretch s a e) d w ↔ SeatedOf L p s (a + d) (a + w)
  unfolding Edge
  fleet_seated p L d w h = (out, into)
    where
      out : SeatedOf L p (stretch s a e) d w → SeatedOf L p s (a + d) (a + w)
      out z = record {
        to = λ c. a + z.to c;
        inside = λ c k. omega (arith, z.inside c k, len, v.ends.within);
        edge = λ c k. let y = z.edge c k in ((parent_out y.0.0, fits_out (omega (arith, z.inside c k, len)) y.0.1), λ r. y.1 (omega arith));
        inj = λ c c' k k' r. z.inj c c' k k' (omega arith);
      }

      into : SeatedOf L p s (a + d) (a + w) → SeatedOf L p (stretch s a e) d w
      into z = record { to = λ c. z.to c - a; inside = λ c k. omega (arith, (at_c c k).0, (at_c c k).1, len); edge = edge; inj = λ c c' k k' r. z.inj c c' k k' (omega (arith, (at_c c k).0, (at_c c' k').0)) }
        where
          at_c : (c : ℕ) → L c → (a ≤ z.to c) × (z.to c < e)
          at_c c k = let r = (z.edge c k).0.0 in same_vehicle_down (above r (itself refl)) r.inside (omega arith) h

          edge : (c : ℕ) → L c → (IsParent (stretch s a e) d (z.to c - a) × Fits p (stretch s a e) c (z.to c - a)) × ¬ (z.to c - a ≡ w)
          edge c k =
              let y = z.edge c k in
              let q : a + (z.to c - a) ≡ z.to c = omega (arith, (at_c c k).0) in
              ((parent_in (omega (arith, (at_c c k).1, q)) (rw q y.0.0), fits_into (z.to c - a) (at_c c k).0 (at_c c k).1 refl y.0.1), λ r. y.1 (omega (arith, q)))

-- SUPPORT is the number of vehicles that are so
pub shift : {Q : ℕ → Type 0} (d : (i : ℕ) → Dec (Q i)) (n : ℕ) → count_below d (suc n) ≡ counted (d 0) + count_below (λ i. d (suc i)) n
unfolding count_below
shift d zero = refl
shift d (suc n) = omega (arith, shift d n)

occurring_counts : {Q : ℕ → Type 0} (p : List ℕ) (ts : List (List ℕ)) (d : (i : ℕ) → Dec (Q i)) → ((i : ℕ) → i < length ts → Occurs p (get_or ts i []) ↔ Q i) → occurring p ts ≡ count_below d (length ts)
unfolding occurring count_below
occurring_counts p [] d f = refl
occurring_counts p (t ∷ ts) d f =
    let z = f 0 (omega arith) in
    omega (arith, shift d (length ts), counted_iff z.0 z.1 (occurs? p t) (d 0), occurring_counts p ts (λ i. d (suc i)) (λ i h. f (suc i) (omega arith)))

pub support_counts : {Q : ℕ → Type 0} (fleet p : List ℕ) (d : (i : ℕ) → Dec (Q i)) → ((i : ℕ) → i < length (vehicles fleet) → Occurs p (get_or (vehicles fleet) i []) ↔ Q i) → whole_support fleet p ≡ count_below d (length (vehicles fleet))
unfolding whole_support
support_counts fleet p d f = occurring_counts p (vehicles fleet) d f
