-- LAWS. Of a node's children those beside which others can sit: by the matching in the tree of one vehicle.
use mathlib.Core.Path.{◌≡◌, refl, sym, ap, ◌∙◌}
use mathlib.Core.Logic.{◌↔◌}
use mathlib.Core.Bool.{Bool, true, false, true≢false}
use mathlib.Core.List.{List, [], ◌∷◌, ◌++◌}
use Prim.Native.Nat.{ℕ, zero, suc, ◌+◌, ◌-◌, ◌/◌, ◌%◌, ◌≤◌, ◌<◌}
use native.Mathlib.Omega.{arith}
use native.Mathlib.Decide.{dec_lt, ℕ_discrete}
use native.Mathlib.Numerals.{add-one}
use lib.ListN.{length, get_or, take, drop, set, replicate, length-set, length-append, length-drop, take-append-drop, get_or-append}
use lib.Seq.{slice, length-slice, length-take-le, take-take, get_or-take, get_or-drop, get_or-append_seam, get_or-set_same, get_or-set_other}
use mir.Syntax.{w64}
use mir.Val.{Fits}
use Rattle.terms.specs.Tree.{depthAt, label_at, IsParent, SubtreeEnd}
use Rattle.terms.specs.Tells.{Tells}
use Rattle.terms.specs.Fleet.{IsVehicle, most_nodes}
use Rattle.terms.specs.Assignment.{PartialMatching, found, none}
use Rattle.terms.specs.Fits.{Edge}
use Rattle.terms.proofs.AugmentingLaws.{all_same, no_covering}
use Rattle.vehicles.specs.Vehicle.{stretch}
use Rattle.fleet.proofs.TellsLaws.{told_yes, told_no}
use Rattle.matching.specs.FitsSteps.{NodeAndImage, AugmentInput, AugmentOutcome, HolderIs, nobody, one_visited, one}
use Rattle.matching.proofs.FitsLaws.{edge_in}
use Rattle.rightmost.specs.Ends.{Up, itself, above, IsChild, IsInner, InnerMatched}
use Rattle.rightmost.specs.Vehicles.{Vehicle}
use Rattle.rightmost.proofs.UpLaws.{up_depth, up_before}
use Rattle.rightmost.proofs.BranchLaws.{placed_maps}
use Rattle.rightmost.proofs.LastPlaceLaws.{child_is_pair}
use Rattle.rightmost.proofs.TestLaws.{next_child}
use Rattle.rightmost.proofs.InnerLaws.{inner_free, inner_moved, inner_stuck, placed_covering}
use Rattle.rightmost.proofs.FleetPlaces.{same_vehicle, same_vehicle_down, places_inside, fleet_child, fleet_seated}
use Rattle.groups.specs.Putting.{PutBehind}
use Rattle.groups.proofs.PutLaws.{behind_none, behind_more}
use Rattle.seats.specs.Seats.{KidsInput, RisingIn, Kept, KeptBehind, Beside}
use Rattle.seats.specs.SeatSteps.{SeatInput, LeaveInput, Holds, StuckSeats, ChildFrom, BesideFrom}
use Rattle.seats.proofs.PlaceVehicles.{VehicleOf, vehicle_of, stretch_at, stretch_length}

-- THE NODE at its place
module _ {p : List ℕ} {x b : ℕ} {q sizes : List ℕ} {d : ℕ} (i : SeatInput p x b q sizes d) where
  image_in : d < length q
  image_in = let m = placed_maps i.placed in omega (arith, m.there, m.embeds.bound b i.new_child.on_branch.inside)

  pub at_place : NodeAndImage p b q d
  at_place = record { trees = i.trees; node = i.new_child.on_branch.inside; image = image_in; same_label = label }
    where
      label : label_at p b ≡ label_at q d
      label = let m = placed_maps i.placed in m.embeds.labels b i.new_child.on_branch.inside ∙ ap (label_at q) m.there

-- THE SEATS: the inner ones before `child` have theirs
pub record SeatTo (p : List ℕ) (x b : ℕ) (q sizes : List ℕ) (d : ℕ) (seats : List ℕ) (child : ℕ) : Type 0 where
  pub input : SeatInput p x b q sizes d
  pub after : b < child
  pub within : child ≤ length p
  pub length_seats : length seats ≡ 16
  pub matching : PartialMatching (Edge p q d) (IsParent p b) seats
  pub full : (y : ℕ) → IsInner p b (x % 1000) y → y < child → ¬ (get_or seats y 0 ≡ 0)
  pub only : (y : ℕ) → ¬ (get_or seats y 0 ≡ 0) → IsInner p b (x % 1000) y × (y < child)

pub seat_start : {p : List ℕ} {x b : ℕ} {q sizes : List ℕ} {d : ℕ} {seats : List ℕ} → SeatInput p x b q sizes d → seats ≡ replicate 16 0 → SeatTo p x b q sizes d seats (b + 1)
seat_start i e = rw e (record {
  input = i;
  after = omega arith;
  within = omega (arith, i.new_child.on_branch.inside);
  length_seats = refl;
  matching = record { allowed = λ y n. absurd (n (none y)); apart = λ y z n. absurd (n (none y)) };
  full = λ y k h. absurd (omega (arith, k.0.0.before));
  only = λ y n. absurd (n (none y));
})
  where
    none : (y : ℕ) → ◌≡◌ {A = ℕ} (get_or (replicate 16 0) y 0) 0
    none y = all_same 16 y 0

module _ {p : List ℕ} {x b : ℕ} {q sizes : List ℕ} {d : ℕ} {seats : List ℕ} {child : ℕ} (v : SeatTo p x b q sizes d seats child) (h : child + 1 < length p) where
  pub child_few : child < 16
  child_few = omega (arith, v.input.trees.pattern_nodes)

  inner_yes : (get_or p child 0 ≡ x) × (x / 1000 < depthAt p (child + 1)) → IsInner p b (x % 1000) child
  inner_yes (e, l) = ((child_is_pair v.input.new_child child (omega arith)).1 (v.after, e), next_child (omega arith) (omega (arith, deeper, v.input.new_child.is_tree.later_to_next child (omega arith), ap (λ (y : ℕ). y / 1000) e)))
    where
      deeper : x / 1000 < depthAt p (suc child)
      deeper = rw (add-one child) at l

  inner_no : ¬ ((get_or p child 0 ≡ x) × (x / 1000 < depthAt p (child + 1))) → ¬ IsInner p b (x % 1000) child
  inner_no n k = n (z.1, rw (add-one child) (omega (arith, k.1.one_deeper, ap (λ (y : ℕ). y / 1000) z.1)))
    where
      z : (b < child) × (get_or p child 0 ≡ x)
      z = (child_is_pair v.input.new_child child (omega arith)).0 k.0

  module _ (k : (get_or p child 0 ≡ x) × (x / 1000 < depthAt p (child + 1))) where
    pub seat_input : AugmentInput p b child q d seats (replicate 16 false)
    seat_input = record { nodes = at_place v.input; child = (inner_yes k).0.0; matching = v.matching; length_places = v.length_seats; length_marks = refl; new = all_same 16 child false }

    pub seat_more : {seats' : List ℕ} {visited' : List Bool} {r : Bool} → AugmentOutcome p b child q d seats (replicate 16 false) seats' visited' r → SeatTo p x b q sizes d seats' (child + 1)
    seat_more {seats'} (found g) = record {
      input = v.input;
      after = omega (arith, v.after);
      within = omega arith;
      length_seats = g.long ∙ v.length_seats;
      matching = g.good;
      full = λ y i l. full y i l (ℕ_discrete y child);
      only = λ y n. only y n (ℕ_discrete y child) (ℕ_discrete (get_or seats y 0) 0);
    }
      where
        full : (y : ℕ) → IsInner p b (x % 1000) y → y < child + 1 → Dec (y ≡ child) → ¬ (get_or seats' y 0 ≡ 0)
        full y i l (yes e) = rw e g.matched
        full y i l (no e) = g.stays_matched y (v.full y i (omega arith))

        only : (y : ℕ) → ¬ (get_or seats' y 0 ≡ 0) → Dec (y ≡ child) → Dec (get_or seats y 0 ≡ 0) → IsInner p b (x % 1000) y × (y < child + 1)
        only y n (yes e) _ = (rw e (inner_yes k), omega arith)
        only y n (no e) (yes z) = absurd (n (g.stays_free y e z))
        only y n (no e) (no z) = let o = v.only y z in let l = o.1 in (o.0, omega arith)
    seat_more {visited' = visited'} (none _ _ _ f) =
        absurd (no_covering (Edge p q d) (IsParent p b) (length q) child 15 (replicate 16 false) visited' seats v.length_seats child_few (inner_yes k).0.0 empty v.matching (λ y. all_same 16 y false) (λ y r e. edge_in p q d y r e) f
        (placed_covering v.input.new_child.on_branch.inside v.input.placed))
      where
        empty : get_or seats child 0 ≡ 0
        empty = go (ℕ_discrete (get_or seats child 0) 0)
          where
            go : Dec (get_or seats child 0 ≡ 0) → get_or seats child 0 ≡ 0
            go (yes e) = e
            go (no n) = let l = (v.only child n).1 in absurd (omega arith)

  pub seat_skip : ¬ ((get_or p child 0 ≡ x) × (x / 1000 < depthAt p (child + 1))) → SeatTo p x b q sizes d seats (child + 1)
  seat_skip n = record {
    input = v.input;
    after = omega (arith, v.after);
    within = omega arith;
    length_seats = v.length_seats;
    matching = v.matching;
    full = λ y i l. full y i l (ℕ_discrete y child);
    only = λ y z. let o = v.only y z in let l = o.1 in (o.0, omega arith);
  }
    where
      full : (y : ℕ) → IsInner p b (x % 1000) y → y < child + 1 → Dec (y ≡ child) → ¬ (get_or seats y 0 ≡ 0)
      full y i l (yes e) = absurd (inner_no n (rw e at i))
      full y i l (no e) = v.full y i (omega arith)

pub seat_end : {p : List ℕ} {x b : ℕ} {q sizes : List ℕ} {d : ℕ} {seats : List ℕ} {child : ℕ} → SeatTo p x b q sizes d seats child → length p ≤ child + 1 → InnerMatched p b (x % 1000) q d seats
seat_end v h = record { length_places = v.length_seats; matching = v.matching; full = λ y k. v.full y k (omega (arith, k.1.inside)); only = λ y n. (v.only y n).0 }

-- LEAVING A SEAT
module _ {p : List ℕ} {b : ℕ} {q sizes : List ℕ} {d : ℕ} {seats : List ℕ} (i : LeaveInput p b q sizes d seats) where
  module _ {child : ℕ} (h : Holds p seats child) where
    few : child < 16
    few = omega (arith, h.inside, i.nodes.trees.pattern_nodes)

    pub left : {seats' : List ℕ} {visited' : List Bool} {r : Bool} → AugmentOutcome p b child q d seats (replicate 16 false) seats' visited' r → (l : ℕ) → InnerMatched p b l q d seats → Tells r (Beside p b l q d (get_or seats child 0))
    left (found g) l m = inner_moved m (m.only child h.has) refl g
    left (none _ _ _ f) l m = inner_stuck m (m.only child h.has) few refl (λ x. all_same 16 x false) f

-- what is known of a child that was asked
pub data Asked (Can : Type 0) (seat seat' : ℕ) (some : Bool) : Type 0 where
  had_none : seat ≡ 0 → seat' ≡ 0 → Asked Can seat seat' some
  can : Can → seat' ≡ 0 → Asked Can seat seat' some
  cannot : ¬ Can → seat' ≡ seat → some ≡ true → Asked Can seat seat' some

pub record LeaveTo (p : List ℕ) (b : ℕ) (q sizes : List ℕ) (d : ℕ) (full seats : List ℕ) (some : Bool) (next : ℕ) : Type 0 where
  pub input : LeaveInput p b q sizes d full
  pub after : b < next
  pub within : next ≤ length p
  pub length_seats : length seats ≡ 16
  pub later : (y : ℕ) → next ≤ y → get_or seats y 0 ≡ get_or full y 0
  pub asked : (y l : ℕ) → y < next → InnerMatched p b l q d full → Asked (Beside p b l q d (get_or full y 0)) (get_or full y 0) (get_or seats y 0) some

-- who is no child of b has no seat
no_seat : {p : List ℕ} {b : ℕ} {q sizes : List ℕ} {d : ℕ} {seats : List ℕ} → LeaveInput p b q sizes d seats → (y : ℕ) → ¬ IsParent p b y → get_or seats y 0 ≡ 0
no_seat {seats = seats} i y n = go (ℕ_discrete (get_or seats y 0) 0)
  where
    go : Dec (get_or seats y 0 ≡ 0) → get_or seats y 0 ≡ 0
    go (yes e) = e
    go (no k) = absurd (n (i.matching.allowed y k).0)

module _ {p : List ℕ} {b : ℕ} {q sizes : List ℕ} {d : ℕ} {full seats : List ℕ} {some : Bool} {next : ℕ} (r : LeaveTo p b q sizes d full seats some next) where
  module _ (h : next < length p) where
    pub next_few : next < 16
    next_few = omega (arith, r.input.nodes.trees.pattern_nodes)

    pub leave_none : get_or full next 0 ≡ 0 → LeaveTo p b q sizes d full seats some (next + 1)
    leave_none e = record { input = r.input; after = omega (arith, r.after); within = omega arith; length_seats = r.length_seats; later = λ y k. r.later y (omega arith); asked = λ y l k m. at y l k m (ℕ_discrete y next) }
      where
        at : (y l : ℕ) → y < next + 1 → InnerMatched p b l q d full → Dec (y ≡ next) → Asked (Beside p b l q d (get_or full y 0)) (get_or full y 0) (get_or seats y 0) some
        at y l k m (yes z) = rw z (had_none e (r.later next (omega arith) ∙ e))
        at y l k m (no z) = r.asked y l (omega arith) m

    module _ {t : Bool} (f : (l : ℕ) → InnerMatched p b l q d full → Tells t (Beside p b l q d (get_or full next 0))) where
      pub leave_yes : t ≡ true → LeaveTo p b q sizes d full (set seats next 0) some (next + 1)
      leave_yes e = record {
        input = r.input;
        after = omega (arith, r.after);
        within = omega arith;
        length_seats = length-set seats next 0 ∙ r.length_seats;
        later = λ y k. get_or-set_other seats next y 0 0 (λ z. omega arith) ∙ r.later y (omega arith);
        asked = λ y l k m. at y l k m (ℕ_discrete y next);
      }
        where
          at : (y l : ℕ) → y < next + 1 → InnerMatched p b l q d full → Dec (y ≡ next) → Asked (Beside p b l q d (get_or full y 0)) (get_or full y 0) (get_or (set seats next 0) y 0) some
          at y l k m (yes z) = rw z (can (told_yes t (f l m) e) (get_or-set_same seats next 0 0 (omega (arith, r.length_seats, next_few))))
          at y l k m (no z) = rw (get_or-set_other seats next y 0 0 z) (r.asked y l (omega arith) m)

      pub leave_no : t ≡ false → LeaveTo p b q sizes d full seats true (next + 1)
      leave_no e = record { input = r.input; after = omega (arith, r.after); within = omega arith; length_seats = r.length_seats; later = λ y k. r.later y (omega arith); asked = λ y l k m. at y l k m (ℕ_discrete y next) }
        where
          still : {C : Type 0} {v w : ℕ} → Asked C v w some → Asked C v w true
          still (had_none a c) = had_none a c
          still (can a c) = can a c
          still (cannot a c _) = cannot a c refl

          at : (y l : ℕ) → y < next + 1 → InnerMatched p b l q d full → Dec (y ≡ next) → Asked (Beside p b l q d (get_or full y 0)) (get_or full y 0) (get_or seats y 0) true
          at y l k m (yes z) = rw z (cannot (told_no t (f l m) e) (r.later next (omega arith)) refl)
          at y l k m (no z) = still (r.asked y l (omega arith) m)

  pub leave_end : length p ≤ next → (l : ℕ) → InnerMatched p b l q d full → StuckSeats p b l q d seats some
  leave_end h l m = record { length_seats = r.length_seats; root_none = root (r.asked 0 l (omega (arith, r.after)) m); these = λ y n. these y n (dec_lt y next); others = others }
    where
      root : Asked (Beside p b l q d (get_or full 0 0)) (get_or full 0 0) (get_or seats 0 0) some → get_or seats 0 0 ≡ 0
      root (had_none _ e) = e
      root (can _ e) = e
      root (cannot _ e _) = e ∙ no_seat r.input 0 (λ z. omega (arith, z.before))

      these : (y : ℕ) → ¬ (get_or seats y 0 ≡ 0) → Dec (y < next) → ¬ Beside p b l q d (get_or seats y 0) × (some ≡ true)
      these y n (no k) = absurd (n (r.later y (omega arith) ∙ no_seat r.input y (λ z. omega (arith, z.inside))))
      these y n (yes k) = go (r.asked y l k m)
        where
          go : Asked (Beside p b l q d (get_or full y 0)) (get_or full y 0) (get_or seats y 0) some → ¬ Beside p b l q d (get_or seats y 0) × (some ≡ true)
          go (had_none _ e) = absurd (n e)
          go (can _ e) = absurd (n e)
          go (cannot c e s) = (rw e c, s)

      others : (w : ℕ) → 0 < w → ((y : ℕ) → ¬ (get_or seats y 0 ≡ w)) → Beside p b l q d w
      others w a f = go (who (length p))
        where
          who : (n : ℕ) → Dec ((y : ℕ) × (y < n) × (get_or full y 0 ≡ w))
          who zero = no (λ z. let k = z.1 in omega arith)
          who (suc n) = at (ℕ_discrete (get_or full n 0) w) (who n)
            where
              at : Dec (get_or full n 0 ≡ w) → Dec ((y : ℕ) × (y < n) × (get_or full y 0 ≡ w)) → Dec ((y : ℕ) × (y < suc n) × (get_or full y 0 ≡ w))
              at (yes e) _ = yes (n, omega arith, e)
              at (no e) (yes z) = let k = z.1 in yes (z.0, omega arith, z.2)
              at (no e) (no z) = no (λ y. last y (ℕ_discrete y.0 n))
                where
                  last : (y : ((y : ℕ) × (y < suc n) × (get_or full y 0 ≡ w))) → ¬ Dec (y.0 ≡ n)
                  last y (yes k) = e (ap (λ (j : ℕ). get_or full j 0) (sym k) ∙ y.2)
                  last y (no k) = let u = y.1 in z (y.0, omega arith, y.2)

          go : Dec ((y : ℕ) × (y < length p) × (get_or full y 0 ≡ w)) → Beside p b l q d w
          go (no n) = inner_free m (λ y e. n (y, (r.input.matching.allowed y (λ z. omega arith)).0.inside, e))
          go (yes (y, k, e)) = at (r.asked y l (omega arith) m)
            where
              at : Asked (Beside p b l q d (get_or full y 0)) (get_or full y 0) (get_or seats y 0) some → Beside p b l q d w
              at (had_none z _) = absurd (omega arith)
              at (can c _) = rw e at c
              at (cannot _ z _) = absurd (f y (z ∙ e))

-- THOSE KEPT of the list, in place
module _ {S : ℕ → Type 0} {list : List ℕ} {len i : ℕ} {kids : List ℕ} (k : Kept S list len i kids) where
  pub kept_not : ¬ S (get_or list i 0) → Kept S list len (i + 1) kids
  kept_not n = record { each = λ m h. let z = k.each m h in let y = z.2 in (z.0, z.1, omega arith, z.3, z.4); none_missing = λ j a b s. at j a b s (ℕ_discrete j i); rising = k.rising }
    where
      at : (j : ℕ) → len ≤ j → j < i + 1 → S (get_or list j 0) → Dec (j ≡ i) → (m : ℕ) × (m < length kids) × (get_or kids m 0 ≡ get_or list j 0)
      at j a b s (yes e) = absurd (n (rw e at s))
      at j a b s (no e) = k.none_missing j a (omega arith) s

  pub kept_more : len ≤ i → ((j : ℕ) → len ≤ j → j < i → get_or list j 0 < get_or list i 0) → S (get_or list i 0) → Kept S list len (i + 1) (kids ++ get_or list i 0 ∷ [])
  kept_more l r s = record { each = λ m h. each m h (dec_lt m (length kids)); none_missing = λ j a b t. missing j a b t (ℕ_discrete j i); rising = λ m n a h. rise m n a h (dec_lt n (length kids)) }
    where
      v : ℕ
      v = get_or list i 0

      long : length (kids ++ v ∷ []) ≡ length kids + 1
      long = length-append kids (v ∷ [])

      old : (m : ℕ) → m < length kids → get_or (kids ++ v ∷ []) m 0 ≡ get_or kids m 0
      old m h = get_or-append kids (v ∷ []) 0 m h

      new : get_or (kids ++ v ∷ []) (length kids) 0 ≡ v
      new = get_or-append_seam kids v [] 0

      new_at : (m : ℕ) → m ≡ length kids → get_or (kids ++ v ∷ []) m 0 ≡ v
      new_at m e = ap (λ (j : ℕ). get_or (kids ++ v ∷ []) j 0) e ∙ new

      each : (m : ℕ) → m < length (kids ++ v ∷ []) → Dec (m < length kids) → (j : ℕ) × (len ≤ j) × (j < i + 1) × (get_or (kids ++ v ∷ []) m 0 ≡ get_or list j 0) × S (get_or list j 0)
      each m h (yes b) = let z = k.each m b in let y = z.2 in (z.0, z.1, omega arith, old m b ∙ z.3, z.4)
      each m h (no b) = (i, l, omega arith, new_at m (omega (arith, long)), s)

      missing : (j : ℕ) → len ≤ j → j < i + 1 → S (get_or list j 0) → Dec (j ≡ i) → (m : ℕ) × (m < length (kids ++ v ∷ [])) × (get_or (kids ++ v ∷ []) m 0 ≡ get_or list j 0)
      missing j a b t (yes e) = (length kids, omega (arith, long), new ∙ ap (λ (n : ℕ). get_or list n 0) (sym e))
      missing j a b t (no e) = let z = k.none_missing j a (omega arith) t in let y = z.1 in (z.0, omega (arith, long), old z.0 y ∙ z.2)

      rise : (m n : ℕ) → m < n → n < length (kids ++ v ∷ []) → Dec (n < length kids) → get_or (kids ++ v ∷ []) m 0 < get_or (kids ++ v ∷ []) n 0
      rise m n a h (yes b) = omega (arith, old m (omega arith), old n b, k.rising m n a b)
      rise m n a h (no b) =
          let c : m < length kids = omega (arith, long) in
          let z = k.each m c in
          omega (arith, old m c, z.3, new_at n (omega (arith, long)), r z.0 z.1 z.2)

pub kept_iff : {C S T : ℕ → Type 0} {list : List ℕ} {len end : ℕ} {kids : List ℕ} → RisingIn C list len end → ((w : ℕ) → C w → S w ↔ T w) → Kept S list len end kids → Kept T list len end kids
kept_iff r f k = record {
  each = λ m h. let z = k.each m h in (z.0, z.1, z.2, z.3, (f _ (r.each z.0 z.1 z.2)).0 z.4);
  none_missing = λ i a b t. k.none_missing i a b ((f _ (r.each i a b)).1 t);
  rising = k.rising;
}

pub record KeepTo (p : List ℕ) (x b : ℕ) (q sizes : List ℕ) (start d : ℕ) (list₀ : List ℕ) (len end : ℕ) (list seats : List ℕ) (kept i : ℕ) : Type 0 where
  pub input : SeatInput p x b q sizes d
  pub there : RisingIn (ChildFrom q d start) list₀ len end
  pub stuck : StuckSeats p b (x % 1000) q d seats true
  pub after : len ≤ i
  pub within : i ≤ end
  pub few : kept ≤ i
  pub kids : List ℕ
  pub those : Kept (BesideFrom p b (x % 1000) q d start) list₀ len i kids
  pub behind : PutBehind list₀ len kids list kept
  pub rest : (j : ℕ) → i ≤ j → j < end → get_or list j 0 ≡ get_or list₀ j 0

pub keep_start : {p : List ℕ} {x b : ℕ} {q sizes : List ℕ} {start d : ℕ} {list : List ℕ} {len end : ℕ} {seats : List ℕ} → SeatInput p x b q sizes d → RisingIn (ChildFrom q d start) list len end → {some : Bool} → StuckSeats p b (x % 1000) q d seats some → KeepTo p x b q sizes start d list len end list seats len len
keep_start {list = list} {len} i t f = record {
  input = i;
  there = t;
  stuck = record { length_seats = f.length_seats; root_none = f.root_none; these = λ y n. ((f.these y n).0, refl); others = f.others };
  after = omega arith;
  within = t.order;
  few = omega arith;
  kids = [];
  those = record { each = λ m h. absurd (omega arith); none_missing = λ j a b. absurd (omega arith); rising = λ m n a h. absurd (omega arith) };
  behind = behind_none list len;
  rest = λ j a b. refl;
}

-- no seat is left: all are kept
pub keep_all : {p : List ℕ} (x : ℕ) {b : ℕ} {q : List ℕ} {start d : ℕ} {list : List ℕ} {len end : ℕ} {seats : List ℕ} {some : Bool} → RisingIn (ChildFrom q d start) list len end → StuckSeats p b (x % 1000) q d seats some → some ≡ false → KeptBehind (BesideFrom p b (x % 1000) q d start) list len end list end
keep_all {p} x {b} {q} {start} {d} {list} {len} {end} {seats} {some} t f e = record {
  kids = slice len end list;
  kept = record {
    each = λ m h. let k : m < end - len = omega (arith, long) in (len + m, omega arith, omega (arith, t.order), at m k, beside (len + m) (omega arith) (omega (arith, t.order)));
    none_missing = λ i a c _. let z : len + (i - len) ≡ i = omega arith in (i - len, omega (arith, long), at (i - len) (omega arith) ∙ ap (λ (j : ℕ). get_or list j 0) z);
    rising = λ m n a h. let k : n < end - len = omega (arith, long) in rw (at m (omega arith), at n k) (t.rising (len + m) (len + n) (omega arith) (omega arith) (omega (arith, t.order)));
  };
  behind = record { same_length = refl; as_many = omega (arith, long, t.order); put = sym (take-append-drop len (take end list)) ∙ ap (λ (l : List ℕ). l ++ slice len end list) (take-take len end list t.order) };
}
  where
    inside : end ≤ length list
    inside = omega (arith, t.few, t.room)

    long : length (slice len end list) ≡ end - len
    long = length-slice len end list inside

    at : (m : ℕ) → m < end - len → get_or (slice len end list) m 0 ≡ get_or list (len + m) 0
    at m h = get_or-drop len (take end list) m 0 ∙ get_or-take end list (len + m) 0 (omega arith)

    empty : (y : ℕ) → get_or seats y 0 ≡ 0
    empty y = go (ℕ_discrete (get_or seats y 0) 0)
      where
        go : Dec (get_or seats y 0 ≡ 0) → get_or seats y 0 ≡ 0
        go (yes z) = z
        go (no n) = absurd (true≢false (sym (f.these y n).1 ∙ e))

    beside : (i : ℕ) → len ≤ i → i < end → Beside p b (x % 1000) q d (get_or list i 0 - start)
    beside i a c = let z = t.each i a c in let k = z.2.before in f.others (get_or list i 0 - start) (omega arith) (λ y w. omega (arith, empty y, w))

pub leave_of : {p : List ℕ} {x b : ℕ} {q sizes : List ℕ} {d : ℕ} {seats : List ℕ} → SeatInput p x b q sizes d → InnerMatched p b (x % 1000) q d seats → LeaveInput p b q sizes d seats
leave_of i m = record { nodes = at_place i; measured = i.measured; length_seats = m.length_places; matching = m.matching }

module _ {p : List ℕ} {x b : ℕ} {q sizes : List ℕ} {start d : ℕ} {list₀ : List ℕ} {len end : ℕ} {list seats : List ℕ} {kept i : ℕ} (r : KeepTo p x b q sizes start d list₀ len end list seats kept i) where
  module _ (h : i < end) where
    pub entry_few : i < most_nodes
    entry_few = omega (arith, r.there.few)

    pub entry_in : i < length list
    entry_in = omega (arith, entry_few, r.there.room, r.behind.same_length)

    pub kept_in : kept < length list
    kept_in = omega (arith, entry_in, r.few)

    same : get_or list i 0 ≡ get_or list₀ i 0
    same = r.rest i (omega arith) h

    pub kid_from : ChildFrom q d start (get_or list i 0)
    kid_from = rw same (r.there.each i r.after h)

    from_1 : 0 < get_or list i 0 - start
    from_1 = omega (arith, kid_from.2.before)

    pub keep_this : {o : ℕ} → HolderIs seats (replicate 16 false) (get_or list i 0 - start) o → o ≡ 16 → KeepTo p x b q sizes start d list₀ len end (set list kept (get_or list i 0)) seats (kept + 1) (i + 1)
    keep_this {o} f e = record {
      input = r.input;
      there = r.there;
      stuck = r.stuck;
      after = omega (arith, r.after);
      within = omega arith;
      few = omega (arith, r.few);
      kids = r.kids ++ get_or list₀ i 0 ∷ [];
      those = kept_more r.those r.after (λ j a c. r.there.rising j i a c h) (rw same at beside);
      behind = rw (sym same) (behind_more (get_or list i 0) (omega (arith, kept_in, r.behind.same_length)) r.behind);
      rest = λ j a c. get_or-set_other list kept j (get_or list i 0) 0 (λ y. omega (arith, r.few)) ∙ r.rest j (omega arith) c;
    }
      where
        free : {o : ℕ} → HolderIs seats (replicate 16 false) (get_or list i 0 - start) o → o ≡ 16 → Beside p b (x % 1000) q d (get_or list i 0 - start)
        free (nobody _ g) z = r.stuck.others (get_or list i 0 - start) from_1 g
        free (one_visited _ v) z = absurd (true≢false (sym v.was_visited ∙ all_same 16 v.holder false))
        free (one g _ _) z = absurd (omega arith)

        beside : Beside p b (x % 1000) q d (get_or list i 0 - start)
        beside = free f e

    pub keep_not : {o : ℕ} → HolderIs seats (replicate 16 false) (get_or list i 0 - start) o → ¬ (o ≡ 16) → KeepTo p x b q sizes start d list₀ len end list seats kept (i + 1)
    keep_not {o} f e = record {
      input = r.input;
      there = r.there;
      stuck = r.stuck;
      after = omega (arith, r.after);
      within = omega arith;
      few = omega (arith, r.few);
      kids = r.kids;
      those = kept_not r.those (rw same at not_beside);
      behind = r.behind;
      rest = λ j a c. r.rest j (omega arith) c;
    }
      where
        held : {o : ℕ} → HolderIs seats (replicate 16 false) (get_or list i 0 - start) o → ¬ (o ≡ 16) → ¬ Beside p b (x % 1000) q d (get_or list i 0 - start)
        held (nobody z _) n = absurd (n z)
        held (one_visited _ v) n = absurd (true≢false (sym v.was_visited ∙ all_same 16 v.holder false))
        held {o} (one _ g _) n = rw g at (r.stuck.these o (λ z. omega (arith, from_1, g, z))).0

        not_beside : ¬ Beside p b (x % 1000) q d (get_or list i 0 - start)
        not_beside = held f e

-- IN THE FLEET: the tree that d stands in
pub record TreeAt (fleet : List ℕ) (d start stop : ℕ) : Type 0 where
  pub stands : Vehicle fleet start stop
  pub from : start ≤ d
  pub to : d < stop
  pub is_vehicle : IsVehicle (stretch fleet start stop)

module _ {p : List ℕ} {x b : ℕ} {fleet parents sizes : List ℕ} {d : ℕ} (i : KidsInput p x b fleet parents sizes d) where
  pub place_in : d < length fleet
  place_in = let m = placed_maps i.placed in omega (arith, m.there, m.embeds.bound b i.new_child.on_branch.inside)

  v : VehicleOf fleet d
  v = vehicle_of d i.is_fleet place_in

  module _ {start : ℕ} (u : Up fleet start (depthAt fleet d) d) where
    is_start : start ≡ v.start
    is_start = go (ℕ_discrete start v.start)
      where
        in_it : (v.start ≤ start) × (start < v.end)
        in_it = same_vehicle v.stands u place_in v.from v.to

        go : Dec (start ≡ v.start) → start ≡ v.start
        go (yes e) = e
        go (no e) = absurd (omega (arith, up_depth u, v.stands.ends.deep start (omega (arith, in_it.0)) in_it.1))

    in_fleet : start < length fleet
    in_fleet = omega (arith, up_before u, place_in)

    ends : SubtreeEnd fleet start (start + 1 + get_or sizes start 0)
    ends = i.has_sizes.each start in_fleet

    is_end : start + 1 + get_or sizes start 0 ≡ v.end
    is_end = go (dec_lt (start + 1 + get_or sizes start 0) v.end) (dec_lt v.end (start + 1 + get_or sizes start 0))
      where
        go : Dec (start + 1 + get_or sizes start 0 < v.end) → Dec (v.end < start + 1 + get_or sizes start 0) → start + 1 + get_or sizes start 0 ≡ v.end
        go (yes h) _ = absurd (omega (arith, ends.stop (omega (arith, v.stands.ends.within)), up_depth u, v.stands.ends.deep (start + 1 + get_or sizes start 0) (omega (arith, is_start)) h))
        go (no h) (yes k) = absurd (omega (arith, ends.deeper v.end (omega (arith, is_start, v.stands.ends.after)) k, v.stands.ends.next (omega (arith, ends.within))))
        go (no h) (no k) = omega arith

    pub tree_at : TreeAt fleet d start (start + 1 + get_or sizes start 0)
    tree_at = rw (is_end, is_start) (record { stands = v.stands; from = v.from; to = v.to; is_vehicle = v.is_vehicle })

    pub start_few : start < most_nodes
    start_few = omega (arith, in_fleet, i.is_fleet.nodes)

    pub start_in : start < length sizes
    start_in = omega (arith, start_few, i.has_sizes.all)

    pub start_jump : Fits w64 (get_or sizes start 0) × Fits w64 (start + 1 + get_or sizes start 0)
    start_jump = let z = i.has_sizes.small start in_fleet in let y = start_few in (omega arith, omega arith)

  module _ {start stop : ℕ} (t : TreeAt fleet d start stop) where
    pub stop_in : stop ≤ length fleet
    stop_in = t.stands.ends.within

    pub sizes_in : stop ≤ length sizes
    sizes_in = omega (arith, stop_in, i.is_fleet.nodes, i.has_sizes.all)

    long : length (stretch fleet start stop) ≡ stop - start
    long = stretch_length t.stands.ends

    at : (j : ℕ) → j < stop - start → get_or (stretch fleet start stop) j 0 ≡ get_or fleet (start + j) 0
    at j h = stretch_at fleet start stop j h

    long_sizes : length (stretch sizes start stop) ≡ stop - start
    long_sizes = length-take-le (stop - start) (drop start sizes) (omega (arith, length-drop start sizes, sizes_in))

    -- in the vehicle's tree a subtree ends where it does in the fleet
    module _ {c : ℕ} (h : c < length (stretch fleet start stop)) where
      in_fleet' : start + c < length fleet
      in_fleet' = omega (arith, h, long, stop_in)

      size : get_or (stretch sizes start stop) c 0 ≡ get_or sizes (start + c) 0
      size = stretch_at sizes start stop c (omega (arith, h, long))

      s : SubtreeEnd fleet (start + c) (start + c + 1 + get_or sizes (start + c) 0)
      s = i.has_sizes.each (start + c) in_fleet'

      no_longer : start + c + 1 + get_or sizes (start + c) 0 ≤ stop
      no_longer = go (dec_lt stop (start + c + 1 + get_or sizes (start + c) 0))
        where
          go : Dec (stop < start + c + 1 + get_or sizes (start + c) 0) → start + c + 1 + get_or sizes (start + c) 0 ≤ stop
          go (yes l) = absurd (omega (arith, s.deeper stop (omega (arith, h, long)) l, t.stands.ends.next (omega (arith, s.within))))
          go (no l) = omega arith

      depth : (m : ℕ) → m < stop - start → depthAt (stretch fleet start stop) m ≡ depthAt fleet (start + m)
      depth m l = ap (λ (y : ℕ). y / 1000) (at m l)

      inner_end : SubtreeEnd (stretch fleet start stop) c (c + 1 + get_or (stretch sizes start stop) c 0)
      inner_end = record {
        after = omega arith;
        within = omega (arith, long, size, no_longer);
        deeper = λ m a l. omega (arith, depth c (omega (arith, h, long)), depth m (omega (arith, size, no_longer)), s.deeper (start + m) (omega arith) (omega (arith, size)));
        stop = λ l. stops (omega (arith, l, long));
      }
        where
          behind : start + (c + 1 + get_or (stretch sizes start stop) c 0) ≡ start + c + 1 + get_or sizes (start + c) 0
          behind = omega (arith, size)

          stops : c + 1 + get_or (stretch sizes start stop) c 0 < stop - start → depthAt (stretch fleet start stop) (c + 1 + get_or (stretch sizes start stop) c 0) ≤ depthAt (stretch fleet start stop) c
          stops l = omega (arith, depth c (omega (arith, h, long)), depth (c + 1 + get_or (stretch sizes start stop) c 0) l, ap (depthAt fleet) behind, s.stop (omega (arith, behind, l, stop_in)))

    pub seat_in_tree : SeatInput p x b (stretch fleet start stop) (stretch sizes start stop) (d - start)
    seat_in_tree = record {
      trees = record { pattern_is_tree = i.new_child.is_tree; tree_is_tree = t.is_vehicle.is_tree; pattern_nodes = i.few; tree_nodes = t.is_vehicle.nodes };
      new_child = i.new_child;
      measured = record { all = omega (arith, long, long_sizes); small = λ c h. omega (arith, size h, i.has_sizes.small (start + c) (in_fleet' h)); below = λ c m h a k. (inner_end h).deeper m a (omega arith); ends = λ _ c h. inner_end h };
      placed = places_inside t.stands i.new_child.is_tree i.new_child.on_branch.inside t.from t.to i.placed;
    }

    module _ {w : ℕ} (c : IsParent fleet d w) where
      in_tree : (start ≤ w) × (w < stop)
      in_tree = same_vehicle_down t.stands (above c (itself refl)) c.inside t.from t.to

      back : start + (w - start) ≡ w
      back = omega (arith, in_tree.0)

      back_d : start + (d - start) ≡ d
      back_d = omega (arith, t.from)

      pub child_from : ChildFrom (stretch fleet start stop) (d - start) start w
      child_from = (in_tree.0, omega (arith, c.inside, i.is_fleet.nodes), inner.0)
        where
          inner : IsChild (stretch fleet start stop) (d - start) (label_at fleet w) (w - start)
          inner = (fleet_child t.stands {d = d - start} {w = w - start} (omega (arith, back, in_tree.1))).1 (rw (back, back_d) (c, refl))

      pub beside_exactly : BesideFrom p b (x % 1000) (stretch fleet start stop) (d - start) start w ↔ Beside p b (x % 1000) fleet d w
      beside_exactly = rw (back, back_d) at (fleet_seated t.stands p (IsInner p b (x % 1000)) (d - start) (w - start) (omega (arith, back_d, t.to)))

    module _ {list : List ℕ} {len end : ℕ} (r : RisingIn (IsParent fleet d) list len end) where
      pub rise_from : RisingIn (ChildFrom (stretch fleet start stop) (d - start) start) list len end
      rise_from = record { order = r.order; few = r.few; room = r.room; each = λ j a h. child_from (r.each j a h); rising = r.rising }

      pub kept_beside : {list' : List ℕ} {end' : ℕ} → KeptBehind (BesideFrom p b (x % 1000) (stretch fleet start stop) (d - start) start) list len end list' end' → KeptBehind (Beside p b (x % 1000) fleet d) list len end list' end'
      kept_beside k = record { kids = k.kids; kept = kept_iff r (λ w c. beside_exactly c) k.kept; behind = k.behind }
