-- LAWS. The vehicles' trees stand end to end in the fleet; a tree followed by a fleet is one vehicle more.
use mathlib.Core.Path.{◌≡◌, refl, sym, ap, ◌∙◌}
use mathlib.Core.List.{List, [], ◌∷◌, ◌++◌}
use Prim.Native.Nat.{ℕ, zero, suc, ◌/◌, ◌≤◌, ◌<◌}
use native.Mathlib.Omega.{arith}
use lib.ListN.{length, get_or, take, drop}
use lib.Seq.{take-append_seam}
use Rattle.terms.specs.Tree.{depthAt}
use Rattle.terms.specs.Fleet.{vehicles, in_front, end_to_end}
use Rattle.terms.specs.Claims.{VehiclesJoin, VehicleStretch}

in_front_joins : (x d : ℕ) (ts : List (List ℕ)) → end_to_end (in_front x d ts) ≡ x ∷ end_to_end ts
unfolding end_to_end in_front
in_front_joins x zero ts = refl
in_front_joins x (suc d) [] = refl
in_front_joins x (suc d) (t ∷ ts) = refl

-- "A fleet is .. trees end to end"
pub vehicles_join : VehiclesJoin
unfolding end_to_end vehicles
vehicles_join [] = refl
vehicles_join (x ∷ []) = refl
vehicles_join (x ∷ y ∷ s) = in_front_joins x (y / 1000) (vehicles (y ∷ s)) ∙ ap (λ (r : List ℕ). x ∷ r) (vehicles_join (y ∷ s))

-- all pairs are deeper than a root; a fleet or nothing follows
unfoldable pub AllDeep : List ℕ → Type 0
AllDeep s = (i : ℕ) → i < length s → 1 ≤ depthAt s i

abbrev pub AtRoot : List ℕ → Type 0
AtRoot r = 0 < length r → depthAt r 0 ≡ 0

pub cut : (x : ℕ) (t r : List ℕ) → AllDeep t → AtRoot r → vehicles (x ∷ t ++ r) ≡ (x ∷ t) ∷ vehicles r
unfolding vehicles in_front AllDeep
cut x [] [] d a = refl
cut x [] (y ∷ r) d a =
    let e : y / 1000 ≡ 0 = a (omega arith) in
    ap (λ (k : ℕ). in_front x k (vehicles (y ∷ r))) e
cut x (y ∷ t) r d a = go (y / 1000) refl (cut y t r (λ i h. d (suc i) (omega arith)) a)
  where
    go : (k : ℕ) → y / 1000 ≡ k → vehicles (y ∷ t ++ r) ≡ (y ∷ t) ∷ vehicles r → in_front x (y / 1000) (vehicles (y ∷ t ++ r)) ≡ (x ∷ y ∷ t) ∷ vehicles r
    go zero e q = absurd (omega (arith, d 0 (omega arith)))
    go (suc k) e q = ap (λ (n : ℕ). in_front x n (vehicles (y ∷ t ++ r))) e ∙ ap (in_front x (suc k)) q

-- "A vehicle's tree is a stretch of the fleet's pairs"
pub stretch_of : (ts : List (List ℕ)) (n : ℕ) → n < length ts → get_or ts n [] ≡ take (length (get_or ts n [])) (drop (length (end_to_end (take n ts))) (end_to_end ts))
unfolding end_to_end
stretch_of [] n h = absurd (omega arith)
stretch_of (t ∷ ts) zero h = sym (take-append_seam t (end_to_end ts))
stretch_of (t ∷ ts) (suc n) h = stretch_of ts n (omega arith) ∙ ap (take (length (get_or ts n []))) (sym (past t (end_to_end (take n ts)) (end_to_end ts)))
  where
    past : (t u s : List ℕ) → drop (length (t ++ u)) (t ++ s) ≡ drop (length u) s
    past [] u s = refl
    past (x ∷ t) u s = past t u s

pub vehicle_stretch : VehicleStretch
vehicle_stretch fleet n h = stretch_of (vehicles fleet) n h ∙ ap (λ (s : List ℕ). take (length (get_or (vehicles fleet) n [])) (drop (length (end_to_end (take n (vehicles fleet)))) s)) (vehicles_join fleet)
