-- LAWS. The vehicle that a node of a fleet stands in, and what the fleet's pairs are by positions.
use mathlib.Core.Path.{◌≡◌, sym, ap, ◌∙◌}
use mathlib.Core.List.{List, [], ◌∷◌}
use Prim.Native.Nat.{ℕ, zero, suc, ◌+◌, ◌-◌, ◌/◌, ◌≤◌, ◌<◌}
use native.Mathlib.Omega.{arith}
use native.Mathlib.Decide.{dec_lt}
use lib.ListN.{length, get_or, drop, length-drop}
use lib.Seq.{length-take-le, get_or-take, get_or-drop}
use Rattle.terms.specs.Tree.{depthAt}
use Rattle.terms.specs.Fleet.{vehicles, IsVehicle, IsFleet}
use Rattle.vehicles.specs.Vehicle.{EndsAt, stretch}
use Rattle.vehicles.proofs.StretchLaws.{DeepTo, deep_start, deep_on, ends_here, ends_last, one_more}
use Rattle.rightmost.specs.Vehicles.{Vehicle}

pub stretch_length : {s : List ℕ} {a e : ℕ} → EndsAt s a e → length (stretch s a e) ≡ e - a
stretch_length {s} {a} {e} t = length-take-le (e - a) (drop a s) (omega (arith, length-drop a s, t.within))

pub stretch_at : (s : List ℕ) (a e i : ℕ) → i < e - a → get_or (stretch s a e) i 0 ≡ get_or s (a + i) 0
stretch_at s a e i h = get_or-take (e - a) (drop a s) i 0 h ∙ get_or-drop a s i 0

-- the pairs from a on end a tree somewhere
ends : (n : ℕ) (s : List ℕ) (a to : ℕ) → length s ≤ to + n → a < length s → DeepTo s a to → (e : ℕ) × EndsAt s a e
ends zero s a to b h d = (to, (ends_last s a to d (omega arith)).of_tree h)
ends (suc n) s a to b h d = go (dec_lt to (length s)) (dec_lt (get_or s to 0) 1000) (λ d'. ends n s a (to + 1) (omega arith) h d')
  where
    go : Dec (to < length s) → Dec (get_or s to 0 < 1000) → (DeepTo s a (to + 1) → (e : ℕ) × EndsAt s a e) → (e : ℕ) × EndsAt s a e
    go (no k) _ r = (to, (ends_last s a to d (omega arith)).of_tree h)
    go (yes k) (yes l) r = (to, (ends_here s a to d l).of_tree h)
    go (yes k) (no l) r = r (deep_on s a to d k (omega arith))

pub record VehicleOf (s : List ℕ) (w : ℕ) : Type 0 where
  pub start : ℕ
  pub end : ℕ
  pub stands : Vehicle s start end
  pub from : start ≤ w
  pub to : w < end
  pub is_vehicle : IsVehicle (stretch s start end)

abbrev Each : List ℕ → ℕ → Type 0
Each s a = (i : ℕ) → i < length (vehicles (drop a s)) → IsVehicle (get_or (vehicles (drop a s)) i [])

walk : (n : ℕ) (s : List ℕ) (a w : ℕ) → w < n + a → a ≤ w → w < length s → Each s a → VehicleOf s w
walk zero s a w b h l f = absurd (omega arith)
walk (suc n) s a w b h l f = go (ends (length s) s a (a + 1) (omega arith) (omega arith) (deep_start s a (omega arith))) (λ e c k g. walk n s e w c k l g)
  where
    go : ((e : ℕ) × EndsAt s a e) → ((e : ℕ) → w < n + e → e ≤ w → Each s e → VehicleOf s w) → VehicleOf s w
    go z r = at (dec_lt w e)
      where
        e : ℕ
        e = z.0

        t : EndsAt s a e
        t = z.1

        more : vehicles (drop a s) ≡ stretch s a e ∷ vehicles (drop e s)
        more = one_more s a e t

        each : (i : ℕ) → i < length (stretch s a e ∷ vehicles (drop e s)) → IsVehicle (get_or (stretch s a e ∷ vehicles (drop e s)) i [])
        each = rw more at f

        first : IsVehicle (stretch s a e)
        first = each 0 (omega arith)

        same : a + 0 ≡ a
        same = omega arith

        root : depthAt s a ≡ 0
        root = ap (λ (y : ℕ). y / 1000) (ap (λ (i : ℕ). get_or s i 0) (sym same) ∙ sym (stretch_at s a e 0 (omega (arith, t.after)))) ∙ first.is_tree.root_depth

        at : Dec (w < e) → VehicleOf s w
        at (yes k) = record { start = a; end = e; stands = record { starts = root; ends = t }; from = h; to = k; is_vehicle = first }
        at (no k) = r e (omega (arith, t.after)) (omega arith) (λ i m. each (suc i) (omega arith))

pub vehicle_of : {s : List ℕ} (w : ℕ) → IsFleet s → w < length s → VehicleOf s w
vehicle_of {s} w f h = walk (suc w) s 0 w (omega arith) (omega arith) h f.each

module _ {s : List ℕ} {w : ℕ} (v : VehicleOf s w) where
  here : (i : ℕ) → v.start ≤ i → i < v.end → get_or (stretch s v.start v.end) (i - v.start) 0 ≡ get_or s i 0
  here i a b = let e : v.start + (i - v.start) ≡ i = omega arith in stretch_at s v.start v.end (i - v.start) (omega arith) ∙ ap (λ (j : ℕ). get_or s j 0) e

  long : length (stretch s v.start v.end) ≡ v.end - v.start
  long = stretch_length v.stands.ends
