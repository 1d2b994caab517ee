-- LAWS. Where the tree with a number begins: behind those of the vehicles before it.
use mathlib.Core.Path.{◌≡◌, refl, sym, ap, ◌∙◌}
use mathlib.Core.Logic.{◌≢◌}
use mathlib.Core.List.{List, [], ◌∷◌, ◌++◌, append_assoc}
use Prim.Native.Nat.{ℕ, zero, suc, ◌+◌, ◌-◌, ◌/◌, ◌≤◌, ◌<◌}
use native.Mathlib.Omega.{arith}
use native.Mathlib.Decide.{dec_le}
use lib.ListN.{length, get_or, take, drop, length-append, length-drop, take-append-drop, drop_of_length-le, get_or-eq_default}
use lib.Seq.{drop-nil, length-take-le}
use Rattle.terms.specs.Fleet.{vehicles, in_front, end_to_end}
use Rattle.terms.proofs.Decide.{within?}
use Rattle.terms.proofs.VehicleLaws.{vehicles_join}
use Rattle.vehicles.specs.Vehicle.{EndsAt, TreeEnd, TreeStart, stretch, numbered, tree_numbered}
use Rattle.vehicles.proofs.StretchLaws.{one_more}

-- trees end to end, in two parts
pub joined : (a b : List (List ℕ)) → end_to_end (a ++ b) ≡ end_to_end a ++ end_to_end b
unfolding end_to_end
joined [] b = refl
joined (t ∷ a) b = ap (λ (r : List ℕ). t ++ r) (joined a b) ∙ sym (append_assoc t (end_to_end a) (end_to_end b))

pub fleet_parts : (fleet : List ℕ) (k : ℕ) → end_to_end (take k (vehicles fleet)) ++ end_to_end (drop k (vehicles fleet)) ≡ fleet
fleet_parts fleet k = sym (joined (take k (vehicles fleet)) (drop k (vehicles fleet))) ∙ ap end_to_end (take-append-drop k (vehicles fleet)) ∙ vehicles_join fleet

-- behind the first trees stand the others
pub vehicles_behind : (s : List ℕ) (k : ℕ) → vehicles (drop (length (end_to_end (take k (vehicles s)))) s) ≡ drop k (vehicles s)
unfolding vehicles in_front end_to_end
vehicles_behind [] zero = refl
vehicles_behind [] (suc k) = refl
vehicles_behind (x ∷ []) zero = refl
vehicles_behind (x ∷ []) (suc k) = ap vehicles (drop-nil (length (end_to_end (take k [])))) ∙ sym (drop-nil k)
vehicles_behind (x ∷ y ∷ s) zero = refl
vehicles_behind (x ∷ y ∷ s) (suc k) = go (y / 1000) (vehicles (y ∷ s)) (vehicles_behind (y ∷ s))
  where
    go : (d : ℕ) (ts : List (List ℕ)) → ((n : ℕ) → vehicles (drop (length (end_to_end (take n ts))) (y ∷ s)) ≡ drop n ts)
        → vehicles (drop (length (end_to_end (take (suc k) (in_front x d ts)))) (x ∷ y ∷ s)) ≡ drop (suc k) (in_front x d ts)
    go zero ts ih = ih k
    go (suc d) [] ih = ih k
    go (suc d) (t ∷ ts) ih = ih (suc k)

-- pairs have a tree
has_tree : (s : List ℕ) → 1 ≤ length s → 1 ≤ length (vehicles s)
unfolding end_to_end
has_tree s h = go (vehicles s) (vehicles_join s)
  where
    go : (ts : List (List ℕ)) → end_to_end ts ≡ s → 1 ≤ length ts
    go [] e = absurd (omega (arith, ap length e))
    go (t ∷ ts) e = omega arith

pub has_pairs : (s : List ℕ) → 1 ≤ length (vehicles s) → 1 ≤ length s
unfolding vehicles
has_pairs [] h = absurd (omega arith)
has_pairs (x ∷ s) h = omega arith

-- one tree more end to end
tree_more : (ts : List (List ℕ)) (k : ℕ) (t : List ℕ) (rest : List (List ℕ)) → drop k ts ≡ t ∷ rest
    → (length (end_to_end (take (suc k) ts)) ≡ length (end_to_end (take k ts)) + length t) × (get_or ts k [] ≡ t)
unfolding end_to_end
tree_more [] k t rest e = let z : ◌≡◌ {A = ℕ} 0 (suc (length rest)) = ap length (sym (drop-nil k) ∙ e) in absurd (omega arith)
tree_more (u ∷ ts) zero t rest e = let z : u ≡ t = cc in (rw z (omega (arith, length-append t [])), z)
tree_more (u ∷ ts) (suc k) t rest e =
    let ih = tree_more ts k t rest e in
    (omega (arith, ih.0, length-append u (end_to_end (take (suc k) ts)), length-append u (end_to_end (take k ts))), ih.1)

-- the loop of tree_start: the tree with the number `vehicle` begins at `at`, if any does, and those before it are not looked for
pub record Sought (fleet : List ℕ) (number vehicle at : ℕ) : Type 0 where
  pub from_1 : 1 ≤ vehicle
  pub begins : at ≡ length (end_to_end (take (vehicle - 1) (vehicles fleet)))
  pub within : at ≤ length fleet
  pub counted : vehicle ≤ suc at
  pub passed : 1 ≤ number → vehicle ≤ number

pub sought_first : (fleet : List ℕ) (number : ℕ) → Sought fleet number 1 0
unfolding end_to_end
sought_first fleet number = record { from_1 = omega arith; begins = refl; within = omega arith; counted = omega arith; passed = λ h. h }

module _ (fleet : List ℕ) (number vehicle at : ℕ) (g : Sought fleet number vehicle at) where
  behind : vehicles (drop at fleet) ≡ drop (vehicle - 1) (vehicles fleet)
  behind = ap (λ (n : ℕ). vehicles (drop n fleet)) g.begins ∙ vehicles_behind fleet (vehicle - 1)

  pub sought_next : (to : ℕ) → EndsAt fleet at to → vehicle ≢ number → Sought fleet number (vehicle + 1) to
  sought_next to e n =
      let more = tree_more (vehicles fleet) (vehicle - 1) (stretch fleet at to) (vehicles (drop to fleet)) (sym behind ∙ one_more fleet at to e) in
      let len : length (stretch fleet at to) ≡ to - at = length-take-le (to - at) (drop at fleet) (omega (arith, length-drop at fleet, e.within)) in
      let k : suc (vehicle - 1) ≡ vehicle + 1 - 1 = omega (arith, g.from_1) in
      let ends : to ≡ length (end_to_end (take (suc (vehicle - 1)) (vehicles fleet))) = omega (arith, more.0, len, g.begins, e.after) in
      record {
        from_1 = omega arith;
        begins = ends ∙ ap (λ (i : ℕ). length (end_to_end (take i (vehicles fleet)))) k;
        within = e.within;
        counted = omega (arith, g.counted, e.after);
        passed = λ h. omega (arith, g.passed h);
      }

  -- the ways out of tree_start
  pub starts_here : at < length fleet → vehicle ≡ number → TreeStart fleet number at
  starts_here h q =
      let some = has_tree (drop at fleet) (omega (arith, length-drop at fleet)) in
      let left : vehicle ≤ length (vehicles fleet) = omega (arith, some, ap length behind, length-drop (vehicle - 1) (vehicles fleet), g.from_1) in
      record { of_tree = λ _. rw q at g.begins; of_none = λ n. absurd (n (omega (arith, g.from_1), omega (arith, left))) }

  pub starts_nowhere : length fleet ≤ at → TreeStart fleet number at
  unfolding vehicles
  starts_nowhere h =
      let empty : drop (vehicle - 1) (vehicles fleet) ≡ [] = sym behind ∙ ap vehicles (drop_of_length-le fleet {i = at} h) in
      record {
        of_tree = λ n. let low = n.0 in let high = n.1 in absurd (omega (arith, g.passed low, ap length empty, length-drop (vehicle - 1) (vehicles fleet), g.from_1));
        of_none = λ _. omega (arith, g.within);
      }

-- a vehicle's tree begins before the last pair
pub start_within : (fleet : List ℕ) (number from : ℕ) → TreeStart fleet number from → (1 ≤ number) × (number ≤ length (vehicles fleet)) → from < length fleet
start_within fleet number from start h =
    let low = h.0 in
    let high = h.1 in
    let rest = ap (λ (n : ℕ). vehicles (drop n fleet)) (start.of_tree h) ∙ vehicles_behind fleet (number - 1) in
    let some = has_pairs (drop from fleet) (omega (arith, ap length rest, length-drop (number - 1) (vehicles fleet))) in
    omega (arith, some, length-drop from fleet)

-- tree: the pairs from where it begins to where it ends
module _ (fleet : List ℕ) (number from to : ℕ) (start : TreeStart fleet number from) (end : TreeEnd fleet from to) where
  abbrev Named : Type 0
  Named = (1 ≤ number) × (number ≤ length (vehicles fleet))

  pub tree_of : Named → (EndsAt fleet from to) × (stretch fleet from to ≡ get_or (vehicles fleet) (number - 1) [])
  tree_of h =
      let ends = end.of_tree (start_within fleet number from start h) in
      let rest = ap (λ (n : ℕ). vehicles (drop n fleet)) (start.of_tree h) ∙ vehicles_behind fleet (number - 1) in
      (ends, sym (tree_more (vehicles fleet) (number - 1) (stretch fleet from to) (vehicles (drop to fleet)) (sym rest ∙ one_more fleet from to ends)).1)

  pub part_of : (from ≤ to) × (to ≤ length fleet)
  part_of = go (within? 1 number (length (vehicles fleet)))
    where
      go : Dec Named → (from ≤ to) × (to ≤ length fleet)
      go (yes h) = let e = (tree_of h).0 in (omega (arith, e.after), e.within)
      go (no h) = let a = start.of_none h in let b = end.of_none (omega arith) in (omega arith, omega arith)

  pub tree_found : stretch fleet from to ≡ tree_numbered fleet number
  unfolding numbered
  tree_found = go number refl (within? 1 number (length (vehicles fleet)))
    where
      none : ¬ Named → stretch fleet from to ≡ []
      none h = let a = start.of_none h in let b = end.of_none (omega arith) in let z : to - from ≡ 0 = omega arith in rw z refl

      go : (n : ℕ) → number ≡ n → Dec Named → stretch fleet from to ≡ numbered (vehicles fleet) n
      go zero q (yes h) = let low = h.0 in absurd (omega arith)
      go zero q (no h) = none h
      go (suc n) q (yes h) = let z : number - 1 ≡ n = omega arith in (tree_of h).1 ∙ ap (λ (i : ℕ). get_or (vehicles fleet) i []) z
      go (suc n) q (no h) = none h ∙ sym (get_or-eq_default (vehicles fleet) [] {n = n} (past (dec_le (length (vehicles fleet)) n)))
        where
          past : Dec (length (vehicles fleet) ≤ n) → length (vehicles fleet) ≤ n
          past (yes k) = k
          past (no k) = absurd (h (omega arith, omega arith))
