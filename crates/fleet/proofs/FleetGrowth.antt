-- LAWS. Pairs read one by one: they are a fleet exactly if each in turn keeps the rules 5, 6, 7 and 9.
use mathlib.Core.Path.{◌≡◌, refl, ap, ◌∙◌}
use mathlib.Core.List.{List, [], ◌∷◌, ◌++◌, append-nil, append_assoc}
use Prim.Native.Nat.{ℕ, zero, suc, ◌-◌, ◌/◌, ◌%◌, ◌≤◌, ◌<◌}
use native.Mathlib.Omega.{arith}
use lib.ListN.{length, get_or, length-append, get_or-append}
use lib.Seq.{get_or-append_seam}
use Rattle.fleet.proofs.NodeLaws.{NodeRight}
use Rattle.fleet.specs.Node.{last_of, last_tree}
use Rattle.terms.proofs.FleetWalk.{some_vehicle, vehicles_root, vehicles_child, onto_last, MayFollow, vehicle_goes_on, vehicle_went_on}
use Rattle.terms.specs.Fleet.{vehicles, family, IsVehicle, IsFleet, most_depth, most_trees, most_nodes}
use Rattle.terms.specs.Tree.{depthAt, IsPair, IsParent, pair}

last_append : (ts : List (List ℕ)) (t : List ℕ) → last_of (ts ++ t ∷ []) ≡ t
unfolding last_of
last_append [] t = refl
last_append (u ∷ []) t = refl
last_append (u ∷ v ∷ ts) t = last_append (v ∷ ts) t

last_onto : (x : ℕ) (ts : List (List ℕ)) → 0 < length ts → last_of (onto_last x ts) ≡ last_of ts ++ x ∷ []
unfolding last_of onto_last
last_onto x [] h = absurd (omega arith)
last_onto x (t ∷ []) h = refl
last_onto x (t ∷ u ∷ []) h = refl
last_onto x (t ∷ u ∷ v ∷ ts) h = last_onto x (u ∷ v ∷ ts) (omega arith)

pub length_onto : (x : ℕ) (ts : List (List ℕ)) → length (onto_last x ts) ≡ length ts
unfolding onto_last
length_onto x [] = refl
length_onto x (t ∷ []) = refl
length_onto x (t ∷ u ∷ ts) = ap suc (length_onto x (u ∷ ts))

-- each of the trees
abbrev Each : List (List ℕ) → Type 0
Each ts = (n : ℕ) → n < length ts → IsVehicle (get_or ts n [])

each_append : (ts : List (List ℕ)) (t : List ℕ) → Each ts → IsVehicle t → Each (ts ++ t ∷ [])
each_append [] t f v zero h = v
each_append [] t f v (suc n) h = absurd (omega arith)
each_append (u ∷ ts) t f v zero h = f 0 (omega arith)
each_append (u ∷ ts) t f v (suc n) h = each_append ts t (λ k q. f (suc k) (omega arith)) v n (omega arith)

append_each : (ts : List (List ℕ)) (t : List ℕ) → Each (ts ++ t ∷ []) → Each ts × IsVehicle t
append_each ts t f = ((λ n h. rw (get_or-append ts (t ∷ []) [] n h) at (f n (omega (arith, length-append ts (t ∷ []))))), rw (get_or-append_seam ts t [] []) at (f (length ts) (omega (arith, length-append ts (t ∷ [])))))

each_onto : (x : ℕ) (ts : List (List ℕ)) → Each ts → IsVehicle (last_of ts ++ x ∷ []) → Each (onto_last x ts)
unfolding last_of onto_last
each_onto x [] f v n h = absurd (omega arith)
each_onto x (t ∷ []) f v zero h = v
each_onto x (t ∷ []) f v (suc n) h = absurd (omega arith)
each_onto x (t ∷ u ∷ ts) f v zero h = f 0 (omega arith)
each_onto x (t ∷ u ∷ ts) f v (suc n) h = each_onto x (u ∷ ts) (λ k q. f (suc k) (omega arith)) v n (omega arith)

onto_last_is : (x : ℕ) (ts : List (List ℕ)) → 0 < length ts → Each (onto_last x ts) → IsVehicle (last_of ts ++ x ∷ [])
unfolding last_of onto_last
onto_last_is x [] h f = absurd (omega arith)
onto_last_is x (t ∷ []) h f = f 0 (omega arith)
onto_last_is x (t ∷ u ∷ ts) h f = onto_last_is x (u ∷ ts) (omega arith) (λ k q. f (suc k) (omega arith))

onto_each : (x : ℕ) (ts : List (List ℕ)) → Each (onto_last x ts) → IsVehicle (last_of ts) → Each ts
unfolding last_of onto_last
onto_each x [] f v n h = absurd (omega arith)
onto_each x (t ∷ []) f v zero h = v
onto_each x (t ∷ []) f v (suc n) h = absurd (omega arith)
onto_each x (t ∷ u ∷ ts) f v zero h = f 0 (omega arith)
onto_each x (t ∷ u ∷ ts) f v (suc n) h = onto_each x (u ∷ ts) (λ k q. f (suc k) (omega arith)) v n (omega arith)

each_last : (ts : List (List ℕ)) → 0 < length ts → Each ts → IsVehicle (last_of ts)
unfolding last_of
each_last [] h f = absurd (omega arith)
each_last (t ∷ []) h f = f 0 (omega arith)
each_last (t ∷ u ∷ ts) h f = each_last (u ∷ ts) (omega arith) (λ k q. f (suc k) (omega arith))

-- what one more pair does to the last tree
pub last_tree_root : (s : List ℕ) (x : ℕ) → x / 1000 ≡ 0 → last_tree (s ++ x ∷ []) ≡ x ∷ []
last_tree_root s x e = ap last_of (vehicles_root s x e) ∙ last_append (vehicles s) (x ∷ [])

pub last_tree_child : (s : List ℕ) (x : ℕ) → 1 ≤ length s → 1 ≤ x / 1000 → last_tree (s ++ x ∷ []) ≡ last_tree s ++ x ∷ []
last_tree_child s x h k = ap last_of (vehicles_child s x h k) ∙ last_onto x (vehicles s) (some_vehicle s h)

abbrev pub last_pair : List ℕ → ℕ
last_pair s = get_or s (length s - 1) 0

pub last_end : (s : List ℕ) (x : ℕ) → last_pair (s ++ x ∷ []) ≡ x
last_end s x = let e : length (s ++ x ∷ []) - 1 ≡ length s = omega (arith, length-append s (x ∷ [])) in rw e (get_or-append_seam s x [] 0)

pub split_end : (s : List ℕ) → 1 ≤ length s → (u : List ℕ) × (x : ℕ) × (s ≡ u ++ x ∷ [])
split_end [] h = absurd (omega arith)
split_end (x ∷ []) h = ([], x, refl)
split_end (x ∷ y ∷ s) h = let z = split_end (y ∷ s) (omega arith) in (x ∷ z.0, z.1, ap (λ (r : List ℕ). x ∷ r) z.2)

tree_end : (u : List ℕ) (x : ℕ) → (t : List ℕ) × (last_tree (u ++ x ∷ []) ≡ t ++ x ∷ [])
unfolding last_of vehicles
tree_end [] x = ([], refl)
tree_end (y ∷ u) x = go (x / 1000) refl
  where
    go : (d : ℕ) → x / 1000 ≡ d → (t : List ℕ) × (last_tree ((y ∷ u) ++ x ∷ []) ≡ t ++ x ∷ [])
    go zero e = ([], last_tree_root (y ∷ u) x e)
    go (suc d) e = (last_tree (y ∷ u), last_tree_child (y ∷ u) x (omega arith) (omega arith))

-- the last pair is the last of the last tree
pub last_same : (s : List ℕ) → 1 ≤ length s → (get_or s (length s - 1) 0 ≡ get_or (last_tree s) (length (last_tree s) - 1) 0) × (1 ≤ length (last_tree s))
last_same s h = go (split_end s h)
  where
    go : (u : List ℕ) × (x : ℕ) × (s ≡ u ++ x ∷ []) → (get_or s (length s - 1) 0 ≡ get_or (last_tree s) (length (last_tree s) - 1) 0) × (1 ≤ length (last_tree s))
    go z =
        let t = tree_end z.0 z.1 in
        let a : last_tree s ≡ t.0 ++ z.1 ∷ [] = ap last_tree z.2 ∙ t.1 in
        (rw (a, last_end t.0 z.1) (rw z.2 (last_end z.0 z.1)), omega (arith, ap length a, length-append t.0 (z.1 ∷ [])))

fleet_of : (pairs : List ℕ) (ts : List (List ℕ)) → vehicles pairs ≡ ts → 1 ≤ length ts → length ts ≤ most_trees → length pairs ≤ most_nodes → Each ts → IsFleet pairs
fleet_of pairs ts e a b c f = record { some_tree = rw e a; trees = rw e b; nodes = c; each = rw e f }

root_vehicle : (x : ℕ) → x / 1000 ≡ 0 → 1 ≤ x % 1000 → family (x % 1000) ≡ 1 → IsVehicle (x ∷ [])
root_vehicle x e l f = record {
  is_tree = record { has_root = omega arith; pairs = λ i h. pr i h; root_depth = e; later_from_1 = λ i h. absurd (omega arith); later_to_next = λ i h. absurd (omega arith) };
  nodes = omega arith;
  depths = λ i h. shallow i h;
  root_family = f;
  families = λ i j p. absurd (omega (arith, p.before, p.inside));
}
  where
    shallow : (i : ℕ) → i < 1 → depthAt (x ∷ []) i ≤ most_depth
    shallow zero h = omega arith
    shallow (suc i) h = absurd (omega arith)

    pr : (i : ℕ) → i < 1 → IsPair (get_or (x ∷ []) i 0)
    pr zero h = record { depth_to_15 = omega arith; label_from_1 = l }
    pr (suc i) h = absurd (omega arith)

-- nothing yet, or a fleet
pub data Begun (s : List ℕ) : Type 0 where
  nothing_yet : s ≡ [] → Begun s
  a_fleet : IsFleet s → Begun s

pub pair_whole : (x : ℕ) → pair (x / 1000) (x % 1000) ≡ x
pair_whole x = omega arith

pub pair_depth : (d l : ℕ) → l ≤ 999 → pair d l / 1000 ≡ d
pair_depth d l h = omega arith

pub pair_label : (d l : ℕ) → l ≤ 999 → pair d l % 1000 ≡ l
pair_label d l h = omega arith

module _ (s : List ℕ) (x : ℕ) where
  nodes_grow : length s < most_nodes → length (s ++ x ∷ []) ≤ most_nodes
  nodes_grow h = omega (arith, length-append s (x ∷ []))

  pub fleet_grows : Begun s → NodeRight s (x / 1000) (x % 1000) → IsFleet (s ++ x ∷ [])
  unfolding vehicles
  fleet_grows b r = go (x / 1000) refl
    where
      each_of : Begun s → Each (vehicles s)
      each_of (a_fleet f) = f.each
      each_of (nothing_yet e) = rw e (λ n h. absurd (omega arith))

      fleet_now : 1 ≤ length s → Begun s → IsFleet s
      fleet_now h (a_fleet f) = f
      fleet_now h (nothing_yet e) = absurd (omega (arith, ap length e))

      some_before : 1 ≤ x / 1000 → (n : ℕ) → length s ≡ n → 1 ≤ length s
      some_before h zero e = absurd (omega (arith, r.rule5.0 e))
      some_before h (suc n) e = omega arith

      go : (d : ℕ) → x / 1000 ≡ d → IsFleet (s ++ x ∷ [])
      go zero e = fleet_of (s ++ x ∷ []) (vehicles s ++ (x ∷ []) ∷ []) (vehicles_root s x e) (omega (arith, length-append (vehicles s) ((x ∷ []) ∷ [])))
          (omega (arith, length-append (vehicles s) ((x ∷ []) ∷ []), r.rule9.0 e)) (nodes_grow r.rule9.1.1)
          (each_append (vehicles s) (x ∷ []) (each_of b) (root_vehicle x e r.rule6.0 (r.rule7.0 e)))
      go (suc d) e =
          let some : 1 ≤ length s = some_before (omega arith) (length s) refl in
          let f : IsFleet s = fleet_now some b in
          let l = last_same s some in
          let z : depthAt s (length s - 1) ≡ depthAt (last_tree s) (length (last_tree s) - 1) = ap (λ (y : ℕ). y / 1000) l.0 in
          let m : MayFollow (last_tree s) x = record {
            pair = record { depth_to_15 = r.rule5.1.1; label_from_1 = r.rule6.0 };
            shallow = r.rule5.1.1;
            from_1 = omega arith;
            to_next = rw z at (r.rule5.1.0 some);
            room = r.rule9.1.0 (omega arith);
            allowed = λ i p. r.rule7.1 i (rw (pair_whole x) p);
          } in
          fleet_of (s ++ x ∷ []) (onto_last x (vehicles s)) (vehicles_child s x some (omega arith)) (omega (arith, length_onto x (vehicles s), f.some_tree))
          (omega (arith, length_onto x (vehicles s), f.trees)) (nodes_grow r.rule9.1.1)
          (each_onto x (vehicles s) f.each (vehicle_goes_on (last_tree s) x (each_last (vehicles s) f.some_tree f.each) m))

  pub fleet_grew : IsFleet (s ++ x ∷ []) → Begun s × NodeRight s (x / 1000) (x % 1000)
  unfolding vehicles
  fleet_grew f = go (x / 1000) refl
    where
      small : x % 1000 ≤ 999
      small = omega arith

      room : length s < most_nodes
      room = omega (arith, length-append s (x ∷ []), f.nodes)

      go : (d : ℕ) → x / 1000 ≡ d → Begun s × NodeRight s (x / 1000) (x % 1000)
      go zero e =
          let v : vehicles (s ++ x ∷ []) ≡ vehicles s ++ (x ∷ []) ∷ [] = vehicles_root s x e in
          let p = append_each (vehicles s) (x ∷ []) (rw v at f.each) in
          let n : length (vehicles s) < most_trees = omega (arith, ap (λ (ts : List (List ℕ)). length ts) v, length-append (vehicles s) ((x ∷ []) ∷ []), f.trees) in
          let q : IsPair x = p.1.is_tree.pairs 0 (omega arith) in (
            begun s (λ h. fleet_of s (vehicles s) refl (some_vehicle s h) (omega arith) (omega (arith, room)) p.0),
            record {
              rule5 = ((λ _. e), ((λ _. omega arith), omega arith));
              rule6 = (q.label_from_1, small);
              rule7 = ((λ _. p.1.root_family), (λ i w. absurd (no_parent i w)));
              rule9 = ((λ _. n), ((λ h. absurd (omega arith)), room));
            },
          )
        where
          begun : (u : List ℕ) → (1 ≤ length u → IsFleet u) → Begun u
          begun [] g = nothing_yet refl
          begun (y ∷ u) g = a_fleet (g (omega arith))

          no_parent : (i : ℕ) → IsParent (last_tree s ++ pair (x / 1000) (x % 1000) ∷ []) i (length (last_tree s)) → ⊥
          no_parent i w = omega (arith, w.one_deeper, ap (λ (y : ℕ). y / 1000) (get_or-append_seam (last_tree s) (pair (x / 1000) (x % 1000)) [] 0))
      go (suc d) e = at (some_before s refl)
        where
          some_before : (u : List ℕ) → s ≡ u → 1 ≤ length s
          some_before [] w =
              let z : vehicles (s ++ x ∷ []) ≡ (x ∷ []) ∷ [] = ap (λ (u : List ℕ). vehicles (u ++ x ∷ [])) w in
              let a : IsVehicle (x ∷ []) = rw z at (f.each 0 f.some_tree) in
              absurd (omega (arith, a.is_tree.root_depth))
          some_before (y ∷ u) w = omega (arith, ap length w)

          at : 1 ≤ length s → Begun s × NodeRight s (x / 1000) (x % 1000)
          at some =
              let v : vehicles (s ++ x ∷ []) ≡ onto_last x (vehicles s) = vehicles_child s x some (omega arith) in
              let g : Each (onto_last x (vehicles s)) = rw v at f.each in
              let l = last_same s some in
              let z : depthAt s (length s - 1) ≡ depthAt (last_tree s) (length (last_tree s) - 1) = ap (λ (y : ℕ). y / 1000) l.0 in
              let w = vehicle_went_on (last_tree s) x l.1 (onto_last_is x (vehicles s) (some_vehicle s some) g) in
              let n : length (vehicles s) ≤ most_trees = omega (arith, ap (λ (ts : List (List ℕ)). length ts) v, length_onto x (vehicles s), f.trees) in (
                a_fleet (fleet_of s (vehicles s) refl (some_vehicle s some) n (omega (arith, room)) (onto_each x (vehicles s) g w.0)),
                record {
                  rule5 = ((λ h. absurd (omega arith)), ((λ _. rw z w.1.to_next), w.1.shallow));
                  rule6 = (w.1.pair.label_from_1, small);
                  rule7 = ((λ h. absurd (omega arith)), (λ i p. w.1.allowed i (rw (pair_whole x) at p)));
                  rule9 = ((λ h. absurd (omega arith)), ((λ _. w.1.room), room));
                },
              )

-- a beginning of a fleet is a fleet
pub fleet_beginning : (s r : List ℕ) → 1 ≤ length s → IsFleet (s ++ r) → IsFleet s
fleet_beginning s [] h f = rw (append-nil s) at f
fleet_beginning s (x ∷ r) h f = go (fleet_grew s x (fleet_beginning (s ++ x ∷ []) r (omega (arith, length-append s (x ∷ []))) (rw (append_assoc s (x ∷ []) r) f))).0
  where
    go : Begun s → IsFleet s
    go (a_fleet g) = g
    go (nothing_yet e) = absurd (omega (arith, ap length e))
