-- LAWS. A fleet read pair by pair: what one more pair does to the vehicles' trees, and when it may come.
use mathlib.Core.Path.{◌≡◌, refl, ap, ◌∙◌}
use mathlib.Core.List.{List, [], ◌∷◌, ◌++◌}
use mathlib.Core.Logic.{◌↔◌}
use Prim.Native.Nat.{ℕ, zero, suc, ◌-◌, ◌/◌, ◌%◌, ◌≤◌, ◌<◌}
use native.Mathlib.Omega.{arith}
use native.Mathlib.Decide.{dec_lt}
use lib.ListN.{length, get_or, length-append, get_or-append}
use lib.Seq.{get_or-append_seam}
use Rattle.terms.specs.Tree.{depthAt, label_at, IsPair, IsTree, IsParent}
use Rattle.terms.specs.Fleet.{vehicles, in_front, family, MayStandUnder, IsVehicle, most_depth, most_nodes_of_a_tree}

pub some_vehicle : (s : List ℕ) → 1 ≤ length s → 0 < length (vehicles s)
unfolding vehicles in_front
some_vehicle [] h = absurd (omega arith)
some_vehicle (x ∷ []) h = omega arith
some_vehicle (x ∷ y ∷ s) h = go (y / 1000) (vehicles (y ∷ s))
  where
    go : (d : ℕ) (ts : List (List ℕ)) → 0 < length (in_front x d ts)
    go zero ts = omega arith
    go (suc d) [] = omega arith
    go (suc d) (t ∷ ts) = omega arith

in_front_append : (x d : ℕ) (ts us : List (List ℕ)) → 0 < length ts → in_front x d (ts ++ us) ≡ in_front x d ts ++ us
unfolding in_front
in_front_append x zero ts us h = refl
in_front_append x (suc d) [] us h = absurd (omega arith)
in_front_append x (suc d) (t ∷ ts) us h = refl

-- a pair of depth 0 begins a tree
pub vehicles_root : (s : List ℕ) (x : ℕ) → x / 1000 ≡ 0 → vehicles (s ++ x ∷ []) ≡ vehicles s ++ (x ∷ []) ∷ []
unfolding vehicles in_front
vehicles_root [] x e = refl
vehicles_root (y ∷ []) x e = ap (λ (d : ℕ). in_front y d ((x ∷ []) ∷ [])) e
vehicles_root (y ∷ z ∷ s) x e = ap (in_front y (z / 1000)) (vehicles_root (z ∷ s) x e) ∙ in_front_append y (z / 1000) (vehicles (z ∷ s)) ((x ∷ []) ∷ []) (some_vehicle (z ∷ s) (omega arith))

-- any other goes to the last tree
unfoldable pub onto_last : ℕ → List (List ℕ) → List (List ℕ)
onto_last x [] = []
onto_last x (t ∷ []) = (t ++ x ∷ []) ∷ []
onto_last x (t ∷ u ∷ ts) = t ∷ onto_last x (u ∷ ts)

in_front_last : (x y d : ℕ) (ts : List (List ℕ)) → 0 < length ts → in_front y d (onto_last x ts) ≡ onto_last x (in_front y d ts)
unfolding in_front onto_last
in_front_last x y zero [] h = absurd (omega arith)
in_front_last x y zero (t ∷ []) h = refl
in_front_last x y zero (t ∷ u ∷ ts) h = refl
in_front_last x y (suc d) [] h = absurd (omega arith)
in_front_last x y (suc d) (t ∷ []) h = refl
in_front_last x y (suc d) (t ∷ u ∷ ts) h = refl

pub vehicles_child : (s : List ℕ) (x : ℕ) → 1 ≤ length s → 1 ≤ x / 1000 → vehicles (s ++ x ∷ []) ≡ onto_last x (vehicles s)
unfolding vehicles in_front onto_last
vehicles_child [] x h k = absurd (omega arith)
vehicles_child (y ∷ []) x h k = go (x / 1000) k
  where
    go : (d : ℕ) → 1 ≤ d → in_front y d ((x ∷ []) ∷ []) ≡ (y ∷ x ∷ []) ∷ []
    go zero q = absurd (omega arith)
    go (suc d) q = refl
vehicles_child (y ∷ z ∷ s) x h k = ap (in_front y (z / 1000)) (vehicles_child (z ∷ s) x (omega arith) k) ∙ in_front_last x y (z / 1000) (vehicles (z ∷ s)) (some_vehicle (z ∷ s) (omega arith))

-- what a pair that goes on with a vehicle's tree must be
pub record MayFollow (t : List ℕ) (x : ℕ) : Type 0 where
  pub pair : IsPair x
  pub shallow : x / 1000 ≤ most_depth
  pub from_1 : 1 ≤ x / 1000
  pub to_next : x / 1000 ≤ suc (depthAt t (length t - 1))
  pub room : suc (length t) ≤ most_nodes_of_a_tree
  pub allowed : (i : ℕ) → IsParent (t ++ x ∷ []) i (length t) → MayStandUnder (family (x % 1000)) (family (label_at t i))

module _ (t : List ℕ) (x : ℕ) where
  long : length (t ++ x ∷ []) ≡ suc (length t)
  long = omega (arith, length-append t (x ∷ []))

  old : (i : ℕ) → i < length t → get_or (t ++ x ∷ []) i 0 ≡ get_or t i 0
  old i h = get_or-append t (x ∷ []) 0 i h

  new : get_or (t ++ x ∷ []) (length t) 0 ≡ x
  new = get_or-append_seam t x [] 0

  -- parents among the old pairs stay
  pub parent_stays : (i j : ℕ) → j < length t → IsParent (t ++ x ∷ []) i j ↔ IsParent t i j
  parent_stays i j h = (to, from)
    where
      to : IsParent (t ++ x ∷ []) i j → IsParent t i j
      to p = record {
        before = p.before;
        inside = h;
        one_deeper = rw (old j h, old i (omega (arith, p.before))) at p.one_deeper;
        between = λ k a b. rw (old k (omega arith), old i (omega (arith, p.before))) at (p.between k a b);
      }

      from : IsParent t i j → IsParent (t ++ x ∷ []) i j
      from p = record {
        before = p.before;
        inside = omega (arith, long);
        one_deeper = rw (old j h, old i (omega (arith, p.before))) p.one_deeper;
        between = λ k a b. rw (old k (omega arith), old i (omega (arith, p.before))) (p.between k a b);
      }

  pub vehicle_goes_on : IsVehicle t → MayFollow t x → IsVehicle (t ++ x ∷ [])
  vehicle_goes_on w m = record { is_tree = tree; nodes = omega (arith, long, m.room); depths = λ i h. dp i (omega (arith, long)) (dec_lt i (length t)); root_family = rw (old 0 w.is_tree.has_root) w.root_family; families = fam }
    where
      at_last : (i : ℕ) → i < suc (length t) → ¬ (i < length t) → length t ≡ i
      at_last i a b = omega arith

      dp : (i : ℕ) → i < suc (length t) → Dec (i < length t) → depthAt (t ++ x ∷ []) i ≤ most_depth
      dp i h (yes b) = rw (old i b) (w.depths i b)
      dp i h (no b) = rw (← at_last i h b, new) m.shallow

      tree : IsTree (t ++ x ∷ [])
      tree = record {
        has_root = omega (arith, long);
        pairs = λ i h. pr i (omega (arith, long)) (dec_lt i (length t));
        root_depth = rw (old 0 w.is_tree.has_root) w.is_tree.root_depth;
        later_from_1 = λ i h. one i (omega (arith, long)) (dec_lt (suc i) (length t));
        later_to_next = λ i h. up i (omega (arith, long)) (dec_lt (suc i) (length t));
      }
        where
          pr : (i : ℕ) → i < suc (length t) → Dec (i < length t) → IsPair (get_or (t ++ x ∷ []) i 0)
          pr i h (yes b) = rw (old i b) (w.is_tree.pairs i b)
          pr i h (no b) = rw (← at_last i h b, new) m.pair

          one : (i : ℕ) → suc i < suc (length t) → Dec (suc i < length t) → 1 ≤ depthAt (t ++ x ∷ []) (suc i)
          one i h (yes b) = rw (old (suc i) b) (w.is_tree.later_from_1 i b)
          one i h (no b) = rw (← at_last (suc i) h b, new) m.from_1

          up : (i : ℕ) → suc i < suc (length t) → Dec (suc i < length t) → depthAt (t ++ x ∷ []) (suc i) ≤ suc (depthAt (t ++ x ∷ []) i)
          up i h (yes b) = rw (old (suc i) b, old i (omega arith)) (w.is_tree.later_to_next i b)
          up i h (no b) =
              let e = at_last (suc i) h b in
              let a : get_or (t ++ x ∷ []) (suc i) 0 ≡ x = rw e at new in
              let z : length t - 1 ≡ i = omega arith in
              let q : x / 1000 ≤ suc (depthAt t i) = rw z at m.to_next in
              omega (arith, ap (λ (y : ℕ). y / 1000) a, ap (λ (y : ℕ). y / 1000) (old i (omega arith)))

      fam : (i j : ℕ) → IsParent (t ++ x ∷ []) i j → MayStandUnder (family (label_at (t ++ x ∷ []) j)) (family (label_at (t ++ x ∷ []) i))
      fam i j p = go (dec_lt j (length t))
        where
          go : Dec (j < length t) → MayStandUnder (family (label_at (t ++ x ∷ []) j)) (family (label_at (t ++ x ∷ []) i))
          go (yes b) = rw (old j b, old i (omega (arith, p.before))) (w.families i j ((parent_stays i j b).0 p))
          go (no b) =
              let e : j ≡ length t = omega (arith, p.inside, long) in
              let p' : IsParent (t ++ x ∷ []) i (length t) = rw e at p in
              rw (e, new, old i (omega (arith, p.before))) (m.allowed i p')

  pub vehicle_went_on : 1 ≤ length t → IsVehicle (t ++ x ∷ []) → IsVehicle t × MayFollow t x
  vehicle_went_on s w = (before, follow)
    where
      tr : IsTree (t ++ x ∷ [])
      tr = w.is_tree

      before : IsVehicle t
      before = record {
        is_tree = record {
          has_root = s;
          pairs = λ i h. rw (old i h) at (tr.pairs i (omega (arith, long)));
          root_depth = rw (old 0 s) at tr.root_depth;
          later_from_1 = λ i h. rw (old (suc i) h) at (tr.later_from_1 i (omega (arith, long)));
          later_to_next = λ i h. rw (old (suc i) h, old i (omega arith)) at (tr.later_to_next i (omega (arith, long)));
        };
        nodes = omega (arith, w.nodes, long);
        depths = λ i h. rw (old i h) at (w.depths i (omega (arith, long)));
        root_family = rw (old 0 s) at w.root_family;
        families = λ i j p. rw (old j p.inside, old i (omega (arith, p.before, p.inside))) at (w.families i j ((parent_stays i j p.inside).1 p));
      }

      follow : MayFollow t x
      follow = go (length t) refl
        where
          go : (n : ℕ) → length t ≡ n → MayFollow t x
          go zero e = absurd (omega arith)
          go (suc n) e =
              let a : get_or (t ++ x ∷ []) (suc n) 0 ≡ x = rw e at new in
              let z : length t - 1 ≡ n = omega arith in
              let q : x / 1000 ≤ suc (depthAt (t ++ x ∷ []) n) = rw a at (tr.later_to_next n (omega (arith, long))) in
              let q' : x / 1000 ≤ suc (depthAt t n) = rw (old n (omega arith)) at q in
              record {
                pair = rw new at (tr.pairs (length t) (omega (arith, long)));
                shallow = rw new at (w.depths (length t) (omega (arith, long)));
                from_1 = rw a at (tr.later_from_1 n (omega (arith, long)));
                to_next = rw z q';
                room = omega (arith, w.nodes, long);
                allowed = λ i p. rw (new, old i p.before) at (w.families i (length t) p);
              }
