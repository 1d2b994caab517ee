-- LAWS of the fleet's tables: how they are filled, the walk up by parents, the count of children.
use mathlib.Core.Path.{◌≡◌, refl, sym, ap, ◌∙◌}
use mathlib.Core.List.{List, [], ◌∷◌, ◌++◌}
use Prim.Native.Nat.{ℕ, zero, suc, ◌+◌, ◌-◌, ◌%◌, ◌/◌, ◌≤◌, ◌<◌}
use native.Mathlib.Omega.{arith}
use native.Mathlib.Decide.{ℕ_discrete, dec_lt}
use native.Mathlib.Numerals.{add-one}
use lib.Dec.{ltb}
use borrow.Author.Tests.{ltb-true, ltb-false}
use lib.ListN.{length, get_or, take, drop, set, length-set, length-append, take-append-drop}
use lib.Seq.{get_or-set_same, get_or-set_other, get_or-take, take-suc, length-take-le}
use Rattle.std.specs.List.{between}
use Rattle.std.proofs.lemmas.List.Edits.{length-between, get_or-between}
use Rattle.terms.specs.Tree.{depthAt, label_at, IsPair, IsParent, SubtreeEnd}
use Rattle.terms.specs.Tells.{Tells}
use Rattle.terms.specs.Fleet.{vehicles, IsFleet, most_nodes, most_trees, most_depth}
use Rattle.terms.proofs.EmbedsLaws.{par_unique}
use Rattle.terms.proofs.FleetWalk.{vehicles_root, vehicles_child}
use Rattle.fleet.specs.Node.{last_tree}
use Rattle.fleet.proofs.TellsLaws.{tells_if}
use Rattle.fleet.proofs.NodeLaws.{NodeRight}
use Rattle.fleet.proofs.FleetGrowth.{fleet_beginning, fleet_grew, last_tree_child, last_same, length_onto}
use Rattle.occurrence.specs.Support.{counted}
use Rattle.occurrence.proofs.SupportLaws.{counted_yes, counted_no}
use Rattle.rightmost.specs.Ends.{Up, itself, above, IsChild, child?, count_below, children}
use Rattle.rightmost.proofs.Counting.{none_count, count_further, count_into}
use Rattle.rightmost.proofs.TestLaws.{next_child}
use Rattle.rightmost.proofs.NumberLaws.{CountedUp, counted_numbered}
use Rattle.index.specs.Index.{Parents, Numbers, Sizes, LastChild, ChildInput, LooksFlat}

-- EACH NODE OF A FLEET, behind those before it
module _ {s : List ℕ} (f : IsFleet s) where
  node_right : (i : ℕ) → i < length s → NodeRight (take i s) (depthAt s i) (label_at s i)
  node_right i h =
      let whole : IsFleet (take (suc i) s ++ drop (suc i) s) = rw (take-append-drop (suc i) s) f in
      let part : IsFleet (take i s ++ get_or s i 0 ∷ []) = rw (take-suc s i 0 h) at (fleet_beginning (take (suc i) s) (drop (suc i) s) (omega (arith, length-take-le (suc i) s h)) whole) in
      (fleet_grew (take i s) (get_or s i 0) part).1

  pub fleet_pair : (i : ℕ) → i < length s → IsPair (get_or s i 0)
  fleet_pair i h = record { depth_to_15 = (node_right i h).rule5.1.1; label_from_1 = (node_right i h).rule6.0 }

  fleet_root : 0 < length s → depthAt s 0 ≡ 0
  fleet_root h = (node_right 0 h).rule5.0 refl

  -- no node is more than one deeper than the one before
  pub fleet_step : (i : ℕ) → suc i < length s → depthAt s (suc i) ≤ suc (depthAt s i)
  fleet_step i h =
      let long : length (take (suc i) s) ≡ suc i = length-take-le (suc i) s (omega arith) in
      let e : length (take (suc i) s) - 1 ≡ i = omega arith in
      let r = (node_right (suc i) h).rule5.1.0 (omega arith) in
      omega (arith, r, ap (depthAt (take (suc i) s)) e, ap (λ (x : ℕ). x / 1000) (get_or-take (suc i) s i 0 (omega arith)))

  -- the nearest node before that is less deep
  parent_before : (i : ℕ) → i < length s → 1 ≤ depthAt s i → (j : ℕ) → j < i → depthAt s i ≤ depthAt s (suc j) → ((k : ℕ) → j < k → k < i → depthAt s i ≤ depthAt s k) → (a : ℕ) × IsParent s a i
  parent_before i h d zero a b c = (0, record { before = a; inside = h; one_deeper = omega (arith, fleet_root (omega arith), fleet_step 0 (omega arith)); between = λ k l m. omega (arith, fleet_root (omega arith), c k l m) })
  parent_before i h d (suc j) a b c = go (dec_lt (depthAt s (suc j)) (depthAt s i)) (λ l r. parent_before i h d j (omega arith) l r)
    where
      go : Dec (depthAt s (suc j) < depthAt s i) → (depthAt s i ≤ depthAt s (suc j) → ((k : ℕ) → j < k → k < i → depthAt s i ≤ depthAt s k) → (a : ℕ) × IsParent s a i) → (a : ℕ) × IsParent s a i
      go (yes l) r = (suc j, record { before = a; inside = h; one_deeper = omega (arith, fleet_step (suc j) (omega arith)); between = λ k m n. omega (arith, c k m n) })
      go (no l) r = r (omega arith) (λ k m n. at k m n (ℕ_discrete k (suc j)))
        where
          at : (k : ℕ) → j < k → k < i → Dec (k ≡ suc j) → depthAt s i ≤ depthAt s k
          at k m n (yes e) = rw e (omega arith)
          at k m n (no e) = c k (omega arith) n

  fleet_parent : (i : ℕ) → i < length s → 1 ≤ depthAt s i → (a : ℕ) × IsParent s a i
  fleet_parent zero h d = absurd (omega (arith, fleet_root h))
  fleet_parent (suc i) h d = parent_before (suc i) h d i (omega arith) (omega arith) (λ k a b. absurd (omega arith))

  -- a node that begins a tree, or goes on with one
  trees_root : (i : ℕ) → i < length s → depthAt s i ≡ 0 → length (vehicles (take (suc i) s)) ≡ suc (length (vehicles (take i s)))
  trees_root i h d = omega (arith, ap (λ (t : List ℕ). length (vehicles t)) (take-suc s i 0 h), ap length (vehicles_root (take i s) (get_or s i 0) d), length-append (vehicles (take i s)) ((get_or s i 0 ∷ []) ∷ []))

  some_before : (i : ℕ) → i < length s → 1 ≤ depthAt s i → 1 ≤ length (take i s)
  some_before zero h d = absurd (omega (arith, fleet_root h))
  some_before (suc i) h d = omega (arith, length-take-le (suc i) s (omega arith))

  trees_child : (i : ℕ) → i < length s → 1 ≤ depthAt s i → length (vehicles (take (suc i) s)) ≡ length (vehicles (take i s))
  trees_child i h d = ap (λ (t : List ℕ). length (vehicles t)) (take-suc s i 0 h) ∙ ap length (vehicles_child (take i s) (get_or s i 0) (some_before i h d) d) ∙ length_onto (get_or s i 0) (vehicles (take i s))

  trees_room : (i : ℕ) → i < length s → depthAt s i ≡ 0 → length (vehicles (take i s)) < most_trees
  trees_room i h d = (node_right i h).rule9.0 d

  -- the last tree has all nodes since one with none of depth 0 after it
  tree_long : (i n : ℕ) → i + 1 + n ≤ length s → ((m : ℕ) → i < m → m < i + 1 + n → 1 ≤ depthAt s m) → suc n ≤ length (last_tree (take (i + 1 + n) s))
  tree_long i zero h d = (last_same (take (i + 1 + 0) s) (omega (arith, length-take-le (i + 1 + 0) s h))).1
  tree_long i (suc n) h d =
      let e : i + 1 + suc n ≡ suc (i + 1 + n) = omega arith in
      let b : 1 ≤ depthAt s (i + 1 + n) = d (i + 1 + n) (omega arith) (omega arith) in
      let g = ap last_tree (ap (λ (k : ℕ). take k s) e ∙ take-suc s (i + 1 + n) 0 (omega arith)) ∙ last_tree_child (take (i + 1 + n) s) (get_or s (i + 1 + n) 0) (some_before (i + 1 + n) (omega arith) b) b in
      omega (arith, ap length g, length-append (last_tree (take (i + 1 + n) s)) (get_or s (i + 1 + n) 0 ∷ []), tree_long i n (omega arith) (λ m a c. d m a (omega arith)))

  few_below : (i n : ℕ) → i + 1 + n ≤ length s → ((m : ℕ) → i < m → m < i + 1 + n → depthAt s i < depthAt s m) → n ≤ 255
  few_below i zero h d = omega arith
  few_below i (suc n) h d =
      let l = d (i + 1 + n) (omega arith) (omega arith) in
      omega (arith, tree_long i n (omega arith) (λ m a b. omega (arith, d m a (omega arith))), (node_right (i + 1 + n) (omega arith)).rule9.1.0 (omega arith))

-- PARENTS: of the nodes that are not passed by, the table has the last of each depth
pub record ParentsTo (s parents above : List ℕ) (node : ℕ) : Type 0 where
  pub is_fleet : IsFleet s
  pub all : length parents ≡ most_nodes
  pub wide : length above ≡ most_depth + 2
  pub each : (i : ℕ) → i < node → i < length s → 1 ≤ depthAt s i → IsParent s (get_or parents i 0) i
  pub still : (a : ℕ) → a < node → ((k : ℕ) → a < k → k < node → depthAt s a < depthAt s k) → get_or above (suc (depthAt s a)) 0 ≡ a

module _ {s parents above : List ℕ} {node : ℕ} (w : ParentsTo s parents above node) (inside : node < length s) where
  pub depth_small : depthAt s node ≤ most_depth
  depth_small = (fleet_pair w.is_fleet node inside).depth_to_15

  pub parent_place : node < most_nodes
  parent_place = omega (arith, w.is_fleet.nodes)

  parent_here : 1 ≤ depthAt s node → IsParent s (get_or above (depthAt s node) 0) node
  parent_here d =
      let z = fleet_parent w.is_fleet node inside d in
      let e : get_or above (depthAt s node) 0 ≡ z.0 = ap (λ (k : ℕ). get_or above k 0) z.1.one_deeper ∙ w.still z.0 z.1.before z.1.between in
      rw e z.1

  pub parents_next : ParentsTo s (set parents node (get_or above (depthAt s node) 0)) (set above (depthAt s node + 1) node) (node + 1)
  parents_next = record {
    is_fleet = w.is_fleet;
    all = length-set parents node (get_or above (depthAt s node) 0) ∙ w.all;
    wide = length-set above (depthAt s node + 1) node ∙ w.wide;
    each = λ i a h d. each i a h d (ℕ_discrete i node);
    still = λ a b c. still a b c (ℕ_discrete a node);
  }
    where
      each : (i : ℕ) → i < node + 1 → i < length s → 1 ≤ depthAt s i → Dec (i ≡ node) → IsParent s (get_or (set parents node (get_or above (depthAt s node) 0)) i 0) i
      each i a h d (yes e) = rw (e, get_or-set_same parents node (get_or above (depthAt s node) 0) 0 (omega (arith, w.all, parent_place))) (parent_here (rw e at d))
      each i a h d (no e) = rw (get_or-set_other parents node i (get_or above (depthAt s node) 0) 0 e) (w.each i (omega arith) h d)

      still : (a : ℕ) → a < node + 1 → ((k : ℕ) → a < k → k < node + 1 → depthAt s a < depthAt s k) → Dec (a ≡ node) → get_or (set above (depthAt s node + 1) node) (suc (depthAt s a)) 0 ≡ a
      still a b c (yes e) = rw (e, ← add-one (depthAt s node)) (get_or-set_same above (depthAt s node + 1) node 0 (omega (arith, depth_small, w.wide)))
      still a b c (no e) = let l = c node (omega arith) (omega arith) in get_or-set_other above (depthAt s node + 1) (suc (depthAt s a)) node 0 (λ q. omega arith) ∙ w.still a (omega arith) (λ k m n. c k m (omega arith))

-- LAST CHILDREN, of those before `node`
pub record LastChildrenTo (s parents sizes : List ℕ) (node : ℕ) : Type 0 where
  pub is_fleet : IsFleet s
  pub has_parents : Parents s parents
  pub all : length sizes ≡ most_nodes
  pub each : (i : ℕ) → i < node → LastChild s node i (get_or sizes i 0)

pub last_start : {s parents sizes : List ℕ} → IsFleet s → Parents s parents → length sizes ≡ most_nodes → LastChildrenTo s parents sizes 0
last_start f p l = record { is_fleet = f; has_parents = p; all = l; each = λ i h. absurd (omega arith) }

module _ {s parents sizes : List ℕ} {node : ℕ} (w : LastChildrenTo s parents sizes node) (inside : node < length s) where
  pub last_place : node < most_nodes
  last_place = omega (arith, inside, w.is_fleet.nodes)

  at_node : get_or (set sizes node 0) node 0 ≡ 0
  at_node = get_or-set_same sizes node 0 0 (omega (arith, last_place, w.all))

  new : LastChild s (node + 1) node 0
  new = record { child = λ h. absurd (omega arith); last = λ c l p. absurd (omega (arith, p.before)) }

  -- a node of which this one is no child
  still : (i : ℕ) → i < node → ¬ IsParent s i node → LastChild s (node + 1) i (get_or sizes i 0)
  still i h n = record { child = (w.each i h).child; last = λ c l p. last c l p (ℕ_discrete c node) }
    where
      last : (c : ℕ) → c < node + 1 → IsParent s i c → Dec (c ≡ node) → c ≤ i + get_or sizes i 0
      last c l p (yes e) = absurd (n (rw e at p))
      last c l p (no e) = (w.each i h).last c (omega arith) p

  pub last_root : get_or s node 0 < 1000 → LastChildrenTo s parents (set sizes node 0) (node + 1)
  last_root d = record { is_fleet = w.is_fleet; has_parents = w.has_parents; all = length-set sizes node 0 ∙ w.all; each = λ i h. each i h (ℕ_discrete i node) }
    where
      each : (i : ℕ) → i < node + 1 → Dec (i ≡ node) → LastChild s (node + 1) i (get_or (set sizes node 0) i 0)
      each i h (yes e) = rw (e, at_node) new
      each i h (no e) = rw (get_or-set_other sizes node i 0 0 e) (still i (omega arith) (λ p. omega (arith, p.one_deeper)))

  module _ (d : 1000 ≤ get_or s node 0) where
    abbrev a : ℕ
    a = get_or parents node 0

    pub last_parent : IsParent s a node
    last_parent = w.has_parents.each node inside (omega arith)

    pub last_above : a < most_nodes
    last_above = omega (arith, last_parent.before, last_place)

    pub last_room : (x : ℕ) → a < length (set sizes node x)
    last_room x = omega (arith, last_above, length-set sizes node x, w.all)

    pub last_near : node - a ≤ 255
    last_near = few_below w.is_fleet a (node - a) (omega (arith, last_parent.before)) (λ m h k. go m h k (ℕ_discrete m node))
      where
        go : (m : ℕ) → a < m → m < a + 1 + (node - a) → Dec (m ≡ node) → depthAt s a < depthAt s m
        go m h k (yes e) = rw e (omega (arith, last_parent.one_deeper))
        go m h k (no e) = last_parent.between m h (omega (arith, last_parent.before))

    pub last_child : LastChildrenTo s parents (set (set sizes node 0) a (node - a)) (node + 1)
    last_child = record { is_fleet = w.is_fleet; has_parents = w.has_parents; all = length-set (set sizes node 0) a (node - a) ∙ length-set sizes node 0 ∙ w.all; each = λ i h. each i h (ℕ_discrete i a) (ℕ_discrete i node) }
      where
        here : LastChild s (node + 1) a (node - a)
        here = let e : a + (node - a) ≡ node = omega (arith, last_parent.before) in record { child = λ _. rw e last_parent; last = λ c h p. omega arith }

        at_parent : get_or (set (set sizes node 0) a (node - a)) a 0 ≡ node - a
        at_parent = get_or-set_same (set sizes node 0) a (node - a) 0 (last_room 0)

        each : (i : ℕ) → i < node + 1 → Dec (i ≡ a) → Dec (i ≡ node) → LastChild s (node + 1) i (get_or (set (set sizes node 0) a (node - a)) i 0)
        each i h (yes e) _ = rw (e, at_parent) here
        each i h (no n) (yes e) = rw (get_or-set_other (set sizes node 0) a i (node - a) 0 n, e, at_node) new
        each i h (no n) (no e) = rw (get_or-set_other (set sizes node 0) a i (node - a) 0 n, get_or-set_other sizes node i 0 0 e) (still i (omega arith) (λ p. n (par_unique p last_parent)))

-- SIZES: a subtree ends where that of its root's last child does
module _ {s : List ℕ} {node far : ℕ} (f : IsFleet s) (inside : node < length s) (l : LastChild s (length s) node far) where
  leaf_ends : far ≡ 0 → SubtreeEnd s node (node + 1)
  leaf_ends z = record { after = omega arith; within = omega arith; deeper = λ k a b. absurd (omega arith); stop = λ h. rw (add-one node) (stop (rw (add-one node) at h) (dec_lt (depthAt s node) (depthAt s (suc node)))) }
    where
      stop : suc node < length s → Dec (depthAt s node < depthAt s (suc node)) → depthAt s (suc node) ≤ depthAt s node
      stop h (no n) = omega arith
      stop h (yes d) = absurd (omega (arith, l.last (suc node) h (next_child h (omega (arith, fleet_step f node h)))))

  inner_ends : {end : ℕ} → 0 < far → SubtreeEnd s (node + far) end → SubtreeEnd s node end
  inner_ends {end} some e = record { after = omega (arith, e.after); within = e.within; deeper = deeper; stop = λ h. stop h (dec_lt (depthAt s node) (depthAt s end)) }
    where
      child : IsParent s node (node + far)
      child = l.child some

      deeper : (k : ℕ) → node < k → k < end → depthAt s node < depthAt s k
      deeper k a b = go (dec_lt k (node + far)) (ℕ_discrete k (node + far))
        where
          go : Dec (k < node + far) → Dec (k ≡ node + far) → depthAt s node < depthAt s k
          go (yes h) _ = child.between k a h
          go (no h) (yes q) = rw q (omega (arith, child.one_deeper))
          go (no h) (no q) = omega (arith, child.one_deeper, e.deeper k (omega arith) b)

      stop : end < length s → Dec (depthAt s node < depthAt s end) → depthAt s end ≤ depthAt s node
      stop h (no n) = omega arith
      stop h (yes d) = absurd (omega (arith, e.after, l.last end h (record { before = omega (arith, e.after); inside = h; one_deeper = omega (arith, e.stop h, child.one_deeper); between = deeper })))

-- measure, from the last node to the first
pub record Measured (s sizes : List ℕ) (node : ℕ) : Type 0 where
  pub is_fleet : IsFleet s
  pub all : length sizes ≡ most_nodes
  pub within : node ≤ length s
  pub left : (i : ℕ) → i < node → LastChild s (length s) i (get_or sizes i 0)
  pub done : (i : ℕ) → node ≤ i → i < length s → SubtreeEnd s i (i + 1 + get_or sizes i 0)

size_byte : {s : List ℕ} {node size : ℕ} → IsFleet s → SubtreeEnd s node (node + 1 + size) → size ≤ 255
size_byte {s} {node} {size} f e = few_below f node size e.within e.deeper

module _ {s sizes : List ℕ} {node : ℕ} (w : Measured s sizes (suc node)) where
  abbrev far : ℕ
  far = get_or sizes node 0

  here : LastChild s (length s) node far
  here = w.left node (omega arith)

  subtree_ends : SubtreeEnd s node (node + 1 + (far + get_or sizes (node + far) 0))
  subtree_ends = go (ℕ_discrete far 0)
    where
      go : Dec (far ≡ 0) → SubtreeEnd s node (node + 1 + (far + get_or sizes (node + far) 0))
      go (yes z) =
          let n : node + far ≡ node = omega arith in
          let e : node + 1 + (far + get_or sizes (node + far) 0) ≡ node + 1 = omega (arith, ap (λ (k : ℕ). get_or sizes k 0) n) in
          rw e (leaf_ends w.is_fleet w.within here z)
      go (no z) =
          let e : node + 1 + (far + get_or sizes (node + far) 0) ≡ node + far + 1 + get_or sizes (node + far) 0 = omega arith in
          rw e (inner_ends w.is_fleet w.within here (omega arith) (w.done (node + far) (omega arith) (here.child (omega arith)).inside))

  pub measure_byte : far + get_or sizes (node + far) 0 ≤ 255
  measure_byte = size_byte w.is_fleet subtree_ends

  pub measure_place : node + far < most_nodes
  measure_place = omega (arith, subtree_ends.within, w.is_fleet.nodes)

  pub measure_next : Measured s (set sizes node (far + get_or sizes (node + far) 0)) node
  measure_next = record { is_fleet = w.is_fleet; all = length-set sizes node (far + get_or sizes (node + far) 0) ∙ w.all; within = omega (arith, w.within); left = left; done = λ i a b. done i a b (ℕ_discrete i node) }
    where
      left : (i : ℕ) → i < node → LastChild s (length s) i (get_or (set sizes node (far + get_or sizes (node + far) 0)) i 0)
      left i h = rw (get_or-set_other sizes node i (far + get_or sizes (node + far) 0) 0 (λ e. omega arith)) (w.left i (omega arith))

      done : (i : ℕ) → node ≤ i → i < length s → Dec (i ≡ node) → SubtreeEnd s i (i + 1 + get_or (set sizes node (far + get_or sizes (node + far) 0)) i 0)
      done i a b (yes e) = rw (e, get_or-set_same sizes node (far + get_or sizes (node + far) 0) 0 (omega (arith, w.all, measure_place))) subtree_ends
      done i a b (no e) = rw (get_or-set_other sizes node i (far + get_or sizes (node + far) 0) 0 e) (w.done i (omega arith) b)

pub measure_known : {s sizes : List ℕ} {node : ℕ} → Measured s sizes node → 0 < node → Measured s sizes (suc (node - 1))
measure_known {node = node} w h = let e : suc (node - 1) ≡ node = omega arith in rw e w

pub measure_end : {s sizes : List ℕ} {node : ℕ} → Measured s sizes node → node ≤ 0 → Sizes s sizes
measure_end w h = record { all = w.all; each = λ i l. w.done i (omega arith) l; small = λ i l. size_byte w.is_fleet (w.done i (omega arith) l) }

-- NUMBERS
pub record NumbersTo (s numbers : List ℕ) (number node : ℕ) : Type 0 where
  pub is_fleet : IsFleet s
  pub all : length numbers ≡ most_nodes
  pub trees : number ≡ length (vehicles (take node s))
  pub few : (i : ℕ) → i < node → get_or numbers i 0 ≤ most_trees
  pub to_64 : number ≤ most_trees
  pub first : 1 ≤ node → get_or numbers 0 0 ≡ 1
  pub last : (i : ℕ) → suc i ≡ node → get_or numbers i 0 ≡ number
  pub more : (i : ℕ) → suc i < node → suc i < length s → depthAt s (suc i) ≡ 0 → get_or numbers (suc i) 0 ≡ suc (get_or numbers i 0)
  pub same : (i : ℕ) → suc i < node → suc i < length s → 1 ≤ depthAt s (suc i) → get_or numbers (suc i) 0 ≡ get_or numbers i 0

no_trees : length (vehicles []) ≡ 0
unfolding vehicles
no_trees = refl

pub numbers_start : {s numbers : List ℕ} → IsFleet s → length numbers ≡ most_nodes → NumbersTo s numbers 0 0
numbers_start {s} f l = record {
  is_fleet = f;
  all = l;
  trees = sym no_trees;
  few = λ i h. absurd (omega arith);
  to_64 = omega arith;
  first = λ h. absurd (omega arith);
  last = λ i h. absurd (omega arith);
  more = λ i h. absurd (omega arith);
  same = λ i h. absurd (omega arith);
}

module _ {s numbers : List ℕ} {number node : ℕ} (w : NumbersTo s numbers number node) (inside : node < length s) where
  pub number_place : node < most_nodes
  number_place = omega (arith, w.is_fleet.nodes)

  pub number_room : get_or s node 0 < 1000 → number < most_trees
  number_room h = omega (arith, w.trees, trees_room w.is_fleet node inside (omega arith))

  further : (number' : ℕ) → number' ≡ length (vehicles (take (suc node) s)) → number' ≤ most_trees → NumbersTo s (set numbers node number') number' (node + 1)
  further n e t = record {
    is_fleet = w.is_fleet;
    all = length-set numbers node n ∙ w.all;
    trees = rw (add-one node) e;
    few = λ i h. few i h (ℕ_discrete i node);
    to_64 = t;
    first = λ _. first node refl;
    last = λ i h. let z : i ≡ node = omega arith in rw z here;
    more = λ i h l d. more i h l d (ℕ_discrete (suc i) node);
    same = λ i h l d. same' i h l d (ℕ_discrete (suc i) node);
  }
    where
      here : get_or (set numbers node n) node 0 ≡ n
      here = get_or-set_same numbers node n 0 (omega (arith, w.all, number_place))

      other : (i : ℕ) → i < node → get_or (set numbers node n) i 0 ≡ get_or numbers i 0
      other i h = get_or-set_other numbers node i n 0 (λ q. omega arith)

      few : (i : ℕ) → i < node + 1 → Dec (i ≡ node) → get_or (set numbers node n) i 0 ≤ most_trees
      few i h (yes q) = rw (q, here) t
      few i h (no q) = rw (other i (omega arith)) (w.few i (omega arith))

      first : (m : ℕ) → node ≡ m → get_or (set numbers node n) 0 0 ≡ 1
      first zero q = omega (arith, ap (λ (k : ℕ). get_or (set numbers node n) k 0) q, here, e, ap (λ (k : ℕ). length (vehicles (take (suc k) s))) q, trees_root w.is_fleet 0 (omega arith) (fleet_root w.is_fleet (omega arith)), no_trees)
      first (suc m) q = other 0 (omega arith) ∙ w.first (omega arith)

      more : (i : ℕ) → suc i < node + 1 → suc i < length s → depthAt s (suc i) ≡ 0 → Dec (suc i ≡ node) → get_or (set numbers node n) (suc i) 0 ≡ suc (get_or (set numbers node n) i 0)
      more i h l d (yes q) = ap (λ (k : ℕ). get_or (set numbers node n) k 0) q ∙ here ∙ e ∙ trees_root w.is_fleet node inside (sym (ap (depthAt s) q) ∙ d) ∙ ap suc (sym w.trees ∙ sym (w.last i q) ∙ sym (other i (omega arith)))
      more i h l d (no q) = rw (other (suc i) (omega arith), other i (omega arith)) (w.more i (omega arith) l d)

      same' : (i : ℕ) → suc i < node + 1 → suc i < length s → 1 ≤ depthAt s (suc i) → Dec (suc i ≡ node) → get_or (set numbers node n) (suc i) 0 ≡ get_or (set numbers node n) i 0
      same' i h l d (yes q) = ap (λ (k : ℕ). get_or (set numbers node n) k 0) q ∙ here ∙ e ∙ trees_child w.is_fleet node inside (rw q at d) ∙ (sym w.trees ∙ sym (w.last i q) ∙ sym (other i (omega arith)))
      same' i h l d (no q) = rw (other (suc i) (omega arith), other i (omega arith)) (w.same i (omega arith) l d)

  pub numbers_root : get_or s node 0 < 1000 → NumbersTo s (set numbers node (number + 1)) (number + 1) (node + 1)
  numbers_root h = further (number + 1) (omega (arith, w.trees, trees_root w.is_fleet node inside (omega arith))) (omega (arith, number_room h))

  pub numbers_child : 1000 ≤ get_or s node 0 → NumbersTo s (set numbers node number) number (node + 1)
  numbers_child h = further number (omega (arith, w.trees, trees_child w.is_fleet node inside (omega arith))) w.to_64

pub numbers_all : {s numbers : List ℕ} {number node : ℕ} → NumbersTo s numbers number node → length s ≤ node → Numbers s numbers
numbers_all {s} {numbers} {number} {node} w h = record {
  all = w.all;
  are = counted_numbered counted_up (some s w.is_fleet.some_tree);
  few = λ i l. w.few i (omega arith);
}
  where
    some : (t : List ℕ) → 1 ≤ length (vehicles t) → 0 < length t
    some [] q = absurd (omega (arith, no_trees))
    some (x ∷ t) q = omega arith

    root : Dec (0 < length s) → depthAt s 0 ≡ 0
    root (yes l) = fleet_root w.is_fleet l
    root (no l) = absurd (l (some s w.is_fleet.some_tree))

    counted_up : CountedUp s numbers
    counted_up = record { root = root (dec_lt 0 (length s)); first = λ l. w.first (omega arith); more = λ i l d. w.more i (omega arith) l d; same = λ i l d. w.same i (omega arith) l d }

-- THE WALK UP: whoever is so many steps above `here` is the ancestor that is asked for
pub record Climbed (s parents : List ℕ) (node steps here left : ℕ) : Type 0 where
  pub has_parents : Parents s parents
  pub inside : here < length s
  pub enough : left ≤ depthAt s here
  pub up : (d : ℕ) → Up s d left here → Up s d steps node

pub climb_start : {s parents : List ℕ} {node steps left : ℕ} → Parents s parents → node < length s → steps ≤ depthAt s node → left ≡ steps → Climbed s parents node steps node left
climb_start p h d e = rw e (record { has_parents = p; inside = h; enough = d; up = λ d u. u })

module _ {s parents : List ℕ} {node steps here left : ℕ} (w : Climbed s parents node steps here (suc left)) where
  parent : IsParent s (get_or parents here 0) here
  parent = w.has_parents.each here w.inside (omega (arith, w.enough))

  pub climb_next : Climbed s parents node steps (get_or parents here 0) left
  climb_next = record {
    has_parents = w.has_parents;
    inside = omega (arith, parent.before, w.inside);
    enough = omega (arith, parent.one_deeper, w.enough);
    up = λ d u. w.up d (above parent u);
  }

pub climb_end : {s parents : List ℕ} {node steps here left : ℕ} → Climbed s parents node steps here left → left ≤ 0 → Up s here steps node
climb_end {s} {here = here} {left = left} w h = let e : left ≡ 0 = omega arith in w.up here (rw e (itself refl))

-- CHILDREN: those before `next` are counted
pub record ChildrenTo (s sizes : List ℕ) (d pair next count : ℕ) : Type 0 where
  pub input : ChildInput s sizes d pair
  pub after : d < next
  pub within : next ≤ length s
  pub counted_so_far : count ≡ count_below (child? s d (pair % 1000)) next
  pub few : count ≤ next

module _ {s sizes : List ℕ} {d pair : ℕ} (i : ChildInput s sizes d pair) where
  pub children_start : ChildrenTo s sizes d pair (d + 1) 0
  children_start = record { input = i; after = omega arith; within = omega (arith, i.inside); counted_so_far = sym (none_count (child? s d (pair % 1000)) (d + 1) (λ k h c. omega (arith, c.0.before))); few = omega arith }

module _ {s sizes : List ℕ} {d pair next count : ℕ} (w : ChildrenTo s sizes d pair next count) where
  ends : SubtreeEnd s d (d + 1 + get_or sizes d 0)
  ends = w.input.has_sizes.each d w.input.inside

  module _ (before : next < d + 1 + get_or sizes d 0) where
    pub kid_inside : next < length s
    kid_inside = omega (arith, ends.within)

    kid_ends : SubtreeEnd s next (next + 1 + get_or sizes next 0)
    kid_ends = w.input.has_sizes.each next kid_inside

    -- on to a node before which there is no other child
    module _ (n : ℕ) (within : next + (1 + n) ≤ length s) (none : (k : ℕ) → next < k → k < next + (1 + n) → ¬ IsChild s d (pair % 1000) k) where
      counts_on : count_below (child? s d (pair % 1000)) (next + (1 + n)) ≡ counted (child? s d (pair % 1000) next) + count_below (child? s d (pair % 1000)) next
      unfolding count_below
      counts_on =
          let e : next + (1 + n) ≡ suc next + n = omega arith in
          ap (count_below (child? s d (pair % 1000))) e ∙ count_further (child? s d (pair % 1000)) (suc next) n (λ k a b. none k (omega arith) (omega arith))

      hit_to : get_or s next 0 ≡ pair → ChildrenTo s sizes d pair (next + (1 + n)) (count + 1)
      hit_to e = record { input = w.input; after = omega (arith, w.after); within = within; counted_so_far = omega (arith, counts_on, counted_yes child (child? s d (pair % 1000) next), w.counted_so_far); few = omega (arith, w.few) }
        where
          child : IsChild s d (pair % 1000) next
          child = (record { before = w.after; inside = kid_inside; one_deeper = ap (λ (x : ℕ). x / 1000) e ∙ w.input.one_deeper; between = λ k a b. ends.deeper k a (omega arith) }, ap (λ (x : ℕ). x % 1000) e)

      miss_to : ¬ (get_or s next 0 ≡ pair) → ChildrenTo s sizes d pair (next + (1 + n)) count
      miss_to e = record { input = w.input; after = omega (arith, w.after); within = within; counted_so_far = omega (arith, counts_on, counted_no no_child (child? s d (pair % 1000) next), w.counted_so_far); few = omega (arith, w.few) }
        where
          no_child : ¬ IsChild s d (pair % 1000) next
          no_child c = e (omega (arith, c.0.one_deeper, c.1, w.input.one_deeper))

    -- to the next child: below this one there is none
    below_none : (k : ℕ) → next < k → k < next + (1 + get_or sizes next 0) → ¬ IsChild s d (pair % 1000) k
    below_none k a b c = omega (arith, c.0.one_deeper, kid_ends.deeper k a (omega arith), ends.deeper next w.after before)

    pub children_hit : get_or s next 0 ≡ pair → ChildrenTo s sizes d pair (next + (1 + get_or sizes next 0)) (count + 1)
    children_hit = hit_to (get_or sizes next 0) (omega (arith, kid_ends.within)) below_none

    pub children_miss : ¬ (get_or s next 0 ≡ pair) → ChildrenTo s sizes d pair (next + (1 + get_or sizes next 0)) count
    children_miss = miss_to (get_or sizes next 0) (omega (arith, kid_ends.within)) below_none

  -- those so far are no more than all
  pub children_so_far : count ≤ children s d (pair % 1000)
  unfolding children
  children_so_far = omega (arith, w.counted_so_far, count_into (child? s d (pair % 1000)) (child? s d (pair % 1000)) next (length s) (λ i. i) (λ i h c. (omega (arith, w.within), c)) (λ i j h k c c' e. e))

  pub children_end : d + 1 + get_or sizes d 0 ≤ next → count ≡ children s d (pair % 1000)
  unfolding children
  children_end h = w.counted_so_far ∙ sym (count_further (child? s d (pair % 1000)) next (length s - next) (λ k a b c. none k a c.0 (ℕ_discrete k (d + 1 + get_or sizes d 0)))) ∙ ap (count_below (child? s d (pair % 1000))) (omega (arith, w.within))
    where
      none : (k : ℕ) → next ≤ k → IsParent s d k → Dec (k ≡ d + 1 + get_or sizes d 0) → ⊥
      none k a p (yes e) = omega (arith, ends.stop (omega (arith, p.inside)), ap (depthAt s) e, p.one_deeper)
      none k a p (no e) = omega (arith, ends.stop (omega (arith, p.inside)), p.between (d + 1 + get_or sizes d 0) (omega arith) (omega arith))

-- the same over the nodes below d, one after the other, of which `count` of the first i are counted
abbrev nodes_below : (s sizes : List ℕ) (d : ℕ) → List ℕ
nodes_below s sizes d = between (d + 1) (d + 1 + get_or sizes d 0) s

all_below : {s sizes : List ℕ} {d pair : ℕ} → ChildInput s sizes d pair → length (nodes_below s sizes d) ≡ get_or sizes d 0
all_below {s} {sizes} {d} i = omega (arith, length-between s (d + 1) (d + 1 + get_or sizes d 0) (i.has_sizes.each d i.inside).within)

module _ {s sizes : List ℕ} {d pair i count : ℕ} (w : ChildrenTo s sizes d pair (d + 1 + i) count) where
  pub scan_over : length (nodes_below s sizes d) ≤ i → d + 1 + get_or sizes d 0 ≤ d + 1 + i
  scan_over h = omega (arith, all_below w.input)

  module _ (h : i < length (nodes_below s sizes d)) where
    same_node : get_or (nodes_below s sizes d) i 0 ≡ get_or s (d + 1 + i) 0
    same_node = get_or-between s (d + 1) (d + 1 + get_or sizes d 0) i 0 (omega (arith, all_below w.input))

    next : d + 1 + (i + 1) ≡ d + 1 + i + (1 + 0)
    next = omega arith

    inside : d + 1 + i + (1 + 0) ≤ length s
    inside = omega (arith, all_below w.input, (ends w).within)

    pub scan_hit : get_or (nodes_below s sizes d) i 0 ≡ pair → ChildrenTo s sizes d pair (d + 1 + (i + 1)) (count + 1)
    scan_hit e = rw next (hit_to w (omega (arith, all_below w.input)) 0 inside (λ k a b. absurd (omega arith)) (sym same_node ∙ e))

    pub scan_miss : ¬ (get_or (nodes_below s sizes d) i 0 ≡ pair) → ChildrenTo s sizes d pair (d + 1 + (i + 1)) count
    scan_miss e = rw next (miss_to w (omega (arith, all_below w.input)) 0 inside (λ k a b. absurd (omega arith)) (λ q. e (same_node ∙ q)))

-- MANY CHILDREN
pub flat_last : (s sizes : List ℕ) (d : ℕ) → 32 ≤ get_or sizes d 0 → get_or s (d + get_or sizes d 0 / 2) 0 < get_or s d 0 + 2000 → Tells (ltb (get_or s (d + get_or sizes d 0) 0) (get_or s d 0 + 2000)) (LooksFlat s sizes d)
flat_last s sizes d many middle =
    tells_if (ltb (get_or s (d + get_or sizes d 0) 0) (get_or s d 0 + 2000)) (λ q. record { many = many; middle = middle; last = ltb-true _ _ q }) (λ q l. let less = l.last in omega (arith, ltb-false (get_or s (d + get_or sizes d 0) 0) (get_or s d 0 + 2000) q))
