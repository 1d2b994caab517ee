-- LAWS. Which leaf a pattern can have more wherever it occurs: asked level by level, child by child, node by node.
use mathlib.Core.Path.{◌≡◌, refl, sym, ap, ◌∙◌}
use mathlib.Core.List.{List}
use Prim.Native.Nat.{ℕ, suc, ◌+◌, ◌-◌, ◌*◌, ◌/◌, ◌%◌, ◌≤◌, ◌<◌}
use native.Mathlib.Omega.{arith}
use native.Mathlib.Decide.{ℕ_discrete}
use native.Mathlib.Numerals.{add-one}
use lib.ListN.{length, get_or, set, take, length-set}
use lib.Seq.{length-take-le, get_or-take, get_or-set_same, get_or-set_other}
use Rattle.std.specs.Prelude.{Option, Some, None}
use Rattle.std.specs.Option.{option_eq}
use Rattle.std.proofs.lemmas.Bool.{eqb-true, false≢true}
use lib.Dec.{eqb}
use mathlib.Core.Bool.{Bool, true, false, not}
use Rattle.terms.specs.Tree.{depthAt, IsPair, IsParent, SubtreeEnd}
use Rattle.terms.specs.Fleet.{most_nodes}
use Rattle.terms.proofs.EmbedsLaws.{par_unique}
use Rattle.rightmost.specs.Ends.{PlacedAt, LastPlace, last_of, Up, itself, above, OnBranch, children, NewChild}
use Rattle.rightmost.proofs.UpLaws.{up_depth, up_inside, up_root, up_more, up_image}
use Rattle.rightmost.proofs.BranchLaws.{placed_maps, last_inside, branch_root, branch_exactly}
use Rattle.rightmost.proofs.TestLaws.{depth_shift}
use Rattle.rightmost.proofs.GatherLaws.{place_inside}
use Rattle.index.specs.Index.{ChildInput}
use Rattle.index.proofs.IndexLaws.{fleet_pair, fleet_step}
use Rattle.branch.specs.Branch.{PatternInput, BranchOf}
use Rattle.matched.specs.Matched.{MatchedBy, LeftEverywhere, NodesToAsk, NodesToRise, Risen, PatternToAsk, NodeToAsk}

-- what a test of a value that may be there tells
pub value_there : (o : Option ℕ) (x : ℕ) → false ≡ not (option_eq eqb o (Some x)) → o ≡ Some x
value_there None x e = absurd (false≢true e)
value_there (Some y) x e = go (eqb y x) refl e
  where
    go : (b : Bool) → eqb y x ≡ b → false ≡ not b → ◌≡◌ {A = Option ℕ} (Some y) (Some x)
    go true f n = ap Some (eqb-true y x f)
    go false f n = absurd (false≢true n)

-- PARENTS (`rise`): the first `kept` nodes are those of the first i old ones, and `before` is one of them, if there is one
pub record RiseTo (fleet parents old : List ℕ) (count : ℕ) (nodes : List ℕ) (before : Option ℕ) (kept i : ℕ) : Type 0 where
  pub input : NodesToRise fleet parents old count
  pub same_length : length nodes ≡ length old
  pub within : i ≤ count
  pub few : kept ≤ i
  pub some : 1 ≤ i → 1 ≤ kept
  pub rest : (j : ℕ) → i ≤ j → get_or nodes j 0 ≡ get_or old j 0
  pub each : (m : ℕ) → m < kept → (j : ℕ) × (j < i) × IsParent fleet (get_or nodes m 0) (get_or old j 0)
  pub none_missing : (j d : ℕ) → j < i → IsParent fleet d (get_or old j 0) → (m : ℕ) × (m < kept) × (get_or nodes m 0 ≡ d)
  pub known : (x : ℕ) → before ≡ Some x → (m : ℕ) × (m < kept) × (get_or nodes m 0 ≡ x)

-- no node is replaced yet
pub rise_start : {fleet parents old : List ℕ} {count : ℕ} → NodesToRise fleet parents old count → RiseTo fleet parents old count old None 0 0
rise_start n = record {
  input = n;
  same_length = refl;
  within = omega arith;
  few = omega arith;
  some = λ h. absurd (omega arith);
  rest = λ j h. refl;
  each = λ m h. absurd (omega arith);
  none_missing = λ j d h p. absurd (omega arith);
  known = λ x e. let no : ◌≡◌ {A = ℕ} 0 1 = cc in absurd (omega arith);
}

module _ {fleet parents old : List ℕ} {count : ℕ} {nodes : List ℕ} {before : Option ℕ} {kept i : ℕ} (w : RiseTo fleet parents old count nodes before kept i) where
  -- all are
  pub rise_end : count ≤ i → Risen fleet old count nodes kept
  rise_end h = let e : i ≡ count = omega (arith, w.within) in record { some = λ k. w.some (omega arith); no_more = omega (arith, w.few); each = rw e at w.each; none_missing = rw e at w.none_missing }

  module _ (h : i < count) where
    same : get_or nodes i 0 ≡ get_or old i 0
    same = w.rest i (omega arith)

    -- the next node, which has a parent
    pub rise_inside : get_or nodes i 0 < length fleet
    rise_inside = omega (arith, same, w.input.inside i h)

    pub rise_small : get_or nodes i 0 < most_nodes
    rise_small = omega (arith, rise_inside, w.input.has_parents.room)

    pub rise_there : i < length nodes
    rise_there = omega (arith, w.input.there, w.same_length)

    pub rise_room : kept < length nodes
    rise_room = omega (arith, rise_there, w.few)

    abbrev up : ℕ
    up = get_or parents (get_or nodes i 0) 0

    parent : IsParent fleet up (get_or old i 0)
    parent = let p : IsParent fleet (get_or parents (get_or old i 0) 0) (get_or old i 0) = w.input.has_parents.each (get_or old i 0) (w.input.inside i h) (w.input.deep i h) in rw same p

    pub rise_above : up < most_nodes
    rise_above = omega (arith, parent.before, same, rise_small)

    -- the parent was written right before
    pub rise_same : before ≡ Some up → RiseTo fleet parents old count nodes before kept (i + 1)
    rise_same e = record {
      input = w.input;
      same_length = w.same_length;
      within = omega arith;
      few = omega (arith, w.few);
      some = λ k. omega (arith, there.1);
      rest = λ j k. w.rest j (omega arith);
      each = λ m k. let z = w.each m k in (z.0, omega (arith, z.1), z.2);
      none_missing = λ j d k p. go j d k p (ℕ_discrete j i);
      known = w.known;
    }
      where
        there : (m : ℕ) × (m < kept) × (get_or nodes m 0 ≡ up)
        there = w.known up e

        go : (j d : ℕ) → j < i + 1 → IsParent fleet d (get_or old j 0) → Dec (j ≡ i) → (m : ℕ) × (m < kept) × (get_or nodes m 0 ≡ d)
        go j d k p (yes q) = let same_parent : up ≡ d = par_unique parent (rw q at p) in (there.0, there.1, there.2 ∙ same_parent)
        go j d k p (no q) = w.none_missing j d (omega arith) p

    -- it is written behind the others
    pub rise_new : RiseTo fleet parents old count (set nodes kept up) (Some up) (kept + 1) (i + 1)
    rise_new = record {
      input = w.input;
      same_length = length-set nodes kept up ∙ w.same_length;
      within = omega arith;
      few = omega (arith, w.few);
      some = λ k. omega arith;
      rest = λ j k. other j (λ q. omega (arith, w.few)) ∙ w.rest j (omega arith);
      each = λ m k. each m k (ℕ_discrete m kept);
      none_missing = λ j d k p. go j d k p (ℕ_discrete j i);
      known = λ x e. let same_parent : up ≡ x = cc in (kept, omega arith, written ∙ same_parent);
    }
      where
        written : get_or (set nodes kept up) kept 0 ≡ up
        written = get_or-set_same nodes kept up 0 rise_room

        other : (j : ℕ) → ¬ (j ≡ kept) → get_or (set nodes kept up) j 0 ≡ get_or nodes j 0
        other j n = get_or-set_other nodes kept j up 0 n

        each : (m : ℕ) → m < kept + 1 → Dec (m ≡ kept) → (j : ℕ) × (j < i + 1) × IsParent fleet (get_or (set nodes kept up) m 0) (get_or old j 0)
        each m k (yes q) = (i, omega arith, rw (q, written) parent)
        each m k (no q) = let z = w.each m (omega arith) in (z.0, omega (arith, z.1), rw (other m q) z.2)

        go : (j d : ℕ) → j < i + 1 → IsParent fleet d (get_or old j 0) → Dec (j ≡ i) → (m : ℕ) × (m < kept + 1) × (get_or (set nodes kept up) m 0 ≡ d)
        go j d k p (yes q) = let same_parent : up ≡ d = par_unique parent (rw q at p) in (kept, omega arith, written ∙ same_parent)
        go j d k p (no q) = let z = w.none_missing j d (omega arith) p in (z.0, omega (arith, z.1), other z.0 (λ y. omega (arith, z.1)) ∙ z.2)

-- THE NODES (`left_everywhere`): the first i of them have more children
pub record LeftTo (fleet sizes nodes : List ℕ) (label own i : ℕ) : Type 0 where
  pub input : NodesToAsk fleet sizes nodes label
  pub done : (j : ℕ) → j < i → own < children fleet (get_or nodes j 0) label

-- none is asked yet
pub left_start : {fleet sizes nodes : List ℕ} {label own : ℕ} → NodesToAsk fleet sizes nodes label → LeftTo fleet sizes nodes label own 0
left_start n = record { input = n; done = λ j h. absurd (omega arith) }

module _ {fleet sizes nodes : List ℕ} {label own i : ℕ} (w : LeftTo fleet sizes nodes label own i) where
  -- all are
  pub left_end : length nodes ≤ i → LeftEverywhere fleet nodes label own
  left_end h j k = w.done j (omega arith)

  module _ (h : i < length nodes) where
    abbrev asked : ℕ
    asked = get_or nodes i 0

    -- the next node
    pub asked_inside : asked < length fleet
    asked_inside = w.input.inside i h

    pub asked_small : asked < most_nodes
    asked_small = omega (arith, asked_inside, w.input.is_fleet.nodes)

    pub asked_depth : depthAt fleet asked ≤ 15
    asked_depth = (fleet_pair w.input.is_fleet asked asked_inside).depth_to_15

    -- the pair that a child of it with the label has
    pub asked_child : ChildInput fleet sizes asked ((get_or fleet asked 0 / 1000 + 1) * 1000 + label)
    asked_child = record { is_fleet = w.input.is_fleet; has_sizes = w.input.has_sizes; inside = asked_inside; one_deeper = omega (arith, w.input.label_small) }

    same_label : ((get_or fleet asked 0 / 1000 + 1) * 1000 + label) % 1000 ≡ label
    same_label = omega (arith, w.input.label_small)

    -- it has more
    pub left_more : own < children fleet asked (((get_or fleet asked 0 / 1000 + 1) * 1000 + label) % 1000) → LeftTo fleet sizes nodes label own (i + 1)
    left_more l = record { input = w.input; done = λ j k. done j k (ℕ_discrete j i) }
      where
        more : own < children fleet asked label
        more = rw same_label at l

        done : (j : ℕ) → j < i + 1 → Dec (j ≡ i) → own < children fleet (get_or nodes j 0) label
        done j k (yes q) = rw q more
        done j k (no q) = w.done j (omega arith)

    -- it has not
    pub left_not : ¬ (own < children fleet asked (((get_or fleet asked 0 / 1000 + 1) * 1000 + label) % 1000)) → ¬ LeftEverywhere fleet nodes label own
    left_not n f = n (rw same_label (f i h))

-- A NODE b OF THE BRANCH, placed at d, the first of the nodes (`child_everywhere`)
placed_inside : {pattern fleet : List ℕ} {b d : ℕ} → b < length pattern → PlacedAt pattern fleet b d → d < length fleet
placed_inside {b = b} h z = omega (arith, z.there, z.placing.to_last b h)

module _ {pattern : List ℕ} {b : ℕ} {fleet sizes nodes : List ℕ} (n : NodeToAsk pattern b fleet sizes nodes) where
  abbrev d : ℕ
  d = get_or nodes 0 0

  pub node_inside : d < length fleet
  node_inside = placed_inside n.on_branch.inside (n.each 0 n.some)

  pub node_fits : d < most_nodes
  node_fits = omega (arith, node_inside, n.is_fleet.nodes)

  -- it is no less deep than b
  pub node_depth : depthAt pattern b ≤ depthAt fleet d
  node_depth =
      let t = n.is_tree in
      let m = placed_maps (n.each 0 n.some) in
      omega (arith, ap (depthAt fleet) m.there, up_depth (up_image m.embeds n.on_branch.inside (up_root pattern t b n.on_branch.inside)))

  -- its pair, and the end of its subtree, are in range
  pub node_small : get_or fleet d 0 < 16000
  node_small = omega (arith, (fleet_pair n.is_fleet d node_inside).depth_to_15)

  ends : SubtreeEnd fleet d (d + 1 + get_or sizes d 0)
  ends = n.has_sizes.each d node_inside

  pub ends_fits : d + 1 + get_or sizes d 0 ≤ most_nodes
  ends_fits = omega (arith, ends.within, n.is_fleet.nodes)

-- THE CHILDREN of d: c is the next one, or where they end
pub record ChildrenFrom (pattern : List ℕ) (b : ℕ) (fleet sizes nodes : List ℕ) (d c : ℕ) : Type 0 where
  pub input : NodeToAsk pattern b fleet sizes nodes
  pub first : d ≡ get_or nodes 0 0
  pub after : d < c
  pub one_deeper : c < d + 1 + get_or sizes d 0 → depthAt fleet c ≡ suc (depthAt fleet d)

-- the first child follows d
pub children_start : {pattern fleet sizes nodes : List ℕ} {b : ℕ} → NodeToAsk pattern b fleet sizes nodes → ChildrenFrom pattern b fleet sizes nodes (get_or nodes 0 0) (get_or nodes 0 0 + 1)
children_start {fleet = fleet} {sizes = sizes} {nodes = nodes} n = record { input = n; first = refl; after = omega arith; one_deeper = λ h. ap (depthAt fleet) (add-one (get_or nodes 0 0)) ∙ deep (omega arith) }
  where
    deep : suc (get_or nodes 0 0) < get_or nodes 0 0 + 1 + get_or sizes (get_or nodes 0 0) 0 → depthAt fleet (suc (get_or nodes 0 0)) ≡ suc (depthAt fleet (get_or nodes 0 0))
    deep h = omega (arith, fleet_step n.is_fleet (get_or nodes 0 0) (omega (arith, (ends n).within)), (ends n).deeper (suc (get_or nodes 0 0)) (omega arith) h)

module _ {pattern : List ℕ} {b : ℕ} {fleet sizes nodes : List ℕ} {d c : ℕ} (w : ChildrenFrom pattern b fleet sizes nodes d c) (h : c < d + 1 + get_or sizes d 0) where
  d_ends : SubtreeEnd fleet d (d + 1 + get_or sizes d 0)
  d_ends = rw w.first (ends w.input)

  -- a child, and where its subtree ends
  pub child_inside : c < length fleet
  child_inside = omega (arith, d_ends.within)

  child_ends : SubtreeEnd fleet c (c + 1 + get_or sizes c 0)
  child_ends = w.input.has_sizes.each c child_inside

  pub child_fits : c + 1 + get_or sizes c 0 ≤ most_nodes
  child_fits = omega (arith, child_ends.within, w.input.is_fleet.nodes)

  -- the next child stands there
  pub children_next : ChildrenFrom pattern b fleet sizes nodes d (c + 1 + get_or sizes c 0)
  children_next = record {
    input = w.input;
    first = w.first;
    after = omega (arith, w.after);
    one_deeper = λ k. omega (arith, w.one_deeper h, child_ends.stop (omega (arith, d_ends.within)), d_ends.deeper (c + 1 + get_or sizes c 0) (omega (arith, w.after)) k);
  }

  -- what is taken from its pair, for the pattern's
  abbrev higher : ℕ
  higher = (get_or fleet d 0 / 1000 - get_or pattern b 0 / 1000) * 1000

  pub child_pair : higher ≤ get_or fleet c 0
  child_pair = omega (arith, w.one_deeper h)

  -- what is left may follow the pattern as a child of b
  pub child_new : NewChild pattern (get_or fleet c 0 - higher) b
  child_new = record {
    is_tree = w.input.is_tree;
    is_pair = record { depth_to_15 = omega (arith, pair.depth_to_15); label_from_1 = omega (arith, pair.label_from_1, child_pair) };
    on_branch = w.input.on_branch;
    one_deeper = omega (arith, w.one_deeper h, node_depth w.input, ap (depthAt fleet) w.first);
  }
    where
      pair : IsPair (get_or fleet c 0)
      pair = fleet_pair w.input.is_fleet c child_inside

  -- all nodes can be asked of it
  pub child_nodes : NodesToAsk fleet sizes nodes ((get_or fleet c 0 - higher) % 1000)
  child_nodes = record {
    is_fleet = w.input.is_fleet;
    has_sizes = w.input.has_sizes;
    inside = λ i k. placed_inside w.input.on_branch.inside (w.input.each i k);
    label_small = omega arith;
  }

  -- it is left over wherever b is placed: at these nodes
  pub child_matched : {own : ℕ} → own ≡ children pattern b ((get_or fleet c 0 - higher) % 1000) → LeftEverywhere fleet nodes ((get_or fleet c 0 - higher) % 1000) own → MatchedBy fleet pattern (Some (get_or fleet c 0 - higher))
  child_matched {own} e left = (b, record { new_child = child_new; everywhere = λ a z. omega (arith, e, more a z) })
    where
      more : (a : ℕ) → PlacedAt pattern fleet b a → own < children fleet a ((get_or fleet c 0 - higher) % 1000)
      more a z = let i = w.input.none_missing a z in rw i.2 at (left i.0 i.1)

-- THE BRANCH (`matched_leaf`): the first `count` nodes are those so many steps above the places
pub record BranchFrom (pattern fleet parents sizes places nodes : List ℕ) (count steps : ℕ) : Type 0 where
  pub input : PatternToAsk pattern fleet parents sizes places
  pub some : 0 < count
  pub there : count ≤ length nodes
  pub enough : steps ≤ depthAt pattern (last_of pattern)
  pub same_length : length nodes ≡ length places
  pub each : (i : ℕ) → i < count → (w : ℕ) × LastPlace pattern fleet w × Up fleet (get_or nodes i 0) steps w
  pub none_missing : (d w : ℕ) → LastPlace pattern fleet w → Up fleet d steps w → (i : ℕ) × (i < count) × (get_or nodes i 0 ≡ d)

-- the pattern, and its last node's depth
pub pattern_input : {pattern fleet parents sizes places : List ℕ} → PatternToAsk pattern fleet parents sizes places → PatternInput pattern
pattern_input i = record { is_tree = i.is_tree; few = i.few }

pub last_depth : {pattern fleet parents sizes places : List ℕ} → PatternToAsk pattern fleet parents sizes places → depthAt pattern (last_of pattern) ≤ 15
last_depth {pattern} i = (i.is_tree.pairs (last_of pattern) (last_inside pattern i.is_tree)).depth_to_15

-- no step up is taken yet
no_steps : {s : List ℕ} {d w : ℕ} → Up s d 0 w → w ≡ d
no_steps (itself e) = e

pub branch_from : {pattern fleet parents sizes places : List ℕ} → PatternToAsk pattern fleet parents sizes places → 0 < length places → BranchFrom pattern fleet parents sizes places places (length places) 0
branch_from {places = places} n h = record {
  input = n;
  some = h;
  there = omega arith;
  enough = omega arith;
  same_length = refl;
  each = λ i k. (get_or places i 0, n.are.each i k, itself refl);
  none_missing = λ d w l u. let z = n.are.none_missing w l in (z.0, z.1, z.2 ∙ no_steps u);
}

-- the last step of several
last_step : {s : List ℕ} {d k w : ℕ} → Up s d (suc k) w → (c : ℕ) × Up s c k w × IsParent s d c
last_step {s} (above {w = w} p (itself e)) = (w, itself refl, rw e at p)
last_step (above p (above q u)) = let z = last_step (above q u) in (z.0, above p z.1, z.2)

module _ {pattern fleet parents sizes places nodes : List ℕ} {count steps : ℕ} (w : BranchFrom pattern fleet parents sizes places nodes count steps) where
  -- the branch's node so many steps up is placed just there
  here : {e b : ℕ} → OnBranch pattern e b → steps ≡ depthAt pattern (last_of pattern) - e → NodeToAsk pattern b fleet sizes (take count nodes)
  here {e} {b} o k = record {
    is_fleet = w.input.is_fleet;
    has_sizes = w.input.has_sizes;
    is_tree = w.input.is_tree;
    few = w.input.few;
    on_branch = rw (sym o.depth) at o;
    some = omega (arith, as_many, w.some);
    each = λ i h. each i (omega (arith, as_many));
    none_missing = none_missing;
  }
    where
      as_many : length (take count nodes) ≡ count
      as_many = length-take-le count nodes w.there

      each : (i : ℕ) → i < count → PlacedAt pattern fleet b (get_or (take count nodes) i 0)
      each i h = let z = w.each i h in rw (get_or-take count nodes i 0 h) ((branch_exactly w.input.is_tree o).1 (z.0, z.1, rw k at z.2))

      none_missing : (d : ℕ) → PlacedAt pattern fleet b d → (i : ℕ) × (i < length (take count nodes)) × (get_or (take count nodes) i 0 ≡ d)
      none_missing d p =
          let y = (branch_exactly w.input.is_tree o).0 p in
          let z = w.none_missing d y.0 y.1 (rw k y.2) in
          (z.0, omega (arith, as_many, z.1), get_or-take count nodes z.0 0 z.1 ∙ z.2)

  -- it is one below the root
  pub branch_node : {branch : List ℕ} → BranchOf pattern branch → steps < depthAt pattern (last_of pattern) → NodeToAsk pattern (get_or branch (depthAt pattern (last_of pattern) - steps) 0) fleet sizes (take count nodes)
  branch_node o h = here (o.each (depthAt pattern (last_of pattern) - steps) (omega arith)) (omega arith)

  -- it is the root
  pub branch_top : depthAt pattern (last_of pattern) ≤ steps → NodeToAsk pattern 0 fleet sizes (take count nodes)
  branch_top h = here (branch_root pattern w.input.is_tree) (omega (arith, w.enough))

  module _ (h : steps < depthAt pattern (last_of pattern)) where
    -- all have parents
    pub branch_below : NodesToRise fleet parents nodes count
    branch_below = record {
      has_parents = w.input.has_parents;
      there = w.there;
      inside = λ i k. let z = w.each i k in up_inside z.2 (place_inside w.input.is_tree z.1);
      deep = λ i k. let z = w.each i k in omega (arith, up_depth z.2, depth_shift w.input.is_tree z.1);
    }

    -- which are one step more
    pub branch_up : {risen : List ℕ} {left : ℕ} → length risen ≡ length nodes → Risen fleet nodes count risen left → BranchFrom pattern fleet parents sizes places risen left (steps + 1)
    branch_up {risen} {left} l r = record {
      input = w.input;
      some = omega (arith, r.some w.some);
      there = omega (arith, r.no_more, w.there);
      enough = omega arith;
      same_length = l ∙ w.same_length;
      each = λ m k. let y = r.each m k in let z = w.each y.0 y.1 in (z.0, z.1, rw (add-one steps) (up_more z.2 y.2));
      none_missing = none_missing;
    }
      where
        none_missing : (d v : ℕ) → LastPlace pattern fleet v → Up fleet d (steps + 1) v → (m : ℕ) × (m < left) × (get_or risen m 0 ≡ d)
        none_missing d v p u =
            let y = last_step (rw (add-one steps) at u) in
            let z = w.none_missing y.0 v p y.1 in
            let parent : IsParent fleet d (get_or nodes z.0 0) = rw z.2 y.2 in
            r.none_missing z.0 d z.1 parent
