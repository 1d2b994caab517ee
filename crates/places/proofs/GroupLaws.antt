-- LAWS. The pattern goes on with a pair like its last one, a leaf: at an old place the others have places beside it, so the new places are the old
-- ones whose parent has a child to spare.
use mathlib.Core.Path.{◌≡◌, refl, sym, ap, ◌∙◌, subst}
use mathlib.Core.Logic.{◌≢◌, ◌⊎◌, ⊎_elim}
use mathlib.Core.List.{List, [], ◌∷◌, ◌++◌, append-nil}
use Prim.Native.Nat.{ℕ, zero, suc, ◌+◌, ◌-◌, ◌/◌, ◌%◌, ◌≤◌, ◌<◌}
use native.Mathlib.Omega.{arith}
use native.Mathlib.Decide.{dec_lt, ℕ_discrete}
use lib.ListN.{length, get_or, take}
use lib.Seq.{slice, length-slice, take-suc, take_all, length-take-le, get_or-drop, get_or-take}
use Rattle.terms.specs.Tree.{depthAt, IsTree, IsParent}
use Rattle.terms.proofs.BeginningLaws.{beginning_tree}
use Rattle.terms.proofs.EmbedsLaws.{par_unique}
use Rattle.rightmost.specs.Ends.{PlacedAt, PlacedBeside, LastPlace, last_of, Up, itself, above, IsChild, child?, children, NewChild, Seated}
use Rattle.rightmost.specs.PlaceList.{Before, Places, Kids, steps_to, PlacesFrom}
use Rattle.rightmost.proofs.Counting.{LeftOver, left_over}
use Rattle.rightmost.proofs.UpLaws.{up_unique}
use Rattle.rightmost.proofs.BranchLaws.{branch_exactly}
use Rattle.rightmost.proofs.LongerLaws.{longer, longer_length, label_at_node, label_last, parent_to, parent_new, longer_tree, new_child_of, shorter_embeds, put, put_same, put_other, longer_embeds, user_is_child}
use Rattle.rightmost.proofs.SupportByPlaces.{MapsBeside, beside_maps, maps_beside, ends_exactly}
use Rattle.rightmost.proofs.SeatLaws.{beside_exactly}
use Rattle.rightmost.proofs.LastPlaceLaws.{child_is_pair}
use Rattle.rightmost.proofs.GatherLaws.{place_inside}
use Rattle.rightmost.proofs.PlaceOrder.{up_split, before_irrefl, before_trans, before_up, few_places}
use Rattle.rightmost.proofs.PlaceLists.{kids_none, from_none, from_more, from_all}
use Rattle.groups.specs.Groups.{parent_of, Group, KeepInput, siblings, LargeGroups, none, large, small, GroupsPut}
use Rattle.places.specs.Placing.{LongerInput}

-- SIBLINGS OF A PLACE

-- the last place has a parent, and the node its label
last_child : {p q : List ℕ} {x b w : ℕ} → NewChild p x b → LastPlace (longer p x) q w → (d : ℕ) × IsChild q d (x % 1000) w
last_child e z = let r = (ends_exactly e).0 z in (r.0, r.1)

-- where the pattern has a placing beside w, so has its beginning
beside_shorter : {p q : List ℕ} {x b d w : ℕ} → NewChild p x b → PlacedBeside (longer p x) q b d w → PlacedBeside p q b d w
beside_shorter {p} {q} {x} {b} {d} {w} e z = maps_beside e.is_tree e.on_branch.inside (record { map = m.map; embeds = shorter_embeds p x m.embeds; there = m.there; beside = λ i h. m.beside i (omega (arith, longer_length p x)) })
  where
    m : MapsBeside (longer p x) q b d w
    m = beside_maps z

-- and the other way round, if d has a child to spare: the new leaf goes to one that neither w is nor a node's place
beside_longer : {p q : List ℕ} {x b d w : ℕ} → NewChild p x b → IsChild q d (x % 1000) w → children (longer p x) b (x % 1000) < children q d (x % 1000) → PlacedBeside p q b d w → PlacedBeside (longer p x) q b d w
unfolding children
beside_longer {p} {q} {x} {b} {d} {w} e c more z = maps_beside (longer_tree e) (omega (arith, longer_length p x, e.on_branch.inside)) (record {
  map = put m.map (length p) f.place;
  embeds = longer_embeds e m.embeds (rw m.there f.is_so) free;
  there = put_other m.map (length p) f.place b (λ r. omega (arith, e.on_branch.inside)) ∙ m.there;
  beside = λ i h. beside i h (ℕ_discrete i (length p));
})
  where
    m : MapsBeside p q b d w
    m = beside_maps z

    f : LeftOver (IsChild (longer p x) b (x % 1000)) (IsChild q d (x % 1000)) (length (longer p x)) (length q) (put m.map (length p) w)
    f = left_over (child? (longer p x) b (x % 1000)) (child? q d (x % 1000)) (length (longer p x)) (length q) (put m.map (length p) w) more

    free : (i : ℕ) → i < length p → m.map i ≢ f.place
    free i h r =
        let k = user_is_child {l = x % 1000} e.is_tree m.embeds e.on_branch.inside (rw m.there f.is_so) i h r in
        f.unused i (omega (arith, longer_length p x)) (parent_to p x k.0, label_at_node p x i h ∙ k.1) (put_other m.map (length p) w i (λ y. omega arith) ∙ r)

    not_w : f.place ≢ w
    not_w r = f.unused (length p) (omega (arith, longer_length p x)) (parent_new e, label_last p x) (put_same m.map (length p) w (length p) refl ∙ sym r)

    beside : (i : ℕ) → i < length (longer p x) → Dec (i ≡ length p) → put m.map (length p) f.place i ≢ w
    beside i h (yes y) r = not_w (sym (put_same m.map (length p) f.place i y) ∙ r)
    beside i h (no y) r = m.beside i (omega (arith, longer_length p x)) (sym (put_other m.map (length p) f.place i y) ∙ r)

-- A PATTERN THAT ENDS WITH x, and x may follow below the same node
record Ends (before : List ℕ) (x node : ℕ) : Type 0 where
  pub front : List ℕ
  pub is_longer : before ≡ longer front x
  pub child : NewChild front x node

ends_with : (before : List ℕ) (x node : ℕ) → NewChild before x node → get_or before (length before - 1) 0 ≡ x → Ends before x node
ends_with before x node e same = go (length before - 1) refl
  where
    t : IsTree before
    t = e.is_tree

    go : (n : ℕ) → length before - 1 ≡ n → Ends before x node
    go zero r = absurd (omega (arith, ap (λ (y : ℕ). y / 1000) same, ap (depthAt before) r, t.root_depth, e.one_deeper))
    go (suc n) r = record { front = front; is_longer = is_longer; child = rw b at c.1 }
      where
        front : List ℕ
        front = take (suc n) before

        len : length before ≡ suc (suc n)
        len = omega (arith, r)

        x_at : get_or before (suc n) 0 ≡ x
        x_at = ap (λ (i : ℕ). get_or before i 0) (sym r) ∙ same

        is_longer : before ≡ longer front x
        is_longer = sym (take_all (suc (suc n)) before (omega (arith, len))) ∙ take-suc before (suc n) 0 (omega (arith, len)) ∙ ap (λ (y : ℕ). front ++ y ∷ []) x_at

        c : (b : ℕ) × NewChild front x b
        c = new_child_of front x (beginning_tree before n (omega (arith, len)) t) (subst IsTree is_longer t)

        len_front : length front ≡ suc n
        len_front = length-take-le (suc n) before (omega (arith, len))

        above_last : IsParent before c.0 (suc n)
        above_last = subst (λ (p : List ℕ). IsParent p c.0 (suc n)) (sym is_longer) (rw len_front at (parent_new c.1))

        deeper : depthAt before (suc n) ≡ suc (depthAt before node)
        deeper = ap (λ (y : ℕ). y / 1000) x_at ∙ e.one_deeper

        earlier : Dec (node ≡ suc n) → node < suc n
        earlier (yes k) = absurd (omega (arith, deeper, ap (depthAt before) k))
        earlier (no k) = omega (arith, len, e.on_branch.inside)

        b : c.0 ≡ node
        b = par_unique above_last ((child_is_pair e (suc n) (omega (arith, len))).1 (earlier (ℕ_discrete node (suc n)), x_at)).0

-- SIBLINGS IN ORDER
siblings_rise : {s : List ℕ} {k d v w : ℕ} → Before s k v w → 1 ≤ k → IsParent s d v → IsParent s d w → v < w
siblings_rise {s} {k} {d} {v} {w} z h p q = ⊎_elim (λ o. absurd (omega (arith, same))) (λ o. o.1) z.order
  where
    same : z.root_v ≡ z.root_w
    same = up_unique (up_split (above p (itself refl)) z.up_v h) (up_split (above q (itself refl)) z.up_w h)

-- all places of a group give what the first gives
from_row : {p : List ℕ} {x b : ℕ} {q old : List ℕ} {first end : ℕ} {new : List ℕ} (d : ℕ) → first < end → ((j : ℕ) → first ≤ j → j < end → Up q d (steps_to p b) (get_or old j 0)) → PlacesFrom p x b q old (suc first) new → PlacesFrom p x b q old end new
from_row {p} {x} {b} {q} {old} {first} {end} {new} d h u f = record {
  each = λ m l. let z = f.each m l in let y = z.2 in (z.0, z.1, omega arith, z.3, z.4, z.5);
  none_missing = λ k c w l v e s. at k c w l v e s (dec_lt k (suc first));
  in_order = f.in_order;
}
  where
    at : (k c w : ℕ) → k < end → Up q c (steps_to p b) (get_or old k 0) → IsChild q c (x % 1000) w → Seated p q b c (x % 1000) w → Dec (k < suc first) → (m : ℕ) × (m < length new) × (get_or new m 0 ≡ w)
    at k c w l v e s (yes r) = f.none_missing k c w r v e s
    at k c w l v e s (no r) =
        let z : c ≡ d = up_unique v (u k (omega arith) l) in
        f.none_missing first d w (omega arith) (u first (omega arith) h) (rw z at e) (rw z at s)

-- THE GROUPS
module _ {before : List ℕ} {x : ℕ} {fleet parents sizes old new : List ℕ} (i : LongerInput before x fleet parents sizes old new) {node : ℕ} (e : NewChild before x node) (same : get_or before (length before - 1) 0 ≡ x) where
  abbrev label : ℕ
  label = x % 1000

  ends : Ends before x node
  ends = ends_with before x node e same

  last_depth : depthAt before (last_of before) ≡ suc (depthAt before node)
  last_depth = ap (λ (y : ℕ). y / 1000) same ∙ e.one_deeper

  one_step : steps_to before node ≡ 1
  one_step = omega (arith, last_depth)

  old_in : (j : ℕ) → j < length old → get_or old j 0 < length fleet
  old_in j h = place_inside i.is_tree (i.places.each j h)

  few_old : length old ≤ length fleet
  few_old = few_places fleet (depthAt before (last_of before)) (length fleet) old i.places.in_order old_in

  child_at : (j : ℕ) → j < length old → IsChild fleet (parent_of parents old j) label (get_or old j 0)
  child_at j h = rw is_parent at c.1
    where
      c : (d : ℕ) × IsChild fleet d label (get_or old j 0)
      c = last_child ends.child (subst (λ (p : List ℕ). LastPlace p fleet (get_or old j 0)) ends.is_longer (i.places.each j h))

      is_parent : c.0 ≡ parent_of parents old j
      is_parent = par_unique c.1.0 (i.has_parents.each (get_or old j 0) (old_in j h) (omega (arith, c.1.0.one_deeper)))

  pub keep_input : KeepInput fleet parents sizes old
  keep_input = record {
    groups = record { all = i.has_parents.all; few = omega (arith, few_old, i.is_fleet.nodes); each = λ j h. omega (arith, old_in j h, i.is_fleet.nodes) };
    each = λ j h. record { is_fleet = i.is_fleet; has_parents = i.has_parents; has_sizes = i.has_sizes; inside = old_in j h; deep = omega (arith, (child_at j h).0.one_deeper) };
  }

  up_at : (j : ℕ) → j < length old → Up fleet (parent_of parents old j) (steps_to before node) (get_or old j 0)
  up_at j h = rw one_step (above (child_at j h).0 (itself refl))

  -- equal parents stand in a row
  between : (j k l : ℕ) → j ≤ k → k ≤ l → l < length old → parent_of parents old j ≡ parent_of parents old l → parent_of parents old k ≡ parent_of parents old j
  between j k l a b h r = go (dec_lt j k) (dec_lt k l)
    where
      step : (j k : ℕ) → j < k → k < length old → (parent_of parents old j ≡ parent_of parents old k) ⊎ Before fleet (depthAt before (last_of before) - steps_to before node) (parent_of parents old j) (parent_of parents old k)
      step j k a h = before_up (i.places.in_order j k a h) (omega arith) (up_at j (omega arith)) (up_at k h)

      round : ¬ Before fleet (depthAt before (last_of before) - steps_to before node) (parent_of parents old j) (parent_of parents old l)
      round y = before_irrefl (rw r at y)

      go : Dec (j < k) → Dec (k < l) → parent_of parents old k ≡ parent_of parents old j
      go (no m) _ = let z : k ≡ j = omega arith in ap (parent_of parents old) z
      go (yes m) (no n) = let z : k ≡ l = omega arith in ap (parent_of parents old) z ∙ sym r
      go (yes m) (yes n) = ⊎_elim (λ y. sym y) (λ y. ⊎_elim (λ z. z ∙ sym r) (λ z. absurd (round (before_trans y z))) (step k l n h)) (step j k m (omega arith))

  -- the place before the group has another parent
  abbrev Fresh : ℕ → Type 0
  Fresh n = (m : ℕ) → suc m ≡ n → n < length old → parent_of parents old m ≢ parent_of parents old n

  module _ {first end : ℕ} (g : Group parents old first end) (fresh : Fresh first) where
    abbrev d : ℕ
    d = parent_of parents old first

    first_in : first < length old
    first_in = omega (arith, g.from, g.order, g.within)

    last_in : end - 1 < length old
    last_in = omega (arith, g.order, g.within)

    member : (j : ℕ) → first ≤ j → j < end → parent_of parents old j ≡ d
    member j a b = between first j (end - 1) a (omega arith) last_in (sym g.same)

    not_before : (m : ℕ) → m < first → parent_of parents old m ≢ d
    not_before m h r = go first refl
      where
        go : (n : ℕ) → first ≡ n → ⊥
        go zero z = omega arith
        go (suc n) z = fresh n (sym z) first_in (between m n first (omega arith) (omega arith) first_in r ∙ r)

    not_behind : (m : ℕ) → end ≤ m → m < length old → parent_of parents old m ≢ d
    not_behind m h k r = g.other (omega arith) (between first end m (omega (arith, g.from, g.order)) h k (sym r))

    len : length (slice first end old) ≡ end - first
    len = length-slice first end old g.within

    at : (m : ℕ) → m < end - first → get_or (slice first end old) m 0 ≡ get_or old (first + m) 0
    at m h = get_or-drop first (take end old) m 0 ∙ get_or-take end old (first + m) 0 (omega arith)

    in_old : (m : ℕ) → m < end - first → first + m < length old
    in_old m h = omega (arith, g.within)

    is_child : (m : ℕ) → m < end - first → IsChild fleet d label (get_or old (first + m) 0)
    is_child m h = rw (member (first + m) (omega arith) (omega arith)) at (child_at (first + m) (in_old m h))

    placed : PlacedAt before fleet node d
    placed = (branch_exactly i.is_tree e.on_branch).1 (get_or old first 0, i.places.each first first_in, up_at first first_in)

    -- the label of the group's nodes, by its first
    like_first : get_or fleet (get_or old first 0) 0 % 1000 ≡ label
    like_first = (child_at first first_in).1

    group_kids : children before node label < children fleet d label → Kids before fleet node d label (slice first end old)
    group_kids more = record {
      each = λ m h. let k : m < end - first = omega (arith, len) in rw (at m k) (is_child m k, seated (get_or old (first + m) 0) (is_child m k) (i.places.each (first + m) (in_old m k)));
      none_missing = λ w c s. missing w c (i.places.none_missing w (place_of w c s));
      rising = λ m n a h.
          let k : n < end - first = omega (arith, len) in
          let j : m < end - first = omega arith in
          rw (at m j, at n k) (siblings_rise (i.places.in_order (first + m) (first + n) (omega arith) (in_old n k)) (omega (arith, last_depth)) (is_child m j).0 (is_child n k).0);
    }
      where
        -- a place of the last node at which it can be again
        seated : (w : ℕ) → IsChild fleet d label w → LastPlace before fleet w → Seated before fleet node d label w
        seated w c z = (beside_exactly i.is_tree e.on_branch placed c).0 (subst (λ (p : List ℕ). PlacedBeside p fleet node d w) (sym ends.is_longer) (beside_longer ends.child c (subst (λ (p : List ℕ). children p node label < children fleet d label) ends.is_longer more) (rw same_parent at y.2)))
          where
            y : (d' : ℕ) × IsChild fleet d' label w × PlacedBeside ends.front fleet node d' w
            y = (ends_exactly ends.child).0 (subst (λ (p : List ℕ). LastPlace p fleet w) ends.is_longer z)

            same_parent : y.0 ≡ d
            same_parent = par_unique y.1.0 c.0

        place_of : (w : ℕ) → IsChild fleet d label w → Seated before fleet node d label w → LastPlace before fleet w
        place_of w c s = subst (λ (p : List ℕ). LastPlace p fleet w) (sym ends.is_longer) ((ends_exactly ends.child).1 (d, c, beside_shorter ends.child (subst (λ (p : List ℕ). PlacedBeside p fleet node d w) ends.is_longer ((beside_exactly i.is_tree e.on_branch placed c).1 s))))

        missing : (w : ℕ) → IsChild fleet d label w → (m : ℕ) × (m < length old) × (get_or old m 0 ≡ w) → (m : ℕ) × (m < length (slice first end old)) × (get_or (slice first end old) m 0 ≡ w)
        missing w c (m, h, r) = go (dec_lt m first) (dec_lt m end)
          where
            same_parent : parent_of parents old m ≡ d
            same_parent = par_unique (child_at m h).0 (rw r c.0)

            go : Dec (m < first) → Dec (m < end) → (m : ℕ) × (m < length (slice first end old)) × (get_or (slice first end old) m 0 ≡ w)
            go (yes a) _ = absurd (not_before m a same_parent)
            go (no a) (no b) = absurd (not_behind m (omega arith) h same_parent)
            go (no a) (yes b) = let z : first + (m - first) ≡ m = omega arith in (m - first, omega (arith, len), at (m - first) (omega arith) ∙ ap (λ (j : ℕ). get_or old j 0) z ∙ r)

    group_from : {kids list : List ℕ} → Kids before fleet node d label kids → PlacesFrom before x node fleet old first list → PlacesFrom before x node fleet old end (list ++ kids)
    group_from {kids} {list} k f =
        from_row d (omega (arith, g.from, g.order)) (λ j a b. rw (member j a b) at (up_at j (omega (arith, g.within)))) (from_more d e i.places first_in (up_at first first_in) other k f)
      where
        other : (m c : ℕ) → suc m ≡ first → Up fleet c (steps_to before node) (get_or old m 0) → c ≢ d
        other m c r u s = fresh m r first_in (up_unique (up_at m (omega (arith, first_in))) u ∙ s)

    group_large : {equal : ℕ} {list : List ℕ} → equal ≡ children before node label → equal < siblings fleet parents old first → PlacesFrom before x node fleet old first list → PlacesFrom before x node fleet old end (list ++ slice first end old)
    group_large n h f = group_from (group_kids (omega (arith, n, h, ap (children fleet d) like_first))) f

    group_small : {equal : ℕ} {list : List ℕ} → equal ≡ children before node label → siblings fleet parents old first ≤ equal → PlacesFrom before x node fleet old first list → PlacesFrom before x node fleet old end list
    group_small {equal} {list} n h f = rw (append-nil list) at (group_from (kids_none e placed (λ m. omega (arith, n, h, ap (children fleet d) like_first))) f)

    fresh_end : Fresh end
    fresh_end m r h q = let z : m ≡ end - 1 = omega arith in g.other h (sym q ∙ ap (parent_of parents old) z ∙ g.same)

  groups_from : {equal : ℕ} → equal ≡ children before node label → {n : ℕ} {list : List ℕ} → LargeGroups fleet parents old equal n list → PlacesFrom before x node fleet old n list × Fresh n
  groups_from c none = (from_none before x node fleet old, λ m r. absurd (omega arith))
  groups_from c (large g h r) = let z = groups_from c r in (group_large g z.1 c h z.0, fresh_end g z.1)
  groups_from c (small g h r) = let z = groups_from c r in (group_small g z.1 c h z.0, fresh_end g z.1)

  pub groups_end : {equal len : ℕ} {new' : List ℕ} → equal ≡ children before node label → GroupsPut fleet parents old equal new new' len → Places (before ++ x ∷ []) fleet (take len new') × (len ≤ length fleet)
  groups_end c p = (from_all e i.places (groups_from c p.are).0, omega (arith, p.few, few_old))
