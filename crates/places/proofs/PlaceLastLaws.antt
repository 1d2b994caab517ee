-- LAWS. From the places of a pattern to those of the pattern with one pair more: what comes of one place, and of all.
use mathlib.Core.Path.{◌≡◌, refl, sym, ap, ◌∙◌}
use mathlib.Core.Logic.{◌≢◌, ◌↔◌}
use mathlib.Core.Bool.{Bool, true}
use mathlib.Core.List.{List, [], ◌∷◌, ◌++◌, append-nil}
use Prim.Native.Nat.{ℕ, zero, suc, ◌+◌, ◌-◌, ◌*◌, ◌/◌, ◌%◌, ◌≤◌, ◌<◌}
use native.Mathlib.Omega.{arith}
use native.Mathlib.Numerals.{add-one}
use lib.ListN.{length, get_or, take, length-append}
use lib.Seq.{length-take-le, take-take, take-append-le, get_or-take, get_or-append-add}
use mir.Syntax.{w16, w64}
use mir.Val.{Fits}
use Rattle.terms.specs.Tree.{depthAt, IsParent}
use Rattle.terms.specs.Tells.{Tells}
use Rattle.terms.specs.Fleet.{most_nodes}
use Rattle.fleet.proofs.TellsLaws.{told_yes}
use Rattle.rightmost.specs.Ends.{PlacedAt, LastPlace, last_of, Up, IsChild, children, NewChild, Seated, InnerSeated, LeavesOnly}
use Rattle.rightmost.specs.PlaceList.{Places, steps_to, PlacesFrom}
use Rattle.rightmost.proofs.UpLaws.{up_unique, up_inside}
use Rattle.rightmost.proofs.BranchLaws.{placed_maps, branch_exactly, last_inside}
use Rattle.rightmost.proofs.LongerLaws.{new_child_of, new_child_at}
use Rattle.rightmost.proofs.InnerLaws.{inner_exactly}
use Rattle.rightmost.proofs.GatherLaws.{place_inside}
use Rattle.rightmost.proofs.TestLaws.{depth_shift}
use Rattle.rightmost.proofs.PlaceOrder.{few_places}
use Rattle.rightmost.proofs.PlaceLists.{kids_none, kids_leaves, from_none, from_again, from_more, from_all}
use Rattle.index.proofs.IndexLaws.{fleet_pair}
use Rattle.index.specs.Index.{Parents}
use Rattle.branch.specs.Branch.{PatternInput, BranchOf}
use Rattle.groups.specs.Putting.{PutBehind}
use Rattle.seats.specs.Seats.{KidsInput, RisingIn, KeptBehind, Beside}
use Rattle.places.specs.Placing.{LongerInput}
use Rattle.places.specs.PlaceSteps.{ChildrenInput, ChildrenPut, EqualsInput, KidsPut}
use Rattle.places.proofs.PlaceRoom.{room}

-- WHAT STANDS BEHIND: the front is as it was
module _ {list others list' : List ℕ} {len end : ℕ} (p : PutBehind list len others list' end) (h : len ≤ length list) where
  front_length : length (take len list) ≡ len
  front_length = length-take-le len list h

  pub front : take len list' ≡ take len list
  front =
      sym (take-take len end list' (omega (arith, p.as_many))) ∙ ap (take len) p.put ∙ take-append-le len (take len list) others (omega (arith, front_length))
      ∙ take-take len len list (omega arith)

  pub stands_at : (i : ℕ) → len ≤ i → i < end → get_or list' i 0 ≡ get_or others (i - len) 0
  stands_at i a b =
      let e : length (take len list) + (i - len) ≡ i = omega (arith, front_length) in
      sym (get_or-take end list' i 0 b) ∙ ap (λ (l : List ℕ). get_or l i 0) p.put ∙ ap (λ (j : ℕ). get_or (take len list ++ others) j 0) (sym e) ∙ get_or-append-add (take len list) others (i - len) 0

  pub behind_again : {others' list'' : List ℕ} {end' : ℕ} → PutBehind list' len others' list'' end' → PutBehind list len others' list'' end'
  behind_again {others'} r = record { same_length = r.same_length ∙ p.same_length; as_many = r.as_many; put = r.put ∙ ap (λ (l : List ℕ). l ++ others') front }

  -- what was put is not counted
  pub behind_dropped : PutBehind list len [] list' len
  behind_dropped = record { same_length = p.same_length; as_many = omega arith; put = front ∙ sym (append-nil (take len list)) }

-- ONE PLACE
abbrev kid_pair : (y x : ℕ) → ℕ
kid_pair y x = (y / 1000 + 1) * 1000 + x % 1000

kid_label : (y x : ℕ) → kid_pair y x % 1000 ≡ x % 1000
kid_label y x = omega arith

placed_inside : {p q : List ℕ} {x b d : ℕ} → NewChild p x b → PlacedAt p q b d → d < length q
placed_inside e z = let m = placed_maps z in omega (arith, m.there, m.embeds.bound _ e.on_branch.inside)

module _ {p : List ℕ} {x b : ℕ} {fleet parents sizes : List ℕ} {d : ℕ} (i : KidsInput p x b fleet parents sizes d) where
  pub place_in : d < length fleet
  place_in = placed_inside i.new_child i.placed

  pub place_few : d < most_nodes
  place_few = omega (arith, place_in, i.is_fleet.nodes)

  pub pair_fits : Fits w16 (get_or fleet d 0 / 1000 + 1) × Fits w16 ((get_or fleet d 0 / 1000 + 1) * 1000) × Fits w16 (kid_pair (get_or fleet d 0) x)
  pair_fits = let h = (fleet_pair i.is_fleet d place_in).depth_to_15 in (omega arith, omega arith, omega arith)

  module _ {equal : ℕ} {leaves : Bool} {list : List ℕ} {len : ℕ} (a : EqualsInput p x b equal leaves fleet d list len) where
    pub children_input : ChildrenInput fleet sizes d (kid_pair (get_or fleet d 0) x) list len
    children_input = record {
      child = record { is_fleet = i.is_fleet; has_sizes = i.has_sizes; inside = place_in; one_deeper = omega arith };
      few = rw (kid_label (get_or fleet d 0) x) a.few;
      room = a.room;
    }

    in_list : len ≤ length list
    in_list = omega (arith, a.few, a.room)

    module _ {list' : List ℕ} {end : ℕ} (z : ChildrenPut fleet d (kid_pair (get_or fleet d 0) x % 1000) list len list' end) where
      c : ChildrenPut fleet d (x % 1000) list len list' end
      c = rw (kid_label (get_or fleet d 0) x) at z

      as_many : end ≡ len + children fleet d (x % 1000)
      as_many = omega (arith, c.behind.as_many, c.many)

      pub no_less : len ≤ end
      no_less = omega (arith, as_many)

      pub put_none : end - len ≤ equal → KidsPut p x b fleet d list len list' len
      put_none h = record { kids = []; are_kids = kids_none i.new_child i.placed (λ m. omega (arith, m, as_many, a.counted)); behind = behind_dropped c.behind in_list }

      more : equal < end - len → children p b (x % 1000) < children fleet d (x % 1000)
      more h = omega (arith, as_many, a.counted)

      pub put_all : equal < end - len → leaves ≡ true → KidsPut p x b fleet d list len list' end
      put_all h e = record {
        kids = c.kids;
        are_kids = kids_leaves p fleet b d (x % 1000) c.kids i.new_child.is_tree i.new_child.on_branch.inside i.placed (told_yes leaves a.told e) (more h) c.all;
        behind = c.behind;
      }

      pub children_rise : RisingIn (IsParent fleet d) list' len end
      children_rise = record {
        order = no_less;
        few = omega (arith, as_many, a.few);
        room = omega (arith, c.behind.same_length, a.room);
        each = λ j g h. rw (at j g h) (c.all.each (j - len) (omega (arith, c.behind.as_many))).0;
        rising = λ j k g h m. rw (at j g (omega arith), at k (omega arith) m) (c.all.rising (j - len) (k - len) (omega arith) (omega (arith, c.behind.as_many)));
      }
        where
          at : (j : ℕ) → len ≤ j → j < end → get_or list' j 0 ≡ get_or c.kids (j - len) 0
          at = stands_at c.behind in_list

      pub put_kept : {list'' : List ℕ} {end' : ℕ} → equal < end - len → KeptBehind (Beside p b (x % 1000) fleet d) list' len end list'' end' → KidsPut p x b fleet d list len list'' end'
      put_kept h k = record { kids = k.kids; are_kids = record { each = each; none_missing = λ w t s. missing w t s (c.all.none_missing w t); rising = k.kept.rising }; behind = behind_again c.behind in_list k.behind }
        where
          at : (j : ℕ) → len ≤ j → j < end → get_or list' j 0 ≡ get_or c.kids (j - len) 0
          at = stands_at c.behind in_list

          all_seated : {w : ℕ} → IsChild fleet d (x % 1000) w → InnerSeated p fleet b d (x % 1000) w ↔ Seated p fleet b d (x % 1000) w
          all_seated t = inner_exactly i.new_child.is_tree t (more h)

          each : (m : ℕ) → m < length k.kids → IsChild fleet d (x % 1000) (get_or k.kids m 0) × Seated p fleet b d (x % 1000) (get_or k.kids m 0)
          each m g =
              let z = k.kept.each m g in
              let less = z.2 in
              let child : IsChild fleet d (x % 1000) (get_or list' z.0 0) = rw (at z.0 z.1 z.2) (c.all.each (z.0 - len) (omega (arith, c.behind.as_many, z.1))) in
              rw z.3 (child, (all_seated child).0 z.4)

          missing : (w : ℕ) → IsChild fleet d (x % 1000) w → Seated p fleet b d (x % 1000) w → (j : ℕ) × (j < length c.kids) × (get_or c.kids j 0 ≡ w) → (m : ℕ) × (m < length k.kids) × (get_or k.kids m 0 ≡ w)
          missing w child s z = (y.0, y.1, y.2 ∙ here)
            where
              less : len + z.0 < end
              less = omega (arith, z.1, c.behind.as_many)

              back : len + z.0 - len ≡ z.0
              back = omega arith

              here : get_or list' (len + z.0) 0 ≡ w
              here = at (len + z.0) (omega arith) less ∙ ap (λ (j : ℕ). get_or c.kids j 0) back ∙ z.2

              y : (m : ℕ) × (m < length k.kids) × (get_or k.kids m 0 ≡ get_or list' (len + z.0) 0)
              y = k.kept.none_missing (len + z.0) (omega arith) less (rw here ((all_seated child).1 s))

-- THE NODE that x comes below, and how far it is up from the last one
module _ {before : List ℕ} {x : ℕ} {fleet parents sizes old new : List ℕ} (i : LongerInput before x fleet parents sizes old new) where
  pub pattern_input : PatternInput before
  pattern_input = record { is_tree = i.is_tree; few = omega (arith, i.few) }

  parent : (b : ℕ) × NewChild before x b
  parent = new_child_of before x i.is_tree i.longer_tree

  pub depth_from_1 : 1 ≤ x / 1000
  depth_from_1 = omega (arith, parent.1.one_deeper)

  pub level_few : x / 1000 - 1 < 16
  level_few = omega (arith, parent.1.is_pair.depth_to_15)

  pub last_doubled : Fits w64 ((length before - 1) * 2)
  last_doubled = omega (arith, i.few)

  pub last_few : length before - 1 < length before
  last_few = last_inside before i.is_tree

  level : suc (x / 1000 - 1) ≡ x / 1000
  level = omega (arith, depth_from_1)

  no_deeper : x / 1000 - 1 ≤ depthAt before (last_of before)
  no_deeper = omega (arith, parent.1.one_deeper, parent.1.on_branch.no_deeper)

  pub steps_fit : x / 1000 - 1 ≤ depthAt before (length before - 1)
  steps_fit = no_deeper

  pub last_depth : Fits w64 (depthAt before (length before - 1))
  last_depth = omega (arith, (i.is_tree.pairs (length before - 1) last_few).depth_to_15)

  pub new_child : {branch : List ℕ} → BranchOf before branch → NewChild before x (get_or branch (x / 1000 - 1) 0)
  new_child {branch} o = new_child_at before x (x / 1000 - 1) (get_or branch (x / 1000 - 1) 0) i.is_tree parent.1.is_pair (o.each (x / 1000 - 1) no_deeper) (sym level)

-- ALL PLACES
pub record LastTo (before : List ℕ) (x : ℕ) (fleet parents sizes old new₀ : List ℕ) (node equal : ℕ) (leaves : Bool) (steps : ℕ) (new : List ℕ) (last len i : ℕ) : Type 0 where
  pub input : LongerInput before x fleet parents sizes old new₀
  pub child : NewChild before x node
  pub counted : equal ≡ children before node (x % 1000)
  pub told : Tells leaves (LeavesOnly before node (x % 1000))
  pub is_steps : steps ≡ steps_to before node
  pub within : i ≤ length old
  pub same_length : length new ≡ length new₀
  pub few : len ≤ length fleet
  pub from : PlacesFrom before x node fleet old i (take len new)
  pub none_seen : i ≡ 0 → last ≡ most_nodes
  pub seen : (m : ℕ) → suc m ≡ i → Up fleet last steps (get_or old m 0)

pub last_start : {before : List ℕ} {x : ℕ} {fleet parents sizes old new : List ℕ} {branch : List ℕ} {equal : ℕ} {leaves : Bool} → LongerInput before x fleet parents sizes old new → BranchOf before branch
    → equal ≡ children before (get_or branch (x / 1000 - 1) 0) (x % 1000) → Tells leaves (LeavesOnly before (get_or branch (x / 1000 - 1) 0) (x % 1000))
    → LastTo before x fleet parents sizes old new (get_or branch (x / 1000 - 1) 0) equal leaves (depthAt before (length before - 1) - (x / 1000 - 1)) new most_nodes 0 0
last_start {before} {x} {fleet} {old = old} {branch = branch} i o e t = record {
  input = i;
  child = c;
  counted = e;
  told = t;
  is_steps = let z : x / 1000 - 1 ≡ depthAt before (get_or branch (x / 1000 - 1) 0) = omega (arith, c.one_deeper) in ap (λ (n : ℕ). depthAt before (length before - 1) - n) z;
  within = omega arith;
  same_length = refl;
  few = omega arith;
  from = from_none before x (get_or branch (x / 1000 - 1) 0) fleet old;
  none_seen = λ _. refl;
  seen = λ m r. absurd (omega arith);
}
  where
    c : NewChild before x (get_or branch (x / 1000 - 1) 0)
    c = new_child i o

module _ {before : List ℕ} {x : ℕ} {fleet parents sizes old new₀ : List ℕ} {node equal : ℕ} {leaves : Bool} {steps : ℕ} {new : List ℕ} {last len i : ℕ} (r : LastTo before x fleet parents sizes old new₀ node equal leaves steps new last len i) where
  p_in : length old ≤ most_nodes
  p_in = omega (arith, few_places fleet (depthAt before (last_of before)) (length fleet) old r.input.places.in_order (λ j h. place_inside r.input.is_tree (r.input.places.each j h)), r.input.is_fleet.nodes)

  module _ (h : i < length old) where
    pub old_few : i < most_nodes
    old_few = omega (arith, p_in)

    place : LastPlace before fleet (get_or old i 0)
    place = r.input.places.each i h

    pub old_in : get_or old i 0 < length fleet
    old_in = place_inside r.input.is_tree place

    pub climb_input : Parents fleet parents × (get_or old i 0 < length fleet) × (steps ≤ depthAt fleet (get_or old i 0))
    climb_input = (r.input.has_parents, old_in, omega (arith, r.is_steps, depth_shift r.input.is_tree place))

    module _ {d : ℕ} (u : Up fleet d steps (get_or old i 0)) where
      up : Up fleet d (steps_to before node) (get_or old i 0)
      up = rw r.is_steps at u

      placed : PlacedAt before fleet node d
      placed = (branch_exactly r.input.is_tree r.child.on_branch).1 (get_or old i 0, place, up)

      in_fleet : d < most_nodes
      in_fleet = omega (arith, up_inside u old_in, r.input.is_fleet.nodes)

      now_seen : (m : ℕ) → suc m ≡ i + 1 → Up fleet d steps (get_or old m 0)
      now_seen m e = let z : m ≡ i = omega arith in rw z u

      pub last_again : d ≡ last → LastTo before x fleet parents sizes old new₀ node equal leaves steps new last len (i + 1)
      last_again e = go i refl
        where
          go : (j : ℕ) → i ≡ j → LastTo before x fleet parents sizes old new₀ node equal leaves steps new last len (i + 1)
          go zero z = absurd (omega (arith, in_fleet, e, r.none_seen z))
          go (suc m) z = record {
            input = r.input;
            child = r.child;
            counted = r.counted;
            told = r.told;
            is_steps = r.is_steps;
            within = omega arith;
            same_length = r.same_length;
            few = r.few;
            from = rw (add-one i) (from_again m d (omega arith) (rw r.is_steps at (rw (sym e) at (r.seen m (sym z)))) up r.from);
            none_seen = λ y. absurd (omega arith);
            seen = λ k y. rw (sym e) (now_seen k y);
          }

      module _ (n : d ≢ last) where
        other : (m c : ℕ) → suc m ≡ i → Up fleet c (steps_to before node) (get_or old m 0) → c ≢ d
        other m c e v same = n (sym same ∙ up_unique v (rw r.is_steps at (r.seen m e)))

        len_in : length (take len new) ≡ len
        len_in = length-take-le len new (omega (arith, r.few, r.same_length, r.input.room, r.input.is_fleet.nodes))

        pub kids_input : KidsInput before x node fleet parents sizes d
        kids_input = record { new_child = r.child; few = omega (arith, r.input.few); is_fleet = r.input.is_fleet; has_parents = r.input.has_parents; has_sizes = r.input.has_sizes; placed = placed }

        pub put_input : EqualsInput before x node equal leaves fleet d new len
        put_input = record {
          counted = r.counted;
          told = r.told;
          few = omega (arith, room r.child r.input.places h up other r.from, len_in, r.input.is_fleet.nodes);
          room = omega (arith, r.same_length, r.input.room);
        }

        pub last_more : {new' : List ℕ} {end : ℕ} → KidsPut before x node fleet d new len new' end → LastTo before x fleet parents sizes old new₀ node equal leaves steps new' d end (i + 1)
        last_more {new'} {end} k = record {
          input = r.input;
          child = r.child;
          counted = r.counted;
          told = r.told;
          is_steps = r.is_steps;
          within = omega arith;
          same_length = k.behind.same_length ∙ r.same_length;
          few = omega (arith, few_places fleet _ (length fleet) (take len new ++ k.kids) grown.in_order (λ m q. (grown.each m q).4.0.inside), length-append (take len new) k.kids, len_in, k.behind.as_many);
          from = rw (add-one i, k.behind.put) grown;
          none_seen = λ y. absurd (omega arith);
          seen = now_seen;
        }
          where
            grown : PlacesFrom before x node fleet old (suc i) (take len new ++ k.kids)
            grown = from_more d r.child r.input.places h up other k.are_kids r.from

  pub last_end : length old ≤ i → Places (before ++ x ∷ []) fleet (take len new) × (len ≤ length fleet)
  last_end h = let e : i ≡ length old = omega (arith, r.within) in (from_all r.child r.input.places (rw e at r.from), r.few)
