-- LAWS. What is noted, step by step: one pair, the children of a node, the levels of a place.
use mathlib.Core.Path.{◌≡◌, refl, sym, ap, ◌∙◌}
use mathlib.Core.Logic.{◌↔◌, ◌⊎◌, inl, inr, ⊎_elim}
use mathlib.Core.List.{List}
use Prim.Native.Nat.{ℕ, suc, ◌+◌, ◌-◌, ◌*◌, ◌/◌, ◌%◌, ◌≤◌, ◌<◌}
use native.Mathlib.Omega.{arith}
use native.Mathlib.Decide.{dec_lt, ℕ_discrete}
use lib.ListN.{length, get_or, set, length-set}
use lib.Seq.{get_or-set_same, get_or-set_other}
use Rattle.terms.specs.Tree.{depthAt, IsParent, SubtreeEnd}
use Rattle.terms.specs.Fleet.{IsFleet, most_nodes, most_trees}
use Rattle.rightmost.specs.Ends.{Up, itself, above, IsChild, children}
use Rattle.rightmost.proofs.UpLaws.{up_unique, up_depth, up_inside, up_more}
use Rattle.rightmost.proofs.TestLaws.{child_counts}
use Rattle.index.proofs.IndexLaws.{fleet_pair}
use Rattle.index.specs.Index.{Sizes, ChildInput}
use Rattle.noting.specs.Noting.{pair_limit, Room, Once, SomeNoted, AllNoted, ChildPair, ChildrenToNote, Passes, LimitAt, PlacePair, PlaceToNote, PlaceNoted, PassesAt, LimitsToNote}
use Rattle.noting.proofs.WalkLaws.{Walked, walk_start, walk_next, walk_between, walk_all}

-- NOTED ONE AFTER ANOTHER
pub some_none : {S : ℕ → Type 0} {number : ℕ} {counts last : List ℕ} → SomeNoted S number counts last counts last
some_none = record { all_counts = refl; all_last = refl; each = λ x. inl (refl, refl) }

-- there is room still
pub room_after : {S T : ℕ → Type 0} {number : ℕ} {counts last counts' last' : List ℕ} → Room S number counts last → SomeNoted T number counts last counts' last' → Room S number counts' last'
room_after {S} {T} {number} {counts} {last} {counts'} {last'} r n = record { in_counts = λ x s. omega (arith, r.in_counts x s, n.all_counts); in_last = λ x s. omega (arith, r.in_last x s, n.all_last); few = λ x s k. ⊎_elim (λ z. rw z.0 (r.few x s (λ e. k (z.1 ∙ e)))) (λ z. absurd (k z.1.now_last)) (n.each x) }

-- there is for fewer pairs
pub room_of : {S T : ℕ → Type 0} {number : ℕ} {counts last : List ℕ} → ((x : ℕ) → T x → S x) → Room S number counts last → Room T number counts last
room_of g r = record { in_counts = λ x t. r.in_counts x (g x t); in_last = λ x t. r.in_last x (g x t); few = λ x t. r.few x (g x t) }

pub some_then : {S T : ℕ → Type 0} {number : ℕ} {a b c d e f : List ℕ} → ((x : ℕ) → T x → S x) → SomeNoted S number a b c d → SomeNoted T number c d e f → SomeNoted S number a b e f
some_then {S} {T} {number} {a} {b} {c} {d} {e} {f} g m n = record { all_counts = n.all_counts ∙ m.all_counts; all_last = n.all_last ∙ m.all_last; each = λ x. both x (m.each x) (n.each x) }
  where
    First : ℕ → Type 0
    First x = ((get_or c x 0 ≡ get_or a x 0) × (get_or d x 0 ≡ get_or b x 0)) ⊎ (S x × Once number (get_or b x 0) (get_or a x 0) (get_or d x 0) (get_or c x 0))

    Then : ℕ → Type 0
    Then x = ((get_or e x 0 ≡ get_or c x 0) × (get_or f x 0 ≡ get_or d x 0)) ⊎ (T x × Once number (get_or d x 0) (get_or c x 0) (get_or f x 0) (get_or e x 0))

    both : (x : ℕ) → First x → Then x → ((get_or e x 0 ≡ get_or a x 0) × (get_or f x 0 ≡ get_or b x 0)) ⊎ (S x × Once number (get_or b x 0) (get_or a x 0) (get_or f x 0) (get_or e x 0))
    both x (inl s) (inl t) = inl (t.0 ∙ s.0, t.1 ∙ s.1)
    both x (inl s) (inr t) = inr (g x t.0, record { now_last = t.1.now_last; again = λ k. t.1.again (s.1 ∙ k) ∙ s.0; more = λ k. t.1.more (λ z. k (sym s.1 ∙ z)) ∙ ap suc s.0 })
    both x (inr s) (inl t) = inr (s.0, record { now_last = t.1 ∙ s.1.now_last; again = λ k. t.0 ∙ s.1.again k; more = λ k. t.0 ∙ s.1.more k })
    both x (inr s) (inr t) = inr (s.0, record { now_last = t.1.now_last; again = λ k. t.1.again s.1.now_last ∙ s.1.again k; more = λ k. t.1.again s.1.now_last ∙ s.1.more k })

-- what was noted for the vehicle stays so
pub still_last : {S : ℕ → Type 0} {number : ℕ} {a b c d : List ℕ} (x : ℕ) → SomeNoted S number a b c d → get_or b x 0 ≡ number → get_or d x 0 ≡ number
still_last x n h = ⊎_elim (λ s. s.1 ∙ h) (λ s. s.1.now_last) (n.each x)

-- ONE PAIR (`note`): it was noted for this vehicle last
pub note_again : {x number : ℕ} {counts last : List ℕ} → get_or last x 0 ≡ number → AllNoted (λ y. y ≡ x) number counts last counts last
note_again {x} {number} {counts} {last} h = record { some = some_none; all = λ y e. ap (λ (z : ℕ). get_or last z 0) e ∙ h }

-- it was not
module _ {x number : ℕ} {counts last : List ℕ} (r : Room (λ y. y ≡ x) number counts last) (new : ¬ (get_or last x 0 ≡ number)) where
  at_counts : get_or (set counts x (get_or counts x 0 + 1)) x 0 ≡ get_or counts x 0 + 1
  at_counts = get_or-set_same counts x (get_or counts x 0 + 1) 0 (r.in_counts x refl)

  at_last : get_or (set last x number) x 0 ≡ number
  at_last = get_or-set_same last x number 0 (r.in_last x refl)

  pub note_fits : get_or counts x 0 ≤ most_trees
  note_fits = r.few x refl new

  pub note_new : AllNoted (λ y. y ≡ x) number counts last (set counts x (get_or counts x 0 + 1)) (set last x number)
  note_new = record {
    some = record {
      all_counts = length-set counts x (get_or counts x 0 + 1);
      all_last = length-set last x number;
      each = λ y. each y (ℕ_discrete y x);
    };
    all = λ y e. rw e at_last;
  }
    where
      other_counts : (y : ℕ) → ¬ (y ≡ x) → get_or (set counts x (get_or counts x 0 + 1)) y 0 ≡ get_or counts y 0
      other_counts y n = get_or-set_other counts x y (get_or counts x 0 + 1) 0 n

      other_last : (y : ℕ) → ¬ (y ≡ x) → get_or (set last x number) y 0 ≡ get_or last y 0
      other_last y n = get_or-set_other last x y number 0 n

      once : Once number (get_or last x 0) (get_or counts x 0) (get_or (set last x number) x 0) (get_or (set counts x (get_or counts x 0 + 1)) x 0)
      once = record { now_last = at_last; again = λ k. absurd (new k); more = λ _. omega (arith, at_counts) }

      each : (y : ℕ) → Dec (y ≡ x)
          → ((get_or (set counts x (get_or counts x 0 + 1)) y 0 ≡ get_or counts y 0) × (get_or (set last x number) y 0 ≡ get_or last y 0))
          ⊎ ((y ≡ x) × Once number (get_or last y 0) (get_or counts y 0) (get_or (set last x number) y 0) (get_or (set counts x (get_or counts x 0 + 1)) y 0))
      each y (yes e) = inr (e, rw e once)
      each y (no n) = inl (other_counts y n, other_last y n)

-- THE CHILDREN OF A NODE (`note_children`): those before c are done
pub record ChildrenTo (Q : ℕ → Type 0) (fleet sizes : List ℕ) (d above number : ℕ) (counts₀ last₀ counts last : List ℕ) (end c : ℕ) : Type 0 where
  pub input : ChildrenToNote Q fleet sizes d above number counts₀ last₀
  pub walked : Walked fleet d end c
  pub some : SomeNoted (ChildPair Q fleet d above) number counts₀ last₀ counts last
  pub all : (x : ℕ) (z : ChildPair Q fleet d above x) → z.kid < c → get_or last x 0 ≡ number

pub children_start : {Q : ℕ → Type 0} {fleet sizes : List ℕ} {d above number : ℕ} {counts last : List ℕ} → ChildrenToNote Q fleet sizes d above number counts last
    → ChildrenTo Q fleet sizes d above number counts last counts last (d + 1 + get_or sizes d 0) (d + 1)
children_start {d = d} i = record { input = i; walked = walk_start i.is_fleet (i.has_sizes.each d i.inside); some = some_none; all = λ x z k. absurd (omega (arith, z.is_kid.before)) }

module _ {Q : ℕ → Type 0} {fleet sizes : List ℕ} {d above number : ℕ} {counts₀ last₀ counts last : List ℕ} {end c : ℕ} (w : ChildrenTo Q fleet sizes d above number counts₀ last₀ counts last end c) where
  pub children_end : end ≤ c → AllNoted (ChildPair Q fleet d above) number counts₀ last₀ counts last
  children_end h = record { some = w.some; all = λ x z. w.all x z (omega (arith, walk_all w.walked.ends z.is_kid)) }

  module _ (h : c < end) where
    child : IsParent fleet d c
    child = w.walked.at_child h

    pub child_inside : c < length fleet
    child_inside = child.inside

    pub child_pair : above ≤ get_or fleet c 0
    child_pair = omega (arith, child.one_deeper, w.input.no_deeper)

    module _ (l : Q (get_or fleet c 0 - above)) where
      here : (x : ℕ) → x ≡ get_or fleet c 0 - above → ChildPair Q fleet d above x
      here x e = rw e (record { kid = c; is_kid = child; pair = omega (arith, child_pair); passes = l })

      pub child_note : Room (λ x. x ≡ get_or fleet c 0 - above) number counts last
      child_note = room_of here (room_after w.input.room w.some)

    pub child_size : get_or sizes c 0 ≤ 255
    child_size = w.input.has_sizes.small c child_inside

    ends : SubtreeEnd fleet c (c + 1 + get_or sizes c 0)
    ends = w.input.has_sizes.each c child_inside

    -- of a child before the next it is this one, or an earlier one
    which : {x : ℕ} (z : ChildPair Q fleet d above x) → z.kid < c + 1 + get_or sizes c 0 → (z.kid < c) ⊎ (x ≡ get_or fleet c 0 - above)
    which {x} z k = go (dec_lt z.kid c) (dec_lt c z.kid)
      where
        go : Dec (z.kid < c) → Dec (c < z.kid) → (z.kid < c) ⊎ (x ≡ get_or fleet c 0 - above)
        go (yes q) _ = inl q
        go (no q) (yes q') = absurd (walk_between w.walked h ends z.kid q' k z.is_kid)
        go (no q) (no q') = let same : z.kid ≡ c = omega arith in inr (omega (arith, ap (λ (m : ℕ). get_or fleet m 0) same, z.pair))

    -- its pair was noted
    pub children_more : {counts' last' : List ℕ} → Q (get_or fleet c 0 - above) → AllNoted (λ y. y ≡ get_or fleet c 0 - above) number counts last counts' last'
        → ChildrenTo Q fleet sizes d above number counts₀ last₀ counts' last' end (c + 1 + get_or sizes c 0)
    children_more {counts'} {last'} l n = record {
      input = w.input;
      walked = walk_next w.walked h ends;
      some = some_then (here l) w.some n.some;
      all = λ x z k. ⊎_elim (λ q. still_last x n.some (w.all x z q)) (λ q. n.all x q) (which z k);
    }

    -- its pair had been noted
    pub children_again : get_or last (get_or fleet c 0 - above) 0 ≡ number → ChildrenTo Q fleet sizes d above number counts₀ last₀ counts last end (c + 1 + get_or sizes c 0)
    children_again l = record { input = w.input; walked = walk_next w.walked h ends; some = w.some; all = λ x z k. ⊎_elim (λ q. w.all x z q) (λ q. ap (λ (y : ℕ). get_or last y 0) q ∙ l) (which z k) }

    -- its pair does not pass
    pub children_not : ¬ Q (get_or fleet c 0 - above) → ChildrenTo Q fleet sizes d above number counts₀ last₀ counts last end (c + 1 + get_or sizes c 0)
    children_not l = record { input = w.input; walked = walk_next w.walked h ends; some = w.some; all = λ x z k. ⊎_elim (λ q. w.all x z q) (λ q. absurd (l (rw q at z.passes))) (which z k) }

-- THE LIMIT of a level (`limit_at`)
pub node_small : {fleet : List ℕ} {d : ℕ} → IsFleet fleet → d < length fleet → get_or fleet d 0 < pair_limit
node_small {d = d} f h = omega (arith, (fleet_pair f d h).depth_to_15)

pub limit_input : {fleet sizes : List ℕ} {d pair : ℕ} → IsFleet fleet → Sizes fleet sizes → d < length fleet → pair / 1000 ≡ suc (depthAt fleet d) → ChildInput fleet sizes d pair
limit_input f s h e = record { is_fleet = f; has_sizes = s; inside = h; one_deeper = e }

-- the heaviest pair passes, if it is a child's
limit_up : {fleet : List ℕ} {d heaviest equal : ℕ} → (0 < children fleet d (heaviest % 1000) → equal < children fleet d (heaviest % 1000)) → LimitAt fleet d heaviest equal (heaviest + 1)
limit_up {fleet} {d} {heaviest} {equal} f = λ x c k. ((λ h. to x c k h (ℕ_discrete x heaviest)), ⊎_elim (λ (z : x < heaviest). omega arith) (λ z. let e : x ≡ heaviest = z.0 in omega arith))
  where
    to : (x c : ℕ) → IsChild fleet d (x % 1000) c → x < heaviest + 1 → Dec (x ≡ heaviest) → Passes fleet d heaviest equal x
    to x c k h (yes e) = inr (e, rw e (f (rw e at (child_counts k))))
    to x c k h (no n) = inl (omega arith)

pub limit_free : {fleet : List ℕ} {d heaviest equal : ℕ} → equal ≤ 0 → LimitAt fleet d heaviest equal (heaviest + 1)
limit_free e = limit_up (λ h. omega arith)

module _ (fleet : List ℕ) (d heaviest : ℕ) {pair : ℕ} (at : pair ≡ (get_or fleet d 0 / 1000 + 1) * 1000 + heaviest % 1000) where
  same_children : children fleet d (pair % 1000) ≡ children fleet d (heaviest % 1000)
  same_children = let label : pair % 1000 ≡ heaviest % 1000 = omega arith in ap (children fleet d) label

  pub limit_more : {equal : ℕ} → equal < children fleet d (pair % 1000) → LimitAt fleet d heaviest equal (heaviest + 1)
  limit_more h = limit_up (λ _. omega (arith, same_children))

  -- it does not
  pub limit_less : {equal : ℕ} → ¬ (equal < children fleet d (pair % 1000)) → LimitAt fleet d heaviest equal heaviest
  limit_less {equal} h = λ x c k. (inl, ⊎_elim (λ (z : x < heaviest). z) (λ z. none x z.0 z.1))
    where
      none : (x : ℕ) → x ≡ heaviest → equal < children fleet d (x % 1000) → x < heaviest
      none x q z = absurd (h (omega (arith, same_children, ap (λ (y : ℕ). children fleet d (y % 1000)) q)))

-- ONE PLACE (`note_place`): the levels below this one are done
pub record PlaceTo (P : (level d x : ℕ) → Type 0) (fleet parents sizes : List ℕ) (place depth number : ℕ) (seen₀ counts₀ last₀ seen counts last : List ℕ) (d level : ℕ) : Type 0 where
  pub input : PlaceToNote P fleet parents sizes place depth number seen₀ counts₀ last₀
  pub some : SomeNoted (PlacePair P fleet depth place) number counts₀ last₀ counts last
  pub all : (x : ℕ) (z : PlacePair P fleet depth place x) → level < z.level → get_or last x 0 ≡ number
  pub to_depth : level ≤ depth
  pub up : Up fleet d (depth - level) place
  pub now_seen : (k : ℕ) → k ≤ depth → (get_or seen k 0 ≡ get_or seen₀ k 0) ⊎ Up fleet (get_or seen k 0) (depth - k) place
  pub not_yet : (k : ℕ) → k ≤ level → get_or seen k 0 ≡ get_or seen₀ k 0
  pub all_seen : length seen ≡ 16

pub place_few : {P : (level d x : ℕ) → Type 0} {fleet parents sizes : List ℕ} {place depth number : ℕ} {seen counts last : List ℕ} → PlaceToNote P fleet parents sizes place depth number seen counts last → place < most_nodes
place_few i = omega (arith, i.inside, i.is_fleet.nodes)

pub place_depth : {P : (level d x : ℕ) → Type 0} {fleet parents sizes : List ℕ} {place depth number : ℕ} {seen counts last : List ℕ} → PlaceToNote P fleet parents sizes place depth number seen counts last → depth ≤ 15
place_depth {place = place} i = omega (arith, i.no_deeper, (fleet_pair i.is_fleet place i.inside).depth_to_15)

pub place_start : {P : (level d x : ℕ) → Type 0} {fleet parents sizes : List ℕ} {place depth number : ℕ} {seen counts last : List ℕ} → PlaceToNote P fleet parents sizes place depth number seen counts last
    → PlaceTo P fleet parents sizes place depth number seen counts last seen counts last place depth
place_start {depth = depth} i = record {
  input = i;
  some = some_none;
  all = λ x z k. absurd (omega (arith, z.no_deeper));
  to_depth = omega arith;
  up = let zero_up : depth - depth ≡ 0 = omega arith in rw zero_up (itself refl);
  now_seen = λ k _. inl refl;
  not_yet = λ k _. refl;
  all_seen = i.all_seen;
}

-- a leaf whose parent was seen: below it nothing is to be noted
pub leaf_parent : {P : (level d x : ℕ) → Type 0} {fleet parents sizes : List ℕ} {place depth number : ℕ} {seen counts last : List ℕ} → PlaceToNote P fleet parents sizes place depth number seen counts last → 0 < depth → IsParent fleet (get_or parents place 0) place
leaf_parent {place = place} i h = i.has_parents.each place i.inside (omega (arith, i.no_deeper))

pub place_passed : {P : (level d x : ℕ) → Type 0} {fleet parents sizes : List ℕ} {place depth number : ℕ} {seen counts last : List ℕ} → PlaceToNote P fleet parents sizes place depth number seen counts last
    → 0 < depth → get_or sizes place 0 ≡ 0 → get_or seen (depth - 1) 0 ≡ get_or parents place 0 → PlaceNoted P fleet place depth number seen counts last seen counts last
place_passed {P} {fleet} {parents} {place = place} {depth = depth} {seen = seen} i h leaf there = record {
  some = some_none;
  all = λ x z. inr (depth - 1, inner z (dec_lt (depth - 1) z.level), omega arith, parent_seen);
  now_seen = λ k _. inl refl;
  all_seen = i.all_seen;
}
  where
    parent_seen : Up fleet (get_or seen (depth - 1) 0) (depth - (depth - 1)) place
    parent_seen = let one_up : depth - (depth - 1) ≡ 1 = omega arith in rw (one_up, there) (above (leaf_parent i h) (itself refl))

    inner : {x : ℕ} (z : PlacePair P fleet depth place x) → Dec (depth - 1 < z.level) → z.level ≤ depth - 1
    inner z (no k) = omega arith
    inner z (yes k) =
        let zero_up : depth - z.level ≡ 0 = omega (arith, z.no_deeper) in
        let up' : Up fleet z.d 0 place = rw zero_up at z.up in
        let is_place : z.d ≡ place = up_unique up' (itself refl) in
        let kid_here : IsParent fleet place z.kid = rw is_place at z.is_kid in
        absurd (omega (arith, kid_here.before, walk_all (i.has_sizes.each place i.inside) kid_here))

module _ {P : (level d x : ℕ) → Type 0} {fleet parents sizes : List ℕ} {place depth number : ℕ} {seen₀ counts₀ last₀ seen counts last : List ℕ} {d level : ℕ}
    (w : PlaceTo P fleet parents sizes place depth number seen₀ counts₀ last₀ seen counts last d level) where
  abbrev Pairs : ℕ → Type 0
  Pairs = PlacePair P fleet depth place

  pub level_small : level < 16
  level_small = omega (arith, w.to_depth, place_depth w.input)

  pub place_inside : d < length fleet
  place_inside = up_inside w.up w.input.inside

  deep : depthAt fleet place ≡ depthAt fleet d + (depth - level)
  deep = up_depth w.up

  pub parent_above : ¬ (level ≡ 0) → IsParent fleet (get_or parents d 0) d
  parent_above h = w.input.has_parents.each d place_inside (omega (arith, deep, w.to_depth, w.input.no_deeper))

  pairs : (x : ℕ) → ChildPair (P level d) fleet d ((get_or fleet place 0 / 1000 - depth) * 1000) x → Pairs x
  pairs x z = record { level = level; no_deeper = w.to_depth; d = d; up = w.up; kid = z.kid; is_kid = z.is_kid; pair = z.pair; passes = z.passes }

  pub children_input : ChildrenToNote (P level d) fleet sizes d ((get_or fleet place 0 / 1000 - depth) * 1000) number counts last
  children_input = record {
    is_fleet = w.input.is_fleet;
    has_sizes = w.input.has_sizes;
    inside = place_inside;
    no_deeper = omega (arith, deep, w.to_depth, w.input.no_deeper);
    room = room_of pairs (room_after w.input.room w.some);
  }

  -- its ancestor was seen before
  pub place_seen : get_or seen level 0 ≡ d → PlaceNoted P fleet place depth number seen₀ counts₀ last₀ seen counts last
  place_seen h = record { some = w.some; all = λ x z. all x z (dec_lt level z.level); now_seen = w.now_seen; all_seen = w.all_seen }
    where
      there : get_or seen₀ level 0 ≡ d
      there = sym (w.not_yet level (omega arith)) ∙ h

      all : (x : ℕ) (z : Pairs x) → Dec (level < z.level) → (get_or last x 0 ≡ number) ⊎ ((k : ℕ) × (z.level ≤ k) × (k ≤ depth) × Up fleet (get_or seen₀ k 0) (depth - k) place)
      all x z (yes k) = inl (w.all x z k)
      all x z (no k) = inr (level, omega arith, w.to_depth, rw there w.up)

  module _ {counts' last' : List ℕ} (n : AllNoted (ChildPair (P level d) fleet d ((get_or fleet place 0 / 1000 - depth) * 1000)) number counts last counts' last') where
    some_now : SomeNoted Pairs number counts₀ last₀ counts' last'
    some_now = some_then pairs w.some n.some

    all_now : (x : ℕ) (z : Pairs x) → level ≤ z.level → get_or last' x 0 ≡ number
    all_now x z h = go (ℕ_discrete z.level level)
      where
        here : z.level ≡ level → ChildPair (P level d) fleet d ((get_or fleet place 0 / 1000 - depth) * 1000) x
        here e =
            let up' : Up fleet z.d (depth - level) place = rw e at z.up in
            let is_d : z.d ≡ d = up_unique up' w.up in
            let kid_of_d : IsParent fleet d z.kid = rw is_d at z.is_kid in
            let passes_here : P level d x = rw (e, is_d) at z.passes in
            record { kid = z.kid; is_kid = kid_of_d; pair = z.pair; passes = passes_here }

        go : Dec (z.level ≡ level) → get_or last' x 0 ≡ number
        go (yes e) = n.all x (here e)
        go (no e) = still_last x n.some (w.all x z (omega arith))

    now : (k : ℕ) → k ≤ depth → Dec (k ≡ level) → (get_or (set seen level d) k 0 ≡ get_or seen₀ k 0) ⊎ Up fleet (get_or (set seen level d) k 0) (depth - k) place
    now k h (yes e) = let at : get_or (set seen level d) level 0 ≡ d = get_or-set_same seen level d 0 (omega (arith, w.all_seen, level_small)) in inr (rw (e, at) w.up)
    now k h (no e) = rw (get_or-set_other seen level k d 0 e) (w.now_seen k h)

    -- this level is the root's
    pub place_root : level ≡ 0 → PlaceNoted P fleet place depth number seen₀ counts₀ last₀ (set seen level d) counts' last'
    place_root z = record { some = some_now; all = λ x q. inl (all_now x q (omega arith)); now_seen = λ k h. now k h (ℕ_discrete k level); all_seen = length-set seen level d ∙ w.all_seen }

    -- or there is one above it
    pub place_again : ¬ (level ≡ 0) → PlaceTo P fleet parents sizes place depth number seen₀ counts₀ last₀ (set seen level d) counts' last' (get_or parents d 0) (level - 1)
    place_again h = record {
      input = w.input;
      some = some_now;
      all = λ x z k. all_now x z (omega arith);
      to_depth = omega (arith, w.to_depth);
      up = let steps : depth - (level - 1) ≡ suc (depth - level) = omega (arith, w.to_depth) in rw steps (up_more w.up (parent_above h));
      now_seen = λ k q. now k q (ℕ_discrete k level);
      not_yet = λ k q. get_or-set_other seen level k d 0 (λ e. omega arith) ∙ w.not_yet k (omega arith);
      all_seen = length-set seen level d ∙ w.all_seen;
    }

-- WHAT PASSES at a level is below its limit
limit_exactly : {fleet heaviest equal : List ℕ} {d above level limit : ℕ} → LimitAt fleet d (get_or heaviest level 0) (get_or equal level 0) limit → (k : ℕ) → above ≡ k * 1000 → (x : ℕ)
    → ChildPair (λ y. y < limit) fleet d above x ↔ ChildPair (PassesAt fleet heaviest equal level d) fleet d above x
limit_exactly l k a x = (
  λ z. record { kid = z.kid; is_kid = z.is_kid; pair = z.pair; passes = record { by_limit = (l x z.kid (z.is_kid, omega (arith, z.pair))).0 z.passes } },
  λ z. record { kid = z.kid; is_kid = z.is_kid; pair = z.pair; passes = (l x z.kid (z.is_kid, omega (arith, z.pair))).1 z.passes.by_limit },
)

room_same : {S T : ℕ → Type 0} {number : ℕ} {counts last : List ℕ} → ((x : ℕ) → S x ↔ T x) → Room T number counts last → Room S number counts last
room_same f r = room_of (λ x. (f x).0) r

pub all_noted_same : {S T : ℕ → Type 0} {number : ℕ} {a b c d : List ℕ} → ((x : ℕ) → S x ↔ T x) → AllNoted S number a b c d → AllNoted T number a b c d
all_noted_same f n = record {
  some = record { all_counts = n.some.all_counts; all_last = n.some.all_last; each = λ x. ⊎_elim inl (λ z. inr ((f x).0 z.0, z.1)) (n.some.each x) };
  all = λ x t. n.all x ((f x).1 t);
}

module _ {fleet parents sizes heaviest equal : List ℕ} {place depth number : ℕ} {seen₀ counts₀ last₀ seen counts last : List ℕ} {d level limit : ℕ}
    (w : PlaceTo (PassesAt fleet heaviest equal) fleet parents sizes place depth number seen₀ counts₀ last₀ seen counts last d level)
    (l : LimitAt fleet d (get_or heaviest level 0) (get_or equal level 0) limit) where
  pub limit_children : ChildrenToNote (λ x. x < limit) fleet sizes d ((get_or fleet place 0 / 1000 - depth) * 1000) number counts last
  limit_children = let i = children_input w in record { is_fleet = i.is_fleet; has_sizes = i.has_sizes; inside = i.inside; no_deeper = i.no_deeper; room = room_same (limit_exactly l _ refl) i.room }

  pub limit_noted : {counts' last' : List ℕ} → AllNoted (ChildPair (λ x. x < limit) fleet d ((get_or fleet place 0 / 1000 - depth) * 1000)) number counts last counts' last'
      → AllNoted (ChildPair (PassesAt fleet heaviest equal level d) fleet d ((get_or fleet place 0 / 1000 - depth) * 1000)) number counts last counts' last'
  limit_noted n = all_noted_same (limit_exactly l _ refl) n

pub limit_at_input : {fleet parents sizes heaviest equal : List ℕ} {place depth number : ℕ} {seen₀ counts₀ last₀ seen counts last : List ℕ} {d level : ℕ}
    → LimitsToNote fleet parents sizes heaviest equal place depth number seen₀ counts₀ last₀ → PlaceTo (PassesAt fleet heaviest equal) fleet parents sizes place depth number seen₀ counts₀ last₀ seen counts last d level
    → IsFleet fleet × Sizes fleet sizes × (d < length fleet) × (get_or heaviest level 0 < pair_limit)
limit_at_input {level = level} i w = (w.input.is_fleet, w.input.has_sizes, place_inside w, i.small level w.to_depth)
