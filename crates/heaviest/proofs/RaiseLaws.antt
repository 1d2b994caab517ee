-- One law for each way out of `put` and `raise`, and for each way round the loop of `raise`.
use mathlib.Core.Path.{◌≡◌, refl, sym, ap, ◌∙◌}
use mathlib.Core.Bool.{Bool, true, false}
use mathlib.Core.List.{List}
use Prim.Native.Nat.{ℕ, ◌-◌, ◌≤◌, ◌<◌}
use native.Mathlib.Omega.{arith}
use native.Mathlib.Decide.{dec_lt, ℕ_discrete}
use lib.ListN.{length, get_or, set, replicate, length-set}
use lib.Seq.{get_or-set_same, get_or-set_other, set-set, set-get_or}
use Rattle.terms.specs.Tree.{IsParent, depthAt, SubtreeEnd}
use Rattle.terms.specs.Fits.{Fits, Edge, Free, CanPlace}
use Rattle.terms.specs.Assignment.{PartialMatching, found, none}
use Rattle.terms.proofs.FitsLaws.{fits_sat}
use Rattle.terms.proofs.AugmentingLaws.{both_ways, assign, release, no_covering_around}
use Rattle.matching.specs.FitsSteps.{pair_wanted, FitsInput, AllMatched, AugmentInput, AugmentOutcome, HolderIs, nobody, one_visited, one}
use Rattle.heaviest.specs.RaiseSteps.{RaiseInput, Agrees, Raised, PutInput, PutOutcome, put, cannot}
use Rattle.matching.proofs.FitsLaws.{edge_child, edge_in, edge_of, edge_not, child_in, no_root}

-- where all children have places, x can be placed at its own
can_stay : (p : List ℕ) (i x : ℕ) (q : List ℕ) (d : ℕ) (places : List ℕ) (φ : ℕ → ℕ) → IsParent p i x → AllMatched p i q d places → Agrees p i x d places φ → CanPlace p q φ i x (get_or places x 0)
unfolding Edge
can_stay p i x q d places φ cx s k = record {
  free = free x cx (omega arith);
  rest = record {
    to = λ y. get_or places y 0;
    inside = λ y l. (edge_in p q d y (get_or places y 0) (allowed y l.0)).0;
    edge = λ y l. (free y l.0 (omega (arith, l.1)), λ e. let z : y ≡ x = s.matching.apart y x (s.full y l.0) e in omega (arith, l.1));
    inj = λ y z l m e. s.matching.apart y z (s.full y l.0) e;
  };
}
  where
    allowed : (y : ℕ) → IsParent p i y → Edge p q d y (get_or places y 0)
    allowed y l = (s.matching.allowed y (s.full y l)).1

    free : (y : ℕ) → IsParent p i y → x ≤ y → Free p q φ i x y (get_or places y 0)
    free y l h = record {
      child = rw k.root (allowed y l).0;
      fits = (allowed y l).1;
      unused = λ z m b e. let w : z ≡ y = s.matching.apart z y (s.full z m) (sym (k.before z m b) ∙ e) in omega arith;
    }

x_in : {p : List ℕ} {i x : ℕ} {q : List ℕ} {d : ℕ} {places : List ℕ} {fixed : List Bool} → RaiseInput p i x q d places fixed → x < length places
x_in a = omega (arith, a.child.inside, a.nodes.trees.pattern_nodes, a.all_matched.length_places)

-- `put`
module _ {p : List ℕ} {i x : ℕ} {q : List ℕ} {d e : ℕ} {places : List ℕ} {fixed : List Bool} (a : PutInput p i x q d e places fixed) where
  at_x : get_or places x 0 ≡ 0
  at_x = ap (λ (l : List ℕ). get_or l x 0) a.without ∙ get_or-set_same a.call x 0 0 (x_in a.input)

  at_other : (y : ℕ) → ¬ (y ≡ x) → get_or places y 0 ≡ get_or a.call y 0
  at_other y ne = ap (λ (l : List ℕ). get_or l y 0) a.without ∙ get_or-set_other a.call x y 0 0 ne

  long : length places ≡ 16
  long = ap length a.without ∙ length-set a.call x 0 ∙ a.input.all_matched.length_places

  up : PartialMatching (Edge p q d) (IsParent p i) places
  up = rw a.without (release (Edge p q d) (IsParent p i) x a.call (x_in a.input) a.input.all_matched.matching)

  e_pos : ¬ (e ≡ 0)
  e_pos z = omega (arith, a.place.before)

  -- who holds e has a place
  held_by : {n : ℕ} → n ≡ e → ¬ (n ≡ 0)
  held_by s z = e_pos (sym s ∙ z)

  pub holder_input : (0 < e) × (length places ≡ 16) × (get_or places 0 0 ≡ 0)
  holder_input = (omega (arith, a.place.before), long, no_root up)

  pub fits_input : FitsInput p x q e (replicate 16 0)
  fits_input = record {
    nodes = record { trees = a.input.nodes.trees; node = a.input.child.inside; image = a.place.inside; same_label = a.same_label };
    none_placed = refl;
  }

  pub augment_input : {o : ℕ} → HolderIs places fixed e o → o < 17 → ¬ (o ≡ 16) → AugmentInput p i o q d places fixed
  augment_input (nobody k _) b n = absurd (n k)
  augment_input (one_visited k _) b n = absurd (omega arith)
  augment_input {o} (one k s u) b n = record {
    nodes = a.input.nodes;
    child = (up.allowed o (held_by s)).0;
    matching = up;
    length_places = long;
    length_marks = a.input.length_marks;
    new = u;
  }

  -- e cannot be had
  edge_there : (φ : ℕ → ℕ) → Agrees p i x d places φ → CanPlace p q φ i x e → Edge p q d x e
  unfolding Edge
  edge_there φ l c = (rw l.root at c.free.child, c.free.fits)

  -- one that is fixed comes before x
  fixed_before : (j : ℕ) → get_or fixed j false ≡ true → ¬ (get_or places j 0 ≡ 0) → IsParent p i j × (j < x)
  fixed_before j k nz =
      let ne : ¬ (j ≡ x) = λ z. nz (rw z at_x) in
      ((up.allowed j nz).0, omega (arith, a.input.only j k))

  pub put_held : {o : ℕ} → HolderIs places fixed e o → 17 ≤ o → PutOutcome p i x q d e places places false
  put_held (nobody k _) b = absurd (omega arith)
  put_held (one k _ _) b = absurd (omega arith)
  put_held (one_visited k g) b =
      let z = fixed_before g.holder g.was_visited (held_by g.matched) in
      cannot refl (λ φ l c. c.free.unused g.holder z.0 z.1 (l.before g.holder z.0 z.1 ∙ g.matched))

  pub put_unfit : ¬ Fits p q x e → PutOutcome p i x q d e places places false
  put_unfit n = cannot refl (λ φ l c. edge_not p q d x e n (edge_there φ l c))

  pub put_stuck : {o : ℕ} {places' : List ℕ} {visited' : List Bool} → HolderIs places fixed e o → o < 17 → ¬ (o ≡ 16) → AugmentOutcome p i o q d places fixed places' visited' false → PutOutcome p i x q d e places places' false
  put_stuck (nobody k _) b n g = absurd (n k)
  put_stuck (one_visited k _) b n g = absurd (omega arith)
  put_stuck {o} {places'} {visited'} (one k s u) b n (none same _ _ t) = cannot same stuck
    where
      stuck : (φ : ℕ → ℕ) → Agrees p i x d places φ → ¬ CanPlace p q φ i x e
      stuck φ l c = no_covering_around (Edge p q d) (IsParent p i) (length q) o 15 fixed visited' places (λ y r. Free p q φ i x y r × ¬ (r ≡ e)) (λ y. IsParent p i y × (x < y)) long k
          (up.allowed o (held_by s)).0 (λ z. both_ways z u) up bar (λ y ly ny. (ly, later y ly ny)) t c.rest
        where
          later : (y : ℕ) → IsParent p i y → ¬ (get_or fixed y false ≡ true) → x < y
          later y ly ny = go (dec_lt x y)
            where
              go : Dec (x < y) → x < y
              go (yes z) = z
              go (no z) = absurd (ny (a.input.up_to y ly (omega arith)))

          bar : (y r : ℕ) → Free p q φ i x y r × ¬ (r ≡ e)
              → Edge p q d y r × (r < length q) × ¬ (r ≡ 0) × ¬ (get_or places o 0 ≡ r) × ((f : ℕ) → get_or fixed f false ≡ true → ¬ (get_or places f 0 ≡ r))
          bar y r f =
              let g = edge_of p q d y r (rw l.root at f.0.child) f.0.fits in
              let z = edge_in p q d y r g in
              (g, z.0, z.1, (λ w. f.1 (sym w ∙ s)), λ j h w. let b = fixed_before j h (λ v. z.1 (sym w ∙ v)) in f.0.unused j b.0 b.1 (l.before j b.0 b.1 ∙ w))

  -- x gets e, where all others have places
  put_at : {places₁ : List ℕ} → length places₁ ≡ 16 → PartialMatching (Edge p q d) (IsParent p i) places₁ → ((y : ℕ) → ¬ (get_or places₁ y 0 ≡ e)) → ((y : ℕ) → ¬ (get_or places y 0 ≡ 0) → ¬ (get_or places₁ y 0 ≡ 0))
      → ((y : ℕ) → get_or fixed y false ≡ true → get_or places₁ y 0 ≡ get_or places y 0) → Fits p q x e → PutOutcome p i x q d e places (set places₁ x e) true
  put_at {places₁} len g empty stay kept fit =
      put (record { length_places = length-set places₁ x e ∙ len; matching = assign (Edge p q d) (IsParent p i) x e places₁ a.input.child (edge_of p q d x e a.place fit) b g empty; full = λ y l z. full y l z (ℕ_discrete y x) })
      (λ y l h. let ne : ¬ (y ≡ x) = λ z. omega arith in get_or-set_other places₁ x y e 0 ne ∙ kept y (a.input.up_to y l (omega arith))) here
    where
      b : x < length places₁
      b = omega (arith, a.input.child.inside, a.input.nodes.trees.pattern_nodes)

      here : get_or (set places₁ x e) x 0 ≡ e
      here = get_or-set_same places₁ x e 0 b

      full : (y : ℕ) → IsParent p i y → get_or (set places₁ x e) y 0 ≡ 0 → Dec (y ≡ x) → ⊥
      full y l z (yes k) = e_pos (sym here ∙ ap (λ (j : ℕ). get_or (set places₁ x e) j 0) (sym k) ∙ z)
      full y l z (no k) = stay y (λ w. a.input.all_matched.full y l (sym (at_other y k) ∙ w)) (sym (get_or-set_other places₁ x y e 0 k) ∙ z)

  pub put_free : {o : ℕ} → HolderIs places fixed e o → o ≡ 16 → Fits p q x e → PutOutcome p i x q d e places (set places x e) true
  put_free (one_visited k _) z f = absurd (omega arith)
  put_free (one k _ _) z f = absurd (omega arith)
  put_free (nobody k free) z f = put_at long up free (λ y n. n) (λ y k. refl) f

  pub put_via : {o : ℕ} {places' : List ℕ} {visited' : List Bool} → HolderIs places fixed e o → o < 17 → ¬ (o ≡ 16) → Fits p q x e → AugmentOutcome p i o q d places fixed places' visited' true → PutOutcome p i x q d e places (set places' x e) true
  put_via (nobody k _) b n f g = absurd (n k)
  put_via (one_visited k _) b n f g = absurd (omega arith)
  put_via {o} (one k s u) b n f (found g) = put_at (g.long ∙ long) g.good (λ y z. g.vacated y (held_by s) (z ∙ sym s)) g.stays_matched g.keep f

-- the loop of `raise`; at its start x has given up its place
pub record RaiseInv (p : List ℕ) (i x : ℕ) (q : List ℕ) (d : ℕ) (start : List ℕ) (fixed : List Bool) (want old : ℕ) (places : List ℕ) (e : ℕ) : Type 0 where
  pub call : List ℕ
  pub input : RaiseInput p i x q d call fixed
  pub begun : start ≡ set call x 0
  pub is_old : old ≡ get_or call x 0
  pub wanted : want ≡ pair_wanted p x q d
  pub same : places ≡ start
  pub not_below : old ≤ e
  pub inside : e < length q
  pub deep : (m : ℕ) → d < m → m ≤ e → depthAt q d < depthAt q m
  pub largest : (φ : ℕ → ℕ) → Agrees p i x d places φ → (v : ℕ) → e < v → ¬ CanPlace p q φ i x v

pub old_child : {p : List ℕ} {i x : ℕ} {q : List ℕ} {d : ℕ} {places : List ℕ} {fixed : List Bool} → RaiseInput p i x q d places fixed → IsParent q d (get_or places x 0)
old_child {p} {i} {x} {q} {d} {places} a = edge_child p q d x (get_or places x 0) (a.all_matched.matching.allowed x (a.all_matched.full x a.child)).1

pub raise_start : {p : List ℕ} {i x : ℕ} {q : List ℕ} {d : ℕ} {places : List ℕ} {fixed : List Bool} {w r : ℕ} → RaiseInput p i x q d places fixed → w ≡ pair_wanted p x q d → SubtreeEnd q d r
    → RaiseInv p i x q d (set places x 0) fixed w (get_or places x 0) (set places x 0) (r - 1)
raise_start {p} {i} {x} {q} {d} {places} {fixed} {w} {r} a z s =
    let b : get_or places x 0 < r = child_in s (get_or places x 0) (old_child a) in
    record {
      call = places;
      input = a;
      begun = refl;
      is_old = refl;
      wanted = z;
      same = refl;
      not_below = omega arith;
      inside = omega (arith, s.within);
      deep = λ m h k. s.deeper m h (omega (arith, s.after));
      largest = λ φ l v h c. let z : IsParent q d v = rw l.root at c.free.child in omega (arith, child_in s v z);
    }

module _ {p : List ℕ} {i x : ℕ} {q : List ℕ} {d : ℕ} {start : List ℕ} {fixed : List Bool} {want old : ℕ} {places : List ℕ} {e : ℕ} (v : RaiseInv p i x q d start fixed want old places e) where
  pub put_input : old < e → get_or q e 0 ≡ want → PutInput p i x q d e places fixed
  put_input h w = record {
    call = v.call;
    input = v.input;
    without = v.same ∙ v.begun;
    place = record {
      before = omega (arith, (old_child v.input).before, v.is_old);
      inside = v.inside;
      one_deeper = omega (arith, v.wanted, w);
      between = λ m a b. v.deep m a (omega arith);
    };
    same_label = omega (arith, v.wanted, w);
  }

  on : ((φ : ℕ → ℕ) → Agrees p i x d places φ → ¬ CanPlace p q φ i x e) → old < e → RaiseInv p i x q d start fixed want old places (e - 1)
  on f h = record {
    call = v.call;
    input = v.input;
    begun = v.begun;
    is_old = v.is_old;
    wanted = v.wanted;
    same = v.same;
    not_below = omega arith;
    inside = omega (arith, v.inside);
    deep = λ m a b. v.deep m a (omega arith);
    largest = λ φ l w b. go φ l w b (ℕ_discrete w e);
  }
    where
      go : (φ : ℕ → ℕ) → Agrees p i x d places φ → (w : ℕ) → e - 1 < w → Dec (w ≡ e) → ¬ CanPlace p q φ i x w
      go φ l w b (yes z) = rw z (f φ l)
      go φ l w b (no z) = v.largest φ l w (omega arith)

  pub down_other : old < e → ¬ (get_or q e 0 ≡ want) → RaiseInv p i x q d start fixed want old places (e - 1)
  down_other h n = on (λ φ l c. let g : IsParent q d e = rw l.root at c.free.child in n (omega (arith, v.wanted, g.one_deeper, (fits_sat p q x e c.free.fits).0))) h

  pub down : {places' : List ℕ} → old < e → PutOutcome p i x q d e places places' false → RaiseInv p i x q d start fixed want old places' (e - 1)
  down h (cannot same f) = rw same (on f h)

-- its ways out
module _ {p : List ℕ} {i x : ℕ} {q : List ℕ} {d : ℕ} {call : List ℕ} {fixed : List Bool} {want old : ℕ} {places : List ℕ} {e : ℕ} (a : RaiseInput p i x q d call fixed)
    (v : RaiseInv p i x q d (set call x 0) fixed want old places e) where
  away : (y : ℕ) → y < x → get_or places y 0 ≡ get_or call y 0
  away y h = let ne : ¬ (y ≡ x) = λ z. omega arith in ap (λ (l : List ℕ). get_or l y 0) v.same ∙ get_or-set_other call x y 0 0 ne

  raised : (places' : List ℕ) → AllMatched p i q d places' → ((y : ℕ) → IsParent p i y → y < x → get_or places' y 0 ≡ get_or places y 0) → get_or places' x 0 ≡ e → Raised p i x q d call places'
  raised places' s k z = record {
    all_matched = s;
    kept = λ y m b. k y m b ∙ away y b;
    at_largest = record {
      placed = λ φ l. can_stay p i x q d places' φ a.child s l;
      largest = λ φ l w b. v.largest φ (record { root = l.root; before = λ y m b. l.before y m b ∙ k y m b }) w (rw z at b);
    };
  }

  pub raise_put : {places' : List ℕ} → PutOutcome p i x q d e places places' true → Raised p i x q d call places'
  raise_put {places'} (put s k z) = raised places' s k z

  pub raise_end : old ≡ get_or call x 0 → e ≤ old → Raised p i x q d call (set places x old)
  raise_end k h = rw back (raised call a.all_matched (λ y l b. sym (away y b)) (omega (arith, v.not_below)))
    where
      back : set places x old ≡ call
      back = ap (λ (l : List ℕ). set l x old) v.same ∙ set-set call x 0 old ∙ ap (λ (n : ℕ). set call x n) k ∙ set-get_or call x 0
