-- One law for each way out of the functions that write the heaviest placing, and for each way round their loops.
use mathlib.Core.Path.{◌≡◌, refl, sym, ap, ◌∙◌}
use mathlib.Core.Bool.{Bool, true, false}
use mathlib.Core.List.{List, ◌++◌}
use Prim.Native.Nat.{ℕ, zero, suc, ◌+◌, ◌-◌, ◌*◌, ◌/◌, ◌≤◌, ◌<◌}
use native.Mathlib.Omega.{arith}
use native.Mathlib.Numerals.{add-one}
use native.Mathlib.Decide.{dec_lt, ℕ_discrete}
use lib.ListN.{length, get_or, set, take, drop, replicate, length-set, take-append-drop}
use lib.Seq.{get_or-set_same, get_or-set_other, drop-set-lt, length-take-le, get_or-take, ext_get_or}
use Rattle.terms.specs.Tree.{IsParent, IsTree, SubtreeEnd}
use Rattle.terms.specs.Matching.{placeAt}
use Rattle.terms.specs.Placing.{OccursAt}
use Rattle.terms.specs.Fits.{Fits, CanPlace}
use Rattle.terms.proofs.FitsLaws.{fits_sat}
use Rattle.terms.proofs.TreeLaws.{tree_any_depth}
use Rattle.terms.proofs.EmbedsLaws.{has_parent, par_unique}
use Rattle.terms.proofs.MatchingLaws.{numbers, numbers_length, numbers_at}
use Rattle.terms.proofs.GreedyLaws.{can_agree, greedy_heaviest, fits_occurs_at, occurs_at_fits}
use Rattle.terms.proofs.AugmentingLaws.{both_ways, all_same}
use Rattle.matching.specs.FitsSteps.{NodeAndImage, FitsInput, AllMatched, FitsOutcome, fit, unfit}
use Rattle.heaviest.specs.RaiseSteps.{Agrees, LargestPlace, RaiseInput, Raised, AllRaised, RaiseAllInput}
use Rattle.heaviest.specs.Heaviest.{PlaceInput, PlacingWritten, placed, nowhere}
use Rattle.heaviest.specs.PlaceSteps.{IsLastRoot, OnlyFront, WriteInput, Written, PlacedBefore}
use Rattle.matching.proofs.FitsLaws.{child_in, child_by_pair, no_child_by_pair, edge_in}

-- the place of x stays the largest where those up to x stay
largest_kept : {p : List ℕ} {i x : ℕ} {q : List ℕ} {d : ℕ} {places places' : List ℕ} → IsParent p i x → ((y : ℕ) → IsParent p i y → y ≤ x → get_or places' y 0 ≡ get_or places y 0)
    → LargestPlace p i x q d places → LargestPlace p i x q d places'
largest_kept {p} {i} {x} {q} {d} {places} {places'} c kept l = record {
  placed = λ φ a. rw (kept x c (omega arith)) (l.placed φ (before φ a));
  largest = λ φ a v h. l.largest φ (before φ a) v (rw (kept x c (omega arith)) at h);
}
  where
    before : (φ : ℕ → ℕ) → Agrees p i x d places' φ → Agrees p i x d places φ
    before φ a = record { root = a.root; before = λ y m b. a.before y m b ∙ kept y m (omega arith) }

-- the loop of `raise_children`: the children before x are at their largest places
pub record RaisedBefore (p : List ℕ) (i : ℕ) (q : List ℕ) (d deeper end : ℕ) (places : List ℕ) (fixed : List Bool) (x : ℕ) : Type 0 where
  pub nodes : NodeAndImage p i q d
  pub is_deeper : deeper ≡ (get_or p i 0 / 1000 + 2) * 1000
  pub ends : SubtreeEnd p i end
  pub after : i < x
  pub within : x ≤ end
  pub all_matched : AllMatched p i q d places
  pub done : (y : ℕ) → IsParent p i y → y < x → LargestPlace p i y q d places
  pub length_marks : length fixed ≡ 16
  pub marked : (y : ℕ) → IsParent p i y → y < x → get_or fixed y false ≡ true
  pub only : (y : ℕ) → get_or fixed y false ≡ true → y < x

pub raised_start : (p : List ℕ) (i : ℕ) (q : List ℕ) (d : ℕ) (places : List ℕ) (e : ℕ) → RaiseAllInput p i q d places → SubtreeEnd p i e → RaisedBefore p i q d ((get_or p i 0 / 1000 + 2) * 1000) e places (replicate 16 false) (i + 1)
raised_start p i q d places e a s = record {
  nodes = a.nodes;
  is_deeper = refl;
  ends = s;
  after = omega arith;
  within = omega (arith, s.after);
  all_matched = a.all_matched;
  done = λ y c h. absurd (omega (arith, c.before));
  length_marks = refl;
  marked = λ y c h. absurd (omega (arith, c.before));
  only = λ y e. absurd (both_ways e (all_same 16 y false));
}

module _ (p : List ℕ) (i : ℕ) (q : List ℕ) (d deeper end : ℕ) (places : List ℕ) (fixed : List Bool) (x : ℕ) (v : RaisedBefore p i q d deeper end places fixed x) where
  pub raised_end : end ≤ x → AllRaised p i q d places
  raised_end h = record { all_matched = v.all_matched; each = λ y c. v.done y c (omega (arith, child_in v.ends y c)) }

  pub x_below : x < end → x < 16
  x_below h = omega (arith, v.nodes.trees.pattern_nodes, v.ends.within)

  is_child : x < end → get_or p x 0 < deeper → IsParent p i x
  is_child h e = child_by_pair v.ends x v.after h (rw v.is_deeper at e)

  pub raise_input : x < end → get_or p x 0 < deeper → RaiseInput p i x q d places (set fixed x true)
  raise_input h e = record {
    nodes = v.nodes;
    child = is_child h e;
    all_matched = v.all_matched;
    length_marks = length-set fixed x true ∙ v.length_marks;
    up_to = λ y c b. up y c b (ℕ_discrete y x);
    only = λ y b. on y b (ℕ_discrete y x);
  }
    where
      up : (y : ℕ) → IsParent p i y → y ≤ x → Dec (y ≡ x) → get_or (set fixed x true) y false ≡ true
      up y c b (yes z) = rw z (get_or-set_same fixed x true false (omega (arith, x_below h, v.length_marks)))
      up y c b (no z) = get_or-set_other fixed x y true false z ∙ v.marked y c (omega arith)

      on : (y : ℕ) → get_or (set fixed x true) y false ≡ true → Dec (y ≡ x) → y ≤ x
      on y b (yes z) = omega arith
      on y b (no z) = omega (arith, v.only y (sym (get_or-set_other fixed x y true false z) ∙ b))

  further : (places' : List ℕ) (fixed' : List Bool) → x < end → AllMatched p i q d places' → length fixed' ≡ 16
      → ((y : ℕ) → IsParent p i y → y < suc x → LargestPlace p i y q d places') → ((y : ℕ) → IsParent p i y → y < suc x → get_or fixed' y false ≡ true)
      → ((y : ℕ) → get_or fixed' y false ≡ true → y < suc x) → RaisedBefore p i q d deeper end places' fixed' (x + 1)
  further places' fixed' h a l f m o = rw (add-one x) (record {
    nodes = v.nodes;
    is_deeper = v.is_deeper;
    ends = v.ends;
    after = omega (arith, v.after);
    within = omega arith;
    all_matched = a;
    done = f;
    length_marks = l;
    marked = m;
    only = o;
  })

  pub raised_next : (places' : List ℕ) → x < end → get_or p x 0 < deeper → Raised p i x q d places places' → RaisedBefore p i q d deeper end places' (set fixed x true) (x + 1)
  raised_next places' h e r =
      let a = raise_input h e in
      further places' (set fixed x true) h r.all_matched a.length_marks (λ y c b. done y c b (ℕ_discrete y x)) (λ y c b. a.up_to y c (omega arith)) (λ y b. let z = a.only y b in omega arith)
    where
      done : (y : ℕ) → IsParent p i y → y < suc x → Dec (y ≡ x) → LargestPlace p i y q d places'
      done y c b (yes z) = rw z r.at_largest
      done y c b (no z) = largest_kept c (λ w m k. r.kept w m (omega arith)) (v.done y c (omega arith))

  pub raised_skip : x < end → deeper ≤ get_or p x 0 → RaisedBefore p i q d deeper end places fixed (x + 1)
  raised_skip h n = further places fixed h v.all_matched v.length_marks (λ y c b. v.done y c (before y c b)) (λ y c b. v.marked y c (before y c b)) (λ y b. let z = v.only y b in omega arith)
    where
      before : (y : ℕ) → IsParent p i y → y < suc x → y < x
      before y c b = go (ℕ_discrete y x)
        where
          go : Dec (y ≡ x) → y < x
          go (yes z) = absurd (no_child_by_pair p i x (rw v.is_deeper at n) (rw z at c))
          go (no z) = omega arith

-- the loop of `write_places`
pub record WrittenBefore (places : List ℕ) (n : ℕ) (output₀ output : List ℕ) (x : ℕ) : Type 0 where
  pub input : WriteInput places n output₀
  pub within : x ≤ n
  pub kept : OnlyFront n output₀ output
  pub placed : (y : ℕ) → y < x → ¬ (get_or places y 0 ≡ 0) → get_or output y 0 ≡ suc (get_or places y 0)
  pub others : (y : ℕ) → get_or places y 0 ≡ 0 → get_or output y 0 ≡ get_or output₀ y 0

kept_same : (n : ℕ) (output : List ℕ) → OnlyFront n output output
kept_same n output = record { same_length = refl; rest = refl }

kept_set : {n : ℕ} {output₀ output : List ℕ} (i v : ℕ) → i < n → OnlyFront n output₀ output → OnlyFront n output₀ (set output i v)
kept_set {n} {output₀} {output} i v h k = record { same_length = length-set output i v ∙ k.same_length; rest = drop-set-lt n output i v h ∙ k.rest }

kept_on : {n : ℕ} {a b c : List ℕ} → OnlyFront n a b → OnlyFront n b c → OnlyFront n a c
kept_on k l = record { same_length = l.same_length ∙ k.same_length; rest = l.rest ∙ k.rest }

module _ (places : List ℕ) (n : ℕ) (output₀ output : List ℕ) (x : ℕ) (v : WrittenBefore places n output₀ output x) where
  pub write_room : x < n → x < length output
  write_room h = omega (arith, v.input.room, v.kept.same_length)

  pub written_here : x < n → 0 < get_or places x 0 → WrittenBefore places n output₀ (set output x (get_or places x 0 + 1)) (x + 1)
  written_here h p = record {
    input = v.input;
    within = omega arith;
    kept = kept_set x (get_or places x 0 + 1) h v.kept;
    placed = λ y b e. go y b e (ℕ_discrete y x);
    others = λ y e. let ne : ¬ (y ≡ x) = λ z. let w : get_or places x 0 ≡ 0 = rw z at e in omega arith in get_or-set_other output x y (get_or places x 0 + 1) 0 ne ∙ v.others y e;
  }
    where
      go : (y : ℕ) → y < x + 1 → ¬ (get_or places y 0 ≡ 0) → Dec (y ≡ x) → get_or (set output x (get_or places x 0 + 1)) y 0 ≡ suc (get_or places y 0)
      go y b e (yes z) = rw z (get_or-set_same output x (get_or places x 0 + 1) 0 (write_room h) ∙ add-one (get_or places x 0))
      go y b e (no z) = get_or-set_other output x y (get_or places x 0 + 1) 0 z ∙ v.placed y (omega arith) e

  pub written_skip : x < n → get_or places x 0 ≤ 0 → WrittenBefore places n output₀ output (x + 1)
  written_skip h p = record { input = v.input; within = omega arith; kept = v.kept; placed = λ y b e. go y b e (ℕ_discrete y x); others = v.others }
    where
      go : (y : ℕ) → y < x + 1 → ¬ (get_or places y 0 ≡ 0) → Dec (y ≡ x) → get_or output y 0 ≡ suc (get_or places y 0)
      go y b e (yes z) = let w : ¬ (get_or places x 0 ≡ 0) = rw z at e in absurd (w (omega arith))
      go y b e (no z) = v.placed y (omega arith) e

  pub written_end : n ≤ x → Written places n output₀ output
  written_end h = record { kept = v.kept; placed = λ y b e. v.placed y (omega arith) e; others = v.others }

-- `last_root`: none at the nodes from n on
pub record NoneFrom (p q : List ℕ) (n : ℕ) : Type 0 where
  pub within : n ≤ length q
  pub none : (v : ℕ) → n ≤ v → v < length q → ¬ OccursAt p q v

pub last_root_here : (p q : List ℕ) (n : ℕ) → NoneFrom p q n → 0 < n → OccursAt p q (n - 1) → IsLastRoot p q (n - 1)
last_root_here p q n a h o = record { inside = omega (arith, a.within); occurs = o; not_after = λ w b. a.none w (omega arith) }

pub none_from_less : (p q : List ℕ) (n : ℕ) → NoneFrom p q n → 0 < n → ¬ OccursAt p q (n - 1) → NoneFrom p q (n - 1)
none_from_less p q n a h s = record { within = omega (arith, a.within); none = λ v b k o. go v b k o (ℕ_discrete v (n - 1)) }
  where
    go : (v : ℕ) → n - 1 ≤ v → v < length q → OccursAt p q v → Dec (v ≡ n - 1) → ⊥
    go v b k o (yes e) = s (rw e at o)
    go v b k o (no e) = a.none v (omega arith) k o

pub last_root_none : (p q : List ℕ) (n : ℕ) → NoneFrom p q n → n ≤ 0 → (v : ℕ) → v < length q → ¬ OccursAt p q v
last_root_none p q n a h v = a.none v (omega arith)

-- `place_children`: the node is placed where it fits
pub record NodePlaced (p q output : List ℕ) (n : ℕ) : Type 0 where
  pub number : 1 ≤ get_or output n 0
  pub inside : placeAt output n < length q
  pub fits : Fits p q n (placeAt output n)

pub node_placed : (p q output : List ℕ) (n : ℕ) → IsTree p → PlacedBefore p q output n → n < length p → NodePlaced p q output n
node_placed p q output zero t b h = record { number = b.root_number; inside = b.root_inside; fits = b.root_fits }
node_placed p q output (suc n) t b h =
    let z = has_parent p (tree_any_depth t) n h in
    let c = b.placed z.0 (suc n) z.1 z.1.before in
    record { number = b.numbers z.0 (suc n) z.1 z.1.before; inside = c.free.child.inside; fits = c.free.fits }

module _ (p q output : List ℕ) (n : ℕ) (a : PlaceInput p q output) (b : PlacedBefore p q output n) (h : n < length p) where
  here : NodePlaced p q output n
  here = node_placed p q output n a.trees.pattern_is_tree b h

  pub image_number : 1 ≤ get_or output n 0
  image_number = here.number

  pub children_fits_input : FitsInput p n q (get_or output n 0 - 1) (replicate 16 0)
  children_fits_input = record { nodes = record { trees = a.trees; node = h; image = here.inside; same_label = (fits_sat p q n (get_or output n 0 - 1) here.fits).0 }; none_placed = refl }

  pub children_raise_input : (places : List ℕ) (r : Bool) → FitsOutcome p n q (get_or output n 0 - 1) places r → RaiseAllInput p n q (get_or output n 0 - 1) places
  children_raise_input places r (fit f m) = record { nodes = children_fits_input.nodes; all_matched = m }
  children_raise_input places r (unfit f) = absurd (f here.fits)

  module _ (places : List ℕ) (r : AllRaised p n q (get_or output n 0 - 1) places) where
    pub children_write_input : WriteInput places (length p) output
    children_write_input = record { length_places = r.all_matched.length_places; few = a.trees.pattern_nodes; room = a.room; small = λ x. small x (ℕ_discrete (get_or places x 0) 0) }
      where
        small : (x : ℕ) → Dec (get_or places x 0 ≡ 0) → get_or places x 0 < 256
        small x (yes e) = omega arith
        small x (no e) = omega (arith, (edge_in p q (get_or output n 0 - 1) x (get_or places x 0) (r.all_matched.matching.allowed x e).1).0, a.trees.tree_nodes)

    module _ (output' : List ℕ) (w : Written places (length p) output output') where
      -- what is no child of n keeps its place
      other_number : (x : ℕ) → ¬ IsParent p n x → get_or output' x 0 ≡ get_or output x 0
      other_number x ne = w.others x (zero_there (ℕ_discrete (get_or places x 0) 0))
        where
          zero_there : Dec (get_or places x 0 ≡ 0) → get_or places x 0 ≡ 0
          zero_there (yes e) = e
          zero_there (no e) = absurd (ne (r.all_matched.matching.allowed x e).0)

      other : (x : ℕ) → ¬ IsParent p n x → placeAt output' x ≡ placeAt output x
      other x ne = ap (λ (k : ℕ). k - 1) (other_number x ne)

      child_number : (x : ℕ) → IsParent p n x → get_or output' x 0 ≡ suc (get_or places x 0)
      child_number x c = w.placed x c.inside (r.all_matched.full x c)

      child_place : (x : ℕ) → IsParent p n x → placeAt output' x ≡ get_or places x 0
      child_place x c = omega (arith, child_number x c)

      not_later : (x : ℕ) → x ≤ n → ¬ IsParent p n x
      not_later x e c = omega (arith, c.before)

      not_of : (m x : ℕ) → IsParent p m x → m < n → ¬ IsParent p n x
      not_of m x c e k = let z : m ≡ n = par_unique c k in omega arith

      agrees : (x : ℕ) → Agrees p n x (get_or output n 0 - 1) places (placeAt output')
      agrees x = record { root = other n (not_later n (omega arith)); before = λ y c e. child_place y c }

      back : (m x v : ℕ) → IsParent p m x → m < n → CanPlace p q (placeAt output) m x v → CanPlace p q (placeAt output') m x v
      back m x v c e = can_agree (sym (other m (not_later m (omega arith)))) (λ y d f. sym (other y (not_of m y d e)))

      forth : (m x v : ℕ) → IsParent p m x → m < n → CanPlace p q (placeAt output') m x v → CanPlace p q (placeAt output) m x v
      forth m x v c e = can_agree (other m (not_later m (omega arith))) (λ y d f. other y (not_of m y d e))

      is_n : (m : ℕ) → m < suc n → ¬ (m < n) → m ≡ n
      is_n m e f = omega arith

      pub children_placed : PlacedBefore p q output' (suc n)
      children_placed = record {
        root_number = rw (other_number 0 (not_later 0 (omega arith))) b.root_number;
        root_inside = rw root b.root_inside;
        root_fits = rw root b.root_fits;
        root_largest = λ v e. b.root_largest v (rw root at e);
        numbers = λ m x c e. num m x c e (dec_lt m n);
        placed = λ m x c e. can m x c e (dec_lt m n);
        largest = λ m x c e. top m x c e (dec_lt m n);
      }
        where
          root : placeAt output' 0 ≡ placeAt output 0
          root = other 0 (not_later 0 (omega arith))

          num : (m x : ℕ) → IsParent p m x → m < suc n → Dec (m < n) → 1 ≤ get_or output' x 0
          num m x c e (yes f) = rw (other_number x (not_of m x c f)) (b.numbers m x c f)
          num m x c e (no f) = omega (arith, child_number x (rw (is_n m e f) at c))

          can : (m x : ℕ) → IsParent p m x → m < suc n → Dec (m < n) → CanPlace p q (placeAt output') m x (placeAt output' x)
          can m x c e (yes f) = rw (other x (not_of m x c f)) (back m x (placeAt output x) c f (b.placed m x c f))
          can m x c e (no f) =
              let z = is_n m e f in
              let d : IsParent p n x = rw z at c in
              rw (z, child_place x d) ((r.each x d).placed (placeAt output') (agrees x))

          top : (m x : ℕ) → IsParent p m x → m < suc n → Dec (m < n) → (v : ℕ) → placeAt output' x < v → ¬ CanPlace p q (placeAt output') m x v
          top m x c e (yes f) v k g = b.largest m x c f v (rw (other x (not_of m x c f)) at k) (forth m x v c f g)
          top m x c e (no f) v k g =
              let z = is_n m e f in
              let d : IsParent p n x = rw z at c in
              let g' : CanPlace p q (placeAt output') n x v = rw z at g in
              (r.each x d).largest (placeAt output') (agrees x) v (rw (child_place x d) at k) g'

-- `write`: the root at the last node where the pattern occurs, then the children of one node after the other
pub record WriteInv (p q output₀ output : List ℕ) (n : ℕ) : Type 0 where
  pub input : PlaceInput p q output
  pub within : n ≤ length p
  pub kept : OnlyFront (length p) output₀ output
  pub before : PlacedBefore p q output n

pub write_nowhere : (p q output : List ℕ) → IsTree p → ((v : ℕ) → v < length q → ¬ OccursAt p q v) → PlacingWritten p q output output false
write_nowhere p q output t n = nowhere (λ o.
    let a = o.placing.from_1 0 t.has_root in
    let b = o.placing.to_last 0 t.has_root in
    n (get_or o.tuple 0 0 - 1) (omega arith) (record { tuple = o.tuple; placing = o.placing; root = omega arith })) refl

pub write_start : (p q output : List ℕ) (root : ℕ) → PlaceInput p q output → IsLastRoot p q root → WriteInv p q (set output 0 (root + 1)) (set output 0 (root + 1)) 0
write_start p q output root a l = record {
  input = record { trees = a.trees; room = omega (arith, a.room, length-set output 0 (root + 1)) };
  within = omega arith;
  kept = kept_same (length p) (set output 0 (root + 1));
  before = record {
    root_number = omega (arith, here);
    root_inside = rw at l.inside;
    root_fits = rw at (occurs_at_fits p q root t l.occurs);
    root_largest = λ w k b f. l.not_after w (rw at at k) b (fits_occurs_at p q w t b f);
    numbers = λ m x c k. absurd (omega arith);
    placed = λ m x c k. absurd (omega arith);
    largest = λ m x c k. absurd (omega arith);
  };
}
  where
    t : IsTree p
    t = a.trees.pattern_is_tree

    here : get_or (set output 0 (root + 1)) 0 0 ≡ root + 1
    here = get_or-set_same output 0 (root + 1) 0 (omega (arith, a.room, t.has_root))

    at : placeAt (set output 0 (root + 1)) 0 ≡ root
    at = omega (arith, here)

pub write_next : (p q output₀ output output' : List ℕ) (n : ℕ) → WriteInv p q output₀ output n → n < length p → PlacedBefore p q output' (suc n) → OnlyFront (length p) output output' → WriteInv p q output₀ output' (n + 1)
write_next p q output₀ output output' n v h b k = record {
  input = record { trees = v.input.trees; room = omega (arith, v.input.room, k.same_length) };
  within = omega arith;
  kept = kept_on v.kept k;
  before = rw (add-one n) b;
}

-- all nodes placed: the heaviest placing stands in front
pub write_done : (p q output₀ output : List ℕ) (root n : ℕ) → WriteInv p q (set output₀ 0 root) output n → length p ≤ n → PlacingWritten p q output₀ output true
write_done p q output₀ output root n v h = placed (take (length p) output) (rw (← same) (greedy_heaviest t (record {
  root = v.before.root_fits;
  root_inside = v.before.root_inside;
  root_largest = v.before.root_largest;
  placed = λ a i c. v.before.placed a i c (omega (arith, c.before, c.inside));
  largest = λ a i c. v.before.largest a i c (omega (arith, c.before, c.inside));
}))) whole
  where
    t : IsTree p
    t = v.input.trees.pattern_is_tree

    len : length (take (length p) output) ≡ length p
    len = length-take-le (length p) output v.input.room

    from_1 : (i : ℕ) → i < length p → 1 ≤ get_or output i 0
    from_1 zero b = v.before.root_number
    from_1 (suc i) b = let z = has_parent p (tree_any_depth t) i b in v.before.numbers z.0 (suc i) z.1 (omega (arith, z.1.before))

    same : numbers (length p) (placeAt output) ≡ take (length p) output
    same = ext_get_or 0 (numbers (length p) (placeAt output)) (take (length p) output) (numbers_length (length p) (placeAt output) ∙ sym len) each
      where
        each : (i : ℕ) → i < length (numbers (length p) (placeAt output)) → get_or (numbers (length p) (placeAt output)) i 0 ≡ get_or (take (length p) output) i 0
        each i b =
            let c : i < length p = omega (arith, numbers_length (length p) (placeAt output)) in
            omega (arith, numbers_at (length p) (placeAt output) i c, get_or-take (length p) output i 0 c, from_1 i c)

    rest : drop (length p) output ≡ drop (length p) output₀
    rest = v.kept.rest ∙ drop-set-lt (length p) output₀ 0 root t.has_root

    whole : output ≡ take (length p) output ++ drop (length (take (length p) output)) output₀
    whole = sym (take-append-drop (length p) output) ∙ ap (λ (l : List ℕ). take (length p) output ++ l) (rest ∙ ap (λ (n : ℕ). drop n output₀) (sym len))
