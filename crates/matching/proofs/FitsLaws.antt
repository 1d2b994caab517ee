-- One law for each way out of the functions, and for each way round their loops.
use mathlib.Core.Path.{◌≡◌, refl, sym, ◌∙◌}
use mathlib.Core.Logic.{◌⊎◌, inl, inr}
use mathlib.Core.Bool.{Bool, true, false}
use mathlib.Core.List.{List}
use Prim.Native.Nat.{ℕ, suc, ◌+◌, ◌-◌, ◌*◌, ◌/◌, ◌≤◌, ◌<◌}
use native.Mathlib.Omega.{arith}
use native.Mathlib.Decide.{dec_lt, ℕ_discrete}
use lib.ListN.{length, get_or, set, replicate, length-set}
use lib.Seq.{get_or-set_same}
use Rattle.terms.specs.Tells.{Tells}
use Rattle.terms.specs.Tree.{IsParent, label_at, SubtreeEnd}
use Rattle.terms.specs.Fits.{Fits, Edge}
use Rattle.terms.specs.Assignment.{PartialMatching, HeldByVisited, unvisited, Augmented, Exhausted, found, none}
use Rattle.terms.proofs.FitsLaws.{sat_fits, fits_sat}
use Rattle.terms.proofs.AugmentingLaws.{MatchedFrom, both_ways, all_same, unvisited_set, augmented_free, augmented_via, exhausted_none, exhausted_unmark, exhausted_skip, exhausted_through, no_covering, matched_none, matched_skip, matched_next, matched_covering}
use Rattle.matching.specs.FitsSteps.{OccursInput, Measured, LeastSize, unmeasured, as_many, NodeAndImage, pair_wanted, ScanInput, NextChild, FitsInput, FitsOutcome, fit, unfit, AugmentInput, AugmentOutcome, HolderIs, nobody, one_visited, one}
use Rattle.matching.proofs.ScanLaws.{ended}
use Rattle.matching.proofs.SizeLaws.{fits_size}

-- holder
pub found_visited : (places : List ℕ) (visited : List Bool) (e x : ℕ) → get_or places x 0 ≡ e → get_or visited x false ≡ true → HolderIs places visited e 17
found_visited places visited e x h a = one_visited refl (record { holder = x; matched = h; was_visited = a })

pub found_other : (places : List ℕ) (visited : List Bool) (e x : ℕ) → x < 16 → get_or places x 0 ≡ e → get_or visited x false ≡ false → HolderIs places visited e x
found_other places visited e x b h a = one b h a

pub record NotBelow (places : List ℕ) (e x : ℕ) : Type 0 where
  pub away : (y : ℕ) → y < x → ¬ (get_or places y 0 ≡ e)

pub none_yet : (places : List ℕ) (e : ℕ) → 0 < e → get_or places 0 0 ≡ 0 → NotBelow places e 1
none_yet places e h z = record { away = λ y b q. let k : y ≡ 0 = omega arith in let w : get_or places 0 0 ≡ e = rw k at q in omega arith }

pub one_further : (places : List ℕ) (e x : ℕ) → NotBelow places e x → ¬ (get_or places x 0 ≡ e) → NotBelow places e (x + 1)
one_further places e x f h = record { away = λ y b q. go y b q (ℕ_discrete y x) }
  where
    go : (y : ℕ) → y < x + 1 → get_or places y 0 ≡ e → Dec (y ≡ x) → ⊥
    go y b q (yes z) = h (rw z at q)
    go y b q (no z) = f.away y (omega arith) q

-- edges
pub edge_child : (p q : List ℕ) (d x r : ℕ) → Edge p q d x r → IsParent q d r
unfolding Edge
edge_child p q d x r e = e.0

pub edge_in : (p q : List ℕ) (d x r : ℕ) → Edge p q d x r → (r < length q) × ¬ (r ≡ 0)
edge_in p q d x r e = let c = edge_child p q d x r e in (c.inside, λ z. omega (arith, c.before))

pub edge_label : (p q : List ℕ) (d x r : ℕ) → Edge p q d x r → label_at p x ≡ label_at q r
unfolding Edge
edge_label p q d x r e = (fits_sat p q x r e.1).0

-- the pair that a child of d has, if it has x's label
pub edge_pair : (p q : List ℕ) (d x r : ℕ) → Edge p q d x r → get_or q r 0 ≡ pair_wanted p x q d
edge_pair p q d x r e = omega (arith, (edge_child p q d x r e).one_deeper, edge_label p q d x r e)

edge_fits : (p q : List ℕ) (d x r : ℕ) → Edge p q d x r → Fits p q x r
unfolding Edge
edge_fits p q d x r e = e.1

pub edge_of : (p q : List ℕ) (d x r : ℕ) → IsParent q d r → Fits p q x r → Edge p q d x r
unfolding Edge
edge_of p q d x r c f = (c, f)

pub edge_not : (p q : List ℕ) (d x r : ℕ) → ¬ Fits p q x r → Edge p q d x r → ⊥
unfolding Edge
edge_not p q d x r n e = n e.1

-- the root, which is no child, has no place
pub no_root : {p : List ℕ} {i : ℕ} {places : List ℕ} {E : ℕ → ℕ → Type 0} → PartialMatching E (IsParent p i) places → get_or places 0 0 ≡ 0
no_root {places = places} m = go (ℕ_discrete (get_or places 0 0) 0)
  where
    go : Dec (get_or places 0 0 ≡ 0) → get_or places 0 0 ≡ 0
    go (yes z) = z
    go (no z) = absurd (omega (arith, (m.allowed 0 z).0.before))

-- the children of a node, by where its subtree ends and by their pairs
module _ {s : List ℕ} {i e : ℕ} (r : SubtreeEnd s i e) where
  pub child_in : (y : ℕ) → IsParent s i y → y < e
  child_in y c = go (dec_lt e (length s))
    where
      go : Dec (e < length s) → y < e
      go (yes h) = ended s i e y r.after (r.stop h) c
      go (no h) = omega (arith, c.inside, r.within)

  pub child_by_pair : (x : ℕ) → i < x → x < e → get_or s x 0 < (get_or s i 0 / 1000 + 2) * 1000 → IsParent s i x
  child_by_pair x h k b = record { before = h; inside = omega (arith, r.within); one_deeper = omega (arith, r.deeper x h k); between = λ m a b. r.deeper m a (omega arith) }

pub no_child_by_pair : (s : List ℕ) (i x : ℕ) → (get_or s i 0 / 1000 + 2) * 1000 ≤ get_or s x 0 → ¬ IsParent s i x
no_child_by_pair s i x h c = omega (arith, c.one_deeper)

pub fits_tells : {p : List ℕ} {i : ℕ} {q : List ℕ} {d : ℕ} {places : List ℕ} {r : Bool} → FitsOutcome p i q d places r → Tells r (Fits p q i d)
fits_tells (fit f _) = f
fits_tells (unfit n) = n

-- the least size
pub counted : {p : List ℕ} {i e : ℕ} {sizes : List ℕ} → ¬ (get_or sizes 0 0 ≡ 0) → SubtreeEnd p i e → LeastSize p i sizes (e - i - 1)
counted {p} {i} {e} h r = let z : i + 1 + (e - i - 1) ≡ e = omega (arith, r.after) in as_many (omega arith) (rw z r)

pub below_counted : {p : List ℕ} {i e : ℕ} → SubtreeEnd p i e → (i ≤ e) × (1 ≤ e - i)
below_counted s = (omega (arith, s.after), omega (arith, s.after))

-- wherever the pattern's node fits, as many nodes follow
large_enough : {p q sizes : List ℕ} {i d size : ℕ} → OccursInput p q → Measured q sizes → LeastSize p i sizes size → Fits p q i d → d < length q → size ≤ get_or sizes d 0
large_enough t m (unmeasured z) f h = omega arith
large_enough {sizes = sizes} t m (as_many z s) f h = omega (arith, fits_size sizes t.pattern_is_tree t.tree_is_tree (m.ends z) f h s)

-- the loop of `fits`
pub record FitsInv (p : List ℕ) (i : ℕ) (q : List ℕ) (d deeper end : ℕ) (places : List ℕ) (x : ℕ) : Type 0 where
  pub nodes : NodeAndImage p i q d
  pub is_deeper : deeper ≡ (get_or p i 0 / 1000 + 2) * 1000
  pub ends : SubtreeEnd p i end
  pub after : i < x
  pub within : x ≤ end
  pub long : length places ≡ 16
  pub stage : MatchedFrom (Edge p q d) (IsParent p i) x places

pub fits_start : (p : List ℕ) (i : ℕ) (q : List ℕ) (d : ℕ) (places : List ℕ) (e : ℕ) → FitsInput p i q d places → SubtreeEnd p i e → FitsInv p i q d ((get_or p i 0 / 1000 + 2) * 1000) e places e
fits_start p i q d places e a s = rw a.none_placed (record {
  nodes = a.nodes;
  is_deeper = refl;
  ends = s;
  after = s.after;
  within = omega arith;
  long = refl;
  stage = matched_none (Edge p q d) (IsParent p i) e (replicate 16 0) (λ y. all_same 16 y 0) (λ y l b. omega (arith, child_in s y l));
})

module _ (p : List ℕ) (i : ℕ) (q : List ℕ) (d deeper end : ℕ) (places : List ℕ) (x : ℕ) (v : FitsInv p i q d deeper end places x) where
  pub fits_end : x ≤ i + 1 → FitsOutcome p i q d places true
  fits_end h = fit (sat_fits p q i d v.nodes.same_label (matched_covering (Edge p q d) (IsParent p i) (length q) x places v.stage all (λ y r e. (edge_in p q d y r e).0)))
      (record { length_places = v.long; matching = v.stage.good; full = λ y c. v.stage.done y c (all y c) })
    where
      all : (y : ℕ) → IsParent p i y → x ≤ y
      all y c = omega (arith, c.before)

  is_child : i + 1 < x → get_or p (x - 1) 0 < deeper → IsParent p i (x - 1)
  is_child h e = child_by_pair v.ends (x - 1) (omega arith) (omega (arith, v.within)) (rw v.is_deeper at e)

  stage_before : i + 1 < x → MatchedFrom (Edge p q d) (IsParent p i) (suc (x - 1)) places
  stage_before h = let z : suc (x - 1) ≡ x = omega arith in rw z v.stage

  pub child_inside : i + 1 < x → x - 1 < length p
  child_inside h = omega (arith, v.within, v.ends.within)

  pub augment_input : i + 1 < x → get_or p (x - 1) 0 < deeper → AugmentInput p i (x - 1) q d places (replicate 16 false)
  augment_input h e = record {
    nodes = v.nodes;
    child = is_child h e;
    matching = v.stage.good;
    length_places = v.long;
    length_marks = refl;
    new = all_same 16 (x - 1) false;
  }

  pub fits_stuck : (places' : List ℕ) (visited' : List Bool) → i + 1 < x → get_or p (x - 1) 0 < deeper → AugmentOutcome p i (x - 1) q d places (replicate 16 false) places' visited' false → FitsOutcome p i q d places' false
  fits_stuck places' visited' h e (none _ _ _ t) = unfit (λ f.
      no_covering (Edge p q d) (IsParent p i) (length q) (x - 1) 15 (replicate 16 false) visited' places v.long (omega (arith, v.within, v.ends.within, v.nodes.trees.pattern_nodes)) (is_child h e)
      (v.stage.later (x - 1) (omega arith)) v.stage.good (λ y. all_same 16 y false) (λ y r g. edge_in p q d y r g) t (fits_sat p q i d f).1)

  further : (places' : List ℕ) → i + 1 < x → length places' ≡ 16 → MatchedFrom (Edge p q d) (IsParent p i) (x - 1) places' → FitsInv p i q d deeper end places' (x - 1)
  further places' h l s = record {
    nodes = v.nodes;
    is_deeper = v.is_deeper;
    ends = v.ends;
    after = omega arith;
    within = omega (arith, v.within);
    long = l;
    stage = s;
  }

  pub fits_matched : (places' : List ℕ) (visited' : List Bool) → i + 1 < x → AugmentOutcome p i (x - 1) q d places (replicate 16 false) places' visited' true → FitsInv p i q d deeper end places' (x - 1)
  fits_matched places' visited' h (found g) = further places' h (g.long ∙ v.long) (matched_next (Edge p q d) (IsParent p i) (stage_before h) g)

  pub fits_skip : i + 1 < x → deeper ≤ get_or p (x - 1) 0 → FitsInv p i q d deeper end places (x - 1)
  fits_skip h n = further places h v.long (matched_skip (Edge p q d) (IsParent p i) (stage_before h) (no_child_by_pair p i (x - 1) (rw v.is_deeper at n)))

-- the loop of `augment`; the marks at its start are those at the call with x's own set. The children of d up to e are tried; at the start e is d.
pub record AugmentInv (p : List ℕ) (i x : ℕ) (q sizes : List ℕ) (d : ℕ) (places₀ : List ℕ) (start : List Bool) (want size : ℕ) (places : List ℕ) (visited : List Bool) (e : ℕ) : Type 0 where
  pub base : List Bool
  pub input : AugmentInput p i x q d places₀ base
  pub wanted : want ≡ pair_wanted p x q d
  pub enough : (r : ℕ) → Edge p q d x r → size ≤ get_or sizes r 0
  pub same : places ≡ places₀
  pub inside : e < length q
  pub last : (d ≡ e) ⊎ IsParent q d e
  pub length_marks : length visited ≡ 16
  pub fewer : unvisited visited ≤ unvisited start
  pub tried : Exhausted (Edge p q d) (IsParent p i) x (suc e) start visited places₀

mark_in : {p : List ℕ} {i x : ℕ} {q : List ℕ} {d : ℕ} {places : List ℕ} {visited : List Bool} → AugmentInput p i x q d places visited → x < length visited
mark_in a = omega (arith, a.child.inside, a.nodes.trees.pattern_nodes, a.length_marks)

pub augment_start : {p : List ℕ} {i x : ℕ} {q sizes : List ℕ} {d : ℕ} {places : List ℕ} {visited : List Bool} {want size : ℕ} → AugmentInput p i x q d places visited → Measured q sizes → want ≡ pair_wanted p x q d
    → LeastSize p x sizes size → AugmentInv p i x q sizes d places (set visited x true) want size places (set visited x true) d
augment_start {p} {i} {x} {q} {sizes} {d} {places} {visited} a m w l = record {
  base = visited;
  input = a;
  wanted = w;
  enough = λ r e. large_enough a.nodes.trees m l (edge_fits p q d x r e) (edge_in p q d x r e).0;
  same = refl;
  inside = a.nodes.image;
  last = inl refl;
  length_marks = length-set visited x true ∙ a.length_marks;
  fewer = omega arith;
  tried = exhausted_none (Edge p q d) (IsParent p i) x (suc d) (set visited x true) places (get_or-set_same visited x true false (mark_in a)) (λ r h e. omega (arith, (edge_child p q d x r e).before));
}

pub scan_input : {p : List ℕ} {i x : ℕ} {q sizes : List ℕ} {d : ℕ} {places₀ : List ℕ} {start : List Bool} {want size : ℕ} {places : List ℕ} {visited : List Bool} {e : ℕ} → AugmentInv p i x q sizes d places₀ start want size places visited e → ScanInput q d e want
scan_input v = record { tree = v.input.nodes.trees.tree_is_tree; nodes = v.input.nodes.trees.tree_nodes; inside = v.inside; last = v.last; one_deeper = omega (arith, v.wanted) }

pub fewer_now : {p : List ℕ} {i x : ℕ} {q sizes : List ℕ} {d : ℕ} {places₀ : List ℕ} {visited₀ : List Bool} {want size : ℕ} {places : List ℕ} {visited : List Bool} {e : ℕ}
    → AugmentInput p i x q d places₀ visited₀ → AugmentInv p i x q sizes d places₀ (set visited₀ x true) want size places visited e → unvisited visited < unvisited visited₀
fewer_now {x = x} {visited₀ = visited₀} a v = omega (arith, v.fewer, unvisited_set visited₀ x (mark_in a) a.new)

-- f is the child of d that comes next
module _ {p : List ℕ} {i x : ℕ} {q sizes : List ℕ} {d : ℕ} {places₀ : List ℕ} {start : List Bool} {want size : ℕ} {places : List ℕ} {visited : List Bool} {e : ℕ}
    (v : AugmentInv p i x q sizes d places₀ start want size places visited e) {f : ℕ} (n : NextChild q sizes d e want size f) where
  tried_before : Exhausted (Edge p q d) (IsParent p i) x f start visited places₀
  tried_before = record { here = v.tried.here; grow = v.tried.grow; closed = λ r b g. go r b g (dec_lt e r); new = v.tried.new }
    where
      go : (r : ℕ) → r < f → Edge p q d x r → Dec (e < r) → HeldByVisited visited places₀ r
      go r b g (yes c) = absurd (omega (arith, n.none_between r c b (edge_child p q d x r g) (edge_pair p q d x r g ∙ sym v.wanted), v.enough r g))
      go r b g (no c) = v.tried.closed r (omega arith) g

  pub holder_input : (0 < f) × (length places ≡ 16) × (get_or places 0 0 ≡ 0)
  holder_input = (omega (arith, n.after), rw v.same v.input.length_places, rw v.same (no_root v.input.matching))

  f_pos : ¬ (f ≡ 0)
  f_pos z = omega (arith, n.after)

  module _ (h : ¬ (f ≡ length q)) where
    f_in : f < length q
    f_in = omega (arith, n.within)

    pub nearer_end : length q - f < length q - e
    nearer_end = omega (arith, n.after, f_in)

    pub fits_input : FitsInput p x q f (replicate 16 0)
    fits_input = record {
      nodes = record { trees = v.input.nodes.trees; node = v.input.child.inside; image = f_in; same_label = omega (arith, v.wanted, (n.child f_in).1) };
      none_placed = refl;
    }

    on : (places' : List ℕ) (visited' : List Bool) → places' ≡ places₀ → length visited' ≡ 16 → unvisited visited' ≤ unvisited start → Exhausted (Edge p q d) (IsParent p i) x (suc f) start visited' places₀
        → AugmentInv p i x q sizes d places₀ start want size places' visited' f
    on places' visited' s l u t = record {
      base = v.base;
      input = v.input;
      wanted = v.wanted;
      enough = v.enough;
      same = s;
      inside = f_in;
      last = inr (n.child f_in).0;
      length_marks = l;
      fewer = u;
      tried = t;
    }

    stay_on : (Edge p q d x f → HeldByVisited visited places₀ f) → AugmentInv p i x q sizes d places₀ start want size places visited f
    stay_on g = on places visited v.same v.length_marks v.fewer (exhausted_skip (Edge p q d) (IsParent p i) tried_before g)

    pub again_unfit : ¬ Fits p q x f → AugmentInv p i x q sizes d places₀ start want size places visited f
    again_unfit no_fit = stay_on (λ g. absurd (edge_not p q d x f no_fit g))

    pub again_visited : {o : ℕ} → HolderIs places visited f o → 17 ≤ o → AugmentInv p i x q sizes d places₀ start want size places visited f
    again_visited (nobody z _) b = absurd (omega arith)
    again_visited (one_visited z g) b = stay_on (λ _. rw v.same at g)
    again_visited (one z _ _) b = absurd (omega arith)

    pub again_stuck : {o : ℕ} {places' : List ℕ} {visited' : List Bool} → HolderIs places visited f o → o < 17 → ¬ (o ≡ 16)
        → AugmentOutcome p i o q d places visited places' visited' false → AugmentInv p i x q sizes d places₀ start want size places' visited' f
    again_stuck (nobody z _) b k a = absurd (k z)
    again_stuck (one_visited z _) b k a = absurd (omega arith)
    again_stuck {o} {places'} {visited'} (one z s u) b k (none same len less t) =
        let s₀ : get_or places₀ o 0 ≡ f = rw v.same at s in
        let t₀ : Exhausted (Edge p q d) (IsParent p i) o (length q) visited visited' places₀ = rw v.same at t in
        on places' visited' (same ∙ v.same) (len ∙ v.length_marks) (omega (arith, v.fewer, less))
        (exhausted_through (Edge p q d) (IsParent p i) (λ y r g. (edge_in p q d y r g).0) f_pos tried_before s₀ t₀)

  pub augment_other_input : {o : ℕ} → HolderIs places visited f o → o < 17 → ¬ (o ≡ 16) → AugmentInput p i o q d places visited
  augment_other_input (nobody z _) b k = absurd (k z)
  augment_other_input (one_visited z _) b k = absurd (omega arith)
  augment_other_input {o} (one z s u) b k =
      let s₀ : get_or places₀ o 0 ≡ f = rw v.same at s in
      rw v.same (record {
        nodes = v.input.nodes;
        child = (v.input.matching.allowed o (λ z. f_pos (sym s₀ ∙ z))).0;
        matching = v.input.matching;
        length_places = v.input.length_places;
        length_marks = v.length_marks;
        new = u;
      })

-- its ways out
module _ {p : List ℕ} {i x : ℕ} {q sizes : List ℕ} {d : ℕ} {places₀ : List ℕ} {visited₀ : List Bool} {want size : ℕ} {places : List ℕ} {visited : List Bool} {e : ℕ}
    (a : AugmentInput p i x q d places₀ visited₀) (v : AugmentInv p i x q sizes d places₀ (set visited₀ x true) want size places visited e) {f : ℕ} (n : NextChild q sizes d e want size f) where
  before_x : Exhausted (Edge p q d) (IsParent p i) x f visited₀ visited places₀
  before_x = exhausted_unmark (Edge p q d) (IsParent p i) (mark_in a) (tried_before v n)

  pub augment_nowhere : f ≡ length q → AugmentOutcome p i x q d places₀ visited₀ places visited false
  augment_nowhere z = none v.same (v.length_marks ∙ sym a.length_marks) (fewer_now a v) (record {
    here = before_x.here;
    grow = before_x.grow;
    closed = λ r h. before_x.closed r (omega arith);
    new = before_x.new;
  })

  fresh_x : ¬ (get_or visited₀ x false ≡ true)
  fresh_x z = both_ways z a.new

  module _ (h : ¬ (f ≡ length q)) (fit : Fits p q x f) where
    the_edge : Edge p q d x f
    the_edge = edge_of p q d x f (n.child (f_in v n h)).0 fit

    pub augment_free : {o : ℕ} → HolderIs places visited f o → o ≡ 16 → AugmentOutcome p i x q d places₀ visited₀ (set places x f) visited true
    augment_free (nobody _ free) z =
        rw v.same (found (augmented_free (Edge p q d) (IsParent p i) x f visited₀ places₀ a.child the_edge (f_pos v n) (omega (arith, a.child.inside, a.nodes.trees.pattern_nodes, a.length_places)) fresh_x a.matching (rw v.same at free)))
    augment_free (one_visited k _) z = absurd (omega arith)
    augment_free (one k _ _) z = absurd (omega arith)

    pub augment_via : {o : ℕ} {places' : List ℕ} {visited' : List Bool} → HolderIs places visited f o → o < 17 → ¬ (o ≡ 16)
        → AugmentOutcome p i o q d places visited places' visited' true → AugmentOutcome p i x q d places₀ visited₀ (set places' x f) visited' true
    augment_via (nobody k _) b m g = absurd (m k)
    augment_via (one_visited k _) b m g = absurd (omega arith)
    augment_via {o} {places'} (one k s u) b m (found g) =
        let s₀ : get_or places₀ o 0 ≡ f = rw v.same at s in
        let g₀ : Augmented (Edge p q d) (IsParent p i) o visited places₀ places' = rw v.same at g in
        found (augmented_via (Edge p q d) (IsParent p i) x o f visited₀ visited places₀ places' a.child the_edge (f_pos v n) (omega (arith, a.child.inside, a.nodes.trees.pattern_nodes, a.length_places, g₀.long)) fresh_x a.matching
        before_x.grow before_x.here u s₀ g₀)
