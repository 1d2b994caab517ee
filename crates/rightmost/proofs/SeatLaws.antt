-- LAWS. The last node's places where siblings of its label compete: what lies below b may be placed anew at b's place.
use mathlib.Core.Path.{◌≡◌, sym, ap, ◌∙◌}
use mathlib.Core.Logic.{◌↔◌, ◌≢◌}
use mathlib.Core.List.{List}
use Prim.Native.Nat.{ℕ, suc, ◌-◌, ◌*◌, ◌/◌, ◌%◌, ◌≤◌, ◌<◌}
use native.Mathlib.Omega.{arith}
use native.Mathlib.Decide.{ℕ_discrete}
use lib.ListN.{length, get_or, set, length-set}
use lib.Seq.{get_or-set_same, get_or-set_other}
use Rattle.terms.specs.Tree.{depthAt, label_at, IsTree, IsParent}
use Rattle.terms.specs.Assignment.{Covering}
use Rattle.terms.proofs.Decide.{choose}
use Rattle.terms.proofs.PreorderLinks.{Embeds}
use Rattle.terms.proofs.EmbedsLaws.{par_unique}
use Rattle.terms.specs.Fits.{Fits, fits, Edge, Free}
use Rattle.terms.proofs.FitsLaws.{fits_sat, occ_fits}
use Rattle.terms.proofs.GreedyLaws.{Good, Whole, extend, good_full}
use Rattle.rightmost.specs.Ends.{PlacedAt, PlacedBoth, PlacedBeside, Up, itself, above, OnBranch, IsChild, child?, children, NewChild, Seated, LeavesOnly}
use Rattle.rightmost.proofs.Counting.{LeftOver, left_over}
use Rattle.rightmost.proofs.UpLaws.{up_before, up_more}
use Rattle.rightmost.proofs.BranchLaws.{Maps, placed_maps, branch_deeper}
use Rattle.rightmost.proofs.LongerLaws.{longer, user_is_child, child_image}
use Rattle.rightmost.proofs.SupportByPlaces.{MapsBeside, beside_maps, maps_beside, last_exactly}

-- ONE NODE HIDDEN: the pairs with one label made 0, which no pattern has. Depths, and so parents, stay.

hidden : List ℕ → ℕ → List ℕ
hidden q w = set q w (1000 * depthAt q w)

hidden_length : (q : List ℕ) (w : ℕ) → length (hidden q w) ≡ length q
unfolding hidden
hidden_length q w = length-set q w (1000 * depthAt q w)

hidden_other : (q : List ℕ) (w i : ℕ) → i ≢ w → get_or (hidden q w) i 0 ≡ get_or q i 0
unfolding hidden
hidden_other q w i h = get_or-set_other q w i (1000 * depthAt q w) 0 h

hidden_here : (q : List ℕ) (w : ℕ) → w < length q → get_or (hidden q w) w 0 ≡ 1000 * depthAt q w
unfolding hidden
hidden_here q w h = get_or-set_same q w (1000 * depthAt q w) 0 h

hidden_depth : (q : List ℕ) (w i : ℕ) → w < length q → depthAt (hidden q w) i ≡ depthAt q i
hidden_depth q w i h = go (ℕ_discrete i w)
  where
    go : Dec (i ≡ w) → depthAt (hidden q w) i ≡ depthAt q i
    go (yes e) = rw e (omega (arith, hidden_here q w h))
    go (no e) = ap (λ (y : ℕ). y / 1000) (hidden_other q w i e)

hidden_label : (q : List ℕ) (w i : ℕ) → i ≢ w → label_at (hidden q w) i ≡ label_at q i
hidden_label q w i e = ap (λ (y : ℕ). y % 1000) (hidden_other q w i e)

hidden_parent : (q : List ℕ) (w : ℕ) {i j : ℕ} → w < length q → IsParent q i j → IsParent (hidden q w) i j
hidden_parent q w {i} {j} h r = record {
  before = r.before;
  inside = omega (arith, r.inside, hidden_length q w);
  one_deeper = omega (arith, r.one_deeper, hidden_depth q w i h, hidden_depth q w j h);
  between = λ k a b. omega (arith, r.between k a b, hidden_depth q w i h, hidden_depth q w k h);
}

shown_parent : (q : List ℕ) (w : ℕ) {i j : ℕ} → w < length q → IsParent (hidden q w) i j → IsParent q i j
shown_parent q w {i} {j} h r = record {
  before = r.before;
  inside = omega (arith, r.inside, hidden_length q w);
  one_deeper = omega (arith, r.one_deeper, hidden_depth q w i h, hidden_depth q w j h);
  between = λ k a b. omega (arith, r.between k a b, hidden_depth q w i h, hidden_depth q w k h);
}

-- no pattern node is placed at the hidden node
unused : {p : List ℕ} (q : List ℕ) {φ : ℕ → ℕ} (w : ℕ) → IsTree p → w < length q → Embeds p (hidden q w) φ → (i : ℕ) → i < length p → φ i ≢ w
unused {p} q {φ} w t h o i l e = omega (arith, (t.pairs i l).label_from_1, o.labels i l, ap (label_at (hidden q w)) e, hidden_here q w h)

shown_embeds : {p : List ℕ} (q : List ℕ) {φ : ℕ → ℕ} (w : ℕ) → IsTree p → w < length q → Embeds p (hidden q w) φ → Embeds p q φ
shown_embeds {p} q {φ} w t h o = record {
  bound = λ i l. omega (arith, o.bound i l, hidden_length q w);
  labels = λ i l. o.labels i l ∙ hidden_label q w (φ i) (unused q w t h o i l);
  inj = o.inj;
  parents = λ i j l m r. shown_parent q w h (o.parents i j l m r);
}

-- what fits at a node that is not above w fits there with w hidden
hidden_fits : {p q : List ℕ} {i v w : ℕ} → w < length q → ((k : ℕ) → ¬ Up q v k w) → Fits p q i v → Fits p (hidden q w) i v
hidden_fits {p} {q} {i} {v} {w} h f (fits e to kid sub inj) =
    fits (e ∙ sym (hidden_label q w v (λ r. f 0 (itself (sym r))))) to (λ x r. hidden_parent q w h (kid x r))
    (λ x r. hidden_fits h (λ k u. f (suc k) (up_more u (kid x r))) (sub x r)) inj

-- a child of d is not above another
apart_up : {q : List ℕ} {d r w k : ℕ} → IsParent q d r → IsParent q d w → r ≢ w → ¬ Up q r k w
apart_up a b n (itself e) = n (sym e)
apart_up {d = d} a b n (above {v = v} p u) = omega (arith, par_unique p b, up_before u, a.before)

-- THE SEATS

-- the children of b by their label: those with it by their seats, the others as they were
seat : (p : List ℕ) (l : ℕ) (to φ : ℕ → ℕ) → ℕ → ℕ
seat p l to φ c = choose (ℕ_discrete (label_at p c) l) (to c) (φ c)

-- b's part placed anew: the children of b with w's label at other children of d, all else below b somehow, the rest as it was
pub seats_beside : {p q : List ℕ} {b d l w : ℕ} → IsTree p → OnBranch p (depthAt p b) b → Maps p q b d → IsChild q d l w → Seated p q b d l w → MapsBeside p q b d w
unfolding Edge seat
seats_beside {p} {q} {b} {d} {l} {w} t o m c s = finish (extend (length p - suc b) b φ t (omega (arith, o.inside)) good)
  where
    φ : ℕ → ℕ
    φ = m.map

    e : Embeds p q φ
    e = m.embeds

    h : w < length q
    h = c.0.inside

    at_b : IsChild q (φ b) l w
    at_b = rw m.there c

    -- who is placed at w stands after b
    early : (x : ℕ) → x < suc b → φ x ≢ w
    early x a r = omega (arith, (user_is_child t e o.inside at_b x (omega (arith, o.inside)) r).0.before)

    to : ℕ → ℕ
    to = seat p l s.to φ

    edge : (x : ℕ) → IsParent p b x → (IsParent q d (to x) × Fits p q x (to x)) × (to x ≢ w)
    edge x r = go (ℕ_discrete (label_at p x) l)
      where
        go : (z : Dec (label_at p x ≡ l)) → (IsParent q d (choose z (s.to x) (φ x)) × Fits p q x (choose z (s.to x) (φ x))) × (choose z (s.to x) (φ x) ≢ w)
        go (yes z) = s.edge x (r, z)
        go (no z) = (((rw m.there at (e.parents b x o.inside r.inside r)), occ_fits p q φ e x r.inside), λ k. z (e.labels x r.inside ∙ ap (label_at q) k ∙ c.1))

    apart : (x y : ℕ) → IsParent p b x → IsParent p b y → to x ≡ to y → x ≡ y
    apart x y r r' = go (ℕ_discrete (label_at p x) l) (ℕ_discrete (label_at p y) l)
      where
        seated : (x : ℕ) (r : IsParent p b x) (z : label_at p x ≡ l) → label_at q (s.to x) ≡ l
        seated x r z = sym (fits_sat p q x (s.to x) (s.edge x (r, z)).0.1).0 ∙ z

        go : (z : Dec (label_at p x ≡ l)) (z' : Dec (label_at p y ≡ l)) → choose z (s.to x) (φ x) ≡ choose z' (s.to y) (φ y) → x ≡ y
        go (yes z) (yes z') k = s.inj x y (r, z) (r', z') k
        go (yes z) (no z') k = absurd (z' (e.labels y r'.inside ∙ ap (label_at q) (sym k) ∙ seated x r z))
        go (no z) (yes z') k = absurd (z (e.labels x r.inside ∙ ap (label_at q) k ∙ seated y r' z'))
        go (no z) (no z') k = e.inj x y r.inside r'.inside k

    -- a node before b has no child after b
    none : (a x : ℕ) → a < b → IsParent p a x → suc b ≤ x → ⊥
    none a x k r z = omega (arith, r.between b k (omega arith), r.one_deeper, branch_deeper t o x (omega arith) r.inside)

    rest : (a : ℕ) → a < suc b → Dec (a ≡ b) → Covering (λ x r. Free p (hidden q w) φ a (suc b) x r) (λ x. IsParent p a x × (suc b ≤ x)) (length (hidden q w))
    rest a k (no z) = record {
      to = φ;
      inside = λ x g. absurd (none a x (omega arith) g.0 g.1);
      edge = λ x g. absurd (none a x (omega arith) g.0 g.1);
      inj = λ x y g g' r. absurd (none a x (omega arith) g.0 g.1);
    }
    rest a k (yes z) = rw z (record {
      to = to;
      inside = λ x g. omega (arith, hidden_length q w, (edge x g.0).0.0.inside);
      edge = λ x g. free x g.0;
      inj = λ x y g g' r. apart x y g.0 g'.0 r;
    })
      where
        free : (x : ℕ) → IsParent p b x → Free p (hidden q w) φ b (suc b) x (to x)
        free x r =
            let f = edge x r in
            record {
              child = rw m.there (hidden_parent q w h f.0.0);
              fits = hidden_fits h (λ k u. apart_up f.0.0 c.0 f.1 u) f.0.1;
              unused = λ y g i. absurd (omega (arith, g.before));
            }

    good : Good p (hidden q w) φ (suc b)
    good = record {
      inside = λ x a. omega (arith, hidden_length q w, e.bound x (omega (arith, o.inside)));
      labels = λ x a. e.labels x (omega (arith, o.inside)) ∙ sym (hidden_label q w (φ x) (early x a));
      child = λ a x r k. hidden_parent q w h (e.parents a x (omega (arith, r.before, r.inside)) r.inside r);
      apart = λ a x y r r' k k' z. e.inj x y r.inside r'.inside z;
      rest = λ a k. rest a k (ℕ_discrete a b);
    }

    finish : Whole p (hidden q w) φ (suc b) → MapsBeside p q b d w
    finish z =
        let f = good_full t z.good in
        record { map = z.ψ; embeds = shown_embeds q w t h f; there = sym (z.like b (omega arith)) ∙ m.there; beside = unused q w t h f }

-- and a placing beside w seats them
pub beside_seats : {p q : List ℕ} {b d l w : ℕ} → MapsBeside p q b d w → Seated p q b d l w
unfolding Edge
beside_seats {p} {q} {b} {d} {l} {w} m = record {
  to = m.map;
  inside = λ x c. m.embeds.bound x c.0.inside;
  edge = λ x c. ((rw m.there at (child_image m.embeds x c).0, occ_fits p q m.map m.embeds x c.0.inside), m.beside x c.0.inside);
  inj = λ x y c c' e. m.embeds.inj x y c.0.inside c'.0.inside e;
}

pub beside_exactly : {p q : List ℕ} {b d l w : ℕ} → IsTree p → OnBranch p (depthAt p b) b → PlacedAt p q b d → IsChild q d l w → PlacedBeside p q b d w ↔ Seated p q b d l w
beside_exactly t o z c = ((λ y. beside_seats (beside_maps y)), (λ s. maps_beside t o.inside (seats_beside t o (placed_maps z) c s)))

-- THEOREM 3. The new node can be at w, with b at d, exactly if b can be at d, w is a child of d with its label, and b's children with that label
-- can be seated beside w.
pub last_by_seats : {p q : List ℕ} {x b d w : ℕ} → NewChild p x b → PlacedBoth (longer p x) q b d (length p) w ↔ (PlacedAt p q b d × IsChild q d (x % 1000) w × Seated p q b d (x % 1000) w)
last_by_seats {p} {q} {x} {b} {d} {w} e = (to, λ z. (last_exactly e).1 (z.1, (beside_exactly e.is_tree e.on_branch z.0 z.1).1 z.2))
  where
    to : PlacedBoth (longer p x) q b d (length p) w → PlacedAt p q b d × IsChild q d (x % 1000) w × Seated p q b d (x % 1000) w
    to z = let r = (last_exactly e).0 z in (record { tuple = r.1.tuple; placing = r.1.placing; there = r.1.there }, r.0, beside_seats (beside_maps r.1))

-- Where they are all leaves, too, if d has more of them than b.
pub seats_leaves : {p q : List ℕ} {b d l w : ℕ} → IsTree p → b < length p → Maps p q b d → IsChild q d l w → LeavesOnly p b l → children p b l < children q d l → Seated p q b d l w
unfolding children Edge
seats_leaves {p} {q} {b} {d} {l} {w} t hb m c leaves h = record { to = to; inside = λ x k. (edge x k).0.0.inside; edge = edge; inj = inj' }
  where
    φ : ℕ → ℕ
    φ = m.map

    e : Embeds p q φ
    e = m.embeds

    f : LeftOver (IsChild p b l) (IsChild q d l) (length p) (length q) φ
    f = left_over (child? p b l) (child? q d l) (length p) (length q) φ h

    to : ℕ → ℕ
    to i = choose (ℕ_discrete (φ i) w) f.place (φ i)

    edge : (i : ℕ) → IsChild p b l i → (IsParent q d (to i) × Fits p q i (to i)) × (to i ≢ w)
    edge i k = go (ℕ_discrete (φ i) w)
      where
        go : (z : Dec (φ i ≡ w)) → (IsParent q d (choose z f.place (φ i)) × Fits p q i (choose z f.place (φ i))) × (choose z f.place (φ i) ≢ w)
        go (yes z) = ((f.is_so.0, fits (k.1 ∙ sym f.is_so.1) φ (λ x r. absurd (leaves i x k r)) (λ x r. absurd (leaves i x k r)) (λ x y r _ _. absurd (leaves i x k r))), λ r. f.unused i k.0.inside k (z ∙ sym r))
        go (no z) = ((rw m.there at (child_image e i k).0, occ_fits p q φ e i k.0.inside), z)

    inj' : (i j : ℕ) → IsChild p b l i → IsChild p b l j → to i ≡ to j → i ≡ j
    inj' i j k k' = go (ℕ_discrete (φ i) w) (ℕ_discrete (φ j) w)
      where
        go : (z : Dec (φ i ≡ w)) (z' : Dec (φ j ≡ w)) → choose z f.place (φ i) ≡ choose z' f.place (φ j) → i ≡ j
        go (yes z) (yes z') r = e.inj i j k.0.inside k'.0.inside (z ∙ sym z')
        go (yes z) (no z') r = absurd (f.unused j k'.0.inside k' (sym r))
        go (no z) (yes z') r = absurd (f.unused i k.0.inside k r)
        go (no z) (no z') r = e.inj i j k.0.inside k'.0.inside r
