-- LAWS. A tree turned: the matching back, depths; one exchange more; the tree with a new last leaf is a one-node supertree.
use mathlib.Core.Path.{◌≡◌, refl, sym, ap, ◌∙◌}
use mathlib.Core.List.{List}
use Prim.Native.Nat.{ℕ, zero, suc, ◌+◌, ◌-◌, ◌/◌, ◌≤◌, ◌<◌}
use native.Mathlib.Omega.{arith}
use native.Mathlib.Decide.{dec_lt}
use lib.ListN.{length, get_or}
use Rattle.terms.specs.Tree.{depthAt, label_at, IsTree}
use Rattle.terms.specs.Matching.{placeAt, SameTree}
use Rattle.terms.proofs.PreorderLinks.{Embeds}
use Rattle.terms.proofs.Canonical.{SameByMap}
use Rattle.terms.proofs.EmbedsLaws.{occ_comp}
use Rattle.terms.proofs.TreeLaws.{tree_any_depth}
use Rattle.terms.proofs.MatchingLaws.{numbers, numbers_at, none_over, occ_placing, placing_occ, occurs_trans, same_occurs, same_length}
use Rattle.exchange.specs.Exchange.{Exchanged}
use Rattle.merging.proofs.ExchangeLaws.{TwoStretches, exchanged_tree, exchanged_map, exchanged_place}
use Rattle.rightmost.specs.Ends.{Up, OnBranch, NewChild}
use Rattle.rightmost.proofs.UpLaws.{up_image, up_inside, up_between}
use Rattle.rightmost.proofs.BranchLaws.{branch_of_deeper}
use Rattle.rightmost.proofs.LongerLaws.{longer, longer_length, longer_tree, shorter_embeds}
use Rattle.supertrees.specs.Supertree.{OneNodeSupertree}
use Rattle.supertrees.proofs.AnyDepth.{map_occurs, depth_from_root}
use Rattle.turned.specs.Turned.{TurnedTo, TurnedToEnd, IsLeaf}

-- the matching, from the turned tree back
pub record Back (p r tuple : List ℕ) : Type 0 where
  pub map : ℕ → ℕ
  pub embeds : Embeds r p map
  pub and_there : (v : ℕ) → v < length r → placeAt tuple (map v) ≡ v
  pub there_and : (i : ℕ) → i < length p → map (placeAt tuple i) ≡ i

pub same_back : {p r : List ℕ} → (e : SameTree p r) → Back p r e.tuple
same_back {p} {r} e = record {
  map = ψ;
  embeds = record {
    bound = λ v h. (is v h).0;
    labels = λ v h. ap (label_at r) (sym (forth v h)) ∙ sym (e.matching.labels (ψ v) (is v h).0);
    inj = λ v w h k q. apart v w h k q;
    parents = λ v w h k t. (e.matching.parents (ψ v) (ψ w) (is v h).0 (is w k).0).1 (rw (forth v h, forth w k) t);
  };
  and_there = forth;
  there_and = λ i h. back i h;
}
  where
    source : (v : ℕ) → Dec (v < length r) → ℕ
    source v (yes h) = (e.none_left_over (suc v) (omega arith) (omega arith)).0
    source v (no h) = 0

    is_source : (v : ℕ) → v < length r → (d : Dec (v < length r)) → (source v d < length p) × (get_or e.tuple (source v d) 0 ≡ suc v)
    is_source v h (yes q) = let z = e.none_left_over (suc v) (omega arith) (omega arith) in (z.1, z.2)
    is_source v h (no q) = absurd (q h)

    ψ : ℕ → ℕ
    ψ v = source v (dec_lt v (length r))

    is : (v : ℕ) → v < length r → (ψ v < length p) × (get_or e.tuple (ψ v) 0 ≡ suc v)
    is v h = is_source v h (dec_lt v (length r))

    forth : (v : ℕ) → v < length r → placeAt e.tuple (ψ v) ≡ v
    forth v h = omega (arith, (is v h).1)

    apart : (v w : ℕ) → v < length r → w < length r → ψ v ≡ ψ w → v ≡ w
    apart v w h k q = sym (forth v h) ∙ ap (placeAt e.tuple) q ∙ forth w k

    back : (i : ℕ) → i < length p → ψ (placeAt e.tuple i) ≡ i
    back i h =
        let a = e.matching.from_1 i h in
        let b : placeAt e.tuple i < length r = omega (arith, e.matching.to_last i h) in
        e.matching.different (ψ (placeAt e.tuple i)) i (is (placeAt e.tuple i) b).0 h (omega (arith, (is (placeAt e.tuple i) b).1))

-- depths are kept
pub same_depth : {p r : List ℕ} → IsTree p → IsTree r → (e : SameTree p r) → (i : ℕ) → i < length p → depthAt r (placeAt e.tuple i) ≡ depthAt p i
same_depth {p} {r} tp tr e i h =
    let b = same_back e in
    let m = placing_occ e.matching in
    omega (arith, depth_from_root i (tree_any_depth tp) m i (omega arith) h, depth_from_root (placeAt e.tuple i) (tree_any_depth tr) b.embeds (placeAt e.tuple i) (omega arith) (m.bound i h), ap (depthAt p) (b.there_and i h))

-- the ancestors of the node that was turned to the end are the rightmost branch
pub turned_branch : {p r : List ℕ} {leaf i k : ℕ} → (t : TurnedToEnd p leaf r) → Up p i k leaf → OnBranch r (depthAt r (placeAt t.same.tuple i)) (placeAt t.same.tuple i)
turned_branch {p} {r} {leaf} {i} t u =
    let m = placing_occ t.same.matching in
    let up = up_image m t.inside u in
    branch_of_deeper r (placeAt t.same.tuple i) (up_inside up (m.bound leaf t.inside)) (λ k a b. up_between up k a (omega (arith, t.there)))

pub all : (s : List ℕ) → Embeds s s (λ i. i)
all s = record { bound = λ i h. h; labels = λ i h. refl; inj = λ i j h k q. q; parents = λ i j h k q. q }

-- A LEAF MORE AT THE END is a supertree of one more node.
pub turned_larger : {p r : List ℕ} {leaf x b : ℕ} → IsTree p → TurnedToEnd p leaf r → NewChild r x b → OneNodeSupertree p (longer r x)
turned_larger {p} {r} {leaf} {x} tp t e = record {
  is_tree = tree_any_depth (longer_tree e);
  occurs = occurs_trans tp (same_occurs t.same) (map_occurs (tree_any_depth t.is_tree) (shorter_embeds r x (all (longer r x))));
  one_more = omega (arith, longer_length r x, same_length t.same);
}

-- TURNING. A tree turned, from a map;
turned_by : {p s : List ℕ} {node place : ℕ} → IsTree p → IsTree s → (e : SameByMap p s) → node < length p → e.map node ≡ place → TurnedTo p node s place
turned_by {p} {s} {node} tp ts e h q = record {
  is_tree = ts;
  same = record { tuple = numbers (length p) e.map; matching = occ_placing tp e.occurs; none_left_over = left };
  inside = h;
  there = numbers_at (length p) e.map node h ∙ ap suc q;
}
  where
    left : (n : ℕ) → 1 ≤ n → n ≤ length s → (i : ℕ) × (i < length p) × (get_or (numbers (length p) e.map) i 0 ≡ n)
    left zero a b = absurd (omega arith)
    left (suc v) a b =
        let z = none_over (length p) e.map (λ i k. omega (arith, e.occurs.bound i k, e.size)) e.occurs.inj v (omega (arith, e.size)) in
        (z.0, z.1, numbers_at (length p) e.map z.0 z.1 ∙ ap suc z.2)

-- itself, each node at its own place;
pub turned_itself : {p : List ℕ} {node : ℕ} → IsTree p → node < length p → TurnedTo p node p node
turned_itself {p} tp h = turned_by tp tp (record { size = refl; map = λ i. i; occurs = all p }) h refl

-- with two neighbouring stretches of siblings exchanged, the node in the first of them.
pub turned_exchanged : {p s t : List ℕ} {node place a b c d : ℕ} → IsTree p → TurnedTo p node s place → TwoStretches s a b c d → Exchanged s t a b c → a ≤ place → place < b → TurnedTo p node t (place + (c - b))
turned_exchanged {p} {s} {t} {node} {place} {a} {b} {c} {d} tp z two x h l = turned_by tp (exchanged_tree s t a b c d x two z.is_tree) whole z.inside (ap m.map here ∙ exchanged_place s t a b c d x two z.is_tree place h l)
  where
    m : SameByMap s t
    m = exchanged_map s t a b c d x two z.is_tree

    here : placeAt z.same.tuple node ≡ place
    here = omega (arith, z.there)

    whole : SameByMap p t
    whole = record { size = same_length z.same ∙ m.size; map = λ i. m.map (placeAt z.same.tuple i); occurs = occ_comp p s t (placeAt z.same.tuple) m.map (placing_occ z.same.matching) m.occurs }

-- A LEAF WITH AN EQUAL LEAF BEHIND IT: the two may be exchanged, so what turns the second to the end turns the first.
pub turned_equal : {p r : List ℕ} {leaf : ℕ} → IsTree p → suc leaf < length p → get_or p leaf 0 ≡ get_or p (suc leaf) 0 → IsLeaf p (suc leaf) → TurnedToEnd p (suc leaf) r → TurnedToEnd p leaf r
turned_equal {p} {r} {leaf} tp h e l t = turned_by tp t.is_tree whole (omega arith) (ap (placeAt t.same.tuple) here ∙ omega (arith, t.there))
  where
    two : TwoStretches p leaf (suc leaf) (suc (suc leaf)) (depthAt p leaf)
    two = record {
      first = omega arith;
      second = omega arith;
      within = omega arith;
      first_head = refl;
      second_head = ap (λ (x : ℕ). x / 1000) (sym e);
      deep = λ k a b. deep k a b (dec_lt leaf k);
      stop = λ k. omega (arith, l.none_below k, ap (λ (x : ℕ). x / 1000) e);
    }
      where
        deep : (k : ℕ) → leaf ≤ k → k < suc (suc leaf) → Dec (leaf < k) → depthAt p leaf ≤ depthAt p k
        deep k a b (yes q) = let z : suc leaf ≡ k = omega arith in omega (arith, ap (λ (x : ℕ). x / 1000) e, ap (depthAt p) z)
        deep k a b (no q) = let z : leaf ≡ k = omega arith in omega (arith, ap (depthAt p) z)

    alike : Exchanged p p leaf (suc leaf) (suc (suc leaf))
    alike = record {
      same_length = refl;
      before = λ k _. refl;
      to_back = λ k m a b q. let y : k ≡ leaf = omega arith in let z : m ≡ suc leaf = omega arith in rw (y, z) (sym e);
      to_front = λ k m a b q. let y : k ≡ suc leaf = omega arith in let z : m ≡ leaf = omega arith in rw (y, z) e;
      behind = λ k _. refl;
    }

    next : TurnedTo p leaf p (leaf + (suc (suc leaf) - suc leaf))
    next = turned_exchanged tp (turned_itself tp (omega arith)) two alike (omega arith) (omega arith)

    here : placeAt next.same.tuple leaf ≡ suc leaf
    here = omega (arith, next.there)

    whole : SameByMap p r
    whole = record { size = same_length t.same; map = λ i. placeAt t.same.tuple (placeAt next.same.tuple i); occurs = occ_comp p p r (placeAt next.same.tuple) (placeAt t.same.tuple) (placing_occ next.same.matching) (placing_occ t.same.matching) }
