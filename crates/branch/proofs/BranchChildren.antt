-- LAWS for `equal_children` and `leaves_only`: one for each way round the loop and each way out.
use mathlib.Core.Path.{◌≡◌, refl, sym, ap, ◌∙◌}
use mathlib.Core.Bool.{Bool, true, false}
use mathlib.Core.List.{List}
use Prim.Native.Nat.{ℕ, zero, suc, ◌+◌, ◌-◌, ◌/◌, ◌%◌, ◌≤◌, ◌<◌}
use native.Mathlib.Omega.{arith}
use native.Mathlib.Numerals.{add-one}
use lib.ListN.{length, get_or, take}
use lib.Dec.{eqb, ltb}
use borrow.Author.Tests.{eqb-true, eqb-false, ltb-true, ltb-false}
use Rattle.std.specs.List.{between, count_by}
use Rattle.std.proofs.lemmas.List.{take_all}
use Rattle.std.proofs.lemmas.List.Edits.{length-between, get_or-between}
use Rattle.std.proofs.lemmas.List.Sums.{count_by_more_yes, count_by_more_no}
use Rattle.terms.specs.Tells.{Tells}
use Rattle.terms.specs.Tree.{depthAt}
use Rattle.fleet.proofs.TellsLaws.{tells_if}
use Rattle.occurrence.proofs.SupportLaws.{counted_yes, counted_no}
use Rattle.rightmost.specs.Ends.{NewChild, LeavesOnly, child?, count_below, children}
use Rattle.rightmost.proofs.Counting.{none_count}
use Rattle.rightmost.proofs.LastPlaceLaws.{child_is_pair}
use Rattle.rightmost.proofs.TestLaws.{next_child, leaves_test}

-- the children of b that are the pair x, of the first n nodes
pub record EqualTo (p : List ℕ) (b x n equal : ℕ) : Type 0 where
  pub after : b < n
  pub within : n ≤ length p
  pub counted : equal ≡ count_below (child? p b (x % 1000)) n
  pub few : equal ≤ n

pub equal_start : {p : List ℕ} {x b : ℕ} → NewChild p x b → EqualTo p b x (b + 1) 0
equal_start {p} {x} {b} e = record {
  after = omega arith;
  within = omega (arith, e.on_branch.inside);
  counted = sym (none_count (child? p b (x % 1000)) (b + 1) (λ i h c. omega (arith, c.0.before)));
  few = omega arith;
}

equal_more : {p : List ℕ} {x b i equal : ℕ} → NewChild p x b → EqualTo p b x i equal → i < length p → get_or p i 0 ≡ x → EqualTo p b x (i + 1) (equal + 1)
unfolding count_below
equal_more {p} {x} {b} {i} {equal} e v h q = record {
  after = omega (arith, v.after);
  within = omega arith;
  counted = rw (add-one i) (omega (arith, v.counted, counted_yes ((child_is_pair e i h).1 (v.after, q)) (child? p b (x % 1000) i)));
  few = omega (arith, v.few);
}

equal_same : {p : List ℕ} {x b i equal : ℕ} → NewChild p x b → EqualTo p b x i equal → i < length p → ¬ (get_or p i 0 ≡ x) → EqualTo p b x (i + 1) equal
unfolding count_below
equal_same {p} {x} {b} {i} {equal} e v h q = record {
  after = omega (arith, v.after);
  within = omega arith;
  counted = rw (add-one i) (omega (arith, v.counted, counted_no (λ c. q ((child_is_pair e i h).0 c).1) (child? p b (x % 1000) i)));
  few = omega (arith, v.few);
}

-- those behind b that are the pair are its children with that label
abbrev equals_of : (p : List ℕ) (b x i : ℕ) → ℕ
equals_of p b x i = count_by (λ y. eqb y x) (take i (between (b + 1) (length p) p))

equal_to : {p : List ℕ} {x b : ℕ} → NewChild p x b → (i : ℕ) → b + 1 + i ≤ length p → EqualTo p b x (b + 1 + i) (equals_of p b x i)
equal_to {p} {x} {b} e zero h = let z : b + 1 + 0 ≡ b + 1 = omega arith in rw z (equal_start e)
equal_to {p} {x} {b} e (suc i) h = rw (← add-one i, next) (go (equal_to e i (omega arith)) (eqb (get_or (between (b + 1) (length p) p) i 0) x) refl)
  where
    inside : i < length (between (b + 1) (length p) p)
    inside = omega (arith, length-between p (b + 1) (length p))

    same_node : get_or (between (b + 1) (length p) p) i 0 ≡ get_or p (b + 1 + i) 0
    same_node = get_or-between p (b + 1) (length p) i 0 (omega arith)

    next : b + 1 + (i + 1) ≡ b + 1 + i + 1
    next = omega arith

    go : EqualTo p b x (b + 1 + i) (equals_of p b x i) → (same : Bool) → eqb (get_or (between (b + 1) (length p) p) i 0) x ≡ same → EqualTo p b x (b + 1 + i + 1) (equals_of p b x (i + 1))
    go before true q = rw (count_by_more_yes (λ y. eqb y x) (between (b + 1) (length p) p) i 0 inside q) (equal_more e before (omega arith) (sym same_node ∙ eqb-true _ _ q))
    go before false q = rw (count_by_more_no (λ y. eqb y x) (between (b + 1) (length p) p) i 0 inside q) (equal_same e before (omega arith) (λ z. eqb-false _ _ q (same_node ∙ z)))

pub equal_all : {p : List ℕ} {x b n : ℕ} → NewChild p x b → n ≡ count_by (λ y. eqb y x) (between (b + 1) (length p) p) → (n ≡ children p b (x % 1000)) × (n ≤ length p)
unfolding children
equal_all {p} {x} {b} {n} e c = (q ∙ rw to_end at all.counted, omega (arith, q, all.few, all.within))
  where
    long : length (between (b + 1) (length p) p) ≡ length p - (b + 1)
    long = length-between p (b + 1) (length p) (omega arith)

    to_end : b + 1 + (length p - (b + 1)) ≡ length p
    to_end = omega (arith, e.on_branch.inside)

    all : EqualTo p b x (b + 1 + (length p - (b + 1))) (equals_of p b x (length p - (b + 1)))
    all = equal_to e (length p - (b + 1)) (omega (arith, to_end))

    q : n ≡ equals_of p b x (length p - (b + 1))
    q = c ∙ ap (count_by (λ y. eqb y x)) (sym (take_all (length p - (b + 1)) (between (b + 1) (length p) p) (omega (arith, long))))

-- the pair stands there: whether the next node is deeper tells the rest
pub deeper_next : (m n : ℕ) {y x : ℕ} → y ≡ x → Tells (ltb m n) ((y ≡ x) × (m < n))
deeper_next m n e = tells_if (ltb m n) (λ q. (e, ltb-true m n q)) (λ q z. let less = z.1 in omega (arith, ltb-false m n q))

-- no child of b that is the pair x and one of the first n nodes has a child
pub record LeavesTo (p : List ℕ) (b x n : ℕ) : Type 0 where
  pub after : b < n
  pub within : n ≤ length p
  pub leaves : (k : ℕ) → b < k → k < n → suc k < length p → get_or p k 0 ≡ x → ¬ (x / 1000 < depthAt p (suc k))

pub leaves_no : {p : List ℕ} {x b i : ℕ} → NewChild p x b → LeavesTo p b x i → i + 1 < length p → (get_or p i 0 ≡ x) × (x / 1000 < depthAt p (i + 1)) → ¬ LeavesOnly p b (x % 1000)
leaves_no {p} {x} {b} {i} e v h (q, d) f = f i (suc i) ((child_is_pair e i (omega arith)).1 (v.after, q)) (next_child (omega arith) (omega (arith, deeper, e.is_tree.later_to_next i (omega arith), ap (λ (y : ℕ). y / 1000) q)))
  where
    deeper : x / 1000 < depthAt p (suc i)
    deeper = rw (add-one i) at d

pub leaves_yes : {p : List ℕ} {x b i : ℕ} → NewChild p x b → LeavesTo p b x i → length p ≤ i + 1 → LeavesOnly p b (x % 1000)
leaves_yes e v h = leaves_test e (λ k a l q. v.leaves k a (omega arith) l q)
