-- LAWS. Siblings from one position to another: parts of them, and trees in which only they were moved.
use mathlib.Core.Path.{◌≡◌, refl, sym, ap, ◌∙◌}
use mathlib.Core.List.{List}
use Prim.Native.Nat.{ℕ, ◌+◌, ◌-◌, ◌/◌, ◌≤◌, ◌<◌}
use native.Mathlib.Omega.{arith}
use native.Mathlib.Decide.{dec_lt}
use lib.ListN.{length}
use Rattle.terms.specs.Tree.{depthAt, IsTree, SubtreeEnd}
use Rattle.terms.proofs.MatchingLaws.{same_reflexive, same_transitive, same_length}
use Rattle.exchange.specs.Exchange.{Exchanged}
use Rattle.merging.specs.Merging.{Rearranged, Siblings, MovedWithin}
use Rattle.merging.proofs.ExchangeLaws.{TwoStretches, exchanged_tree, exchanged_same}

-- a subtree ends before a node that is no deeper
pub stops : {s : List ℕ} {k e p : ℕ} → SubtreeEnd s k e → k < p → depthAt s p ≤ depthAt s k → e ≤ p
stops {s} {k} {e} {p} y h d = go (dec_lt p e)
  where
    go : Dec (p < e) → e ≤ p
    go (yes z) = absurd (omega (arith, y.deeper p h z))
    go (no z) = omega arith

pub end_within : {s : List ℕ} {a b k e : ℕ} → Siblings s a b → a ≤ k → k < b → SubtreeEnd s k e → e ≤ b
end_within {s} {a} {b} {k} {e} r h q y = go (dec_lt b e)
  where
    go : Dec (b < e) → e ≤ b
    go (yes z) = absurd (omega (arith, y.deeper b q z, r.stop (omega (arith, y.within)), r.deep k h q))
    go (no z) = omega arith

module _ {s : List ℕ} {a m b : ℕ} (r : Siblings s a b) where
  pub first_part : a < m → m < b → depthAt s m ≡ depthAt s a → Siblings s a m
  first_part h q e = record { some = h; within = omega (arith, r.within); deep = λ k l n. r.deep k l (omega arith); stop = λ l. omega (arith, e) }

  pub second_part : a ≤ m → m < b → depthAt s m ≡ depthAt s a → Siblings s m b
  second_part h q e = record { some = q; within = r.within; deep = λ k l n. omega (arith, e, r.deep k (omega arith) n); stop = λ l. omega (arith, e, r.stop l) }

-- siblings, and further ones that follow them
pub both : {s : List ℕ} {a m b : ℕ} → Siblings s a m → Siblings s m b → depthAt s m ≡ depthAt s a → Siblings s a b
both {s} {a} {m} {b} p q e = record {
  some = omega (arith, p.some, q.some);
  within = q.within;
  deep = λ k l n. deep k l n (dec_lt k m);
  stop = λ l. omega (arith, e, q.stop l);
}
  where
    deep : (k : ℕ) → a ≤ k → k < b → Dec (k < m) → depthAt s a ≤ depthAt s k
    deep k l n (yes z) = p.deep k l z
    deep k l n (no z) = omega (arith, e, q.deep k (omega arith) n)

pub unmoved : {s : List ℕ} → IsTree s → Rearranged s s
unmoved t = record { is_tree = t; same = same_reflexive t }

pub rearranged_twice : {s t u : List ℕ} → IsTree s → Rearranged s t → Rearranged t u → Rearranged s u
rearranged_twice tree p q = record { is_tree = q.is_tree; same = same_transitive tree p.same q.same }

pub same_size : {s t : List ℕ} → Rearranged s t → length t ≡ length s
same_size p = sym (same_length p.same)

pub kept_none : {s : List ℕ} {a b : ℕ} → IsTree s → Siblings s a b → MovedWithin s s a b
kept_none t r = record { rearranged = unmoved t; before = λ k h. refl; behind = λ k h. refl; level = refl; siblings = r }

pub kept_twice : {s t u : List ℕ} {a b : ℕ} → IsTree s → MovedWithin s t a b → MovedWithin t u a b → MovedWithin s u a b
kept_twice tree p q = record {
  rearranged = rearranged_twice tree p.rearranged q.rearranged;
  before = λ k h. q.before k h ∙ p.before k h;
  behind = λ k h. q.behind k h ∙ p.behind k h;
  level = q.level ∙ p.level;
  siblings = q.siblings;
}

-- further siblings, of which none has moved
pub kept_on : {s t : List ℕ} {a m b : ℕ} → MovedWithin s t a m → Siblings t a b → m ≤ b → MovedWithin s t a b
kept_on p r h = record { rearranged = p.rearranged; before = p.before; behind = λ k l. p.behind k (omega arith); level = p.level; siblings = r }

-- what is moved among some of the siblings is moved among all
pub wider : {s t : List ℕ} {a b c d : ℕ} → Siblings s a b → a ≤ c → d ≤ b → MovedWithin s t c d → MovedWithin s t a b
wider {s} {t} {a} {b} {c} {d} r h q p = record {
  rearranged = p.rearranged;
  before = λ k l. p.before k (omega arith);
  behind = λ k l. p.behind k (omega arith);
  level = level (dec_lt a c);
  siblings = record {
    some = r.some;
    within = omega (arith, size, r.within);
    deep = λ k l n. deep k l n (dec_lt k c) (dec_lt k d);
    stop = λ l. omega (arith, level (dec_lt a c), depth_behind b q, r.stop (omega (arith, size)));
  };
}
  where
    size : length t ≡ length s
    size = same_size p.rearranged

    depth_before : (k : ℕ) → k < c → depthAt t k ≡ depthAt s k
    depth_before k l = ap (λ (n : ℕ). n / 1000) (p.before k l)

    depth_behind : (k : ℕ) → d ≤ k → depthAt t k ≡ depthAt s k
    depth_behind k l = ap (λ (n : ℕ). n / 1000) (p.behind k l)

    level : Dec (a < c) → depthAt t a ≡ depthAt s a
    level (yes z) = depth_before a z
    level (no z) = let e : a ≡ c = omega arith in rw e p.level

    deep : (k : ℕ) → a ≤ k → k < b → Dec (k < c) → Dec (k < d) → depthAt t a ≤ depthAt t k
    deep k l n (yes z) _ = omega (arith, level (dec_lt a c), depth_before k z, r.deep k l n)
    deep k l n (no z) (yes w) = omega (arith, level (dec_lt a c), p.level, p.siblings.deep k (omega arith) w, r.deep c h (omega (arith, p.siblings.some)))
    deep k l n (no z) (no w) = omega (arith, level (dec_lt a c), depth_behind k (omega arith), r.deep k l n)

-- two stretches of siblings exchanged
module _ {s t : List ℕ} {a m c : ℕ} (tree : IsTree s) (p : Siblings s a m) (q : Siblings s m c) (e : depthAt s m ≡ depthAt s a) (x : Exchanged s t a m c) where
  two : TwoStretches s a m c (depthAt s a)
  two = record {
    first = p.some;
    second = q.some;
    within = q.within;
    first_head = refl;
    second_head = e;
    deep = (both p q e).deep;
    stop = (both p q e).stop;
  }

  head : depthAt t a ≡ depthAt s a
  head = ap (λ (n : ℕ). n / 1000) (x.to_front m a (omega arith) q.some (omega arith)) ∙ e

  pub exchanged_kept : MovedWithin s t a c
  exchanged_kept = record {
    rearranged = record { is_tree = exchanged_tree s t a m c (depthAt s a) x two tree; same = exchanged_same s t a m c (depthAt s a) x two tree };
    before = x.before;
    behind = x.behind;
    level = head;
    siblings = record {
      some = omega (arith, p.some, q.some);
      within = omega (arith, x.same_length, q.within);
      deep = λ k h l. deep k h l (dec_lt (k + m) (a + c));
      stop = λ h. omega (arith, head, e, q.stop (omega (arith, x.same_length)), ap (λ (n : ℕ). n / 1000) (x.behind c (omega arith)));
    };
  }
    where
      deep : (k : ℕ) → a ≤ k → k < c → Dec (k + m < a + c) → depthAt t a ≤ depthAt t k
      deep k h l (yes z) = omega (arith, head, e, ap (λ (n : ℕ). n / 1000) (x.to_front (k + m - a) k (omega arith) (omega arith) (omega arith)), q.deep (k + m - a) (omega arith) (omega arith))
      deep k h l (no z) = omega (arith, head, ap (λ (n : ℕ). n / 1000) (x.to_back (k + m - c) k (omega arith) (omega arith) (omega arith)), p.deep (k + m - c) (omega arith) (omega arith))
