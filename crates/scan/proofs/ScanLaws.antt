-- LAWS. The scan of the counts for the next pair: by groups, then one by one.
use mathlib.Core.Path.{◌≡◌, sym, ap}
use mathlib.Core.List.{List, [], ◌∷◌, ◌++◌}
use Prim.Native.Nat.{ℕ, ◌+◌, ◌-◌, ◌/◌, ◌≤◌, ◌<◌}
use native.Mathlib.Omega.{arith}
use native.Mathlib.Decide.{dec_lt, ℕ_discrete}
use lib.ListN.{length, get_or, take, drop, length-append, length-drop, get_or-append}
use lib.Seq.{length-take-le, get_or-take, get_or-append_seam}
use Rattle.std.proofs.lemmas.List.{get_or-drop}
use Rattle.terms.specs.Tree.{IsTree}
use Rattle.terms.proofs.BeginningLaws.{next_pair}
use Rattle.terms.specs.Form.{InForm}
use Rattle.occurrence.specs.Support.{whole_support}
use Rattle.rightmost.specs.Counts.{top_of}
use Rattle.rightmost.proofs.CountLaws.{frequent_counted, counted_frequent}
use Rattle.scan.specs.Scan.{KnownCounts, LikelyFrom, Frequent, Extends}

-- a bound of the counts of a part, as the code cuts it out, is one of these counts among all
pub part_length : (counts : List ℕ) (from : ℕ) → from + 64 ≤ length counts → length (take (from + 64 - from) (drop from counts)) ≡ 64
part_length counts from h = omega (arith, length-drop from counts, length-take-le (from + 64 - from) (drop from counts) (omega (arith, length-drop from counts)))

pub most_of_part : (counts : List ℕ) (from : ℕ) {most : ℕ} → ((k : ℕ) → k < 64 → get_or (take (from + 64 - from) (drop from counts)) k 0 ≤ most) → (z : ℕ) → from ≤ z → z < from + 64 → get_or counts z 0 ≤ most
most_of_part counts from f z a b =
    let e : from + (z - from) ≡ z = omega arith in
    rw (get_or-take (from + 64 - from) (drop from counts) (z - from) 0 (omega arith), get_or-drop from counts (z - from) 0, e) at (f (z - from) (omega arith))

-- no count before x reaches the threshold
pub record UnlikelyTo (counts : List ℕ) (from end threshold x : ℕ) : Type 0 where
  pub from_on : from ≤ x
  pub to_end : x ≤ end
  pub unlikely : (z : ℕ) → from ≤ z → z < x → get_or counts z 0 < threshold

pub unlikely_start : (counts : List ℕ) (from end threshold : ℕ) → from ≤ end → UnlikelyTo counts from end threshold from
unlikely_start counts from end threshold h = record { from_on = omega arith; to_end = h; unlikely = λ z a b. absurd (omega arith) }

pub unlikely_group : {counts : List ℕ} {from end threshold x most : ℕ} → UnlikelyTo counts from end threshold x → 64 ≤ end - x → ((z : ℕ) → x ≤ z → z < x + 64 → get_or counts z 0 ≤ most) → most < threshold
    → UnlikelyTo counts from end threshold (x + 64)
unlikely_group {counts} {from} {end} {threshold} {x} u h f l = record { from_on = omega (arith, u.from_on); to_end = omega (arith, u.to_end); unlikely = λ z p q. go z p q (dec_lt z x) }
  where
    go : (z : ℕ) → from ≤ z → z < x + 64 → Dec (z < x) → get_or counts z 0 < threshold
    go z p q (yes k) = u.unlikely z p k
    go z p q (no k) = omega (arith, f z (omega arith) q)

pub unlikely_pair : {counts : List ℕ} {from end threshold x : ℕ} → UnlikelyTo counts from end threshold x → x < end → get_or counts x 0 < threshold → UnlikelyTo counts from end threshold (x + 1)
unlikely_pair {counts} {from} {end} {threshold} {x} u h k = record { from_on = omega (arith, u.from_on); to_end = omega arith; unlikely = λ z p q. go z p q (ℕ_discrete z x) }
  where
    go : (z : ℕ) → from ≤ z → z < x + 1 → Dec (z ≡ x) → get_or counts z 0 < threshold
    go z p q (yes e) = rw e k
    go z p q (no n) = u.unlikely z p (omega arith)

pub likely_found : {counts : List ℕ} {from end threshold x : ℕ} → UnlikelyTo counts from end threshold x → threshold ≤ get_or counts x 0 → LikelyFrom counts from end threshold x
likely_found u h = record { from_on = u.from_on; to_end = u.to_end; likely = λ _. h; unlikely = u.unlikely }

pub likely_none : {counts : List ℕ} {from end threshold x : ℕ} → UnlikelyTo counts from end threshold x → end ≤ x → LikelyFrom counts from end threshold end
likely_none u h = record { from_on = omega (arith, u.from_on, u.to_end); to_end = omega arith; likely = λ k. absurd (omega arith); unlikely = λ z a b. u.unlikely z a (omega arith) }

-- what is found behind x is the first, as none before x is
pub likely_later : {counts : List ℕ} {from end threshold x r : ℕ} → UnlikelyTo counts from end threshold x → LikelyFrom counts x end threshold r → LikelyFrom counts from end threshold r
likely_later {counts} {from} {end} {threshold} {x} {r} u l = record { from_on = omega (arith, u.from_on, l.from_on); to_end = l.to_end; likely = l.likely; unlikely = λ z p q. go z p q (dec_lt z x) }
  where
    go : (z : ℕ) → from ≤ z → z < r → Dec (z < x) → get_or counts z 0 < threshold
    go z p q (yes k) = u.unlikely z p k
    go z p q (no k) = l.unlikely z (omega arith) q

-- NO PAIR FROM THE TOP ON makes a tree
top_of_none : (p : List ℕ) (x : ℕ) → top_of p ≤ x → ¬ IsTree (p ++ x ∷ [])
top_of_none [] x h t = omega (arith, t.root_depth)
top_of_none (y ∷ p) x h t = omega (arith, (next_pair (y ∷ p) x (omega arith) t).2, ap (λ (z : ℕ). z / 1000) (get_or-append (y ∷ p) (x ∷ []) 0 (length (y ∷ p) - 1) (omega arith)))

-- `scan`
pub front_length : (n : ℕ) (xs : List ℕ) → n ≤ length xs → n ≡ length (take n xs)
front_length n xs h = sym (length-take-le n xs h)

pub none_above : {fleet nodes counts : List ℕ} {n low end threshold : ℕ} → KnownCounts fleet nodes n threshold counts → end ≡ top_of (take n nodes) → end ≤ low + 1 → (z : ℕ) → low < z → ¬ Frequent fleet threshold (take n nodes ++ z ∷ [])
none_above {nodes = nodes} {n = n} i e h z k f = top_of_none (take n nodes) z (omega arith) f.in_form.is_tree

module _ {fleet nodes counts : List ℕ} {n end threshold x : ℕ} (low : ℕ) (i : KnownCounts fleet nodes n threshold counts) (e : end ≡ top_of (take n nodes)) (l : LikelyFrom counts (low + 1) end threshold x) where
  none_between : (z : ℕ) → low < z → z < x → ¬ Frequent fleet threshold (take n nodes ++ z ∷ [])
  none_between z h k f = omega (arith, l.unlikely z (omega arith) k, frequent_counted z i.are f.in_form f.enough)

  pub none_likely : x ≡ end → (z : ℕ) → low < z → ¬ Frequent fleet threshold (take n nodes ++ z ∷ [])
  none_likely d z h = go (dec_lt z x)
    where
      go : Dec (z < x) → ¬ Frequent fleet threshold (take n nodes ++ z ∷ [])
      go (yes k) = none_between z h k
      go (no k) = λ f. top_of_none (take n nodes) z (omega arith) f.in_form.is_tree

  module _ (d : ¬ (x ≡ end)) where
    pub likely_inside : x < end
    likely_inside = omega (arith, l.to_end)

    tells : InForm (take n nodes ++ x ∷ []) × (threshold ≤ whole_support fleet (take n nodes ++ x ∷ []))
    tells = counted_frequent x i.are (omega (arith, likely_inside)) i.from_1 (l.likely likely_inside)

    pub likely_small : x < 16000
    likely_small = omega (arith, (tells.0.is_tree.pairs (length (take n nodes)) (omega (arith, length-append (take n nodes) (x ∷ [])))).depth_to_15, ap (λ (y : ℕ). y / 1000) (get_or-append_seam (take n nodes) x [] 0))

    pub least_likely : Extends fleet threshold (take n nodes) low x (get_or counts x 0)
    least_likely = record {
      above = omega (arith, l.from_on);
      frequent = record { in_form = tells.0; enough = tells.1 };
      support_is = i.are.forms x tells.0;
      least = none_between;
    }
