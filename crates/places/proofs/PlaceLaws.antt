-- LAWS. The lists of places, as they are written: one more at the end, the children of a node.
use mathlib.Core.Path.{◌≡◌, sym, ap, ◌∙◌}
use mathlib.Core.List.{List, [], ◌∷◌, ◌++◌}
use Prim.Native.Nat.{ℕ, zero, suc, ◌+◌, ◌-◌, ◌/◌, ◌%◌, ◌≤◌, ◌<◌}
use native.Mathlib.Omega.{arith}
use native.Mathlib.Decide.{dec_lt, ℕ_discrete}
use lib.ListN.{length, get_or, set, length-append}
use Rattle.terms.specs.Tree.{depthAt, SubtreeEnd}
use Rattle.terms.specs.Fleet.{most_nodes}
use Rattle.occurrence.proofs.SupportLaws.{counted_yes}
use Rattle.matching.proofs.ScanLaws.{ended}
use Rattle.rightmost.specs.Ends.{IsChild, child?, children, count_below}
use Rattle.rightmost.specs.PlaceList.{ListedTo}
use Rattle.rightmost.proofs.Counting.{none_count, count_further}
use Rattle.rightmost.proofs.ListedLaws.{listed_none, listed_further, listed_more, listed_rising}
use Rattle.groups.specs.Putting.{PutBehind}
use Rattle.groups.proofs.PutLaws.{behind_none, behind_more}
use Rattle.places.specs.PlaceSteps.{ChildrenInput, ChildrenPut}

-- CHILDREN. The subtree of a node below d ends no later than that of d, and below the node there is no child of d
below_within : {s : List ℕ} {d stop c e : ℕ} → SubtreeEnd s d stop → d < c → c < stop → SubtreeEnd s c e → e ≤ stop
below_within {stop = stop} {c} {e} t a h u = go (dec_lt stop e)
  where
    go : Dec (stop < e) → e ≤ stop
    go (yes k) = absurd (omega (arith, u.deeper stop h k, t.deeper c a h, t.stop (omega (arith, u.within))))
    go (no k) = omega arith

below_none : {s : List ℕ} {d stop c e l : ℕ} → SubtreeEnd s d stop → d < c → c < stop → SubtreeEnd s c e → (w : ℕ) → c < w → w < e → ¬ IsChild s d l w
below_none {c = c} t a h u w m n k = omega (arith, u.deeper w m n, t.deeper c a h, k.0.one_deeper)

pub count_rises : {C : ℕ → Type 0} (d : (i : ℕ) → Dec (C i)) (n k : ℕ) → count_below d n ≤ count_below d (n + k)
unfolding count_below
count_rises d n zero = let e : n + 0 ≡ n = omega arith in rw e (omega arith)
count_rises d n (suc k) = let e : n + suc k ≡ suc (n + k) = omega arith in rw e (omega (arith, count_rises d n k))

count_one : {C : ℕ → Type 0} (d : (i : ℕ) → Dec (C i)) (n : ℕ) → C n → count_below d (suc n) ≡ suc (count_below d n)
unfolding count_below
count_one d n c = omega (arith, counted_yes c (d n))

pub record ChildrenPutTo (fleet sizes : List ℕ) (d pair : ℕ) (list₀ : List ℕ) (len stop : ℕ) (list : List ℕ) (end next : ℕ) : Type 0 where
  pub input : ChildrenInput fleet sizes d pair list₀ len
  pub stops : SubtreeEnd fleet d stop
  pub after : d < next
  pub within : next ≤ stop
  pub kids : List ℕ
  pub listed : ListedTo (IsChild fleet d (pair % 1000)) next kids
  pub many : length kids ≡ count_below (child? fleet d (pair % 1000)) next
  pub behind : PutBehind list₀ len kids list end

pub put_start : {fleet sizes : List ℕ} {d pair : ℕ} {list : List ℕ} {len : ℕ} → ChildrenInput fleet sizes d pair list len → ChildrenPutTo fleet sizes d pair list len (d + 1 + get_or sizes d 0) list len (d + 1)
put_start {fleet} {sizes} {d} {pair} {list} {len} i = record {
  input = i;
  stops = stops;
  after = omega arith;
  within = omega arith;
  kids = [];
  listed = listed_none (d + 1) none;
  many = sym (none_count (child? fleet d (pair % 1000)) (d + 1) none);
  behind = behind_none list len;
}
  where
    stops : SubtreeEnd fleet d (d + 1 + get_or sizes d 0)
    stops = i.child.has_sizes.each d i.child.inside

    none : (w : ℕ) → w < d + 1 → ¬ IsChild fleet d (pair % 1000) w
    none w h c = omega (arith, c.0.before)

module _ {fleet sizes : List ℕ} {d pair : ℕ} {list₀ : List ℕ} {len stop : ℕ} {list : List ℕ} {end next : ℕ} (r : ChildrenPutTo fleet sizes d pair list₀ len stop list end next) where
  abbrev label : ℕ
  label = pair % 1000

  pub child_inside : next < stop → next < length fleet
  child_inside h = omega (arith, r.stops.within)

  ends : next < stop → SubtreeEnd fleet next (next + (1 + get_or sizes next 0))
  ends h = let e : next + 1 + get_or sizes next 0 ≡ next + (1 + get_or sizes next 0) = omega arith in rw e at (r.input.child.has_sizes.each next (child_inside h))

  is_child : next < stop → get_or fleet next 0 ≡ pair → IsChild fleet d label next
  is_child h e = (record { before = r.after; inside = child_inside h; one_deeper = ap (λ (y : ℕ). y / 1000) e ∙ r.input.child.one_deeper; between = λ k a b. r.stops.deeper k a (omega arith) }, ap (λ (y : ℕ). y % 1000) e)

  -- the child is put: there is room
  counts : next < stop → get_or fleet next 0 ≡ pair → count_below (child? fleet d label) next < children fleet d label
  unfolding children
  counts h e =
      let z : suc next + (length fleet - suc next) ≡ length fleet = omega (arith, child_inside h) in
      let m : count_below (child? fleet d label) (suc next) ≤ count_below (child? fleet d label) (length fleet) = rw z at (count_rises (child? fleet d label) (suc next) (length fleet - suc next)) in
      omega (arith, m, count_one (child? fleet d label) next (is_child h e))

  pub child_end : next < stop → get_or fleet next 0 ≡ pair → end < most_nodes
  child_end h e = omega (arith, r.behind.as_many, r.many, counts h e, r.input.few)

  pub child_room : next < stop → get_or fleet next 0 ≡ pair → end < length list
  child_room h e = omega (arith, r.behind.same_length, child_end h e, r.input.room)

  -- on to the node e, before which there is no child but this one
  module _ (h : next < stop) {e : ℕ} (after : next < e) (within : e ≤ stop) (none : (w : ℕ) → next < w → w < e → ¬ IsChild fleet d label w) where
    put_to : get_or fleet next 0 ≡ pair → ChildrenPutTo fleet sizes d pair list₀ len stop (set list end next) (end + 1) e
    put_to q = record {
      input = r.input;
      stops = r.stops;
      after = omega (arith, r.after);
      within = within;
      kids = r.kids ++ next ∷ [];
      listed = listed_further e (omega arith) (λ w a b. none w (omega arith) b) (listed_more (is_child h q) r.listed);
      many = length-append r.kids (next ∷ []) ∙ omega (arith, r.many, count_one (child? fleet d label) next (is_child h q), passed);
      behind = behind_more next (omega (arith, child_room h q, r.behind.same_length)) r.behind;
    }
      where
        passed : count_below (child? fleet d label) e ≡ count_below (child? fleet d label) (suc next)
        passed = let z : suc next + (e - suc next) ≡ e = omega arith in rw z at (count_further (child? fleet d label) (suc next) (e - suc next) (λ w a b. none w (omega arith) (omega arith)))

    passed_to : ¬ (get_or fleet next 0 ≡ pair) → ChildrenPutTo fleet sizes d pair list₀ len stop list end e
    passed_to n = record {
      input = r.input;
      stops = r.stops;
      after = omega (arith, r.after);
      within = within;
      kids = r.kids;
      listed = listed_further e (omega arith) none_at r.listed;
      many = r.many ∙ sym passed;
      behind = r.behind;
    }
      where
        none_at : (w : ℕ) → next ≤ w → w < e → ¬ IsChild fleet d label w
        none_at w a b c = go (ℕ_discrete w next)
          where
            go : Dec (w ≡ next) → ⊥
            go (yes q) = n (omega (arith, ap (λ (k : ℕ). get_or fleet k 0) q, c.0.one_deeper, c.1, r.input.child.one_deeper))
            go (no q) = none w (omega arith) b c

        passed : count_below (child? fleet d label) e ≡ count_below (child? fleet d label) next
        passed = let z : next + (e - next) ≡ e = omega arith in rw z at (count_further (child? fleet d label) next (e - next) (λ w a b. none_at w a (omega arith)))

  -- to the next child
  pub child_put : next < stop → get_or fleet next 0 ≡ pair → ChildrenPutTo fleet sizes d pair list₀ len stop (set list end next) (end + 1) (next + (1 + get_or sizes next 0))
  child_put h = put_to h (omega arith) (below_within r.stops r.after h (ends h)) (below_none r.stops r.after h (ends h))

  pub child_passed : next < stop → ¬ (get_or fleet next 0 ≡ pair) → ChildrenPutTo fleet sizes d pair list₀ len stop list end (next + (1 + get_or sizes next 0))
  child_passed h = passed_to h (omega arith) (below_within r.stops r.after h (ends h)) (below_none r.stops r.after h (ends h))

  -- to the next node
  pub scan_put : next < stop → get_or fleet next 0 ≡ pair → ChildrenPutTo fleet sizes d pair list₀ len stop (set list end next) (end + 1) (next + 1)
  scan_put h = put_to h (omega arith) (omega arith) (λ w a b. absurd (omega arith))

  pub scan_passed : next < stop → ¬ (get_or fleet next 0 ≡ pair) → ChildrenPutTo fleet sizes d pair list₀ len stop list end (next + 1)
  scan_passed h = passed_to h (omega arith) (omega arith) (λ w a b. absurd (omega arith))

  pub put_end : stop ≤ next → ChildrenPut fleet d label list₀ len list end
  unfolding children
  put_end h = record { kids = r.kids; all = listed_rising (omega arith) whole; many = r.many ∙ sym as_many; behind = r.behind }
    where
      none : (w : ℕ) → next ≤ w → ¬ IsChild fleet d label w
      none w a c = go (dec_lt next (length fleet))
        where
          same : next ≡ stop
          same = omega (arith, r.within)

          go : Dec (next < length fleet) → ⊥
          go (yes k) = omega (arith, ended fleet d next w r.after (omega (arith, r.stops.stop (omega arith), ap (depthAt fleet) same)) c.0)
          go (no k) = omega (arith, c.0.inside)

      in_fleet : next ≤ length fleet
      in_fleet = omega (arith, r.within, r.stops.within)

      whole : ListedTo (IsChild fleet d label) (length fleet) r.kids
      whole = listed_further (length fleet) in_fleet (λ w a b. none w a) r.listed

      as_many : count_below (child? fleet d label) (length fleet) ≡ count_below (child? fleet d label) next
      as_many = let z : next + (length fleet - next) ≡ length fleet = omega (arith, in_fleet) in rw z at (count_further (child? fleet d label) next (length fleet - next) (λ w a b. none w a))
