-- LAWS. The walks over the pairs: whether a remark was met, and the pairs moved to the front.
use mathlib.Core.Path.{◌≡◌, refl, sym, ap, ◌∙◌}
use mathlib.Core.Bool.{Bool, true, false}
use mathlib.Core.List.{List, [], ◌∷◌, ◌++◌, append_assoc, append-nil}
use Prim.Native.Nat.{ℕ, suc, ◌+◌, ◌-◌, ◌%◌, ◌≤◌, ◌<◌}
use native.Mathlib.Omega.{arith}
use native.Mathlib.Decide.{dec_lt}
use lib.ListN.{length, get_or, take, drop, set, length-append, length-take, length-set}
use lib.Dec.{eqb}
use lib.Seq.{take-suc, take_all, drop-cons, set_at, get_or-append-add, get_or-drop}
use borrow.Author.Tests.{eqb-true, eqb-false}
use Rattle.terms.specs.Tells.{Tells}
use Rattle.terms.specs.Fleet.{family}
use Rattle.terms.specs.LeftOut.{unless, remaining}
use Rattle.remarks.specs.TakenOut.{moved_to_front}
use Rattle.terms.specs.Remarks.{remark_family, Remark, remark?, without_remarks}
use Rattle.fleet.proofs.TellsLaws.{tells_if}
use Rattle.terms.proofs.RemainingLaws.{unless_same, unless_yes, unless_no, remaining_append}

pub told_equal : (a b : ℕ) → Tells (eqb a b) (a ≡ b)
told_equal a b = tells_if (eqb a b) (eqb-true a b) (λ e q. eqb-false a b e q)

-- A remark stands before position i.
pub record MetBefore (s : List ℕ) (i : ℕ) : Type 0 where
  pub at : ℕ
  pub before : at < i
  pub is_remark : Remark s at

pub record Met (s : List ℕ) (i : ℕ) (found : Bool) : Type 0 where
  pub within : i ≤ length s
  pub told : Tells found (MetBefore s i)

pub one_met : {s : List ℕ} {i : ℕ} {found : Bool} → Met s i found → i < length s → Remark s i → Met s (i + 1) true
one_met {i = i} m h r = record { within = omega arith; told = record { at = i; before = omega arith; is_remark = r } }

pub none_here : {s : List ℕ} {i : ℕ} (found : Bool) → Met s i found → i < length s → ¬ Remark s i → Met s (i + 1) found
none_here true m h n = record { within = omega arith; told = let t = m.told in record { at = t.at; before = omega (arith, t.before); is_remark = t.is_remark } }
none_here {s} {i} false m h n = record { within = omega arith; told = λ t. go t (dec_lt t.at i) }
  where
    go : (t : MetBefore s (i + 1)) → Dec (t.at < i) → ⊥
    go t (yes b) = m.told (record { at = t.at; before = b; is_remark = t.is_remark })
    go t (no b) = let e : t.at ≡ i = omega (arith, t.before) in n (rw e at t.is_remark)

-- one pair more
remaining_snoc : (s : List ℕ) {Out : ℕ → Type 0} (out? : (i : ℕ) → Dec (Out i)) (i : ℕ) → i < length s → remaining out? (take (suc i) s) ≡ remaining out? (take i s) ++ unless (out? i) (get_or s i 0) []
unfolding remaining
remaining_snoc s out? i h =
    ap (remaining out?) (take-suc s i 0 h)
    ∙ remaining_append (take i s) (get_or s i 0 ∷ []) out? (λ k. out? (i + k)) (λ k q. let e : length (take i s) + k ≡ i + k = omega (arith, length-take i s) in rw e ((λ o. o), (λ o. o)))
    ∙ ap (λ (r : List ℕ). remaining out? (take i s) ++ r) (unless_same (let e : i + 0 ≡ i = omega arith in rw e ((λ o. o), (λ o. o))) (out? (i + 0)) (out? i) (get_or s i 0) [])

-- The first i pairs of s were looked at, and those of them that stay, n in number, stand in front.
pub record MovedTo (s pairs : List ℕ) (i n : ℕ) : Type 0 where
  pub within : i ≤ length s
  pub few : n ≤ i
  pub count : n ≡ length (remaining (remark? s) (take i s))
  pub are : pairs ≡ remaining (remark? s) (take i s) ++ drop n s
  pub as_long : length pairs ≡ length s

pub none_moved : (s : List ℕ) → MovedTo s s 0 0
unfolding remaining
none_moved s = record { within = omega arith; few = omega arith; count = refl; are = refl; as_long = refl }

module _ {s pairs : List ℕ} {i n : ℕ} (m : MovedTo s pairs i n) (h : i < length s) where
  front : List ℕ
  front = remaining (remark? s) (take i s)

  -- the pair that is looked at is still the one of s
  pub same_pair : get_or pairs i 0 ≡ get_or s i 0
  unfolding front
  same_pair =
      let e : length front + (i - n) ≡ i = omega (arith, m.count, m.few) in
      let f : n + (i - n) ≡ i = omega (arith, m.few) in
      ap (λ (l : List ℕ). get_or l i 0) m.are
      ∙ ap (λ (k : ℕ). get_or (front ++ drop n s) k 0) (sym e)
      ∙ get_or-append-add front (drop n s) (i - n) 0
      ∙ get_or-drop n s (i - n) 0
      ∙ ap (λ (k : ℕ). get_or s k 0) f

  pub left_one : Remark s i → MovedTo s pairs (i + 1) n
  unfolding front
  left_one r =
      let q : i + 1 ≡ suc i = omega arith in
      let e : remaining (remark? s) (take (i + 1) s) ≡ front = ap (λ (k : ℕ). remaining (remark? s) (take k s)) q ∙ remaining_snoc s (remark? s) i h ∙ ap (λ (l : List ℕ). front ++ l) (unless_yes r (remark? s i) (get_or s i 0) []) ∙ append-nil front in
      record { within = omega arith; few = omega (arith, m.few); count = m.count ∙ ap length (sym e); are = m.are ∙ ap (λ (l : List ℕ). l ++ drop n s) (sym e); as_long = m.as_long }

  pub moved_one : ¬ Remark s i → MovedTo s (set pairs n (get_or s i 0)) (i + 1) (n + 1)
  unfolding front
  moved_one o =
      let q : i + 1 ≡ suc i = omega arith in
      let q' : n + 1 ≡ suc n = omega arith in
      let e : remaining (remark? s) (take (i + 1) s) ≡ front ++ get_or s i 0 ∷ [] = ap (λ (k : ℕ). remaining (remark? s) (take k s)) q ∙ remaining_snoc s (remark? s) i h ∙ ap (λ (l : List ℕ). front ++ l) (unless_no o (remark? s i) (get_or s i 0) []) in
      record {
        within = omega arith;
        few = omega (arith, m.few);
        count = omega (arith, m.count, ap length e, length-append front (get_or s i 0 ∷ []));
        are =
            ap (λ (l : List ℕ). set l n (get_or s i 0)) (m.are ∙ ap (λ (l : List ℕ). front ++ l) (drop-cons s n 0 (omega (arith, m.few))))
            ∙ set_at front (get_or s n 0) (drop (suc n) s) (get_or s i 0) n (sym m.count)
            ∙ sym (append_assoc front (get_or s i 0 ∷ []) (drop (suc n) s))
            ∙ ap (λ (l : List ℕ). l ++ drop (suc n) s) (sym e)
            ∙ ap (λ (k : ℕ). remaining (remark? s) (take (i + 1) s) ++ drop k s) (sym q');
        as_long = length-set pairs n (get_or s i 0) ∙ m.as_long;
      }

-- all were looked at
pub record TakenOut (s pairs : List ℕ) (n : ℕ) : Type 0 where
  pub count : n ≡ length (without_remarks s)
  pub are : pairs ≡ moved_to_front s

pub all_moved : {s pairs : List ℕ} {i n : ℕ} → MovedTo s pairs i n → length s ≤ i → TakenOut s pairs n
unfolding without_remarks
all_moved {s} {pairs} {i} {n} m h =
    let e : take i s ≡ s = take_all i s h in
    let c : n ≡ length (remaining (remark? s) s) = m.count ∙ ap (λ (l : List ℕ). length (remaining (remark? s) l)) e in
    record { count = c; are = m.are ∙ ap (λ (l : List ℕ). remaining (remark? s) l ++ drop n s) e ∙ ap (λ (k : ℕ). remaining (remark? s) s ++ drop k s) c }

-- one turn: the pair stays, or it goes
module _ {s pairs : List ℕ} {i n : ℕ} (m : MovedTo s pairs i n) (h : i < length s) where
  pub turn_stays : {pairs'' : List ℕ} {n'' : ℕ} → ¬ (family (get_or pairs i 0 % 1000) ≡ remark_family) → pairs'' ≡ set pairs n (get_or pairs i 0) → n'' ≡ n + 1 → MovedTo s pairs'' (i + 1) n''
  turn_stays o e f =
      let q = same_pair m h in
      rw (e, f, q) (moved_one m h (λ r. o (rw q r)))

  pub turn_goes : {pairs'' : List ℕ} {n'' : ℕ} → family (get_or pairs i 0 % 1000) ≡ remark_family → pairs'' ≡ pairs → n'' ≡ n → MovedTo s pairs'' (i + 1) n''
  turn_goes r e f = rw (e, f) (left_one m h (rw (same_pair m h) at r))
