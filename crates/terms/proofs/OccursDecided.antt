-- LAWS. Occurrence and the heaviest placing decided by a search that places one node after the other and stops where that cannot be: it computes.
use mathlib.Core.Path.{◌≡◌, refl, sym, ap, ◌∙◌}
use mathlib.Core.List.{List, [], ◌∷◌, ◌++◌}
use mathlib.Core.Logic.{◌↔◌}
use Prim.Native.Nat.{ℕ, zero, suc, ◌-◌, ◌+◌, ◌≤◌, ◌<◌}
use native.Mathlib.Omega.{arith}
use native.Mathlib.Decide.{dec_lt, dec_le, ℕ_discrete}
use lib.ListN.{length, get_or, take, length-append}
use lib.Seq.{take-suc, take-length, take_all, get_or-take, length-take-le, get_or-append_seam}
use Rattle.terms.specs.Order.{Lighter, shorter, differ, agree}
use Rattle.terms.specs.Matching.{placeAt}
use Rattle.terms.specs.Placing.{Placing, Occurs, HeaviestPlacing}
use Rattle.terms.specs.Tree.{label_at, IsParent}
use Rattle.terms.proofs.Decide.{both?, map?, not?, implies?, iff?, all_below?, some_below?}
use Rattle.terms.proofs.TreeLaws.{parent?}
use Rattle.terms.proofs.MatchingLaws.{placing?}

-- the first nodes of the pattern are placed as a placing asks
pub record Partly (p t m : List ℕ) : Type 0 where
  pub from_1 : (i : ℕ) → i < length m → 1 ≤ get_or m i 0
  pub to_last : (i : ℕ) → i < length m → get_or m i 0 ≤ length t
  pub different : (i : ℕ) → i < length m → (j : ℕ) → j < length m → get_or m i 0 ≡ get_or m j 0 → i ≡ j
  pub labels : (i : ℕ) → i < length m → label_at p i ≡ label_at t (placeAt m i)
  pub parents : (i : ℕ) → i < length m → (j : ℕ) → j < length m → IsParent p i j ↔ IsParent t (placeAt m i) (placeAt m j)

-- a placing that begins with m
pub record BeginsPlacing (p t m : List ℕ) : Type 0 where
  pub tuple : List ℕ
  pub placing : Placing p t tuple
  pub begins : take (length m) tuple ≡ m

pub begins_partly : {p t m : List ℕ} → length m ≤ length p → BeginsPlacing p t m → Partly p t m
begins_partly {p} {t} {m} h x = record {
  from_1 = λ i b. rw (← at i b) (o.from_1 i (omega arith));
  to_last = λ i b. rw (← at i b) (o.to_last i (omega arith));
  different = λ i b j c e. o.different i j (omega arith) (omega arith) (at i b ∙ e ∙ sym (at j c));
  labels = λ i b. o.labels i (omega arith) ∙ ap (λ (z : ℕ). label_at t (z - 1)) (at i b);
  parents = λ i b j c. rw (← at i b, ← at j c) (o.parents i j (omega arith) (omega arith));
}
  where
    o : Placing p t x.tuple
    o = x.placing

    at : (i : ℕ) → i < length m → get_or x.tuple i 0 ≡ get_or m i 0
    at i b = sym (get_or-take (length m) x.tuple i 0 b) ∙ ap (λ (z : List ℕ). get_or z i 0) x.begins

unfoldable pub partly? : (p t m : List ℕ) → Dec (Partly p t m)
unfolding map? both? all_below? implies? iff? parent? dec_le ℕ_discrete
partly? p t m = map?
    (λ h. record { from_1 = h.0; to_last = h.1.0; labels = h.1.1.0; different = h.1.1.1.0; parents = h.1.1.1.1 })
    (λ o. (o.from_1, (o.to_last, (o.labels, (o.different, o.parents)))))
    (both? (all_below? (λ i. 1 ≤ get_or m i 0) (λ i. dec_le 1 (get_or m i 0)) (length m)) (both? (all_below? (λ i. get_or m i 0 ≤ length t) (λ i. dec_le (get_or m i 0) (length t)) (length m))
    (both? (all_below? (λ i. label_at p i ≡ label_at t (placeAt m i)) (λ i. ℕ_discrete (label_at p i) (label_at t (placeAt m i))) (length m))
    (both? (all_below? (λ i. (j : ℕ) → j < length m → get_or m i 0 ≡ get_or m j 0 → i ≡ j) (λ i. all_below? (λ j. get_or m i 0 ≡ get_or m j 0 → i ≡ j) (λ j. implies? (ℕ_discrete (get_or m i 0) (get_or m j 0)) (ℕ_discrete i j)) (length m)) (length m))
    (all_below? (λ i. (j : ℕ) → j < length m → IsParent p i j ↔ IsParent t (placeAt m i) (placeAt m j)) (λ i. all_below? (λ j. IsParent p i j ↔ IsParent t (placeAt m i) (placeAt m j)) (λ j. iff? (parent? p i j) (parent? t (placeAt m i) (placeAt m j))) (length m)) (length m))))))

pub one_more : (m : List ℕ) (v : ℕ) → length (m ++ v ∷ []) ≡ suc (length m)
one_more m v = omega (arith, length-append m (v ∷ []))

pub beginning : (m n : List ℕ) (v : ℕ) → take (length (m ++ v ∷ [])) n ≡ m ++ v ∷ [] → take (length m) n ≡ m
beginning [] n v e = refl
beginning (x ∷ m) [] v e = absurd (omega (arith, ap length e))
beginning (x ∷ m) (y ∷ n) v e = cc (ap (λ (z : List ℕ). get_or z 0 0) e, beginning m n v (ap tail e))
  where
    tail : List ℕ → List ℕ
    tail [] = []
    tail (z ∷ s) = s

last_step : (p t m : List ℕ) → length m + 0 ≡ length p → Dec (Placing p t m) → Dec (BeginsPlacing p t m)
last_step p t m e (yes o) = yes (record { tuple = m; placing = o; begins = take-length m })
last_step p t m e (no h) = no (λ x. h (rw (same x) at x.placing))
  where
    same : (x : BeginsPlacing p t m) → x.tuple ≡ m
    same x = sym (take_all (length m) x.tuple (omega (arith, x.placing.each_placed))) ∙ x.begins

next_step : (p t m : List ℕ) (k : ℕ) → length m + suc k ≡ length p → Dec ((v : ℕ) × (v < suc (length t)) × BeginsPlacing p t (m ++ v ∷ [])) → Dec (BeginsPlacing p t m)
next_step p t m k e (yes z) = let x = z.2 in yes (record { tuple = x.tuple; placing = x.placing; begins = beginning m x.tuple z.0 x.begins })
next_step p t m k e (no h) = no (λ x. h (get_or x.tuple (length m) 0, bound x, record { tuple = x.tuple; placing = x.placing; begins = begins x }))
  where
    bound : (x : BeginsPlacing p t m) → get_or x.tuple (length m) 0 < suc (length t)
    bound x = omega (arith, x.placing.to_last (length m) (omega arith))

    begins : (x : BeginsPlacing p t m) → take (length (m ++ get_or x.tuple (length m) 0 ∷ [])) x.tuple ≡ m ++ get_or x.tuple (length m) 0 ∷ []
    begins x = rw (one_more m (get_or x.tuple (length m) 0)) (take-suc x.tuple (length m) 0 (omega (arith, x.placing.each_placed)) ∙ ap (λ (z : List ℕ). z ++ get_or x.tuple (length m) 0 ∷ []) x.begins)

-- k nodes are left to place. (`elim`, and not a helper: what stands in its cases is not computed where it is not needed.)
unfoldable pub begins_placing? : (p t : List ℕ) (k : ℕ) (m : List ℕ) → length m + k ≡ length p → Dec (BeginsPlacing p t m)
unfolding placing? partly? some_below? last_step next_step dec_lt
begins_placing? p t zero m e = last_step p t m e (placing? p t m)
begins_placing? p t (suc k) m e = elim (partly? p t m) [
  | yes h ↦ next_step p t m k e (some_below? (λ v. BeginsPlacing p t (m ++ v ∷ [])) (λ v. begins_placing? p t k (m ++ v ∷ []) (omega (arith, one_more m v))) (suc (length t)))
  | no h ↦ no (λ x. h (begins_partly (omega arith) x))
]

unfoldable pub occurs? : (p t : List ℕ) → Dec (Occurs p t)
unfolding begins_placing? map?
occurs? p t = map? (λ x. record { tuple = x.tuple; placing = x.placing }) (λ o. record { tuple = o.tuple; placing = o.placing; begins = refl }) (begins_placing? p t (length p) [] (omega arith))

-- the first difference of two equally long sequences
pub record First (m n : List ℕ) : Type 0 where
  pub place : ℕ
  pub inside : place < length m
  pub before : (i : ℕ) → i < place → get_or m i 0 ≡ get_or n i 0
  pub lower : get_or m place 0 < get_or n place 0

pub first_difference : {m n : List ℕ} → Lighter m n → length m ≡ length n → First m n
first_difference shorter e = absurd (omega arith)
first_difference (differ h) e = record { place = 0; inside = omega arith; before = λ i b. absurd (omega arith); lower = h }
first_difference (agree {x = x} {y = y} {u = u} {v = v} q h) e = go (first_difference h (omega arith))
  where
    go : First u v → First (x ∷ u) (y ∷ v)
    go z = record { place = suc z.place; inside = omega (arith, z.inside); before = at; lower = z.lower }
      where
        at : (i : ℕ) → i < suc z.place → get_or (x ∷ u) i 0 ≡ get_or (y ∷ v) i 0
        at zero b = q
        at (suc i) b = z.before i (omega arith)

pub lighter_by_first : (m n : List ℕ) (i : ℕ) → i < length m → i < length n → ((j : ℕ) → j < i → get_or m j 0 ≡ get_or n j 0) → get_or m i 0 < get_or n i 0 → Lighter m n
lighter_by_first [] n i h k f l = absurd (omega arith)
lighter_by_first (x ∷ m) [] i h k f l = absurd (omega arith)
lighter_by_first (x ∷ m) (y ∷ n) zero h k f l = differ l
lighter_by_first (x ∷ m) (y ∷ n) (suc i) h k f l = agree (f 0 (omega arith)) (lighter_by_first m n i (omega arith) (omega arith) (λ j b. f (suc j) (omega arith)) l)

take_like : (i : ℕ) (m n : List ℕ) → i ≤ length m → length m ≡ length n → ((j : ℕ) → j < i → get_or m j 0 ≡ get_or n j 0) → take i n ≡ take i m
take_like zero m n h e f = refl
take_like (suc i) [] n h e f = absurd (omega arith)
take_like (suc i) (x ∷ m) [] h e f = absurd (omega arith)
take_like (suc i) (x ∷ m) (y ∷ n) h e f = cc (f 0 (omega arith), take_like i m n (omega arith) (omega arith) (λ j b. f (suc j) (omega arith)))

-- a heavier placing turns off from m at some i to a larger number
abbrev pub NoneTurnsOff : List ℕ → List ℕ → List ℕ → Type 0
NoneTurnsOff p t m = (i : ℕ) → i < length p → (v : ℕ) → v < suc (length t) → get_or m i 0 < v → ¬ BeginsPlacing p t (take i m ++ v ∷ [])

pub turns_heaviest : {p t m : List ℕ} → Placing p t m → NoneTurnsOff p t m → HeaviestPlacing p t m
turns_heaviest {p} {t} {m} o f = record { placing = o; none_heavier = none }
  where
    none : (n : List ℕ) → Placing p t n → ¬ Lighter m n
    none n u h = f i in_p (get_or n i 0) (omega (arith, u.to_last i in_p)) z.lower (record { tuple = n; placing = u; begins = begins })
      where
        len : length m ≡ length n
        len = o.each_placed ∙ sym u.each_placed

        z : First m n
        z = first_difference h len

        i : ℕ
        i = z.place

        in_p : i < length p
        in_p = omega (arith, z.inside, o.each_placed)

        begins : take (length (take i m ++ get_or n i 0 ∷ [])) n ≡ take i m ++ get_or n i 0 ∷ []
        begins =
            let a : length (take i m ++ get_or n i 0 ∷ []) ≡ suc i = one_more (take i m) (get_or n i 0) ∙ ap suc (length-take-le i m (omega (arith, z.inside))) in
            rw a (take-suc n i 0 (omega (arith, z.inside, len)) ∙ ap (λ (s : List ℕ). s ++ get_or n i 0 ∷ []) (take_like i m n (omega (arith, z.inside)) len z.before))

pub heaviest_turns : {p t m : List ℕ} → HeaviestPlacing p t m → NoneTurnsOff p t m
heaviest_turns {p} {t} {m} h i b v c l x = h.none_heavier n x.placing (lighter_by_first m n i (omega (arith, h.placing.each_placed)) (omega (arith, x.placing.each_placed)) like (rw (sym at) at l))
  where
    n : List ℕ
    n = x.tuple

    li : length (take i m) ≡ i
    li = length-take-le i m (omega (arith, h.placing.each_placed))

    long : length (take i m ++ v ∷ []) ≡ suc i
    long = one_more (take i m) v ∙ ap suc li

    whole : take (suc i) n ≡ take i m ++ v ∷ []
    whole = rw long at x.begins

    at : get_or n i 0 ≡ v
    at = sym (get_or-take (suc i) n i 0 (omega arith)) ∙ ap (λ (s : List ℕ). get_or s i 0) whole ∙ (rw li at (get_or-append_seam (take i m) v [] 0))

    like : (j : ℕ) → j < i → get_or m j 0 ≡ get_or n j 0
    like j q = sym (get_or-take i m j 0 q) ∙ ap (λ (s : List ℕ). get_or s j 0) (sym tk) ∙ get_or-take i n j 0 q
      where
        tk : take i n ≡ take i m
        tk = rw li at (beginning (take i m) n v x.begins)

pub too_long : (p t m : List ℕ) → ¬ (length m ≤ length p) → BeginsPlacing p t m → ⊥
too_long p t m h x = omega (arith, ap length x.begins, ap length (take_all (length m) x.tuple (omega (arith, x.placing.each_placed))), x.placing.each_placed)

unfoldable pub begins_any? : (p t m : List ℕ) → Dec (BeginsPlacing p t m)
unfolding begins_placing? dec_le
begins_any? p t m = elim (dec_le (length m) (length p)) [
  | yes h ↦ begins_placing? p t (length p - length m) m (omega arith)
  | no h ↦ no (λ x. too_long p t m h x)
]

unfoldable pub heaviest? : (p t m : List ℕ) → Dec (HeaviestPlacing p t m)
unfolding map? both? not? implies? all_below? placing? begins_any? dec_lt
heaviest? p t m = map? (λ h. turns_heaviest h.0 h.1) (λ h. (h.placing, heaviest_turns h))
    (both? (placing? p t m)
    (all_below? (λ i. (v : ℕ) → v < suc (length t) → get_or m i 0 < v → ¬ BeginsPlacing p t (take i m ++ v ∷ []))
    (λ i. all_below? (λ v. get_or m i 0 < v → ¬ BeginsPlacing p t (take i m ++ v ∷ [])) (λ v. implies? (dec_lt (get_or m i 0) v) (not? (begins_any? p t (take i m ++ v ∷ [])))) (suc (length t))) (length p)))
