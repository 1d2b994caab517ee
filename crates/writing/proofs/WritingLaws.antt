-- LAWS. The writing, record by record: what one more pair adds, and how many bytes it has.
use mathlib.Core.Path.{◌≡◌, refl, sym, ap, ◌∙◌}
use mathlib.Core.List.{List, [], ◌∷◌, ◌++◌, append-nil, append_assoc}
use Prim.Native.Nat.{ℕ, zero, suc, ◌-◌, ◌*◌, ◌/◌, ◌%◌, ◌≤◌}
use native.Mathlib.Omega.{arith}
use native.Mathlib.Decide.{ℕ_discrete}
use lib.ListN.{length, get_or, length-append}
use Rattle.fleet.proofs.FleetGrowth.{last_pair}
use Rattle.writing.specs.Writing.{bit_of, if_bit, record_bytes, record_after, records_after, writing, record_of}

-- the bit of a field, and the record by its bits
pub bit_zero : {S : Type 0} (d : Dec S) → S → bit_of d ≡ 0
unfolding bit_of
bit_zero (yes _) s = refl
bit_zero (no n) s = absurd (n s)

pub bit_one : {S : Type 0} (d : Dec S) → ¬ S → bit_of d ≡ 1
unfolding bit_of
bit_one (yes s) n = absurd (n s)
bit_one (no _) n = refl

pub written_by : (previous x db lb d l : ℕ) → bit_of (ℕ_discrete (x / 1000) (suc (previous / 1000))) ≡ db → bit_of (ℕ_discrete (x % 1000) (previous % 1000)) ≡ lb → x / 1000 ≡ d → x % 1000 ≡ l
    → record_after previous x ≡ record_bytes db lb d l
unfolding record_after
written_by previous x db lb d l a b c e = rw (a, b, c, e) refl

-- what one more pair adds
last_of_pairs : ℕ → List ℕ → ℕ
last_of_pairs previous [] = previous
last_of_pairs previous (x ∷ s) = last_of_pairs x s

last_is : (y : ℕ) (s : List ℕ) → last_pair (y ∷ s) ≡ last_of_pairs y s
unfolding last_of_pairs
last_is y [] = refl
last_is y (x ∷ s) =
    let e : suc (suc (length s)) - 1 ≡ suc (length s) = omega arith in
    let f : suc (length s) - 1 ≡ length s = omega arith in
    ap (λ (k : ℕ). get_or (y ∷ x ∷ s) k 0) e ∙ sym (ap (λ (k : ℕ). get_or (x ∷ s) k 0) f) ∙ last_is x s

records_end : (previous : ℕ) (s : List ℕ) (x : ℕ) → records_after previous (s ++ x ∷ []) ≡ records_after previous s ++ record_after (last_of_pairs previous s) x
unfolding records_after last_of_pairs
records_end previous [] x = append-nil (record_after previous x)
records_end previous (y ∷ s) x = ap (λ (r : List ℕ). record_after previous y ++ r) (records_end y s x) ∙ sym (append_assoc (record_after previous y) (records_after y s) (record_after (last_of_pairs y s) x))

pub writing_end : (s : List ℕ) (x : ℕ) → writing (s ++ x ∷ []) ≡ writing s ++ record_of (length s) (last_pair s) x
unfolding writing record_of records_after
writing_end [] x = append-nil (record_bytes 1 1 (x / 1000) (x % 1000))
writing_end (y ∷ s) x =
    ap (λ (r : List ℕ). record_bytes 1 1 (y / 1000) (y % 1000) ++ r) (records_end y s x ∙ ap (λ (p : ℕ). records_after y s ++ record_after p x) (sym (last_is y s)))
    ∙ sym (append_assoc (record_bytes 1 1 (y / 1000) (y % 1000)) (records_after y s) (record_after (last_pair (y ∷ s)) x))

records_grow : (previous : ℕ) (s r : List ℕ) → length (records_after previous s) ≤ length (records_after previous (s ++ r))
unfolding records_after
records_grow previous [] r = omega arith
records_grow previous (x ∷ s) r = omega (arith, records_grow x s r, length-append (record_after previous x) (records_after x s), length-append (record_after previous x) (records_after x (s ++ r)))

pub writing_grows : (s r : List ℕ) → length (writing s) ≤ length (writing (s ++ r))
unfolding writing
writing_grows [] r = omega arith
writing_grows (x ∷ s) r = omega (arith, records_grow x s r, length-append (record_bytes 1 1 (x / 1000) (x % 1000)) (records_after x s), length-append (record_bytes 1 1 (x / 1000) (x % 1000)) (records_after x (s ++ r)))

-- a record has at most four bytes
written_length : (db lb depth label : ℕ) → length (record_bytes db lb depth label) ≤ 4
unfolding record_bytes if_bit
written_length zero zero depth label = omega arith
written_length zero (suc _) depth label = omega arith
written_length (suc _) zero depth label = omega arith
written_length (suc _) (suc _) depth label = omega arith

record_length : (previous x : ℕ) → length (record_after previous x) ≤ 4
unfolding record_after
record_length previous x =
    written_length (bit_of (ℕ_discrete (x / 1000) (suc (previous / 1000)))) (bit_of (ℕ_discrete (x % 1000) (previous % 1000))) (x / 1000) (x % 1000)

records_length : (previous : ℕ) (pairs : List ℕ) → length (records_after previous pairs) ≤ 4 * length pairs
unfolding records_after
records_length previous [] = omega arith
records_length previous (x ∷ pairs) =
    rw (length-append (record_after previous x) (records_after x pairs)) (omega (arith, record_length previous x, records_length x pairs))

pub writing_length : (pairs : List ℕ) → length (writing pairs) ≤ 4 * length pairs
unfolding writing
writing_length [] = omega arith
writing_length (x ∷ pairs) =
    rw (length-append (record_bytes 1 1 (x / 1000) (x % 1000)) (records_after x pairs)) (omega (arith, written_length 1 1 (x / 1000) (x % 1000), records_length x pairs))
