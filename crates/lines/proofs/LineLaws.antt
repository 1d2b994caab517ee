-- LAWS. The pairs of a line put one after the other; whole lines.
use mathlib.Core.Path.{◌≡◌, refl, sym, ap, ◌∙◌}
use mathlib.Core.List.{List, [], ◌∷◌, ◌++◌, append_assoc, append-nil}
use Prim.Native.Nat.{ℕ, min, ◌+◌, ◌≤◌, ◌<◌}
use native.Mathlib.Omega.{arith}
use native.Mathlib.Decide.{dec_le}
use lib.ListN.{length, take, get_or}
use lib.Seq.{take_all}
use Rattle.std.proofs.lemmas.List.{take_more}
use Rattle.text.specs.Text.{decimal, pair_text, line_end, blank}
use Rattle.text.specs.Building.{Put}
use Rattle.text.proofs.TextLaws.{put_none, put_as, then_put}
use Rattle.lines.specs.Lines.{pairs_text, form_line, refusal_line, refused_word, most_line_pairs}

-- the pairs of a line, one after the other
pairs_append : (s t : List ℕ) → pairs_text (s ++ t) ≡ pairs_text s ++ pairs_text t
unfolding pairs_text
pairs_append [] t = refl
pairs_append (x ∷ s) t = ap (λ (u : List ℕ). blank ∷ pair_text x ++ u) (pairs_append s t) ∙ sym (append_assoc (blank ∷ pair_text x) (pairs_text s) (pairs_text t))

pub no_pair_yet : (a : List ℕ) (i : ℕ) → i ≤ length a → Put a i (pairs_text []) a i
unfolding pairs_text
no_pair_yet a i h = put_none a i h

pub one_more_pair : {a b c d : List ℕ} {j k l m : ℕ} (s : List ℕ) (i : ℕ) → i < length s → Put a j (pairs_text (take i s)) b k → Put b k (blank ∷ []) c l → Put c l (pair_text (get_or s i 0)) d m
    → Put a j (pairs_text (take (i + 1) s)) d m
unfolding pairs_text
one_more_pair s i h p q r =
    put_as
    (ap (λ (u : List ℕ). pairs_text (take i s) ++ u) (sym (append-nil (blank ∷ pair_text (get_or s i 0)))) ∙ sym (pairs_append (take i s) (get_or s i 0 ∷ [])) ∙ ap pairs_text (sym (take_more s i 0 h)))
    (then_put p (then_put q r))

-- all that a line has room for: the first pairs of the form, as many as a line shows
shown_pairs : (s : List ℕ) {shown : ℕ} → shown ≡ min (length s) most_line_pairs → take shown s ≡ take most_line_pairs s
shown_pairs s {shown} e = cases (dec_le most_line_pairs (length s))
  where
    cases : Dec (most_line_pairs ≤ length s) → take shown s ≡ take most_line_pairs s
    cases (yes h) = let m : shown ≡ most_line_pairs = omega arith in ap (λ (n : ℕ). take n s) m
    cases (no h) = take_all shown s (omega arith) ∙ sym (take_all most_line_pairs s (omega arith))

pub all_pairs : {a b c d : List ℕ} {j k l shown : ℕ} (held : ℕ) (s : List ℕ) (i : ℕ) → shown ≡ min (length s) most_line_pairs → length (take shown s) ≤ i
    → Put a 0 (decimal held) b j → Put b j (pairs_text (take i (take shown s))) c k → Put c k (line_end ∷ []) d l → Put a 0 (form_line held (take most_line_pairs s)) d l
unfolding form_line
all_pairs {shown = shown} held s i e h p q r =
    put_as (ap (λ (u : List ℕ). (decimal held ++ pairs_text u) ++ line_end ∷ []) (take_all i (take shown s) h ∙ shown_pairs s e)) (then_put (then_put p q) r)

-- a form that is no longer than the largest pattern has its whole line
pub whole_line : {a b : List ℕ} {j : ℕ} (held : ℕ) (s : List ℕ) → length s ≤ most_line_pairs → Put a 0 (form_line held (take most_line_pairs s)) b j → Put a 0 (form_line held s) b j
whole_line held s h p = put_as (ap (λ (u : List ℕ). form_line held u) (take_all most_line_pairs s h)) p

pub refusal_said : {a b c d : List ℕ} {i j k : ℕ} (number : ℕ) → Put a 0 refused_word b i → Put b i (decimal number) c j → Put c j (line_end ∷ []) d k → Put a 0 (refusal_line number) d k
unfolding refusal_line
refusal_said number p q r = then_put (then_put p q) r
