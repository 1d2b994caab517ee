-- LAWS. The tokens of a text: one law for each way out of the functions that read them, and for each loop.
use mathlib.Core.Path.{◌≡◌, refl, sym, ap, ◌∙◌}
use mathlib.Core.Logic.{if_pos, if_neg}
use mathlib.Core.List.{List, [], ◌∷◌}
use Prim.Native.Nat.{ℕ, zero, suc, ◌+◌, ◌-◌, ◌*◌, ◌≤◌, ◌<◌}
use native.Mathlib.Omega.{arith}
use native.Mathlib.Numerals.{add-one}
use native.Mathlib.Decide.{ℕ_discrete}
use lib.ListN.{length, get_or, drop, length-drop, drop_of_length-le}
use lib.Seq.{drop-cons, drop-drop}
use Rattle.std.specs.Prelude.{Option, Some, None, unwrap_or, MatchOption}
use Rattle.std.specs.List.{AllWithin, HoldsAt}
use Rattle.terms.proofs.Decide.{within?}
use Rattle.text.specs.Text.{line_end}
use Rattle.token.specs.Token.{IsBlank, IsDigit, value, IsLabel, comment_sign, blank?, label?, after_blanks, after_comment, line_end_then, no_pair, label_front, depth_front, line_over, front, token, front_of, Ahead}
use Rattle.token.specs.declared.Token.{Token}
use Rattle.token.specs.declared.Token.TheVariants.{Pair, LineEnd, End, Wrong}

-- what lies ahead of a position lies ahead of those before it
pub ahead_of : (t : Token) (from at size : ℕ) → from ≤ at → Ahead t at size → Ahead t from size
ahead_of (Pair depth label next) from at size h a = (omega (arith, a.0), a.1)
ahead_of (LineEnd next) from at size h a = (omega (arith, a.0), a.1)
ahead_of End from at size h a = tt
ahead_of Wrong from at size h a = tt

-- a function that passes over the elements of one kind, to the first of another kind or the end of the list
module _ (F : List ℕ → List ℕ) (Yes No : ℕ → Type 0) (end : F [] ≡ []) (stop : (b : ℕ) (s : List ℕ) → Yes b → F (b ∷ s) ≡ b ∷ s) (on : (b : ℕ) (s : List ℕ) → No b → F (b ∷ s) ≡ F s) where
  passed : (s : List ℕ) (i : ℕ) → (i < length s → Yes (get_or s i 0)) → i ≤ length s → AllWithin No s 0 i → drop i s ≡ F s
  passed [] zero y h n = sym end
  passed [] (suc i) y h n = absurd (omega arith)
  passed (b ∷ s) zero y h n = sym (stop b s (y (omega arith)))
  passed (b ∷ s) (suc i) y h n = passed s i (λ k. y (omega arith)) (omega arith) (λ k d l m. n (suc k) d (omega arith) (omega arith)) ∙ sym (on b s (n 0 0 (omega arith) (omega arith)))

  pub passed_to : (text : List ℕ) (at : ℕ) (r : Option ℕ)
      → MatchOption r (AllWithin No (drop at text) 0 (length (drop at text))) (λ i. (i < length (drop at text)) × HoldsAt Yes (drop at text) i × AllWithin No (drop at text) 0 i)
      → drop (at + unwrap_or r (length (drop at text))) text ≡ F (drop at text)
  passed_to text at None n = sym (drop-drop (length (drop at text)) at text) ∙ passed (drop at text) (length (drop at text)) (λ k. absurd (omega arith)) (omega arith) n
  passed_to text at (Some i) n = sym (drop-drop i at text) ∙ passed (drop at text) i (λ k. n.1 0) (omega (arith, n.0)) n.2

blank_stop : (b : ℕ) (s : List ℕ) → ¬ IsBlank b → after_blanks (b ∷ s) ≡ b ∷ s
unfolding after_blanks
blank_stop b s n = if_neg (blank? b) n (after_blanks s) (b ∷ s)

blank_on : (b : ℕ) (s : List ℕ) → IsBlank b → after_blanks (b ∷ s) ≡ after_blanks s
unfolding after_blanks
blank_on b s y = if_pos (blank? b) y (after_blanks s) (b ∷ s)

no_blank : after_blanks [] ≡ []
unfolding after_blanks
no_blank = refl

comment_stop : (b : ℕ) (s : List ℕ) → b ≡ line_end → after_comment (b ∷ s) ≡ b ∷ s
unfolding after_comment
comment_stop b s e = if_pos (ℕ_discrete b line_end) e (b ∷ s) (after_comment s)

comment_on : (b : ℕ) (s : List ℕ) → ¬ (b ≡ line_end) → after_comment (b ∷ s) ≡ after_comment s
unfolding after_comment
comment_on b s n = if_neg (ℕ_discrete b line_end) n (b ∷ s) (after_comment s)

no_comment : after_comment [] ≡ []
unfolding after_comment
no_comment = refl

-- where the first byte that is no blank stands, and the first line end
abbrev First : (Yes No : ℕ → Type 0) (s : List ℕ) → Option ℕ → Type 0
First Yes No s r = MatchOption r (AllWithin No s 0 (length s)) (λ i. (i < length s) × HoldsAt Yes s i × AllWithin No s 0 i)

pub blanks_passed : (text : List ℕ) (at : ℕ) (r : Option ℕ) → First (λ b. ¬ IsBlank b) IsBlank (drop at text) r → drop (at + unwrap_or r (length (drop at text))) text ≡ after_blanks (drop at text)
blanks_passed = passed_to after_blanks (λ b. ¬ IsBlank b) IsBlank no_blank blank_stop blank_on

pub comment_passed : (text : List ℕ) (at : ℕ) (r : Option ℕ) → First (λ b. b ≡ line_end) (λ b. ¬ (b ≡ line_end)) (drop at text) r → drop (at + unwrap_or r (length (drop at text))) text ≡ after_comment (drop at text)
comment_passed = passed_to after_comment (λ b. b ≡ line_end) (λ b. ¬ (b ≡ line_end)) no_comment comment_stop comment_on

module _ (text : List ℕ) (at : ℕ) where
  from : (i next : ℕ) → i < length text → suc i ≡ next → drop i text ≡ get_or text i 0 ∷ drop next text
  from i next h e = drop-cons text i 0 h ∙ ap (λ (n : ℕ). get_or text i 0 ∷ drop n text) e

  module _ (h : at < length text) where
    pub front_line : get_or text at 0 ≡ line_end → front_of (LineEnd (at + 1)) text ≡ front (drop at text)
    unfolding front_of front
    front_line e = rw (drop-cons text at 0 h, add-one at) (sym (if_pos (ℕ_discrete (get_or text at 0) line_end) e (line_end_then (drop (suc at) text)) _))

    module _ (n : ¬ (get_or text at 0 ≡ line_end)) where
      pub front_pair : ¬ (get_or text at 0 ≡ comment_sign) → depth_front (drop at text) ≡ front (drop at text)
      unfolding front
      front_pair m = rw (drop-cons text at 0 h) (sym (if_neg (ℕ_discrete (get_or text at 0) line_end) n _ _ ∙ if_neg (ℕ_discrete (get_or text at 0) comment_sign) m _ _))

      pub front_comment : get_or text at 0 ≡ comment_sign → line_over (after_comment (drop (at + 1) text)) ≡ front (drop at text)
      unfolding front
      front_comment e = rw (drop-cons text at 0 h, add-one at) (sym (if_neg (ℕ_discrete (get_or text at 0) line_end) n _ _ ∙ if_pos (ℕ_discrete (get_or text at 0) comment_sign) e _ _))

    pub over_line : front_of (LineEnd (at + 1)) text ≡ line_over (drop at text)
    unfolding front_of line_over
    over_line = rw (drop-cons text at 0 h, add-one at) refl

  module _ (h : length text ≤ at) where
    pub front_end : front_of End text ≡ front (drop at text)
    unfolding front_of front
    front_end = rw (drop_of_length-le text {i = at} h) refl

    pub over_end : front_of End text ≡ line_over (drop at text)
    unfolding front_of line_over
    over_end = rw (drop_of_length-le text {i = at} h) refl

  -- the label
  module _ (depth : ℕ) where
    pub label_short : length text - at < 4 → front_of Wrong text ≡ label_front depth (drop at text)
    unfolding front_of label_front
    label_short h = go (drop at text) (omega (arith, length-drop at text))
      where
        go : (t : List ℕ) → length t < 4 → no_pair ≡ label_front depth t
        go [] q = refl
        go (_ ∷ []) q = refl
        go (_ ∷ _ ∷ []) q = refl
        go (_ ∷ _ ∷ _ ∷ []) q = refl
        go (_ ∷ _ ∷ _ ∷ _ ∷ t) q = absurd (omega arith)

    module _ (h : at + 4 ≤ length text) where
      four : drop at text ≡ get_or text at 0 ∷ get_or text (at + 1) 0 ∷ get_or text (at + 2) 0 ∷ get_or text (at + 3) 0 ∷ drop (at + 4) text
      four = from at (at + 1) (omega arith) (omega arith) ∙ ap (λ (t : List ℕ). get_or text at 0 ∷ t) (from (at + 1) (at + 2) (omega arith) (omega arith) ∙ ap (λ (t : List ℕ). get_or text (at + 1) 0 ∷ t) (from (at + 2) (at + 3) (omega arith) (omega arith) ∙ ap (λ (t : List ℕ). get_or text (at + 2) 0 ∷ t) (from (at + 3) (at + 4) (omega arith) (omega arith))))

      pub label_wrong : ¬ IsLabel (get_or text at 0) (get_or text (at + 1) 0) (get_or text (at + 2) 0) (get_or text (at + 3) 0) (drop (at + 4) text) → front_of Wrong text ≡ label_front depth (drop at text)
      unfolding front_of label_front
      label_wrong n = rw four (sym (if_neg (label? (get_or text at 0) (get_or text (at + 1) 0) (get_or text (at + 2) 0) (get_or text (at + 3) 0) (drop (at + 4) text)) n _ _))

      pub label_read : IsLabel (get_or text at 0) (get_or text (at + 1) 0) (get_or text (at + 2) 0) (get_or text (at + 3) 0) (drop (at + 4) text)
          → front_of (Pair depth (100 * value (get_or text (at + 1) 0) + 10 * value (get_or text (at + 2) 0) + value (get_or text (at + 3) 0)) (at + 4)) text ≡ label_front depth (drop at text)
      unfolding front_of label_front
      label_read p = rw four (sym (if_pos (label? (get_or text at 0) (get_or text (at + 1) 0) (get_or text (at + 2) 0) (get_or text (at + 3) 0) (drop (at + 4) text)) p _ _))

  -- the depth
  pub depth_short : at + 1 ≡ length text → front_of Wrong text ≡ depth_front (drop at text)
  unfolding front_of depth_front
  depth_short h = go (drop at text) (omega (arith, length-drop at text))
    where
      go : (t : List ℕ) → length t ≤ 1 → no_pair ≡ depth_front t
      go [] q = refl
      go (_ ∷ []) q = refl
      go (_ ∷ _ ∷ t) q = absurd (omega arith)

  module _ (h : at + 1 < length text) where
    two : drop at text ≡ get_or text at 0 ∷ get_or text (at + 1) 0 ∷ drop (at + 1 + 1) text
    two = from at (at + 1) (omega arith) (omega arith) ∙ ap (λ (t : List ℕ). get_or text at 0 ∷ t) (from (at + 1) (at + 1 + 1) h (omega arith))

    pub depth_wrong : ¬ IsDigit (get_or text at 0) → front_of Wrong text ≡ depth_front (drop at text)
    unfolding front_of depth_front
    depth_wrong n = rw two (sym (if_neg (within? 48 (get_or text at 0) 57) n _ _))

    module _ (d : IsDigit (get_or text at 0)) where
      pub depth_one : ¬ IsDigit (get_or text (at + 1) 0) → label_front (value (get_or text at 0)) (drop (at + 1) text) ≡ depth_front (drop at text)
      unfolding depth_front
      depth_one n = rw (two, from (at + 1) (at + 1 + 1) h (omega arith)) (sym (if_pos (within? 48 (get_or text at 0) 57) d _ _ ∙ if_neg (within? 48 (get_or text (at + 1) 0) 57) n _ _))

      pub depth_two : IsDigit (get_or text (at + 1) 0) → label_front (10 * value (get_or text at 0) + value (get_or text (at + 1) 0)) (drop (at + 1 + 1) text) ≡ depth_front (drop at text)
      unfolding depth_front
      depth_two e = rw two (sym (if_pos (within? 48 (get_or text at 0) 57) d _ _ ∙ if_pos (within? 48 (get_or text (at + 1) 0) 57) e _ _))

-- the token is what stands behind the blanks
pub token_is : (text : List ℕ) (at i : ℕ) → drop i text ≡ after_blanks (drop at text) → front (drop i text) ≡ token (drop at text)
unfolding token
token_is text at i e = ap front e
