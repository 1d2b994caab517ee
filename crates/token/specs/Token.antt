-- What stands at the front of a text of a fleet: a pair, the end of a line, the end of the text, or something else. Blanks and comments are
-- passed over. (Document 01 has no text of a fleet; a pair is written as it says: "depth, full stop, three label digits".)
use Rattle.std.specs.Prelude.{◌≡◌, ◌⊎◌, List, [], ◌∷◌, ℕ, ◌+◌, ◌-◌, ◌*◌, ◌≤◌, ◌<◌, drop}
use Rattle.std.proofs.Math.Logic.{ite}
use Rattle.std.proofs.Math.Decide.{ℕ_discrete}
use Rattle.terms.proofs.Decide.{both?, either?, within?}
use Rattle.text.specs.Text.{line_end, full_stop}
use Rattle.token.specs.declared.Token.{Token}
use Rattle.token.specs.declared.Token.TheVariants.{Pair, LineEnd, End, Wrong}

-- A blank, a tab, a carriage return.
abbrev pub IsBlank : ℕ → Type 0
IsBlank b = (b ≡ 32) ⊎ ((b ≡ 9) ⊎ (b ≡ 13))

abbrev pub comment_sign : ℕ
comment_sign = 35

abbrev pub IsDigit : ℕ → Type 0
IsDigit b = (48 ≤ b) × (b ≤ 57)

abbrev pub value : ℕ → ℕ
value digit = digit - 48

-- A pair ends where the text does, or before a blank, a line end or a comment.
abbrev pub EndsPair : List ℕ → Type 0
EndsPair [] = Unit
EndsPair (b ∷ text) = (b ≡ line_end) ⊎ ((b ≡ comment_sign) ⊎ IsBlank b)

unfoldable pub blank? : (b : ℕ) → Dec (IsBlank b)
unfolding either? ℕ_discrete
blank? b = either? (ℕ_discrete b 32) (either? (ℕ_discrete b 9) (ℕ_discrete b 13))

unfoldable pub ends_pair? : (text : List ℕ) → Dec (EndsPair text)
unfolding either? ℕ_discrete blank?
ends_pair? [] = yes tt
ends_pair? (b ∷ text) = either? (ℕ_discrete b line_end) (either? (ℕ_discrete b comment_sign) (blank? b))

unfoldable pub after_blanks : List ℕ → List ℕ
unfolding blank?
after_blanks [] = []
after_blanks (b ∷ text) = ite (blank? b) (after_blanks text) (b ∷ text)

-- From the next line end on.
unfoldable pub after_comment : List ℕ → List ℕ
unfolding ℕ_discrete
after_comment [] = []
after_comment (b ∷ text) = ite (ℕ_discrete b line_end) (b ∷ text) (after_comment text)

pub data Front : Type 0 where
  pair_then : (depth label : ℕ) (rest : List ℕ) → Front
  line_end_then : (rest : List ℕ) → Front
  text_end : Front
  no_pair : Front

-- A full stop and three digits, and there the pair ends.
abbrev pub IsLabel : (stop a b c : ℕ) (rest : List ℕ) → Type 0
IsLabel stop a b c rest = (stop ≡ full_stop) × (IsDigit a × (IsDigit b × (IsDigit c × EndsPair rest)))

unfoldable pub label? : (stop a b c : ℕ) (rest : List ℕ) → Dec (IsLabel stop a b c rest)
unfolding both? within? ℕ_discrete ends_pair?
label? stop a b c rest = both? (ℕ_discrete stop full_stop) (both? (within? 48 a 57) (both? (within? 48 b 57) (both? (within? 48 c 57) (ends_pair? rest))))

unfoldable pub label_front : (depth : ℕ) (text : List ℕ) → Front
unfolding label?
label_front depth (stop ∷ a ∷ b ∷ c ∷ rest) = ite (label? stop a b c rest) (pair_then depth (100 * value a + 10 * value b + value c) rest) no_pair
label_front depth [] = no_pair
label_front depth (_ ∷ []) = no_pair
label_front depth (_ ∷ _ ∷ []) = no_pair
label_front depth (_ ∷ _ ∷ _ ∷ []) = no_pair

-- A depth has one digit or two.
unfoldable pub depth_front : (text : List ℕ) → Front
unfolding within? label_front
depth_front (a ∷ b ∷ text) = ite (within? 48 a 57) (ite (within? 48 b 57) (label_front (10 * value a + value b) text) (label_front (value a) (b ∷ text))) no_pair
depth_front (_ ∷ []) = no_pair
depth_front [] = no_pair

unfoldable pub line_over : List ℕ → Front
line_over [] = text_end
line_over (_ ∷ text) = line_end_then text

unfoldable pub front : List ℕ → Front
unfolding ℕ_discrete line_over after_comment depth_front
front [] = text_end
front (b ∷ text) = ite (ℕ_discrete b line_end) (line_end_then text) (ite (ℕ_discrete b comment_sign) (line_over (after_comment text)) (depth_front (b ∷ text)))

unfoldable pub token : List ℕ → Front
unfolding front after_blanks
token text = front (after_blanks text)

-- A token of the code in these terms.
unfoldable pub front_of : Token → (text : List ℕ) → Front
front_of (Pair depth label next) text = pair_then depth label (drop next text)
front_of (LineEnd next) text = line_end_then (drop next text)
front_of End text = text_end
front_of Wrong text = no_pair

-- A token ends behind its beginning and within the text.
abbrev pub Ahead : Token → (at size : ℕ) → Type 0
Ahead (Pair depth label next) at size = (at < next) × (next ≤ size)
Ahead (LineEnd next) at size = (at < next) × (next ≤ size)
Ahead End at size = Unit
Ahead Wrong at size = Unit
