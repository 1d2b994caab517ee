-- LAWS. Document 01's sheets, computed.
use mathlib.Core.Path.{◌≡◌, refl}
use mathlib.Core.List.{List, [], ◌∷◌, map}
use Prim.Native.Nat.{ℕ}
use Rattle.sheet.specs.Reading.{accepted, refused, reading}

unfoldable pub numbers : List (List ℕ)
numbers = []
    ∷ (4 ∷ [])
    ∷ (2 ∷ 101 ∷ 0 ∷ [])
    ∷ (3 ∷ 0 ∷ 101 ∷ [])
    ∷ (3 ∷ 1 ∷ 101 ∷ 0 ∷ [])
    ∷ (3 ∷ 0 ∷ 0 ∷ 0 ∷ [])
    ∷ (3 ∷ 0 ∷ 201 ∷ 0 ∷ [])
    ∷ (3 ∷ 0 ∷ 101 ∷ 0 ∷ 3 ∷ 1 ∷ 201 ∷ 0 ∷ [])
    ∷ []

pub refusals : map reading numbers ≡ refused 1 ∷ refused 2 ∷ refused 3 ∷ refused 4 ∷ refused 5 ∷ refused 6 ∷ refused 7 ∷ refused 8 ∷ []
unfolding numbers reading
refusals = refl

-- the sheet given whole
unfoldable pub whole : List ℕ
whole = 3 ∷ 0 ∷ 101 ∷ 0 ∷ 2 ∷ 201 ∷ 0 ∷ 2 ∷ 45 ∷ 1 ∷ 3 ∷ 1 ∷ 202 ∷ 0 ∷ 3 ∷ 0 ∷ 101 ∷ 0 ∷ 2 ∷ 202 ∷ 0 ∷ 3 ∷ 1 ∷ 201 ∷ 0 ∷ []

pub whole_says : reading whole ≡ accepted (101 ∷ 1201 ∷ 2301 ∷ 1202 ∷ 101 ∷ 1202 ∷ 1201 ∷ [])
unfolding whole reading
whole_says = refl

-- Not in document 01: where its words are easy to get wrong.
unfoldable pub more : List (List ℕ)
more = (3 ∷ 0 ∷ 101 ∷ 0 ∷ 3 ∷ 1 ∷ 201 ∷ 0 ∷ 4 ∷ [])  -- 8, and not the 2 of the later record
    ∷ (3 ∷ 0 ∷ 101 ∷ 0 ∷ 3 ∷ 2 ∷ 0 ∷ 0 ∷ [])  -- 5, and not the 6 of the same record
    ∷ (3 ∷ 0 ∷ 101 ∷ 0 ∷ 3 ∷ 0 ∷ 101 ∷ 0 ∷ [])  -- 8: at a second root the same label must be absent
    ∷ (7 ∷ [])  -- 2, and not 3 or 4
    ∷ (1 ∷ [])  -- 3, and not 4
    ∷ (3 ∷ 0 ∷ 101 ∷ 0 ∷ 2 ∷ 201 ∷ 0 ∷ 2 ∷ 45 ∷ 1 ∷ 2 ∷ 145 ∷ 1 ∷ 0 ∷ 0 ∷ 0 ∷ 0 ∷ 0 ∷ 0 ∷ 0 ∷ 0 ∷ 0 ∷ 0 ∷ 0 ∷ 0 ∷ 0 ∷ [])  -- 5: an absent depth after depth 15
    ∷ (3 ∷ 0 ∷ 101 ∷ 0 ∷ 1 ∷ 0 ∷ [])  -- accepted: a second root with the label of the first
    ∷ []

pub more_says : map reading more ≡ refused 8 ∷ refused 5 ∷ refused 8 ∷ refused 2 ∷ refused 3 ∷ refused 5 ∷ accepted (101 ∷ 101 ∷ []) ∷ []
unfolding more reading
more_says = refl
