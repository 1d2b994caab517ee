-- LAWS. The table of families: ten rows of ten, and exactly the rule in document 01's list, proved once over the whole table.
use mathlib.Core.Path.{◌≡◌, refl, ap}
use mathlib.Core.List.{List, [], ◌∷◌}
use mathlib.Core.Logic.{◌↔◌}
use Prim.Native.Nat.{ℕ, zero, suc, ◌≤◌, ◌<◌}
use native.Mathlib.Omega.{arith}
use native.Mathlib.Decide.{ℕ_discrete}
use lib.ListN.{length, get_or, get_or-eq_default}
use Rattle.terms.specs.Fleet.{marks, MayStandUnder, families_above, Under}
use Rattle.terms.specs.Tells.{decided}
use Rattle.terms.specs.Claims.{MarksExactly}
use Rattle.terms.proofs.Decide.{iff?, all_below?, some_below?, by_computing}

-- outside of the table nothing may stand
pub no_row : (below above : ℕ) → 10 ≤ below → ¬ MayStandUnder below above
unfolding marks
no_row below above h e =
    let r : get_or marks below [] ≡ [] = get_or-eq_default marks [] {n = below} h in
    absurd (omega (arith, e, ap (λ (row : List ℕ). get_or row above 0) r))

Short : List (List ℕ) → Type 0
Short [] = 0 ≤ 0
Short (r ∷ rows) = (length r ≤ 10) × Short rows

short : (rows : List (List ℕ)) → Short rows → (i : ℕ) → length (get_or rows i []) ≤ 10
unfolding Short
short [] s i = omega arith
short (r ∷ rows) s zero = s.0
short (r ∷ rows) s (suc i) = short rows s.1 i

marks_short : Short marks
unfolding Short marks
marks_short = (omega arith, (omega arith, (omega arith, (omega arith, (omega arith, (omega arith, (omega arith, (omega arith, (omega arith, (omega arith, omega arith))))))))))

pub no_column : (below above : ℕ) → 10 ≤ above → ¬ MayStandUnder below above
no_column below above h e =
    let r : get_or (get_or marks below []) above 0 ≡ 0 = get_or-eq_default (get_or marks below []) 0 {n = above} (omega (arith, short marks marks_short below)) in
    absurd (omega (arith, e, r))

-- each mark of the table, tested
unfoldable marks_right? : Dec ((below : ℕ) → below < 10 → (above : ℕ) → above < 10 → MayStandUnder below above ↔ Under below above)
unfolding all_below? some_below? iff? ℕ_discrete marks families_above
marks_right? = all_below? (λ below. (above : ℕ) → above < 10 → MayStandUnder below above ↔ Under below above)
    (λ below. all_below? (λ above. MayStandUnder below above ↔ Under below above)
    (λ above. iff? (ℕ_discrete (get_or (get_or marks below []) above 0) 1) (some_below? (λ i. get_or (get_or families_above below []) i 0 ≡ above) (λ i. ℕ_discrete (get_or (get_or families_above below []) i 0) above) (length (get_or families_above below [])))) 10) 10

-- THE CLAIM: the ten rows of ten marks are the rule.
pub marks_exactly : MarksExactly
unfolding marks_right? decided
marks_exactly below above a b = by_computing marks_right? refl below a above b
