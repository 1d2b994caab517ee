-- LAWS. The claims of specs/Claims.
use mathlib.Core.Path.{◌≡◌, sym, ap, ◌∙◌}
use mathlib.Core.List.{List, ◌++◌}
use Prim.Native.Nat.{ℕ, ◌+◌, ◌-◌, ◌≤◌}
use native.Mathlib.Omega.{arith}
use lib.ListN.{length, drop, length-replicate, replicate-append-replicate}
use lib.Seq.{drop-append-add, drop_at}
use Rattle.text.specs.Text.{blank}
use Rattle.paper.specs.Paper.{columns, margin, pairs_a_line, blanks, row, first_line, second_line}
use Rattle.paper.specs.Claims.{FormRowsClaim, LineCountClaim, OtherRowsClaim, MarginClaim}
use Rattle.paper.proofs.EachLaws.{each_take, each_drop}
use Rattle.paper.proofs.RowLaws.{first_length, second_length, form_each, first_few, left_few, form_rows, end_is_row, blank_is_row}
use Rattle.paper.proofs.PutLaws.{size_one, size_two}

pub form_rows_claim : FormRowsClaim
unfolding FormRowsClaim
form_rows_claim = form_rows

pub line_count_claim : LineCountClaim
unfolding LineCountClaim
line_count_claim held form = ((λ h. sym (size_one form h held)), (λ h. sym (size_two form h held)))

pub other_rows_claim : OtherRowsClaim
unfolding OtherRowsClaim
other_rows_claim = (end_is_row, blank_is_row)

drop_blanks : (n m : ℕ) → drop n (blanks (n + m)) ≡ blanks m
drop_blanks n m = ap (drop n) (sym (replicate-append-replicate n m blank)) ∙ drop_at (blanks n) (blanks m) n (length-replicate n blank)

row_margin : (s : List ℕ) → length s ≤ columns - margin → drop (columns - margin) (row s) ≡ blanks margin
unfolding row
row_margin s h =
    let n : ℕ = columns - margin - length s in
    let e : columns - margin ≡ length s + n = omega arith in
    let f : columns - length s ≡ n + margin = omega arith in
    ap (λ (i : ℕ). drop i (s ++ blanks (columns - length s))) e ∙ drop-append-add s (blanks (columns - length s)) n ∙ ap (λ (i : ℕ). drop n (blanks i)) f ∙ drop_blanks n margin

pub margin_claim : MarginClaim
unfolding MarginClaim first_line second_line
margin_claim held form room =
    form_each held form
    (row_margin _ (omega (arith, first_length (first_few form) (each_take pairs_a_line room.pairs_small) held room.support_fits)))
    (row_margin _ (omega (arith, second_length (left_few form room.two_lines) (each_drop pairs_a_line room.pairs_small))))
