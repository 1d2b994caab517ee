-- LAWS. The blocks of a list: each fits on a page, and their lines have 72 columns; so the list's pages have all their bytes.
use mathlib.Core.Path.{◌≡◌, ap, ◌∙◌}
use mathlib.Core.List.{List, [], ◌∷◌}
use Prim.Native.Nat.{ℕ, ◌+◌, ◌*◌, ◌≤◌}
use native.Mathlib.Omega.{arith}
use lib.ListN.{length}
use Rattle.search.specs.Counted.{Entry}
use Rattle.paper.specs.Paper.{page_lines, line_bytes, page_bytes, pairs_a_line, Block, form_lines, end_block, bytes_of, Each, none, also}
use Rattle.paper.specs.Claims.{IsRow}
use Rattle.paper.proofs.RowLaws.{blank_is_row, end_is_row, form_rows, form_lines_few, bytes_length}
use Rattle.paper.proofs.PutLaws.{size_one}
use Rattle.layout.specs.Pages.{blocks, laid, pages_from}
use Rattle.layout.specs.Claims.{Fit}
use Rattle.layout.proofs.LaidLaws.{count_here, each_laid, laid_length}

pub blocks_fit : (entries : List Entry) → Each (λ block. length block ≤ page_lines) (blocks entries)
unfolding blocks
blocks_fit [] = also {x = end_block} (omega arith) none
blocks_fit (entry ∷ entries) = also {x = form_lines entry.held entry.form} (omega (arith, (form_lines_few entry.held entry.form).1)) (blocks_fit entries)

pub blocks_rows : {entries : List Entry} → Fit entries → Each (Each IsRow) (blocks entries)
unfolding blocks
blocks_rows none = also (also end_is_row none) none
blocks_rows (also {x = entry} h hs) = also (form_rows entry.held entry.form h) (blocks_rows hs)

pub laid_rows : (used : ℕ) {entries : List Entry} → Fit entries → Each IsRow (laid used (blocks entries))
laid_rows used h = each_laid blank_is_row used (blocks_rows h)

-- from a line of a page on: with the lines taken before, the bytes of whole pages
pub pages_length : (used : ℕ) {entries : List Entry} → used ≤ page_lines → Fit entries → line_bytes * used + length (bytes_of (laid used (blocks entries))) ≡ pages_from used (blocks entries) * page_bytes
pages_length used {entries} a h = omega (arith, bytes_length (laid_rows used h), laid_length used a (blocks_fit entries))

-- forms of one line each, as long as they fit, stay on the page
pub one_lines_here : (used : ℕ) {entries : List Entry} → Each (λ entry. length entry.form ≤ pairs_a_line) entries → used + length entries ≤ page_lines
    → pages_from used (blocks entries) ≡ pages_from (used + length entries) (blocks [])
unfolding blocks
one_lines_here used none a = ap (λ n. pages_from n (blocks [])) (omega arith)
one_lines_here used (also {x = entry} {s = entries} h hs) a =
    let block : Block = form_lines entry.held entry.form in
    let e : 1 ≡ length block = size_one entry.form h entry.held in
    let same : used + length block + length entries ≡ used + length (entry ∷ entries) = omega (arith, e) in
    count_here used block (blocks entries) (omega (arith, e)) ∙ one_lines_here (used + length block) hs (omega (arith, e)) ∙ ap (λ n. pages_from n (blocks [])) same
