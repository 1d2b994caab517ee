-- LAWS. Blocks laid on pages: which pages they are, and how many; every page has its lines.
use mathlib.Core.Path.{◌≡◌, refl, sym, ap, ◌∙◌}
use mathlib.Core.Logic.{if_pos, if_neg}
use mathlib.Core.List.{List, [], ◌∷◌, ◌++◌, append_assoc, append-nil}
use Prim.Native.Nat.{ℕ, suc, ◌+◌, ◌-◌, ◌*◌, ◌≤◌, ◌<◌}
use native.Mathlib.Omega.{arith}
use native.Mathlib.Decide.{dec_le}
use lib.ListN.{length, length-append, length-replicate}
use Rattle.paper.specs.Paper.{page_lines, Line, Block, blank_lines, row, Each, none, also}
use Rattle.paper.proofs.EachLaws.{each_append, each_replicate}
use Rattle.layout.specs.Pages.{Page, concat, filled, all_filled, first_size, Turned, last_page, turned, laid, pages_from}

-- the two ways on
module _ (used : ℕ) (block : Block) (later : List Block) where
  pub laid_here : used + length block ≤ page_lines → laid used (block ∷ later) ≡ block ++ laid (used + length block) later
  unfolding laid
  laid_here h = if_pos (dec_le (used + length block) page_lines) h (block ++ laid (used + length block) later) (blank_lines (page_lines - used) ++ (block ++ laid (length block) later))

  pub laid_over : ¬ (used + length block ≤ page_lines) → laid used (block ∷ later) ≡ blank_lines (page_lines - used) ++ (block ++ laid (length block) later)
  unfolding laid
  laid_over h = if_neg (dec_le (used + length block) page_lines) h (block ++ laid (used + length block) later) (blank_lines (page_lines - used) ++ (block ++ laid (length block) later))

  pub count_here : used + length block ≤ page_lines → pages_from used (block ∷ later) ≡ pages_from (used + length block) later
  unfolding pages_from
  count_here h = if_pos (dec_le (used + length block) page_lines) h (pages_from (used + length block) later) (suc (pages_from (length block) later))

  pub count_over : ¬ (used + length block ≤ page_lines) → pages_from used (block ∷ later) ≡ suc (pages_from (length block) later)
  unfolding pages_from
  count_over h = if_neg (dec_le (used + length block) page_lines) h (pages_from (used + length block) later) (suc (pages_from (length block) later))

-- what holds of each line of the blocks, and of a blank one, holds of each line laid
each_on : {P : Line → Type 0} → P (row []) → (used : ℕ) (block : Block) (later : List Block) → Each P block → ((n : ℕ) → Each P (laid n later)) → Dec (used + length block ≤ page_lines) → Each P (laid used (block ∷ later))
each_on b used block later h rest (yes f) = rw (laid_here used block later f) (each_append h (rest (used + length block)))
each_on b used block later h rest (no n) = rw (laid_over used block later n) (each_append (each_replicate (page_lines - used) (row []) b) (each_append h (rest (length block))))

pub each_laid : {P : Line → Type 0} → P (row []) → (used : ℕ) {given : List Block} → Each (Each P) given → Each P (laid used given)
unfolding laid
each_laid b used none = each_replicate (page_lines - used) (row []) b
each_laid b used (also {x = block} {s = later} h hs) = each_on b used block later h (λ n. each_laid b n hs) (dec_le (used + length block) page_lines)

-- a page is always begun
some_page_on : (used : ℕ) (block : Block) (later : List Block) → ((n : ℕ) → 1 ≤ pages_from n later) → Dec (used + length block ≤ page_lines) → 1 ≤ pages_from used (block ∷ later)
some_page_on used block later rest (yes f) = omega (arith, count_here used block later f, rest (used + length block))
some_page_on used block later rest (no n) = omega (arith, count_over used block later n)

pub some_page : (used : ℕ) (given : List Block) → 1 ≤ pages_from used given
unfolding pages_from
some_page used [] = omega arith
some_page used (block ∷ later) = some_page_on used block later (λ n. some_page n later) (dec_le (used + length block) page_lines)

-- with the lines taken before, the lines laid are those of whole pages
length_on : (used : ℕ) (block : Block) (later : List Block) → used ≤ page_lines → length block ≤ page_lines → ((n : ℕ) → n ≤ page_lines → n + length (laid n later) ≡ page_lines * pages_from n later)
    → Dec (used + length block ≤ page_lines) → used + length (laid used (block ∷ later)) ≡ page_lines * pages_from used (block ∷ later)
length_on used block later a h rest (yes f) =
    omega (arith, ap length (laid_here used block later f), length-append block (laid (used + length block) later), rest (used + length block) f, count_here used block later f)
length_on used block later a h rest (no n) =
    omega (
      arith,
      ap length (laid_over used block later n),
      length-append (blank_lines (page_lines - used)) (block ++ laid (length block) later),
      length-replicate (page_lines - used) (row []),
      length-append block (laid (length block) later),
      rest (length block) h,
      count_over used block later n,
    )

pub laid_length : (used : ℕ) {given : List Block} → used ≤ page_lines → Each (λ block. length block ≤ page_lines) given → used + length (laid used given) ≡ page_lines * pages_from used given
unfolding laid pages_from
laid_length used a none = omega (arith, length-replicate (page_lines - used) (row []))
laid_length used a (also {x = block} {s = later} h hs) = length_on used block later a h (λ n b. laid_length n b hs) (dec_le (used + length block) page_lines)

-- the pages from a point on
pub record Paged (used : ℕ) (given : List Block) : Type 0 where
  pub page : Page
  pub later : List Page
  pub in_order : page ++ concat later ≡ given
  pub lines : laid used given ≡ concat page ++ (blank_lines (page_lines - (used + length (concat page))) ++ all_filled later)
  pub turns : Turned used (page ∷ later)
  pub count : pages_from used given ≡ suc (length later)

put_first : (used : ℕ) (block : Block) {page : Page} {later : List Page} → Turned (used + length block) (page ∷ later) → Turned used ((block ∷ page) ∷ later)
unfolding concat
put_first used block (last_page {page = page} h) = last_page {used = used} {page = block ∷ page} (omega (arith, h, length-append block (concat page)))
put_first used block (turned {page = page} {next = next} h k t) =
    turned {used = used} {page = block ∷ page} {next = next} (omega (arith, h, length-append block (concat page))) (omega (arith, k, length-append block (concat page))) t

module _ (block : Block) (left : List Block) where
  foot : (used : ℕ) (page : Page) → page_lines - (used + length block + length (concat page)) ≡ page_lines - (used + length (concat (block ∷ page)))
  unfolding concat
  foot used page = omega (arith, length-append block (concat page))

  put : (from : ℕ) (r : Paged (from + length block) left) → block ++ laid (from + length block) left ≡ concat (block ∷ r.page) ++ (blank_lines (page_lines - (from + length (concat (block ∷ r.page)))) ++ all_filled r.later)
  unfolding concat
  put from r =
      ap (λ (s : List Line). block ++ s) r.lines
      ∙ sym (append_assoc block (concat r.page) (blank_lines (page_lines - (from + length block + length (concat r.page))) ++ all_filled r.later))
      ∙ ap (λ (n : ℕ). concat (block ∷ r.page) ++ (blank_lines n ++ all_filled r.later)) (foot from r.page)

  -- at the top of a page the lines are those of the page
  whole : (page : Page) (later : List Page) → concat page ++ (blank_lines (page_lines - (0 + length (concat page))) ++ all_filled later) ≡ all_filled (page ∷ later)
  unfolding all_filled filled
  whole page later =
      let e : 0 + length (concat page) ≡ length (concat page) = omega arith in
      ap (λ (n : ℕ). concat page ++ (blank_lines (page_lines - n) ++ all_filled later)) e
      ∙ sym (append_assoc (concat page) (blank_lines (page_lines - length (concat page))) (all_filled later))

  from_top : laid (0 + length block) left ≡ laid (length block) left
  from_top = ap (λ (n : ℕ). laid n left) (omega arith)

  count_top : pages_from (0 + length block) left ≡ pages_from (length block) left
  count_top = ap (λ (n : ℕ). pages_from n left) (omega arith)

  over : (used : ℕ) → ¬ (used + length block ≤ page_lines) → (r : Paged (0 + length block) left)
      → laid used (block ∷ left) ≡ concat [] ++ (blank_lines (page_lines - (used + length (concat {A = Line} []))) ++ all_filled ((block ∷ r.page) ∷ r.later))
  unfolding concat
  over used n r =
      let e : page_lines - used ≡ page_lines - (used + length (concat {A = Line} [])) = omega arith in
      laid_over used block left n
      ∙ ap (λ (s : List Line). blank_lines (page_lines - used) ++ s) (ap (λ (s : List Line). block ++ s) (sym from_top) ∙ put 0 r ∙ whole (block ∷ r.page) r.later)
      ∙ ap (λ (m : ℕ). blank_lines m ++ all_filled ((block ∷ r.page) ∷ r.later)) e

  nothing_on : (used : ℕ) → used ≤ page_lines → used + length (concat {A = Line} []) ≤ page_lines
  unfolding concat
  nothing_on used a = omega arith

  next_over : (used : ℕ) (page : Page) → ¬ (used + length block ≤ page_lines) → page_lines < used + length (concat {A = Line} []) + first_size (block ∷ page)
  unfolding concat first_size
  next_over used page n = omega arith

  paged_on : (used : ℕ) → used ≤ page_lines → length block ≤ page_lines → ((n : ℕ) → n ≤ page_lines → Paged n left) → Dec (used + length block ≤ page_lines) → Paged used (block ∷ left)
  unfolding concat
  paged_on used a h rest (yes f) =
      let r = rest (used + length block) f in
      record {
        page = block ∷ r.page;
        later = r.later;
        in_order = ap (λ (s : List Block). block ∷ s) r.in_order;
        lines = laid_here used block left f ∙ put used r;
        turns = put_first used block r.turns;
        count = count_here used block left f ∙ r.count;
      }
  paged_on used a h rest (no n) =
      let r = rest (0 + length block) (omega arith) in
      record {
        page = [];
        later = (block ∷ r.page) ∷ r.later;
        in_order = ap (λ (s : List Block). block ∷ s) r.in_order;
        lines = over used n r;
        turns = turned {page = []} {next = block ∷ r.page} (nothing_on used a) (omega (arith, next_over used r.page n)) (put_first 0 block r.turns);
        count = count_over used block left n ∙ ap suc (sym count_top ∙ r.count);
      }

pub paged : (used : ℕ) {given : List Block} → used ≤ page_lines → Each (λ block. length block ≤ page_lines) given → Paged used given
unfolding laid concat all_filled pages_from
paged used a none = record {
  page = [];
  later = [];
  in_order = refl;
  lines = let e : page_lines - used ≡ page_lines - (used + 0) = omega arith in ap blank_lines e ∙ sym (append-nil (blank_lines (page_lines - (used + 0))));
  turns = last_page {used = used} {page = []} (omega arith);
  count = refl;
}
paged used a (also {x = block} {s = left} h hs) = paged_on block left used a h (λ n b. paged n b hs) (dec_le (used + length block) page_lines)

-- from the top of a page: what is laid are the pages' lines
pub laid_pages : {given : List Block} (r : Paged 0 given) → laid 0 given ≡ all_filled (r.page ∷ r.later)
laid_pages r = r.lines ∙ whole [] [] r.page r.later

-- every page has its lines
filled_length : (page : Page) → length (concat page) ≤ page_lines → length (filled page) ≡ page_lines
unfolding filled
filled_length page h = omega (arith, length-append (concat page) (blank_lines (page_lines - length (concat page))), length-replicate (page_lines - length (concat page)) (row []))

pub every_page_filled : {pages : List Page} → Turned 0 pages → Each (λ page. length (filled page) ≡ page_lines) pages
every_page_filled (last_page {page = page} h) = also (filled_length page (omega (arith, h))) none
every_page_filled (turned {page = page} h k t) = also (filled_length page (omega (arith, h))) (every_page_filled t)
