-- LAWS. The pages of some blocks are determined.
use mathlib.Core.Path.{◌≡◌, refl, sym, ap, ◌∙◌}
use mathlib.Core.List.{List, [], ◌∷◌}
use Prim.Native.Nat.{ℕ, ◌+◌, ◌≤◌, ◌<◌}
use native.Mathlib.Omega.{arith}
use native.Mathlib.Decide.{dec_le}
use lib.ListN.{length, length-append}
use Rattle.paper.specs.Paper.{page_lines, Line, Block, Each, none, also}
use Rattle.layout.specs.Pages.{Page, concat, first_size, Turned, last_page, turned}

-- where the first block stands: on the page begun, or, where it does not fit, on the next
pub record OnThisPage (used : ℕ) (block : Block) (left : List Block) (pages : List Page) : Type 0 where
  pub page : Page
  pub later : List Page
  pub is : pages ≡ (block ∷ page) ∷ later
  pub turns : Turned (used + length block) (page ∷ later)
  pub in_order : concat (page ∷ later) ≡ left

module _ (used : ℕ) (block : Block) (left : List Block) where
  more_rows : (x : Block) (page : Page) → x ≡ block → length (concat (x ∷ page)) ≡ length block + length (concat page)
  unfolding concat
  more_rows x page e = length-append x (concat page) ∙ ap (λ (b : Block). length b + length (concat page)) e

  here_last : (page : Page) → used + length (concat page) ≤ page_lines → concat (page ∷ []) ≡ block ∷ left → OnThisPage used block left (page ∷ [])
  unfolding concat
  here_last [] h e = absurd (omega (arith, ap length e))
  here_last (x ∷ page) h e =
      let f : x ≡ block = cc in
      record {
        page = page;
        later = [];
        is = ap (λ (b : Block). (b ∷ page) ∷ []) f;
        turns = last_page {used = used + length block} {page = page} (omega (arith, h, more_rows x page f));
        in_order = cc;
      }

  -- an empty page was left: the block does not fit on it
  left_empty : (next : Page) (later : List Page) → used + length block ≤ page_lines → used ≤ page_lines → page_lines < used + length (concat {A = Line} []) + first_size next → concat ([] ∷ next ∷ later) ≡ block ∷ left → ⊥
  unfolding concat first_size
  left_empty [] later h w k e = omega arith
  left_empty (y ∷ next) later h w k e =
      let f : y ≡ block = cc in
      omega (arith, k, h, ap length f)

  here_turned : (page next : Page) (later : List Page) → used + length block ≤ page_lines → used + length (concat page) ≤ page_lines → page_lines < used + length (concat page) + first_size next → Turned 0 (next ∷ later)
      → concat (page ∷ next ∷ later) ≡ block ∷ left → OnThisPage used block left (page ∷ next ∷ later)
  unfolding concat
  here_turned [] next later fits h k t e = absurd (left_empty next later fits (omega (arith, h)) k e)
  here_turned (x ∷ page) next later fits h k t e =
      let f : x ≡ block = cc in
      record {
        page = page;
        later = next ∷ later;
        is = ap (λ (b : Block). (b ∷ page) ∷ next ∷ later) f;
        turns = turned {used = used + length block} {page = page} {next = next} (omega (arith, h, more_rows x page f)) (omega (arith, k, more_rows x page f)) t;
        in_order = cc;
      }

  pub on_this_page : {pages : List Page} → used + length block ≤ page_lines → Turned used pages → concat pages ≡ block ∷ left → OnThisPage used block left pages
  on_this_page fits (last_page {page = page} h) e = here_last page h e
  on_this_page fits (turned {page = page} {next = next} {later = later} h k t) e = here_turned page next later fits h k t e

-- a page on which the first block does not fit is left at once
pub record OnNextPage (block : Block) (left : List Block) (pages : List Page) : Type 0 where
  pub page : Page
  pub later : List Page
  pub is : pages ≡ [] ∷ (block ∷ page) ∷ later
  pub turns : Turned (length block) (page ∷ later)
  pub in_order : concat (page ∷ later) ≡ left

module _ (used : ℕ) (block : Block) (left : List Block) (n : ¬ (used + length block ≤ page_lines)) (small : length block ≤ page_lines) where
  full : (x : Block) (page : Page) → x ≡ block → used + length (concat (x ∷ page)) ≤ page_lines → ⊥
  full x page e h = n (omega (arith, h, more_rows used block left x page e))

  over_last : (page : Page) → used + length (concat page) ≤ page_lines → concat (page ∷ []) ≡ block ∷ left → ⊥
  unfolding concat
  over_last [] h e = omega (arith, ap length e)
  over_last (x ∷ page) h e = let f : x ≡ block = cc in full x page f h

  on_top : (next : Page) (later : List Page) → Turned 0 (next ∷ later) → concat (next ∷ later) ≡ block ∷ left → OnNextPage block left ([] ∷ next ∷ later)
  on_top next later t e =
      let r = on_this_page 0 block left (omega arith) t e in
      record {
        page = r.page;
        later = r.later;
        is = ap (λ (s : List Page). [] ∷ s) r.is;
        turns = let z : 0 + length block ≡ length block = omega arith in let q : Turned (0 + length block) (r.page ∷ r.later) = r.turns in rw z at q;
        in_order = r.in_order;
      }

  over_turned : (page next : Page) (later : List Page) → used + length (concat page) ≤ page_lines → Turned 0 (next ∷ later) → concat (page ∷ next ∷ later) ≡ block ∷ left → OnNextPage block left (page ∷ next ∷ later)
  unfolding concat
  over_turned [] next later h t e = on_top next later t e
  over_turned (x ∷ page) next later h t e = absurd (let f : x ≡ block = cc in full x page f h)

  pub on_next_page : {pages : List Page} → Turned used pages → concat pages ≡ block ∷ left → OnNextPage block left pages
  on_next_page (last_page {page = page} h) e = absurd (over_last page h e)
  on_next_page (turned {page = page} {next = next} {later = later} h k t) e = over_turned page next later h t e

-- no block left: one page with nothing on it
nothing_turned : (used : ℕ) (page next : Page) (later : List Page) → used + length (concat page) ≤ page_lines → page_lines < used + length (concat page) + first_size next → concat (page ∷ next ∷ later) ≡ [] → ⊥
unfolding concat first_size
nothing_turned used [] [] later h k e = omega arith
nothing_turned used [] (y ∷ next) later h k e = omega (arith, ap length e)
nothing_turned used (x ∷ page) next later h k e = omega (arith, ap length e)

nothing_last : (page : Page) → concat (page ∷ []) ≡ [] → page ∷ [] ≡ [] ∷ []
unfolding concat
nothing_last [] e = refl
nothing_last (x ∷ page) e = absurd (omega (arith, ap length e))

nothing_left : {used : ℕ} {pages : List Page} → Turned used pages → concat pages ≡ [] → pages ≡ [] ∷ []
nothing_left (last_page {page = page} h) e = nothing_last page e
nothing_left {used} (turned {page = page} {next = next} {later = later} h k t) e = absurd (nothing_turned used page next later h k e)

abbrev onto : Block → List Page → List Page
onto block [] = []
onto block (page ∷ later) = (block ∷ page) ∷ later

unique_on : (used : ℕ) (block : Block) (left : List Block) {pages other : List Page} → length block ≤ page_lines
    → ((n : ℕ) (s t : List Page) → n ≤ page_lines → Turned n s → Turned n t → concat s ≡ left → concat t ≡ left → s ≡ t)
    → Turned used pages → Turned used other → concat pages ≡ block ∷ left → concat other ≡ block ∷ left → Dec (used + length block ≤ page_lines) → pages ≡ other
unique_on used block left small same a b e f (yes y) =
    let p = on_this_page used block left y a e in
    let q = on_this_page used block left y b f in
    p.is ∙ ap (onto block) (same (used + length block) (p.page ∷ p.later) (q.page ∷ q.later) y p.turns q.turns p.in_order q.in_order) ∙ sym q.is
unique_on used block left small same a b e f (no n) =
    let p = on_next_page used block left n small a e in
    let q = on_next_page used block left n small b f in
    p.is ∙ ap (λ (s : List Page). [] ∷ onto block s) (same (length block) (p.page ∷ p.later) (q.page ∷ q.later) small p.turns q.turns p.in_order q.in_order) ∙ sym q.is

pub pages_unique : (used : ℕ) {left : List Block} (pages other : List Page) → Each (λ block. length block ≤ page_lines) left → Turned used pages → Turned used other → concat pages ≡ left → concat other ≡ left → pages ≡ other
pages_unique used pages other none a b e f = nothing_left a e ∙ sym (nothing_left b f)
pages_unique used pages other (also {x = block} {s = left} h hs) a b e f =
    unique_on used block left h (λ n s t y c d. pages_unique n s t hs c d) a b e f (dec_le (used + length block) page_lines)
