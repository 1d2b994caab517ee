-- LAWS. The pages counted, block by block.
use mathlib.Core.Path.{◌≡◌, sym, ap, ◌∙◌}
use mathlib.Core.List.{List, ◌∷◌}
use Prim.Native.Nat.{ℕ, ◌+◌, ◌≤◌, ◌<◌, min}
use native.Mathlib.Omega.{arith}
use lib.ListN.{length}
use Rattle.search.specs.Counted.{Entry}
use Rattle.expansion.specs.Levels.{Tables}
use Rattle.paper.specs.Paper.{page_lines, Block}
use Rattle.layout.specs.Pages.{blocks, pages_from, number_of_pages}
use Rattle.layout.proofs.LaidLaws.{count_here, count_over, some_page}
use Rattle.printing.specs.Printing.{block_ahead, blocks_ahead, IsPrinting, Onward}
use Rattle.printing.specs.declared.Printing.{Printing}
use Rattle.printing.proofs.AheadLaws.{few_lines, block_first, no_blocks}

-- so many pages are left behind, and so many lines of the next are taken, before what is ahead
pub record Counting (first : Printing) (fleet : List ℕ) (printing : Printing) (pages used : ℕ) (t : Tables) : Type 0 where
  pub is_printing : IsPrinting printing fleet t
  pub used_to_most : used ≤ page_lines
  pub total : pages + pages_from used (blocks_ahead printing fleet) ≡ pages_from 0 (blocks_ahead first fleet)

pub begins : {first : Printing} {fleet : List ℕ} {t : Tables} → IsPrinting first fleet t → Counting first fleet first 0 0 t
begins is = record { is_printing = is; used_to_most = omega arith; total = omega arith }

module _ {first printing : Printing} {fleet : List ℕ} {pages used : ℕ} {t : Tables} (c : Counting first fleet printing pages used t) where
  module _ (entries : List Entry) (from : blocks_ahead first fleet ≡ blocks entries) where
    all_pages : pages + pages_from used (blocks_ahead printing fleet) ≡ number_of_pages entries
    unfolding number_of_pages
    all_pages = c.total ∙ ap (λ (s : List Block). pages_from 0 s) from

    -- nothing is ahead
    pub ends : {most : ℕ} → pages < most → length (block_ahead printing) ≡ 0 → pages + 1 ≡ min (number_of_pages entries) (most + 1)
    unfolding pages_from
    ends h e =
        let all : pages + 1 ≡ number_of_pages entries = ap (λ (s : List Block). pages + pages_from used s) (sym (no_blocks printing fleet e)) ∙ all_pages in
        omega (arith, all, h)

    -- they are more than most
    pub ends_above : {most : ℕ} → most ≤ pages → most + 1 ≡ min (number_of_pages entries) (most + 1)
    ends_above h = omega (arith, h, all_pages, some_page used (blocks_ahead printing fleet))

  pub lines_fit : {lines : ℕ} → lines ≡ length (block_ahead printing) → used + lines ≤ page_lines + 2
  lines_fit e = omega (arith, c.used_to_most, few_lines printing)

  -- a block is ahead: it fits, or it goes to the next page
  module _ {lines : ℕ} (e : lines ≡ length (block_ahead printing)) (n : ¬ (lines ≡ 0)) {next : Printing} {t' : Tables} (on : Onward printing fleet next t') where
    split : blocks_ahead printing fleet ≡ block_ahead printing ∷ blocks_ahead next fleet
    split = block_first printing fleet (λ z. n (e ∙ z)) ∙ ap (λ (s : List Block). block_ahead printing ∷ s) (sym on.one_less)

    pub shorter : length (blocks_ahead next fleet) < length (blocks_ahead printing fleet)
    shorter = omega (arith, ap length split)

    total_split : pages + pages_from used (block_ahead printing ∷ blocks_ahead next fleet) ≡ pages_from 0 (blocks_ahead first fleet)
    total_split = ap (λ (s : List Block). pages + pages_from used s) (sym split) ∙ c.total

    pub fits : used + lines ≤ page_lines → Counting first fleet next pages (used + lines) t'
    fits h = record {
      is_printing = on.goes_on;
      used_to_most = h;
      total = omega (arith, count_here used (block_ahead printing) (blocks_ahead next fleet) (omega arith), ap (λ k. pages_from (used + k) (blocks_ahead next fleet)) e, total_split);
    }

    pub turns : page_lines < used + lines → Counting first fleet next (pages + 1) lines t'
    turns h = record {
      is_printing = on.goes_on;
      used_to_most = omega (arith, few_lines printing);
      total = omega (arith, count_over used (block_ahead printing) (blocks_ahead next fleet) (λ k. omega arith), ap (λ k. pages_from k (blocks_ahead next fleet)) e, total_split);
    }
