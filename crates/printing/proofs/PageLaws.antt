-- LAWS. The loop over what goes on a page: what it keeps, and its way out.
use mathlib.Core.Path.{◌≡◌, refl, sym, ap, ◌∙◌}
use mathlib.Core.Logic.{◌⊎◌, inl, inr}
use mathlib.Core.List.{List, [], ◌∷◌, ◌++◌, append_assoc, append-nil}
use Prim.Native.Nat.{ℕ, zero, suc, ◌+◌, ◌-◌, ◌*◌, ◌≤◌, ◌<◌}
use native.Mathlib.Omega.{arith}
use native.Mathlib.Decide.{dec_le}
use mir.Syntax.{w64}
use mir.Val.{Fits}
use lib.ListN.{length, take, drop, length-append}
use Rattle.expansion.specs.Levels.{Tables}
use Rattle.text.specs.Building.{Put}
use Rattle.text.proofs.TextLaws.{no_elements, put_none, put_as, put_front, put_length, then_put}
use Rattle.search.specs.Counted.{Entry}
use Rattle.paper.specs.Paper.{page_lines, line_bytes, page_bytes, Block, blank_lines, bytes_of}
use Rattle.paper.proofs.RowLaws.{bytes_append, blank_bytes}
use Rattle.layout.specs.Pages.{blocks, laid, key_pages}
use Rattle.layout.proofs.LaidLaws.{laid_here, laid_over}
use Rattle.printing.specs.Printing.{block_ahead, blocks_ahead, on_new_pages, still_to_print, foot, IsPrinting, Onward, PageIs}
use Rattle.printing.specs.declared.Printing.{Printing}
use Rattle.printing.proofs.AheadLaws.{few_lines, block_first, no_blocks}

-- the foot of a page
pub no_foot : {a : List ℕ} {used : ℕ} → used ≡ 0 → Put a (line_bytes * used) (foot used) a 0
unfolding foot
no_foot {a} e = rw e (put_none a 0 (omega arith))

some_foot : (used : ℕ) → ¬ (used ≡ 0) → bytes_of (blank_lines (page_lines - used)) ≡ foot used
unfolding foot
some_foot zero h = absurd (h refl)
some_foot (suc used) h = refl

pub foot_put : {a b : List ℕ} {used end : ℕ} → ¬ (used ≡ 0) → Put a (line_bytes * used) (bytes_of (blank_lines (page_lines - used))) b end → Put a (line_bytes * used) (foot used) b end
foot_put {used = used} h p = put_as (some_foot used h) p

-- on new pages the blocks of a list are its pages
pub new_pages : (entries : List Entry) → on_new_pages (blocks entries) ≡ key_pages entries
unfolding on_new_pages blocks key_pages
new_pages [] = refl
new_pages (entry ∷ entries) = refl

-- What is still to be printed where so many lines of a page are taken; where none is, the page need not be begun.
unfoldable pub from_line : (used : ℕ) → List Block → List ℕ
from_line zero given = on_new_pages given
from_line (suc used) given = bytes_of (laid (suc used) given)

from_some : (used : ℕ) (given : List Block) → ¬ (used ≡ 0) → from_line used given ≡ bytes_of (laid used given)
unfolding from_line
from_some zero given h = absurd (h refl)
from_some (suc used) given h = refl

from_first : (used : ℕ) (block : Block) (later : List Block) → from_line used (block ∷ later) ≡ bytes_of (laid used (block ∷ later))
unfolding from_line on_new_pages
from_first zero block later = refl
from_first (suc used) block later = refl

-- a block that fits
from_here : (used : ℕ) (block : Block) (later : List Block) → ¬ (length block ≡ 0) → used + length block ≤ page_lines → from_line used (block ∷ later) ≡ bytes_of block ++ from_line (used + length block) later
from_here used block later some h =
    from_first used block later ∙ ap bytes_of (laid_here used block later h) ∙ bytes_append block (laid (used + length block) later)
    ∙ ap (λ (s : List ℕ). bytes_of block ++ s) (sym (from_some (used + length block) later (λ e. some (omega (arith, e)))))

-- nothing is left, or the next block does not fit: the foot, and what comes on new pages
ends_nothing : (used : ℕ) → from_line used [] ≡ foot used ++ on_new_pages []
unfolding from_line foot on_new_pages laid
ends_nothing zero = refl
ends_nothing (suc used) = sym (append-nil (bytes_of (blank_lines (page_lines - suc used))))

ends_over : (used : ℕ) (block : Block) (later : List Block) → ¬ (used ≡ 0) → length block ≤ page_lines → page_lines < used + length block → from_line used (block ∷ later) ≡ foot used ++ on_new_pages (block ∷ later)
unfolding on_new_pages
ends_over used block later some small h =
    let top : laid 0 (block ∷ later) ≡ block ++ laid (length block) later = laid_here 0 block later (omega arith) ∙ ap (λ (n : ℕ). block ++ laid n later) (let z : 0 + length block ≡ length block = omega arith in z) in
    from_some used (block ∷ later) some ∙ ap bytes_of (laid_over used block later (λ k. omega (arith, k, h)) ∙ ap (λ (s : List (List ℕ)). blank_lines (page_lines - used) ++ s) (sym top))
    ∙ bytes_append (blank_lines (page_lines - used)) (laid 0 (block ∷ later))
    ∙ ap (λ (s : List ℕ). s ++ bytes_of (laid 0 (block ∷ later))) (some_foot used some)

-- with the lines before it the foot ends the page
foot_length : (used : ℕ) → used ≤ page_lines → ¬ (used ≡ 0) → line_bytes * used + length (foot used) ≡ page_bytes
foot_length used h some = omega (arith, ap length (some_foot used some), blank_bytes (page_lines - used))

no_foot_bytes : (used : ℕ) → used ≡ 0 → foot used ≡ []
unfolding foot
no_foot_bytes used e = rw e

-- What was ahead so far stands in front of the page, and the printing has the rest to print.
pub record Laying (first : Printing) (fleet page : List ℕ) (printing : Printing) (used : ℕ) (page' : List ℕ) (t : Tables) : Type 0 where
  pub bytes : List ℕ
  pub put : Put page 0 bytes page' (line_bytes * used)
  pub whole : still_to_print first fleet ≡ bytes ++ from_line used (blocks_ahead printing fleet)
  pub within : used ≤ page_lines
  pub room : page_bytes ≤ length page
  pub is_printing : IsPrinting printing fleet t

pub begins : {printing : Printing} {fleet : List ℕ} (page : List ℕ) {t : Tables} → IsPrinting printing fleet t → page_bytes ≤ length page → Laying printing fleet page printing 0 page t
unfolding from_line
begins page i h = record { bytes = []; put = put_none page 0 (omega arith); whole = refl; within = omega arith; room = h; is_printing = i }

module _ {first printing : Printing} {fleet page : List ℕ} {used : ℕ} {page' : List ℕ} {t₀ : Tables} (w : Laying first fleet page printing used page' t₀) where
  pub same_page : length page' ≡ length page
  same_page = put_length w.put

  pub room_now : page_bytes ≤ length page'
  room_now = omega (arith, w.room, same_page)

  pub bytes_fit : Fits w64 (line_bytes * used)
  bytes_fit = omega (arith, w.within)

  module _ {lines : ℕ} (size : lines ≡ length (block_ahead printing)) where
    pub sum_fits : Fits w64 (used + lines)
    sum_fits = omega (arith, w.within, size, few_lines printing)

    -- the page is left
    ends : (lines ≡ 0) ⊎ (page_lines < used + lines) → (from_line used (blocks_ahead printing fleet) ≡ foot used ++ still_to_print printing fleet) × ((used ≡ 0) → blocks_ahead printing fleet ≡ [])
    ends (inl e) =
        let none = no_blocks printing fleet (sym size ∙ e) in
        (rw none (ends_nothing used), λ z. none)
    ends (inr h) =
        let some : ¬ (used ≡ 0) = λ e. omega (arith, e, h, size, few_lines printing) in
        let fits : length (block_ahead printing) ≤ page_lines = omega (arith, few_lines printing) in
        (rw (block_first printing fleet (λ e. omega (arith, e, h, size, w.within))) (ends_over used (block_ahead printing) (drop 1 (blocks_ahead printing fleet)) some fits (omega (arith, h, size))), λ z. absurd (some z))

    ends_whole : {len : ℕ} {page'' : List ℕ} → (lines ≡ 0) ⊎ (page_lines < used + lines) → Put page' (line_bytes * used) (foot used) page'' len → Dec (1 ≤ used) → (len ≡ page_bytes) ⊎ ((len ≡ 0) × (still_to_print first fleet ≡ []))
    unfolding on_new_pages
    ends_whole h p (yes some) = inl (omega (arith, p.size, foot_length used w.within (λ e. omega arith)))
    ends_whole h p (no n) =
        let z : used ≡ 0 = omega arith in
        let e = ends h in
        let no_bytes : length (foot used) ≡ 0 = ap length (no_foot_bytes used z) in
        let left : length (still_to_print printing fleet) ≡ 0 = ap (λ (given : List Block). length (on_new_pages given)) (e.1 z) in
        let all = ap length (w.whole ∙ ap (λ (s : List ℕ). w.bytes ++ s) e.0) in
        inr (
          omega (arith, p.size, no_bytes),
          no_elements (still_to_print first fleet)
              (omega (arith, all, length-append w.bytes (foot used ++ still_to_print printing fleet), length-append (foot used) (still_to_print printing fleet), no_bytes, left, w.put.size)),
        )

    pub page_left : {len : ℕ} {page'' : List ℕ} → (lines ≡ 0) ⊎ (page_lines < used + lines) → Put page' (line_bytes * used) (foot used) page'' len → PageIs first fleet page (record { len = len; printing = printing }) page'' t₀
    page_left {len} {page''} h p =
        let there : Put page 0 (w.bytes ++ foot used) page'' len = then_put w.put p in
        let front : take len page'' ≡ w.bytes ++ foot used = put_front there in
        record {
          the_page = put_as (sym front) there;
          the_rest =
              w.whole ∙ ap (λ (s : List ℕ). w.bytes ++ s) (ends h).0 ∙ sym (append_assoc w.bytes (foot used) (still_to_print printing fleet))
              ∙ ap (λ (s : List ℕ). s ++ still_to_print printing fleet) (sym front);
          whole_or_none = ends_whole h p (dec_le 1 used);
          goes_on = w.is_printing;
        }

    module _ (fits : used + lines ≤ page_lines) where
      pub block_room : line_bytes * used + line_bytes * length (block_ahead printing) ≤ length page'
      block_room = omega (arith, fits, size, room_now)

      module _ (some : ¬ (lines ≡ 0)) where
        -- one block more
        pub goes_on : {end : ℕ} {page'' : List ℕ} {after : Printing} {t : Tables}
            → Put page' (line_bytes * used) (bytes_of (block_ahead printing)) page'' end × (end ≡ line_bytes * used + line_bytes * length (block_ahead printing))
            → Onward printing fleet after t → Laying first fleet page after (used + lines) page'' t
        goes_on {end} {page''} {after} p o =
            let e : end ≡ line_bytes * (used + lines) = omega (arith, p.1, size) in
            let there : Put page 0 (w.bytes ++ bytes_of (block_ahead printing)) page'' end = then_put w.put p.0 in
            let here : from_line used (blocks_ahead printing fleet) ≡ bytes_of (block_ahead printing) ++ from_line (used + lines) (blocks_ahead after fleet)
            = ap (from_line used) (block_first printing fleet (λ z. some (size ∙ z)))
            ∙ from_here used (block_ahead printing) (drop 1 (blocks_ahead printing fleet)) (λ z. some (size ∙ z)) (omega (arith, fits, size))
            ∙ ap (λ (n : ℕ). bytes_of (block_ahead printing) ++ from_line (used + n) (drop 1 (blocks_ahead printing fleet))) (sym size)
            ∙ ap (λ (given : List Block). bytes_of (block_ahead printing) ++ from_line (used + lines) given) (sym o.one_less) in
            record {
              bytes = w.bytes ++ bytes_of (block_ahead printing);
              put = rw e at there;
              whole = w.whole ∙ ap (λ (s : List ℕ). w.bytes ++ s) here ∙ sym (append_assoc w.bytes (bytes_of (block_ahead printing)) (from_line (used + lines) (blocks_ahead after fleet)));
              within = fits;
              room = w.room;
              is_printing = o.goes_on;
            }

        pub less_left : page_lines - (used + lines) < page_lines - used
        less_left = omega (arith, fits, some)
