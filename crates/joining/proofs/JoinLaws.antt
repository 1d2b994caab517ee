-- LAWS. The pages joined: blank lines gone, second lines joined on, spare blanks gone.
use mathlib.Core.Path.{◌≡◌, refl, sym, ap, ◌∙◌}
use mathlib.Core.List.{List, [], ◌∷◌, ◌++◌, append_assoc, append-nil, map-append}
use Prim.Native.Nat.{ℕ, zero, suc, ◌+◌, ◌-◌, ◌≤◌}
use native.Mathlib.Omega.{arith}
use native.Mathlib.Decide.{dec_le}
use lib.ListN.{length, take, drop, take-append-drop}
use Rattle.text.specs.Text.{blank, line_end, decimal, pair_text, end_word}
use Rattle.lines.specs.Lines.{pairs_text, form_line, end_line}
use Rattle.search.specs.Counted.{Entry}
use Rattle.run.specs.Running.{lines}
use Rattle.paper.specs.Paper.{page_lines, indent, pairs_a_line, Line, Block, blank_lines, row, first_line, second_line, further_lines, form_lines, bytes_of, Each, none, also, HasRoom, Of16Bits}
use Rattle.paper.specs.Claims.{IsRow}
use Rattle.paper.proofs.EachLaws.{each_take, each_drop}
use Rattle.layout.specs.Pages.{blocks, concat, laid}
use Rattle.layout.specs.Claims.{Fit}
use Rattle.layout.proofs.LaidLaws.{laid_here, laid_over}
use Rattle.joining.specs.Joining.{ended, pieces_on, lines_in, words, if_none, without_blank_lines, joined_on, second_lines_joined, each_after_a_blank, parted, without_spare_blanks}
use Rattle.joining.proofs.PieceLaws.{piece_then}
use Rattle.joining.proofs.WordLaws.{texts, first_words, second_words, first_start, second_start, blank_words, end_words, end_start}

-- split at line ends, the lines are again what they were
pub lines_back : {given : List Line} → Each IsRow given → lines_in (bytes_of given) ≡ given
unfolding bytes_of pieces_on ended
lines_back none = refl
lines_back (also {x = line} {s = later} h hs) =
    piece_then line_end line (bytes_of later) (omega (arith, h.wide)) h.no_line_end ∙ ap (λ (s : List Line). line ∷ s) (lines_back hs)

-- a line with words
abbrev Said : Line → Type 0
Said line = 1 ≤ length (words line)

module _ {A : Type 0} where
  some_words : (given : List (List ℕ)) (a b : A) → 1 ≤ length given → if_none given a b ≡ b
  unfolding if_none
  some_words [] a b h = absurd (omega arith)
  some_words (word ∷ later) a b h = refl

  no_words : {given : List (List ℕ)} (a b : A) → given ≡ [] → if_none given a b ≡ a
  unfolding if_none
  no_words a b e = rw e

blank_lines_gone : (n : ℕ) (later : List Line) → without_blank_lines (blank_lines n ++ later) ≡ without_blank_lines later
unfolding without_blank_lines
blank_lines_gone zero later = refl
blank_lines_gone (suc n) later = no_words (without_blank_lines (blank_lines n ++ later)) (row [] ∷ without_blank_lines (blank_lines n ++ later)) blank_words ∙ blank_lines_gone n later

said_kept : {given : List Line} (later : List Line) → Each Said given → without_blank_lines (given ++ later) ≡ given ++ without_blank_lines later
unfolding without_blank_lines
said_kept later none = refl
said_kept later (also {x = line} {s = more} h hs) =
    some_words (words line) (without_blank_lines (more ++ later)) (line ∷ without_blank_lines (more ++ later)) h ∙ ap (λ (s : List Line). line ∷ s) (said_kept later hs)

-- without blank lines the pages are the blocks' lines
kept_on : (used : ℕ) (block : Block) (later : List Block) → Each Said block → ((n : ℕ) → without_blank_lines (laid n later) ≡ concat later) → Dec (used + length block ≤ page_lines)
    → without_blank_lines (laid used (block ∷ later)) ≡ concat (block ∷ later)
unfolding concat
kept_on used block later h rest (yes f) =
    ap without_blank_lines (laid_here used block later f) ∙ said_kept (laid (used + length block) later) h ∙ ap (λ (s : List Line). block ++ s) (rest (used + length block))
kept_on used block later h rest (no n) =
    ap without_blank_lines (laid_over used block later n) ∙ blank_lines_gone (page_lines - used) (block ++ laid (length block) later)
    ∙ said_kept (laid (length block) later) h ∙ ap (λ (s : List Line). block ++ s) (rest (length block))

pub laid_kept : (used : ℕ) {given : List Block} → Each (Each Said) given → without_blank_lines (laid used given) ≡ concat given
unfolding laid concat without_blank_lines
laid_kept used none = ap without_blank_lines (sym (append-nil (blank_lines (page_lines - used)))) ∙ blank_lines_gone (page_lines - used) []
laid_kept used (also {x = block} {s = later} h hs) = kept_on used block later h (λ n. laid_kept n hs) (dec_le (used + length block) page_lines)

-- the lines of a form
abbrev first_of : Entry → Line
first_of entry = first_line entry.held (take pairs_a_line entry.form)

abbrev second_of : Entry → Block
second_of entry = further_lines (drop pairs_a_line entry.form)

-- every line of a block has words
said_by : (line : Line) {word : List ℕ} {later : List (List ℕ)} → words (line ++ []) ≡ word ∷ later → Said line
said_by line e = omega (arith, ap length (ap words (sym (append-nil line)) ∙ e))

goes_on_said : {left : List ℕ} → Each Of16Bits left → Each Said (further_lines left)
unfolding further_lines
goes_on_said none = none
goes_on_said (also {x = x} {s = left} h hs) = also (said_by (second_line (x ∷ left)) (second_words [] (also h hs))) none

pub blocks_said : {entries : List Entry} → Fit entries → Each (Each Said) (blocks entries)
unfolding blocks form_lines
blocks_said none = also (also (said_by (row end_word) (end_words [])) none) none
blocks_said (also {x = entry} h hs) =
    also (also (said_by (first_of entry) (first_words entry.held [] (each_take pairs_a_line h.pairs_small))) (goes_on_said (each_drop pairs_a_line h.pairs_small))) (blocks_said hs)

-- the same, the second joined on
unfoldable whole_line : Entry → Line
unfolding concat
whole_line entry = first_of entry ++ concat (second_of entry)

unfoldable pub whole_lines : List Entry → List Line
unfolding whole_line
whole_lines [] = row end_word ∷ []
whole_lines (entry ∷ entries) = whole_line entry ∷ whole_lines entries

second_joined : (line : Line) (left : List ℕ) (later : List Line) → joined_on line (further_lines left ++ later) ≡ joined_on (line ++ concat (further_lines left)) later
unfolding joined_on further_lines concat
second_joined line [] later = ap (λ (s : Line). joined_on s later) (sym (append-nil line))
second_joined line (x ∷ left) later =
    let second : Line = second_line (x ∷ left) in
    no_words (joined_on (line ++ second) later) (line ∷ joined_on second later) (second_start (x ∷ left)) ∙ ap (λ (s : Line). joined_on (line ++ s) later) (sym (append-nil second))

starts : (entry : Entry) → HasRoom entry.held entry.form → 1 ≤ length (words (take indent (first_of entry)))
starts entry r = omega (arith, ap length (first_start entry.held (take pairs_a_line entry.form) r.support_fits))

blocks_joined : (line : Line) {entries : List Entry} → Fit entries → joined_on line (concat (blocks entries)) ≡ line ∷ whole_lines entries
unfolding joined_on concat blocks whole_lines form_lines
blocks_joined line none = some_words (words (take indent (row end_word))) (joined_on (line ++ row end_word) []) (line ∷ joined_on (row end_word) []) end_start
blocks_joined line (also {x = entry} {s = entries} h hs) =
    let left : List Line = second_of entry ++ concat (blocks entries) in
    some_words (words (take indent (first_of entry))) (joined_on (line ++ first_of entry) left) (line ∷ joined_on (first_of entry) left) (starts entry h)
    ∙ ap (λ (s : List Line). line ∷ s) (second_joined (first_of entry) (drop pairs_a_line entry.form) (concat (blocks entries)) ∙ blocks_joined (whole_line entry) hs)

pub all_joined : {entries : List Entry} → Fit entries → second_lines_joined (concat (blocks entries)) ≡ whole_lines entries
unfolding second_lines_joined joined_on concat blocks whole_lines form_lines
all_joined none = refl
all_joined (also {x = entry} {s = entries} h hs) = second_joined (first_of entry) (drop pairs_a_line entry.form) (concat (blocks entries)) ∙ blocks_joined (whole_line entry) hs

-- its words are the support and the pairs
together_words : {left : List ℕ} → Each Of16Bits left → words (concat (further_lines left)) ≡ texts left
unfolding concat further_lines pieces_on ended
together_words none = refl
together_words (also {x = x} {s = left} h hs) = second_words [] (also h hs) ∙ append-nil (texts (x ∷ left))

whole_words : (entry : Entry) → HasRoom entry.held entry.form → words (whole_line entry) ≡ decimal entry.held ∷ texts entry.form
unfolding whole_line
whole_words entry r =
    first_words entry.held (concat (second_of entry)) (each_take pairs_a_line r.pairs_small)
    ∙ ap (λ (s : List (List ℕ)). decimal entry.held ∷ s)
    (ap (λ (s : List (List ℕ)). texts (take pairs_a_line entry.form) ++ s) (together_words (each_drop pairs_a_line r.pairs_small))
    ∙ sym (map-append pair_text (take pairs_a_line entry.form) (drop pairs_a_line entry.form))
    ∙ ap texts (take-append-drop pairs_a_line entry.form))

texts_parted : (pairs : List ℕ) → each_after_a_blank (texts pairs) ≡ pairs_text pairs
unfolding each_after_a_blank pairs_text
texts_parted [] = refl
texts_parted (x ∷ pairs) = ap (λ (s : List ℕ). blank ∷ pair_text x ++ s) (texts_parted pairs)

whole_said : (entry : Entry) → HasRoom entry.held entry.form → parted (words (whole_line entry)) ++ line_end ∷ [] ≡ form_line entry.held entry.form
unfolding parted form_line
whole_said entry r = ap (λ (s : List (List ℕ)). parted s ++ line_end ∷ []) (whole_words entry r) ∙ ap (λ (s : List ℕ). decimal entry.held ++ s ++ line_end ∷ []) (texts_parted entry.form)

end_said : parted (words (row end_word)) ++ line_end ∷ [] ≡ end_line
unfolding parted each_after_a_blank pieces_on ended
end_said = ap (λ (s : Line). parted (words s) ++ line_end ∷ []) (sym (append-nil (row end_word))) ∙ ap (λ (s : List (List ℕ)). parted s ++ line_end ∷ []) (end_words [])

pub wholes_said : {entries : List Entry} → Fit entries → without_spare_blanks (whole_lines entries) ≡ lines entries ++ end_line
unfolding without_spare_blanks whole_lines lines
wholes_said none = append-nil (parted (words (row end_word)) ++ line_end ∷ []) ∙ end_said
wholes_said (also {x = entry} {s = entries} h hs) =
    ap (λ (s : List ℕ). s ++ without_spare_blanks (whole_lines entries)) (whole_said entry h)
    ∙ ap (λ (s : List ℕ). form_line entry.held entry.form ++ s) (wholes_said hs)
    ∙ sym (append_assoc (form_line entry.held entry.form) (lines entries) end_line)
