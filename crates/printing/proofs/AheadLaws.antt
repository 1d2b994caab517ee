-- LAWS. What is ahead of a printing: its lines, what a pattern's step puts there, and what comes after it.
use mathlib.Core.Path.{◌≡◌, refl, sym, ap, ◌∙◌}
use mathlib.Core.Logic.{◌⊎◌, inl, inr}
use mathlib.Core.List.{List, [], ◌∷◌}
use Prim.Native.Nat.{ℕ, ◌+◌, ◌*◌, ◌≤◌}
use native.Mathlib.Omega.{arith}
use lib.ListN.{length, take, drop, length-take}
use Rattle.matching.specs.Limits.{most_nodes_of_a_pattern}
use Rattle.expansion.specs.Levels.{Tables}
use Rattle.text.specs.Text.{decimal}
use Rattle.text.specs.Building.{Put}
use Rattle.text.proofs.TextLaws.{put_none}
use Rattle.search.specs.Counted.{Entry}
use Rattle.search.specs.Sought.{search_in}
use Rattle.search.specs.Search.{pairs_of, entry_of, pattern_after, NextInput}
use Rattle.profiles.specs.Selected.{SelectedNext}
use Rattle.search.specs.declared.Request.{Request}
use Rattle.search.specs.declared.Pattern.{Pattern}
use Rattle.search.specs.declared.FrequentPattern.{FrequentPattern}
use Rattle.std.specs.Prelude.{Option, Some, None}
use Rattle.listing.specs.Listing.{asks}
use Rattle.entries.specs.Entries.{list_of, rest_of}
use Rattle.entries.proofs.RestLaws.{Follows, next_follows, end_follows, rest_of_whole}
use Rattle.paper.specs.Paper.{line_bytes, support_columns, pairs_a_line, Block, form_lines, end_block, bytes_of}
use Rattle.paper.proofs.RowLaws.{form_lines_few}
use Rattle.layout.specs.Pages.{blocks}
use Rattle.layout.proofs.RoomLaws.{sought_room}
use Rattle.printing.specs.Printing.{block_of, block_ahead, blocks_from, blocks_ahead, OnPaper, CanGoOn, IsPrinting, ahead_for, printing_from, BeginInput, Onward}
use Rattle.printing.specs.declared.Upcoming.{Upcoming}
use Rattle.printing.specs.declared.Upcoming.TheVariants.{Form, EndLine, Nothing}
use Rattle.printing.specs.declared.Printing.{Printing}

-- the two ways out of `found`
module _ {request : Request} (given : Pattern) {next : Option FrequentPattern} where
  pub found_form : {found : FrequentPattern} → next ≡ Some found → ◌≡◌ {A = Printing} (record { ahead = Form found.support; request = request; pattern = found.pattern }) (printing_from request given next)
  unfolding ahead_for pattern_after
  found_form e = rw e

  pub found_end : next ≡ None → ◌≡◌ {A = Printing} (record { ahead = EndLine; request = request; pattern = given }) (printing_from request given next)
  unfolding ahead_for pattern_after
  found_end e = rw e

-- the block ahead
module _ (printing : Printing) where
  pub form_ahead : {held : ℕ} → printing.ahead ≡ Form held → form_lines held (pairs_of printing.pattern) ≡ block_ahead printing
  unfolding block_of
  form_ahead e = rw e

  pub end_ahead : printing.ahead ≡ EndLine → end_block ≡ block_ahead printing
  unfolding block_of
  end_ahead e = rw e

  pub nothing_ahead : printing.ahead ≡ Nothing → [] ≡ block_ahead printing
  unfolding block_of
  nothing_ahead e = rw e

  -- what putting it asks for
  pub form_input : {held : ℕ} (at room : ℕ) → OnPaper printing → printing.ahead ≡ Form held → at + line_bytes * length (block_ahead printing) ≤ room
      → (printing.pattern.len ≤ most_nodes_of_a_pattern) × (length (decimal held) ≤ support_columns) × (at + line_bytes * length (form_lines held (pairs_of printing.pattern)) ≤ room)
  form_input {held} at room o e h = (o.within, o.support_fits held e, omega (arith, h, ap length (form_ahead e)))

  pub end_input : (at room : ℕ) → printing.ahead ≡ EndLine → at + line_bytes * length (block_ahead printing) ≤ room → at + line_bytes ≤ room
  end_input at room e h = omega (arith, h, ap length (end_ahead e))

-- a block put, by another name
pub put_block : {block other : Block} {a b : List ℕ} {at end : ℕ} → block ≡ other → Put a at (bytes_of block) b end × (end ≡ at + line_bytes * length block)
    → Put a at (bytes_of other) b end × (end ≡ at + line_bytes * length other)
put_block e p = rw e at p

-- room for the pairs of a form
pub few_pairs : {len : ℕ} (nodes : List ℕ) → len ≤ most_nodes_of_a_pattern → length (take len nodes) ≤ 2 * pairs_a_line
few_pairs {len} nodes h = omega (arith, length-take len nodes, h)

-- nothing put
pub nothing_put : (a : List ℕ) (at : ℕ) → at ≤ length a → Put a at (bytes_of []) a at × (at ≡ at + line_bytes * length {A = List ℕ} [])
unfolding bytes_of
nothing_put a at h = (put_none a at h, omega arith)

-- what is ahead has at most two lines, and none only where nothing is ahead
few_lines_of : (ahead : Upcoming) (pattern : Pattern) → length (block_of ahead pattern) ≤ 2
unfolding block_of
few_lines_of (Form held) pattern = (form_lines_few held (pairs_of pattern)).1
few_lines_of EndLine pattern = omega arith
few_lines_of Nothing pattern = omega arith

pub few_lines : (printing : Printing) → length (block_ahead printing) ≤ 2
few_lines printing = few_lines_of printing.ahead printing.pattern

some_first : (ahead : Upcoming) (pattern : Pattern) (rest : List Entry) → ¬ (length (block_of ahead pattern) ≡ 0) → blocks_from ahead pattern rest ≡ block_of ahead pattern ∷ drop 1 (blocks_from ahead pattern rest)
unfolding block_of blocks_from
some_first (Form held) pattern rest h = refl
some_first EndLine pattern rest h = refl
some_first Nothing pattern rest h = absurd (h refl)

pub block_first : (printing : Printing) (fleet : List ℕ) → ¬ (length (block_ahead printing) ≡ 0) → blocks_ahead printing fleet ≡ block_ahead printing ∷ drop 1 (blocks_ahead printing fleet)
block_first printing fleet h = some_first printing.ahead printing.pattern (rest_of (search_in fleet printing.request) (pairs_of printing.pattern)) h

none_left : (ahead : Upcoming) (pattern : Pattern) (rest : List Entry) → length (block_of ahead pattern) ≡ 0 → blocks_from ahead pattern rest ≡ []
unfolding block_of blocks_from
none_left (Form held) pattern rest h = absurd (omega (arith, h, (form_lines_few held (pairs_of pattern)).0))
none_left EndLine pattern rest h = absurd (omega (arith, h))
none_left Nothing pattern rest h = refl

pub no_blocks : (printing : Printing) (fleet : List ℕ) → length (block_ahead printing) ≡ 0 → blocks_ahead printing fleet ≡ []
no_blocks printing fleet h = none_left printing.ahead printing.pattern (rest_of (search_in fleet printing.request) (pairs_of printing.pattern)) h

-- a printing that goes on with what a pattern's step found: it has the entries after that pattern ahead
module _ {fleet : List ℕ} {request : Request} {pattern : Pattern} {t₀ t : Tables} (input : NextInput (search_in fleet request) pattern t₀) where
  after_step : (next : Option FrequentPattern) → SelectedNext (search_in fleet request) pattern next t
      → (blocks_ahead (printing_from request pattern next) fleet ≡ blocks (rest_of (search_in fleet request) (pairs_of pattern))) × IsPrinting (printing_from request pattern next) fleet t
  unfolding entry_of ahead_for pattern_after blocks_from block_of blocks CanGoOn
  after_step None is = let nothing = end_follows (search_in fleet request) (pairs_of pattern) (sym is.is) in (
    rw nothing,
    record {
      on_paper = record { within = omega (arith, input.within, input.bound_to_most); support_fits = λ held e. absurd (let z : ◌≡◌ {A = ℕ} 0 1 = cc in omega arith) };
      all = is.found_or_end;
      ready = tt;
    },
  )
  after_step (Some found) is =
      let there : Follows (search_in fleet request) (pairs_of pattern) (record { form = pairs_of found.pattern; held = found.support })
      = next_follows (search_in fleet request) (pairs_of pattern) (record { form = pairs_of found.pattern; held = found.support }) (sym is.is) in
      let room = sought_room (search_in fleet request) (pairs_of found.pattern) found.support input.remembers.all.indexed.is_fleet input.bound_to_most there.selected.sought there.counted in
      let goes : NextInput (search_in fleet request) found.pattern t = record { from_1 = input.from_1; bound_to_most = input.bound_to_most; within = is.found_or_end.within; in_form = is.found_or_end.in_form; remembers = is.found_or_end.remembers } in (
        rw there.first,
        record {
          on_paper = record { within = omega (arith, is.found_or_end.within, input.bound_to_most); support_fits = λ held e. let same : found.support ≡ held = cc in rw same at room.support_fits };
          all = is.found_or_end.remembers.all;
          ready = goes;
        },
      )

  pub goes_after : {printing : Printing} (next : Option FrequentPattern) → SelectedNext (search_in fleet request) pattern next t → printing ≡ printing_from request pattern next
      → (blocks_ahead printing fleet ≡ blocks (rest_of (search_in fleet request) (pairs_of pattern))) × IsPrinting printing fleet t
  goes_after next is e = rw e (after_step next is)

-- a printing begins after the empty pattern
pub begin_input : {fleet : List ℕ} {request : Request} {pattern : Pattern} {t : Tables} → BeginInput fleet request t → (pattern.len ≡ 0) × (pairs_of pattern ≡ []) → NextInput (search_in fleet request) pattern t
begin_input b p = record {
  from_1 = b.from_1;
  bound_to_most = b.bound_to_most;
  within = omega (arith, p.0);
  in_form = λ h. absurd (omega (arith, p.0));
  remembers = record { all = b.all; placed = λ k h l. absurd (omega (arith, p.0)); counted = λ e k l. absurd (omega (arith, p.0)) };
}

pub begun : {fleet : List ℕ} {request : Request} {t : Tables} {pairs : List ℕ} {ahead : List Block} → BeginInput fleet request t → pairs ≡ [] → ahead ≡ blocks (rest_of (search_in fleet request) pairs) → ahead ≡ blocks (list_of (asks fleet request))
begun {fleet} {request} b none e = e ∙ ap (λ (pairs : List ℕ). blocks (rest_of (search_in fleet request) pairs)) none ∙ ap blocks (rest_of_whole fleet request b.all.indexed.is_fleet b.no_remarks)

-- a printing goes on
module _ {printing : Printing} {fleet : List ℕ} {t₀ : Tables} (i : IsPrinting printing fleet t₀) where
  pub ready_form : {held : ℕ} → printing.ahead ≡ Form held → NextInput (search_in fleet printing.request) printing.pattern t₀
  unfolding CanGoOn
  ready_form e = rw e at i.ready

  after_form : {held : ℕ} → printing.ahead ≡ Form held → blocks (rest_of (search_in fleet printing.request) (pairs_of printing.pattern)) ≡ drop 1 (blocks_ahead printing fleet)
  unfolding blocks_from
  after_form e = rw e

  pub onward_found : {held : ℕ} {after : Printing} {t : Tables} → printing.ahead ≡ Form held → (blocks_ahead after fleet ≡ blocks (rest_of (search_in fleet printing.request) (pairs_of printing.pattern))) × IsPrinting after fleet t
      → Onward printing fleet after t
  onward_found e a = record { one_less = a.0 ∙ after_form e; goes_on = a.1 }

  after_other : (ahead : Upcoming) (rest : List Entry) → ((held : ℕ) → ¬ (ahead ≡ Form held)) → drop 1 (blocks_from ahead printing.pattern rest) ≡ []
  unfolding blocks_from
  after_other (Form held) rest h = absurd (h held refl)
  after_other EndLine rest h = refl
  after_other Nothing rest h = refl

  pub onward_ended : ((held : ℕ) → ¬ (printing.ahead ≡ Form held)) → Onward printing fleet (record { ahead = Nothing; request = printing.request; pattern = printing.pattern }) t₀
  unfolding blocks_from CanGoOn
  onward_ended h = record {
    one_less = sym (after_other printing.ahead (rest_of (search_in fleet printing.request) (pairs_of printing.pattern)) h);
    goes_on = record {
      on_paper = record { within = i.on_paper.within; support_fits = λ held e. absurd (let z : ◌≡◌ {A = ℕ} 0 1 = cc in omega arith) };
      all = i.all;
      ready = tt;
    };
  }

-- what a match tells: not a form, where its tag is another's
pub not_form : (tag : Upcoming → ℕ) → ((held : ℕ) → tag (Form held) ≡ 0) → (ahead : Upcoming) → (tag ahead ≡ 1) ⊎ (tag ahead ≡ 2) → (held : ℕ) → ¬ (ahead ≡ Form held)
not_form tag h ahead (inl k) held e = omega (arith, h held, k, ap tag e)
not_form tag h ahead (inr k) held e = omega (arith, h held, k, ap tag e)
