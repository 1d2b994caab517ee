-- LAWS. How a run begins; what one step of it writes, and what is left to write.
use mathlib.Core.Path.{◌≡◌, refl, sym, ap, ◌∙◌}
use mathlib.Core.List.{List, [], ◌++◌, append_assoc, append-nil}
use Prim.Native.Nat.{ℕ, ◌≤◌}
use native.Mathlib.Omega.{arith}
use Rattle.fleet.specs.declared.Answer.{Answer}
use Rattle.fleet.specs.declared.Answer.TheVariants.{Done, Refused}
use Rattle.text.specs.Building.{Put}
use Rattle.text.proofs.TextLaws.{put_none}
use Rattle.lines.specs.Lines.{form_line, refusal_line, end_line}
use Rattle.expansion.specs.Levels.{Tables}
use Rattle.search.specs.Counted.{Entry}
use Rattle.search.specs.Search.{pairs_of, entry_of, pattern_after}
use Rattle.profiles.specs.Selected.{SelectedNext}
use Rattle.search.specs.declared.Request.{Request}
use Rattle.search.specs.declared.Pattern.{Pattern}
use Rattle.search.specs.declared.FrequentPattern.{FrequentPattern}
use Rattle.std.specs.Prelude.{Option, Some, None, IfSome}
use Rattle.entries.specs.Entries.{rest_of}
use Rattle.entries.proofs.RestLaws.{Follows, next_follows, end_follows}
use Rattle.run.specs.Running.{lines, run_search, written_from, still_to_write, line_from, next_line, Ready, Proper, IsRun, stage_for, nodes_in, Begun, StepIs, TablesAfter, Found, run_at, line_for, stage_after}
use Rattle.run.specs.declared.Stage.{Stage}
use Rattle.run.specs.declared.Stage.TheVariants.{Refusing, Listing, Ended}
use Rattle.run.specs.declared.Run.{Run}
use Rattle.run.specs.declared.Step.{Step}

-- the two ways out of `begin`
pub begun_refused : {answer : Answer} {request : Request} {pattern : Pattern} {number : ℕ} → answer ≡ Refused number → (pattern.len ≡ 0) × (pairs_of pattern ≡ [])
    → Begun answer request (record { stage = Refusing number; nodes = 0; request = request; pattern = pattern })
unfolding stage_for nodes_in
begun_refused e p = record { stage_is = ap stage_for (sym e); nodes_are = ap nodes_in (sym e); request_is = refl; no_nodes = p.0; no_pairs = p.1 }

pub begun_listing : {answer : Answer} {request : Request} {pattern : Pattern} {nodes : ℕ} → answer ≡ Done nodes → (pattern.len ≡ 0) × (pairs_of pattern ≡ [])
    → Begun answer request (record { stage = Listing; nodes = nodes; request = request; pattern = pattern })
unfolding stage_for nodes_in
begun_listing e p = record { stage_is = ap stage_for (sym e); nodes_are = ap nodes_in (sym e); request_is = refl; no_nodes = p.0; no_pairs = p.1 }

-- what is known of a run at a known stage
pub proper_at : {stage other : Stage} (run : Run) (memory : List ℕ) (t : Tables) → stage ≡ other → Proper stage run memory t → Proper other run memory t
proper_at run memory t e h = rw e at h

pub ready_at : (run : Run) (memory : List ℕ) (t : Tables) → run.stage ≡ Listing → IsRun run memory t → Ready run memory t
unfolding Proper
ready_at run memory t e h = proper_at run memory t e h

-- what is to be written and its first line, at a known stage and with known forms left
to_write_at : (run : Run) (memory : List ℕ) {stage : Stage} {left : List Entry} → run.stage ≡ stage → rest_of (run_search run memory) (pairs_of run.pattern) ≡ left → still_to_write run memory ≡ written_from stage left
unfolding still_to_write
to_write_at run memory e f = rw (e, f)

line_at : (run : Run) (memory : List ℕ) {stage : Stage} {left : List Entry} → run.stage ≡ stage → rest_of (run_search run memory) (pairs_of run.pattern) ≡ left → next_line run memory ≡ line_from stage left
unfolding next_line
line_at run memory e f = rw (e, f)

-- a step by its line and what is left after it
stepped : {run : Run} {memory line line' : List ℕ} {step : Step} {t : Tables} (said left : List ℕ) → Put line 0 said line' step.len → next_line run memory ≡ said → still_to_write run memory ≡ said ++ left
    → still_to_write step.run memory ≡ left → IsRun step.run memory t → StepIs run memory line step line' t
stepped {run} {memory} said left put first whole rest goes = record {
  the_line = rw first put;
  the_rest = whole ∙ ap (λ (s : List ℕ). s ++ left) (sym first) ∙ ap (λ (s : List ℕ). next_line run memory ++ s) (sym rest);
  goes_on = goes;
}

ended : (run : Run) (memory : List ℕ) (pattern : Pattern) (next : Run) (t : Tables) → next ≡ run_at run Ended pattern → (still_to_write next memory ≡ []) × IsRun next memory t
unfolding still_to_write written_from Proper
ended run memory pattern next t e = rw e (refl, tt)

pub stepped_refusing : (run : Run) (memory : List ℕ) (number : ℕ) {line line' : List ℕ} {step : Step} {t : Tables} → run.stage ≡ Refusing number
    → Put line 0 (refusal_line number) line' step.len × (step.run ≡ run_at run Ended run.pattern) → StepIs run memory line step line' t
unfolding written_from line_from
stepped_refusing run memory number {step = step} {t = t} stage (put, e) =
    let z = ended run memory run.pattern step.run t e in
    stepped (refusal_line number) [] put (line_at run memory stage refl) (to_write_at run memory stage refl ∙ sym (append-nil (refusal_line number))) z.0 z.1

pub stepped_ended : (run : Run) (memory line : List ℕ) (t : Tables) → run.stage ≡ Ended → IsRun run memory t → StepIs run memory line (record { len = 0; run = run }) line t
unfolding written_from line_from
stepped_ended run memory line t stage goes = stepped [] (still_to_write run memory) (put_none line 0 (omega arith)) (line_at run memory stage refl) refl refl goes

module _ (run : Run) (memory : List ℕ) {t₀ t : Tables} (ready : Ready run memory t₀) (stage : run.stage ≡ Listing) where
  -- what the step of the pattern found has at most 16 nodes
  pub found_small : (next : Option FrequentPattern) → SelectedNext (run_search run memory) run.pattern next t → IfSome next (λ found. found.pattern.len ≤ 16)
  found_small None is = tt
  found_small (Some found) is = omega (arith, is.found_or_end.within, ready.steps.bound_to_most)

  -- it found a form, or the end
  pub stepped_found : (next : Option FrequentPattern) → SelectedNext (run_search run memory) run.pattern next t → {line line' : List ℕ} {step : Step} → Found run next line step line' → StepIs run memory line step line' t
  unfolding entry_of written_from line_from lines line_for stage_after pattern_after Proper
  stepped_found (Some f) is found =
      let entry : Entry = record { form = pairs_of f.pattern; held = f.support } in
      let follows : Follows (run_search run memory) (pairs_of run.pattern) entry
      = next_follows (run_search run memory) (pairs_of run.pattern) entry (sym is.is) in
      stepped (form_line f.support (pairs_of f.pattern)) (lines (rest_of (run_search run memory) (pairs_of f.pattern)) ++ end_line) found.the_line
      (line_at run memory stage follows.first)
      (to_write_at run memory stage follows.first ∙ append_assoc (form_line f.support (pairs_of f.pattern)) (lines (rest_of (run_search run memory) (pairs_of f.pattern))) end_line)
      (rw found.the_run (to_write_at (run_at run Listing f.pattern) memory refl refl))
      (rw found.the_run (record {
        nodes_within = ready.nodes_within;
        steps = record { from_1 = ready.steps.from_1; bound_to_most = ready.steps.bound_to_most; within = is.found_or_end.within; in_form = is.found_or_end.in_form; remembers = is.found_or_end.remembers };
      }))
  stepped_found None is {step = step} found =
      let nothing = end_follows (run_search run memory) (pairs_of run.pattern) (sym is.is) in
      let z = ended run memory run.pattern step.run t found.the_run in
      stepped end_line [] found.the_line (line_at run memory stage nothing) (to_write_at run memory stage nothing) z.0 z.1

-- the two ways out of `found`
pub form_said : {run : Run} {next : Option FrequentPattern} {found : FrequentPattern} {line line' : List ℕ} {len : ℕ} {after : Run} → next ≡ Some found → Put line 0 (form_line found.support (pairs_of found.pattern)) line' len
    → after ≡ run_at run Listing found.pattern → Found run next line (record { len = len; run = after }) line'
unfolding line_for stage_after pattern_after
form_said e put is = record { the_line = rw e put; the_run = rw e is }

pub end_said : {run : Run} {next : Option FrequentPattern} {line line' : List ℕ} {len : ℕ} {after : Run} → next ≡ None → Put line 0 end_line line' len → after ≡ run_at run Ended run.pattern
    → Found run next line (record { len = len; run = after }) line'
unfolding line_for stage_after pattern_after
end_said e put is = record { the_line = rw e put; the_run = rw e is }

-- the tables after a step from each stage
pub tables_refusing : {stage : Stage} {number : ℕ} (t : Tables) → stage ≡ Refusing number → TablesAfter stage t t
unfolding TablesAfter
tables_refusing t e = rw e refl

pub tables_listing : {stage : Stage} (before after : Tables) → stage ≡ Listing → TablesAfter stage before after
unfolding TablesAfter
tables_listing before after e = rw e tt

pub tables_ended : {stage : Stage} (t : Tables) → stage ≡ Ended → TablesAfter stage t t
unfolding TablesAfter
tables_ended t e = rw e refl
