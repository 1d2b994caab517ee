-- LAWS. The loop over the parts of a run: what it keeps, its two ways out, and what that says of a program.
use mathlib.Core.Path.{◌≡◌, sym, ◌∙◌, subst}
use mathlib.Core.Bool.{Bool, true, false, true≢false}
use mathlib.Core.List.{List, ◌++◌, append-nil}
use Prim.Native.Nat.{ℕ}
use lib.ListN.{take}
use Rattle.std.specs.Prelude.{Option}
use Rattle.std.specs.Io.KnownBytes.{Appends}
use Rattle.std.proofs.KnownBytes.{Appends-trans}
use Rattle.expansion.specs.Levels.{Tables}
use Rattle.search.specs.declared.Request.{Request}
use Rattle.run.specs.Running.{IsRun, PartIs, still_to_write}
use Rattle.run.specs.Claims.{GivesParts, EmptyPartClaim}
use Rattle.run.proofs.Claims.{parts_beginning, parts_on, empty_part_claim}
use Rattle.run.specs.declared.Run.{Run}
use Rattle.run.specs.declared.Part.{Part}
use Rattle.opening.specs.Output.{lines_for}
use Rattle.writing_out.specs.Writing.{WrittenOut, ListedFor, ProgramClaim}

pub record OnTheWay (first run : Run) (memory : List ℕ) (t : Tables) (before after : Option (List ℕ)) : Type 0 where
  pub given : List ℕ
  pub by_parts : GivesParts memory first given run
  pub is_run : IsRun run memory t
  pub appended : Appends before after given

module _ {first run : Run} {memory : List ℕ} {t₀ : Tables} {before after : Option (List ℕ)} (w : OnTheWay first run memory t₀ before after) where
  module _ {buffer buffer' : List ℕ} {part : Part} {t : Tables} (p : PartIs run memory buffer part buffer' t) where
    pub one_part_more : {next : Option (List ℕ)} → Appends after next (take part.len buffer') → OnTheWay first part.run memory t before next
    one_part_more {next} a = record {
      given = w.given ++ take part.len buffer';
      by_parts = parts_on w.by_parts p;
      is_run = p.goes_on;
      appended = Appends-trans before after next w.given (take part.len buffer') w.appended a;
    }

    -- at an empty part all that there was is given
    all_given : part.len ≡ 0 → w.given ≡ still_to_write first memory
    unfolding EmptyPartClaim
    all_given e =
        let none = (empty_part_claim run memory buffer part buffer' t p).0 e in
        let whole = parts_beginning w.by_parts in
        sym (append-nil w.given) ∙ (rw none at whole)

    pub nothing_left : part.len ≡ 0 → WrittenOut first memory (record { run = run; failed = false })
    nothing_left e = record { given = w.given; by_parts = w.by_parts; all_given = λ _. all_given e }

    pub all_appended : part.len ≡ 0 → Appends before after (still_to_write first memory)
    all_appended e = subst (Appends before after) (all_given e) w.appended

  pub write_failed : WrittenOut first memory (record { run = run; failed = true })
  write_failed = record { given = w.given; by_parts = w.by_parts; all_given = λ e. absurd (true≢false e) }

pub program_claim : ProgramClaim
unfolding ProgramClaim
program_claim output failed l = (parts_beginning l.written.by_parts ∙ l.begun, λ e. l.written.all_given (sym l.told ∙ e) ∙ l.begun)

-- what is listed for a request and a sheet that a header says is listed for its input
pub listed_by : {request request' : Request} {sheet sheet' : List ℕ} {failed : Bool} → request ≡ request' → sheet ≡ sheet' → ListedFor (lines_for request sheet) failed → ListedFor (lines_for request' sheet') failed
listed_by q s l = rw (q, s) at l

pub appended_by : {request request' : Request} {sheet sheet' : List ℕ} (before after : Option (List ℕ)) → request ≡ request' → sheet ≡ sheet' → Appends before after (lines_for request sheet) → Appends before after (lines_for request' sheet')
appended_by before after q s l = rw (q, s) at l
