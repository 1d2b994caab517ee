-- LAWS. The loop over the pages of a list: what it keeps, and its two ways out; the two ways of an input.
use mathlib.Core.Path.{◌≡◌, refl, sym, ap, ◌∙◌, subst}
use mathlib.Core.Bool.{Bool, true, false, true≢false}
use mathlib.Core.Logic.{⊎_elim}
use mathlib.Core.List.{List, [], ◌++◌, append_assoc, append-nil}
use Prim.Native.Nat.{ℕ, zero, suc, ◌<◌}
use native.Mathlib.Omega.{arith}
use lib.ListN.{length, take, length-append}
use Rattle.std.specs.Prelude.{Option}
use Rattle.std.specs.Io.KnownBytes.{Appends}
use Rattle.std.proofs.KnownBytes.{Appends-nil, Appends-trans}
use Rattle.fleet.specs.declared.Answer.{Answer}
use Rattle.fleet.specs.declared.Answer.TheVariants.{Done, Refused}
use Rattle.fleet.specs.Answering.{answer}
use Rattle.fleet.proofs.AnswerLaws.{done_number}
use Rattle.expansion.specs.Levels.{Tables, tables}
use Rattle.search.specs.declared.Request.{Request}
use Rattle.listing.specs.Listing.{asks}
use Rattle.entries.specs.Entries.{list_of}
use Rattle.run.specs.Running.{AnyTables}
use Rattle.opening.specs.Asking.{asked_for, counted_for, refusal_for, answer_for, memory_for, IndexAfter}
use Rattle.entries.proofs.RestLaws.{list_without_remarks}
use Rattle.terms.proofs.RemarkLaws.{no_remark_left}
use Rattle.opening.proofs.OpenLaws.{not_refused, Listable, listable}
use Rattle.paper.specs.Paper.{page_bytes}
use Rattle.layout.specs.Pages.{blocks, key_pages}
use Rattle.printing.specs.Printing.{blocks_ahead, on_new_pages, still_to_print, IsPrinting, BeginInput, PageIs}
use Rattle.printing.specs.Claims.{GivesPages, no_page_yet, a_page, InTurnClaim, NoPageClaim}
use Rattle.printing.specs.declared.Printing.{Printing}
use Rattle.printing.specs.declared.Printed.{Printed}
use Rattle.printing.proofs.PageLaws.{new_pages}
use Rattle.printing.proofs.Claims.{in_turn_claim, no_page_claim}
use Rattle.pages_main.specs.declared.Rest.{Rest}
use Rattle.lines.specs.Lines.{refusal_line}
use Rattle.key.specs.Input.{asked_by, input_refusal}
use Rattle.pages_main.specs.Output.{output_for, paper_output}
use Rattle.pages_main.specs.Writing.{RefusalTold, PagesWritten, PrintedFor, refusal_told, pages_written}

pub record OnTheWay (first printing : Printing) (fleet : List ℕ) (t : Tables) (before after : Option (List ℕ)) : Type 0 where
  pub pages : ℕ
  pub given : List ℕ
  pub by_pages : GivesPages fleet first pages given printing
  pub is_printing : IsPrinting printing fleet t
  pub appended : Appends before after given

-- one page more
pages_on : {fleet : List ℕ} {first printing : Printing} {pages : ℕ} {given page page' : List ℕ} {printed : Printed} {t : Tables} → GivesPages fleet first pages given printing → PageIs printing fleet page printed page' t → printed.len ≡ page_bytes
    → GivesPages fleet first (suc pages) (given ++ take printed.len page') printed.printing
pages_on {page' = page'} {printed = printed} no_page_yet p e = rw (sym (append-nil (take printed.len page'))) (a_page p e no_page_yet)
pages_on {page' = page'} {printed = printed} (a_page {printed = one} {later = later} {page' = other} f h g) p e = rw (append_assoc (take one.len other) later (take printed.len page')) (a_page f h (pages_on g p e))

pub begins : {fleet : List ℕ} {printing : Printing} {t : Tables} (before : Option (List ℕ)) → IsPrinting printing fleet t → OnTheWay printing printing fleet t before before
begins before i = record { pages = 0; given = []; by_pages = no_page_yet; is_printing = i; appended = Appends-nil before }

module _ {first printing : Printing} {fleet : List ℕ} {t₀ : Tables} {before after : Option (List ℕ)} (w : OnTheWay first printing fleet t₀ before after) where
  module _ (request : Request) (begun : blocks_ahead first fleet ≡ blocks (list_of (asks fleet request))) where
    all_pages : still_to_print first fleet ≡ key_pages (list_of (asks fleet request))
    all_pages = ap on_new_pages begun ∙ new_pages (list_of (asks fleet request))

    whole : w.given ++ still_to_print printing fleet ≡ key_pages (list_of (asks fleet request))
    unfolding InTurnClaim
    whole = (in_turn_claim fleet first printing w.pages w.given w.by_pages).0 ∙ all_pages

    module _ {page page' : List ℕ} {printed : Printed} {t : Tables} (p : PageIs printing fleet page printed page' t) (e : printed.len ≡ 0) where
      all_given : w.given ≡ key_pages (list_of (asks fleet request))
      unfolding NoPageClaim
      all_given =
          let none = (no_page_claim printing fleet page printed page' t p).0 e in
          let all = whole in
          sym (append-nil w.given) ∙ (rw none at all)

      pub nothing_left : PagesWritten fleet (list_of (asks fleet request)) (record { printing = printing; failed = false })
      nothing_left = record { first = first; begun = all_pages; pages = w.pages; given = w.given; by_pages = w.by_pages; all_given = λ _. all_given }

      pub all_appended : Appends before after (key_pages (list_of (asks fleet request)))
      all_appended = subst (Appends before after) all_given w.appended

    pub write_failed : PagesWritten fleet (list_of (asks fleet request)) (record { printing = printing; failed = true })
    write_failed = record { first = first; begun = all_pages; pages = w.pages; given = w.given; by_pages = w.by_pages; all_given = λ e. absurd (true≢false e) }

  pub one_page_more : {page page' : List ℕ} {printed : Printed} {t : Tables} {next : Option (List ℕ)} → PageIs printing fleet page printed page' t → ¬ (printed.len ≡ 0) → Appends after next (take printed.len page')
      → OnTheWay first printed.printing fleet t before next
  one_page_more {page' = page'} {printed = printed} {next = next} p h a =
      let full : printed.len ≡ page_bytes = ⊎_elim (λ e. e) (λ e. absurd (h e.0)) p.whole_or_none in
      record {
        pages = suc w.pages;
        given = w.given ++ take printed.len page';
        by_pages = pages_on w.by_pages p full;
        is_printing = p.goes_on;
        appended = Appends-trans before after next w.given (take printed.len page') w.appended a;
      }

pub less_after_page : {printing : Printing} {fleet page page' : List ℕ} {printed : Printed} {t : Tables} → PageIs printing fleet page printed page' t → ¬ (printed.len ≡ 0)
    → length (still_to_print printed.printing fleet) < length (still_to_print printing fleet)
less_after_page {fleet = fleet} {page' = page'} {printed = printed} p h = omega (arith, h, ap length p.the_rest, length-append (take printed.len page') (still_to_print printed.printing fleet), p.the_page.size)

-- a sheet that is read: its fleet and its tables begin a printing
module _ (request : Request) (sheet memory room : List ℕ) (nodes : ℕ) (before after : List ℕ × List ℕ × List ℕ) (a : Answer) (told : a ≡ answer_for request sheet) (holds : memory ≡ memory_for request sheet room)
    (made : IndexAfter (refusal_for request sheet) (counted_for request sheet) before after) where
  module _ (e : a ≡ Done nodes) where
    accepted : (refusal_for request sheet ≡ 0) × (length (counted_for request sheet) ≡ nodes)
    accepted = (done_number (refusal_for request sheet) (length (counted_for request sheet)) nodes).0 (sym told ∙ e)

    pub read_in : Listable request sheet memory nodes after
    read_in = listable request sheet memory room nodes before accepted.0 (sym accepted.1) holds made

    pub may_begin : (places lens counts : List ℕ) (known : List Bool) → AnyTables places lens counts known → BeginInput (take nodes memory) request (tables after.0 after.1 after.2 places lens counts known)
    may_begin places lens counts known any = record {
      no_remarks = rw read_in.its_fleet (no_remark_left (asked_for request sheet).fleet);
      from_1 = read_in.limits.from_1;
      bound_to_most = read_in.limits.bound_to_most;
      all = record { indexed = read_in.indexed; all_places = any.all_places; all_lens = any.all_lens; all_counts = any.all_counts; all_known = any.all_known };
    }

    pub printed_out : {rest : Rest} {failed : Bool} → PagesWritten (take nodes memory) (list_of (asks (take nodes memory) request)) rest → failed ≡ rest.failed → PrintedFor request sheet failed
    unfolding asked_for
    printed_out {rest = rest} w f =
        let v : PagesWritten (counted_for request sheet) (list_of (asks (counted_for request sheet) request)) rest = rw read_in.its_fleet at w in
        pages_written rest accepted.0 (rw (list_without_remarks (asked_for request sheet).fleet request (not_refused request sheet accepted.0).is_fleet) at v) f

    listed_out : (known known' : Option (List ℕ)) → Appends known known' (key_pages (list_of (asks (take nodes memory) request))) → Appends known known' (key_pages (list_of (asked_for request sheet)))
    unfolding asked_for
    listed_out known known' w =
        let v : Appends known known' (key_pages (list_of (asks (counted_for request sheet) request))) = rw read_in.its_fleet at w in
        rw (list_without_remarks (asked_for request sheet).fleet request (not_refused request sheet accepted.0).is_fleet) at v

    pub pages_out : (known known' : Option (List ℕ)) → Appends known known' (key_pages (list_of (asks (take nodes memory) request)))
        → Appends known known' (output_for (refusal_for request sheet) (list_of (asked_for request sheet)))
    unfolding output_for
    pages_out known known' w = rw accepted.0 (listed_out known known' w)

refused_by : (n : ℕ) (number value : ℕ) → answer number value ≡ Refused n → (m : ℕ) × (number ≡ suc m) × (n ≡ suc m)
unfolding answer
refused_by n zero value e = absurd (let z : ◌≡◌ {A = ℕ} 0 1 = cc in omega arith)
refused_by n (suc m) value e = (m, refl, cc)

pub told_refusal : (request : Request) (sheet : List ℕ) {a : Answer} {n : ℕ} {failed : Bool} → a ≡ answer_for request sheet → a ≡ Refused n → RefusalTold n failed → PrintedFor request sheet failed
told_refusal request sheet {n = n} told e t = let z = refused_by n (refusal_for request sheet) (length (counted_for request sheet)) (sym told ∙ e) in refusal_told z.0 z.1 (rw z.2 at t)

pub refusal_out : (request : Request) (sheet : List ℕ) {a : Answer} {n : ℕ} (known known' : Option (List ℕ)) → a ≡ answer_for request sheet → a ≡ Refused n → Appends known known' (refusal_line n)
    → Appends known known' (output_for (refusal_for request sheet) (list_of (asked_for request sheet)))
unfolding output_for
refusal_out request sheet {n = n} known known' told e t =
    let z = refused_by n (refusal_for request sheet) (length (counted_for request sheet)) (sym told ∙ e) in
    rw z.1 (rw z.2 at t)

pub appended_by : {request request' : Request} {sheet sheet' : List ℕ} (known known' : Option (List ℕ)) → request ≡ request' → sheet ≡ sheet' → Appends known known' (output_for (refusal_for request sheet) (list_of (asked_for request sheet)))
    → Appends known known' (output_for (refusal_for request' sheet') (list_of (asked_for request' sheet')))
appended_by known known' q s l = rw (q, s) at l

pub as_paper : (input : List ℕ) (known known' : Option (List ℕ)) → Appends known known' (output_for (input_refusal input) (list_of (asked_by input))) → Appends known known' (paper_output input)
unfolding paper_output
as_paper input known known' l = l

-- what is printed for a request and a sheet that a header says is printed for its input
pub printed_by : {request request' : Request} {sheet sheet' : List ℕ} {failed : Bool} → request ≡ request' → sheet ≡ sheet' → PrintedFor request sheet failed → PrintedFor request' sheet' failed
printed_by q s p = rw (q, s) at p
