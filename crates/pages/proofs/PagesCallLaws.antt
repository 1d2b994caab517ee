-- LAWS. One for each way out of the call for all pages.
use mathlib.Core.Path.{◌≡◌, refl, sym, ap, ◌∙◌}
use mathlib.Core.List.{List, [], ◌∷◌, ◌++◌}
use Prim.Native.Nat.{ℕ, zero, suc, ◌+◌, ◌*◌, ◌/◌, ◌≤◌, ◌<◌, min}
use native.Mathlib.Omega.{arith}
use lib.ListN.{length, take, drop}
use Rattle.terms.specs.Refusal.{refusal, Numbered, no_rule, and_rule}
use Rattle.terms.proofs.RefusalLaws.{kept_on, broken_here}
use Rattle.terms.proofs.RefusalParts.{refused_first, refused_later, numbered_both}
use Rattle.terms.specs.Fleet.{IsFleet, most_nodes}
use Rattle.terms.specs.Remarks.{HoldsRemark, without_remarks}
use Rattle.terms.proofs.RemarkLaws.{no_remark_left}
use Rattle.remarks.specs.TakenOut.{Copied}
use Rattle.remarks.proofs.CopiedLaws.{copied_front}
use Rattle.index.specs.Index.{IndexInput}
use Rattle.expansion.specs.Levels.{Tables, AllTables}
use Rattle.search.specs.declared.Request.{Request}
use Rattle.printing.specs.Printing.{BeginInput}
use Rattle.fleet.specs.declared.Answer.{Answer}
use Rattle.fleet.specs.declared.Answer.TheVariants.{Done, Refused}
use Rattle.fleet.proofs.AnswerLaws.{refused_with, done_with}
use Rattle.listing.specs.Listing.{Asked, asks}
use Rattle.listing.specs.Calls.{asked_rules}
use Rattle.listing.proofs.AskedLaws.{asked_numbered}
use Rattle.listing.proofs.StartStepLaws.{Accepted, accepted}
use Rattle.listing.proofs.RemarkListLaws.{asked_without_remarks}
use Rattle.entries.proofs.RestLaws.{list_without_remarks}
use Rattle.entries.specs.Entries.{list_of, list_is}
use Rattle.paper.specs.Paper.{page_bytes}
use Rattle.layout.specs.Pages.{number_of_pages}
use Rattle.layout.specs.Claims.{RoomClaim, SizeClaim}
use Rattle.layout.proofs.Claims.{room_claim, size_claim}
use Rattle.pages.specs.PagesCall.{pages_of, pages_needed, pages_rule, pages_rules, pages_answer, pages_output}

-- the pages have all their bytes
pub size : {asked : Asked} → Accepted asked → length (pages_of asked) ≡ pages_needed asked * page_bytes
unfolding SizeClaim RoomClaim
size {asked} a = size_claim (list_of asked) (room_claim asked (list_of asked) a.is_fleet a.bound_to_most (list_is asked))

-- what the tables and the printings ask for
module _ (fleet : List ℕ) (request : Request) (none : ¬ HoldsRemark fleet) (z : refusal (asked_rules (asks fleet request)) ≡ 0) where
  abbrev limits : Accepted (asks fleet request)
  limits = accepted (asks fleet request) 0 (sym z) refl

  pub index_input : {parents numbers sizes : List ℕ} → length parents ≡ most_nodes → length numbers ≡ most_nodes → length sizes ≡ most_nodes → IndexInput fleet parents numbers sizes
  index_input p n s = record { is_fleet = limits.is_fleet; all_parents = p; all_numbers = n; all_sizes = s }

  pub begin_input : {t : Tables} → AllTables fleet t → BeginInput fleet request t
  begin_input all = record { no_remarks = none; from_1 = limits.from_1; bound_to_most = limits.bound_to_most; all = all }

module _ (asked : Asked) (output : List ℕ) where
  -- what the call says: its answer, and the output
  abbrev Says : Answer → (output' : List ℕ) → Type 0
  Says a output' = (a ≡ pages_answer asked output) × (output' ≡ pages_output asked output)

  pub pages_numbered : Numbered (pages_rules asked output)
  unfolding pages_rules
  pages_numbered = numbered_both (asked_numbered asked) (and_rule 17 refl no_rule)

  refused_as : (n : ℕ) → refusal (pages_rules asked output) ≡ suc n → Says (Refused (suc n)) output
  unfolding pages_answer pages_output
  refused_as n e = refused_with (refusal (pages_rules asked output)) n (pages_needed asked) (pages_of asked) output e

  pub asked_refused : (r : ℕ) → r ≡ refusal (asked_rules asked) → ¬ (r ≡ 0) → Says (Refused r) output
  unfolding pages_rules
  asked_refused zero e n = absurd (n refl)
  asked_refused (suc r) e n = refused_as r (refused_first (asked_rules asked) (pages_rule (pages_needed asked) output ∷ []) r (sym e))

  pub to_pages : refusal (asked_rules asked) ≡ 0 → refusal (pages_rules asked output) ≡ refusal (pages_rule (pages_needed asked) output ∷ [])
  unfolding pages_rules
  to_pages z = refused_later (pages_rule (pages_needed asked) output ∷ []) (asked_numbered asked) z

  -- what is asked is not refused, and the pages are counted
  module _ (z : refusal (asked_rules asked) ≡ 0) {pages : ℕ} (counted : pages ≡ min (pages_needed asked) (length output / page_bytes + 1)) where
    pub too_short : length output / page_bytes < pages → Says (Refused 18) output
    too_short h =
        let more : length output / page_bytes < pages_needed asked = omega (arith, counted, h) in
        refused_as 17 (to_pages z ∙ broken_here (pages_rule (pages_needed asked) output) [] (λ k. omega arith))

    module _ (h : pages ≤ length output / page_bytes) where
      pub room : (pages ≡ pages_needed asked) × (pages * page_bytes ≤ length output)
      room = (omega (arith, counted, h), omega (arith, h))

      pub printed : {output' : List ℕ} → output' ≡ pages_of asked ++ drop (length (pages_of asked)) output → Says (Done pages) output'
      unfolding pages_answer pages_output refusal
      printed {output'} e =
          let r = room in
          let kept = to_pages z ∙ kept_on (pages_rule (pages_needed asked) output) [] (omega (arith, r.0, r.1)) in
          let d = done_with (refusal (pages_rules asked output)) (pages_needed asked) (pages_of asked) output output' kept e in
          (ap Done r.0 ∙ d.0, d.1)

-- `print_counted`: in front of the array stands the fleet without its remarks
module _ (fleet : List ℕ) (request : Request) (z : refusal (asked_rules (asks fleet request)) ≡ 0) where
  pub is_fleet : IsFleet fleet
  is_fleet = (accepted (asks fleet request) 0 (sym z) refl).is_fleet

  pub few_nodes : length fleet ≤ most_nodes
  few_nodes = is_fleet.nodes

  module _ (counted after : List ℕ) (len : ℕ) (is : Copied fleet counted after len) where
    pub counted_asked : ¬ HoldsRemark (take len after) × (refusal (asked_rules (asks (take len after) request)) ≡ 0)
    counted_asked = rw (copied_front fleet counted after len is) (no_remark_left fleet, sym (asked_without_remarks fleet request is_fleet) ∙ z)

    pub counted_says : (output : List ℕ) {a : Answer} {output' : List ℕ} → Says (asks (take len after) request) output a output' → Says (asks fleet request) output a output'
    unfolding pages_answer pages_output
    counted_says output {a} {output'} s =
        let t : Says (asks (without_remarks fleet) request) output a output' = rw (copied_front fleet counted after len is) at s in
        let l = list_without_remarks fleet request is_fleet in
        let n : refusal (pages_rules (asks (without_remarks fleet) request) output) ≡ refusal (pages_rules (asks fleet request) output) =
        to_pages (asks (without_remarks fleet) request) output (sym (asked_without_remarks fleet request is_fleet) ∙ z) ∙ ap (λ (k : ℕ). refusal (pages_rule k output ∷ [])) (ap number_of_pages l) ∙ sym (to_pages (asks fleet request) output z) in
        (t.0 ∙ rw (n, l), t.1 ∙ rw (n, l))
