-- The claims about the call for all pages. Each is proved under its name in lower case, in proofs/Claims.
use Rattle.std.specs.Prelude.{◌≡◌, List, ◌↔◌, ℕ, ◌*◌, ◌≤◌, ◌<◌, length, take, drop}
use Rattle.terms.specs.Refusal.{refusal, FirstBroken, AllKept}
use Rattle.fleet.specs.declared.Answer.TheVariants.{Done, Refused}
use Rattle.listing.specs.Listing.{Asked}
use Rattle.listing.specs.Calls.{asked_rules}
use Rattle.paper.specs.Paper.{page_bytes}
use Rattle.pages.specs.PagesCall.{pages_of, pages_needed, pages_rules, pages_answer, pages_output}

-- The call is refused with a number exactly if the rule of that number is the first broken, and answered exactly if none is.
unfoldable pub PagesRefusedClaim : Type 1
PagesRefusedClaim = (asked : Asked) (output : List ℕ) (number : ℕ) → 1 ≤ number → (pages_answer asked output ≡ Refused number) ↔ FirstBroken number (pages_rules asked output)

unfoldable pub PagesAnsweredClaim : Type 1
PagesAnsweredClaim = (asked : Asked) (output : List ℕ) → (pages_answer asked output ≡ Done (pages_needed asked)) ↔ AllKept (pages_rules asked output)

-- "Turned away: page output shorter than the pages needed, 18": exactly then, where what is asked is not refused.
unfoldable pub Pages18Claim : Type 0
Pages18Claim = (asked : Asked) (output : List ℕ) → (pages_answer asked output ≡ Refused 18) ↔ ((refusal (asked_rules asked) ≡ 0) × (length output < pages_needed asked * page_bytes))

-- A refused call leaves the output as it was.
unfoldable pub PagesUntouchedClaim : Type 0
PagesUntouchedClaim = (asked : Asked) (output : List ℕ) (number : ℕ) → pages_answer asked output ≡ Refused number → pages_output asked output ≡ output

-- An answered call leaves the pages in front of it, 3,942 bytes each, and nothing past the last page is written.
unfoldable pub PagesWrittenClaim : Type 0
PagesWrittenClaim = (asked : Asked) (output : List ℕ) (pages : ℕ) → pages_answer asked output ≡ Done pages
    → (take (pages * page_bytes) (pages_output asked output) ≡ pages_of asked) × (drop (pages * page_bytes) (pages_output asked output) ≡ drop (pages * page_bytes) output)
