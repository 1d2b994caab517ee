-- The claims about batches. `BatchRefusedClaim` is proved as `batch_refused_claim`, and so on (proofs/Claims).
use Rattle.std.specs.Prelude.{◌≡◌, List, ◌↔◌, ℕ, ◌≤◌, length}
use Rattle.std.proofs.Math.Option.{none, some}
use Rattle.terms.specs.Order.{Lighter}
use Rattle.terms.specs.Refusal.{FirstBroken, AllKept}
use Rattle.fleet.specs.declared.Answer.TheVariants.{Done, Refused}
use Rattle.search.specs.Counted.{Entry}
use Rattle.listing.specs.Listing.{Asked, Listed, IsListing}
use Rattle.listing.specs.Calls.{RegisterRight}
use Rattle.listing.specs.Session.{Session, AsPromised, GoThrough}
use Rattle.batch.specs.Batch.{Batch, bare_batch, entries_of, batch_rules, batch_answer, batch_output, batch_found}
use Rattle.batch.specs.Session.{OneMoreFits, Turn, AllAsPromised, told, singles, MixedSession, read_off, last_form, pattern_after}

-- A batch is refused with a number exactly if the rule of that number is the first broken, and answered exactly if none is.
unfoldable pub BatchRefusedClaim : Type 1
BatchRefusedClaim = (b : Batch) (number : ℕ) → 1 ≤ number → (batch_answer b ≡ Refused number) ↔ FirstBroken number (batch_rules b)

unfoldable pub BatchAnsweredClaim : Type 1
BatchAnsweredClaim = (b : Batch) → (batch_answer b ≡ Done (length (entries_of b))) ↔ AllKept (batch_rules b)

-- What the caller of an answered batch reads off are the forms given, with their counts.
unfoldable pub ReadOffClaim : Type 0
ReadOffClaim = (b : Batch) (forms : ℕ) → batch_answer b ≡ Done forms → read_off forms (batch_output b) (batch_found b) ≡ entries_of b

-- Fewer forms than surely fit: the list ends there. No listed form is heavier than the last one given, or, where none was, than the pattern.
unfoldable pub BatchEndClaim : Type 1
BatchEndClaim = (b : Batch) → AllKept (batch_rules b) → OneMoreFits b (entries_of b)
    → (form : List ℕ) → Listed b.asked form → ¬ Lighter (pattern_after (last_form (some b.pattern) (entries_of b))) form

-- A session of single calls and batches is one of single calls, each batch taken for those that it stands for.
unfoldable pub SinglesClaim : Type 0
SinglesClaim = (asked : Asked) (turns : List Turn) → AllAsPromised turns → MixedSession asked none turns
    → AsPromised (singles turns) × Session asked none (singles turns)

-- So what its caller is told goes through the list as the answers of start and step do.
unfoldable pub MixedSessionClaim : Type 0
MixedSessionClaim = (asked : Asked) (turns : List Turn) → AllAsPromised turns → MixedSession asked none turns
    → (entries : List Entry) → IsListing asked entries → GoThrough entries (told turns)

-- A batch with a register that is this fleet's answers, and leaves in its outputs, what the batch without it does;
unfoldable pub RightRegisterBatchClaim : Type 0
RightRegisterBatchClaim = (b : Batch) → RegisterRight b.asked
    → (batch_answer b ≡ batch_answer (bare_batch b)) × (batch_output b ≡ batch_output (bare_batch b)) × (batch_found b ≡ batch_found (bare_batch b))

-- with one that is not it is refused with 10, and both outputs are left as they were.
unfoldable pub WrongRegisterBatchClaim : Type 0
WrongRegisterBatchClaim = (b : Batch) → ¬ RegisterRight b.asked → (batch_answer b ≡ Refused 10) × (batch_output b ≡ b.output) × (batch_found b ≡ b.found)
