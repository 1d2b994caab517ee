-- LAWS. What a run has to write at its beginning is what is written for its request and its sheet.
use mathlib.Core.Path.{◌≡◌, refl, sym, ap, ◌∙◌}
use mathlib.Core.Bool.{Bool}
use mathlib.Core.List.{List, [], ◌++◌, append_assoc}
use Prim.Native.Nat.{ℕ, zero, suc, ◌≤◌}
use native.Mathlib.Omega.{arith}
use lib.ListN.{length, take, drop, length-append}
use lib.Seq.{take_at}
use Rattle.terms.specs.Fleet.{IsFleet, most_nodes}
use Rattle.terms.specs.Refusal.{refusal, output_after}
use Rattle.terms.specs.Remarks.{without_remarks}
use Rattle.terms.proofs.RemarkLaws.{fleet_without_remarks}
use Rattle.fleet.specs.declared.Answer.{Answer}
use Rattle.fleet.specs.Answering.{answer}
use Rattle.sheet.specs.Reading.{Reading, reading, pairs_said}
use Rattle.index.specs.Index.{IndexInput, Indexed}
use Rattle.expansion.specs.Levels.{tables, count_room}
use Rattle.search.specs.declared.Request.{Request}
use Rattle.search.specs.Search.{pairs_of}
use Rattle.listing.specs.Calls.{request_rules}
use Rattle.listing.specs.ListedSelected.{search_of}
use Rattle.entries.proofs.RestLaws.{rest_of_nothing}
use Rattle.run.specs.Running.{run_search, written_from, still_to_write, Proper, IsRun, stage_for, nodes_in, Begun, AnyTables}
use Rattle.run.specs.declared.Stage.TheVariants.{Refusing, Listing}
use Rattle.run.specs.declared.Run.{Run}
use Rattle.run.proofs.StepLaws.{proper_at}
use Rattle.remarks.specs.TakenOut.{moved_to_front}
use Rattle.opening.specs.Asking.{asked_for, counted_for, refusal_after, refusal_for, answer_for, fleet_answer, fleet_output, memory_for, IndexAfter}
use Rattle.opening.specs.Output.{written, lines_for}
use Rattle.opening.specs.Opening.{Read, IndexMade}
use Rattle.opening.proofs.RequestLaws.{InLimits, in_limits}
use Rattle.opening.proofs.ReadLaws.{Said, wrong, right, said, some_pair}

pub record Accepted (pairs : List ℕ) (later : ℕ) : Type 0 where
  pub is_fleet : IsFleet pairs
  pub in_limits : later ≡ 0

accepted_after : {sheet : List ℕ} {r : Reading} (later : ℕ) → Said sheet r → refusal_after r later ≡ 0 → Accepted (pairs_said r) later
unfolding refusal_after pairs_said
accepted_after later (wrong number k) e = absurd (omega arith)
accepted_after later (right pairs f) e = record { is_fleet = f; in_limits = e }

pub not_refused : (request : Request) (sheet : List ℕ) → refusal_for request sheet ≡ 0 → Accepted (asked_for request sheet).fleet (refusal (request_rules request))
unfolding refusal_for asked_for
not_refused request sheet e = accepted_after (refusal (request_rules request)) (said sheet) e

abbrev Three : Type 0
Three = List ℕ × List ℕ × List ℕ

-- what was read into the memory: a fleet, or nothing
front_taken : (pairs rest : List ℕ) {nodes : ℕ} {memory : List ℕ} → memory ≡ moved_to_front pairs ++ rest → nodes ≡ length (without_remarks pairs) → (take nodes memory ≡ without_remarks pairs) × (nodes ≤ length memory)
front_taken pairs rest {nodes} {memory} holds n =
    let behind = drop (length (without_remarks pairs)) pairs ++ rest in
    let e : memory ≡ without_remarks pairs ++ behind = holds ∙ append_assoc (without_remarks pairs) (drop (length (without_remarks pairs)) pairs) rest in
    (rw (n, e) (take_at (without_remarks pairs) behind (length (without_remarks pairs)) refl), omega (arith, n, ap length e, length-append (without_remarks pairs) behind))

read_at : (memory pairs room : List ℕ) {nodes : ℕ} (number : ℕ) → (number ≡ 0 → IsFleet pairs) → memory ≡ output_after number (moved_to_front pairs) room → nodes ≡ nodes_in (answer number (length (without_remarks pairs))) → Read memory nodes
unfolding output_after answer nodes_in
read_at memory pairs room {nodes} zero f holds is =
    let t = front_taken pairs (drop (length (moved_to_front pairs)) room) holds is in
    record { within = t.1; is_fleet = λ _. rw t.0 (fleet_without_remarks pairs (f refl)).0 }
read_at memory pairs room (suc number) f holds is = record { within = omega arith; is_fleet = λ h. absurd (omega arith) }

pub read_fleet : (sheet room : List ℕ) (later : ℕ) {a : Answer} {memory : List ℕ} {nodes : ℕ} → (a ≡ fleet_answer (reading sheet) later) × (memory ≡ fleet_output (reading sheet) later room) → nodes ≡ nodes_in a → Read memory nodes
read_fleet sheet room later {memory = memory} e n = read_at memory (pairs_said (reading sheet)) room (refusal_after (reading sheet) later) (λ z. (accepted_after later (said sheet) z).is_fleet) e.1 (n ∙ ap nodes_in e.0)

-- the two ways out of `index_read`
pub index_input : {memory parents numbers sizes : List ℕ} {nodes : ℕ} → Read memory nodes → 1 ≤ nodes → length parents ≡ most_nodes → length numbers ≡ most_nodes → length sizes ≡ most_nodes → IndexInput (take nodes memory) parents numbers sizes
index_input r h p n s = record { is_fleet = r.is_fleet h; all_parents = p; all_numbers = n; all_sizes = s }

pub index_made : {fleet : List ℕ} {nodes : ℕ} {before after : Three} → 1 ≤ nodes → Indexed fleet after.0 after.1 after.2 → IndexMade fleet nodes before after
index_made h i = record { some = λ _. i; none = λ z. absurd (omega arith) }

pub index_kept : {fleet : List ℕ} {nodes : ℕ} {tables : Three} → nodes ≤ 0 → IndexMade fleet nodes tables tables
index_kept h = record { some = λ k. absurd (omega arith); none = λ _. refl }

-- what is known of a request that is answered: its fleet stands in front of the memory, with its tables, and the request is within the limits
pub record Listable (request : Request) (sheet memory : List ℕ) (nodes : ℕ) (tables : Three) : Type 0 where
  pub within : nodes ≤ length memory
  pub its_fleet : take nodes memory ≡ counted_for request sheet
  pub limits : InLimits request
  pub indexed : Indexed (take nodes memory) tables.0 tables.1 tables.2

module _ (request : Request) (sheet memory room : List ℕ) where
  abbrev fleet : List ℕ
  fleet = (asked_for request sheet).fleet

  index_after : {nodes : ℕ} {before after : Three} (number : ℕ) → refusal_for request sheet ≡ number → memory ≡ output_after number (moved_to_front fleet) room → nodes ≡ nodes_in (answer number (length (counted_for request sheet)))
      → IndexMade (take nodes memory) nodes before after → IndexAfter number (counted_for request sheet) before after
  unfolding output_after answer nodes_in IndexAfter
  index_after zero e holds n made =
      let t = front_taken fleet (drop (length (moved_to_front fleet)) room) holds n in
      rw t.0 at (made.some (omega (arith, n, some_pair (counted_for request sheet) (fleet_without_remarks fleet (not_refused request sheet e).is_fleet).0)))
  index_after (suc number) e holds n made = made.none n

  pub listable : (nodes : ℕ) (before : Three) {after : Three} → refusal_for request sheet ≡ 0 → nodes ≡ length (counted_for request sheet) → memory ≡ memory_for request sheet room → IndexAfter (refusal_for request sheet) (counted_for request sheet) before after → Listable request sheet memory nodes after
  unfolding output_after IndexAfter
  listable nodes before e n holds made =
      let put : memory ≡ moved_to_front fleet ++ drop (length (moved_to_front fleet)) room = rw e at holds in
      let t = front_taken fleet (drop (length (moved_to_front fleet)) room) put n in
      record {
        within = t.1;
        its_fleet = t.0;
        limits = in_limits request (not_refused request sheet e).in_limits;
        indexed = rw t.0 (rw e at made);
      }

-- what a sheet is read to
pub sheet_read : (request : Request) (sheet memory room : List ℕ) (later nodes : ℕ) (a : Answer) {before after : Three} → later ≡ refusal (request_rules request)
    → (a ≡ fleet_answer (reading sheet) later) × (memory ≡ fleet_output (reading sheet) later room) → nodes ≡ nodes_in a
    → IndexMade (take nodes memory) nodes before after
    → (a ≡ answer_for request sheet) × (memory ≡ memory_for request sheet room) × IndexAfter (refusal_for request sheet) (counted_for request sheet) before after
unfolding refusal_for asked_for
sheet_read request sheet memory room later nodes a l e n made =
    let told : (a ≡ answer_for request sheet) × (memory ≡ memory_for request sheet room) = rw l at e in
    (told.0, told.1, index_after request sheet memory room (refusal_for request sheet) refl told.1 (n ∙ ap nodes_in told.0) made)

-- what is shown of a run that begins, with the fleet's tables
pub record Begins (request : Request) (sheet : List ℕ) (run : Run) (memory : List ℕ) (after : Three) : Type 0 where
  pub output : still_to_write run memory ≡ lines_for request sheet
  pub proper : (places lens counts : List ℕ) (known : List Bool) → AnyTables places lens counts known → IsRun run memory (tables after.0 after.1 after.2 places lens counts known)

module _ (request : Request) (sheet : List ℕ) (run : Run) (memory : List ℕ) {after : Three} (request_is : run.request ≡ request) (no_pairs : pairs_of run.pattern ≡ []) (no_nodes : run.pattern.len ≡ 0) where
  refuses : (number : ℕ) → refusal_for request sheet ≡ suc number → run.stage ≡ Refusing (suc number) → Begins request sheet run memory after
  unfolding still_to_write written_from Proper lines_for written
  refuses number e stage = record {
    output = rw (stage, e) refl;
    proper = λ places lens counts known _. proper_at run memory (tables after.0 after.1 after.2 places lens counts known) (sym stage) tt;
  }

  module _ (e : refusal_for request sheet ≡ 0) (stage : run.stage ≡ Listing) (l : Listable request sheet memory run.nodes after) where
    same_search : run_search run memory ≡ search_of (asked_for request sheet)
    unfolding asked_for
    same_search = rw (l.its_fleet, request_is) refl

    lists : Begins request sheet run memory after
    unfolding still_to_write written_from lines_for written Proper count_room
    lists = record {
      output = rw (stage, no_pairs, same_search, rest_of_nothing (asked_for request sheet) (not_refused request sheet e).is_fleet, e) refl;
      proper = λ places lens counts known any. proper_at run memory (tables after.0 after.1 after.2 places lens counts known) (sym stage) (record {
        nodes_within = l.within;
        steps = record {
          from_1 = rw request_is l.limits.from_1;
          bound_to_most = rw request_is l.limits.bound_to_most;
          within = omega (arith, no_nodes);
          in_form = λ h. absurd (omega (arith, no_nodes));
          remembers = record {
            all = record { indexed = l.indexed; all_places = any.all_places; all_lens = any.all_lens; all_counts = any.all_counts; all_known = any.all_known };
            placed = λ k a b. absurd (omega (arith, no_nodes));
            counted = λ _ k b _. absurd (omega (arith, no_nodes));
          };
        };
      });
    }

  begins_at : (number : ℕ) → refusal_for request sheet ≡ number → ((nodes : ℕ) → number ≡ 0 → nodes ≡ length (counted_for request sheet) → Listable request sheet memory nodes after)
      → run.stage ≡ stage_for (answer number (length (counted_for request sheet))) → run.nodes ≡ nodes_in (answer number (length (counted_for request sheet))) → Begins request sheet run memory after
  unfolding answer stage_for nodes_in
  begins_at zero e l stage nodes = lists e stage (l run.nodes refl nodes)
  begins_at (suc number) e l stage nodes = refuses number e stage

-- a run begun as `open` begins it
pub begins : (request : Request) (sheet : List ℕ) (run : Run) (memory room : List ℕ) (a : Answer) (before : Three) {after : Three} → a ≡ answer_for request sheet
    → memory ≡ memory_for request sheet room → IndexAfter (refusal_for request sheet) (counted_for request sheet) before after → Begun a request run → Begins request sheet run memory after
begins request sheet run memory room a before e holds made b =
    begins_at request sheet run memory b.request_is b.no_pairs b.no_nodes (refusal_for request sheet) refl
    (λ nodes z n. listable request sheet memory room nodes before z n holds made) (b.stage_is ∙ ap stage_for e) (b.nodes_are ∙ ap nodes_in e)
