-- The claims of specs/Claims, proved; what they rest on is in RowSession.
use mathlib.Core.Path.{◌≡◌, refl, sym, ap, ◌∙◌}
use mathlib.Core.List.{List, [], ◌∷◌, ◌++◌, append_assoc}
use mathlib.Core.Option.{Option, some}
use Prim.Native.Nat.{ℕ, ◌/◌, ◌%◌, ◌≤◌}
use native.Mathlib.Omega.{arith}
use lib.ListN.{length, take}
use lib.Seq.{take-append_seam, drop-append_seam}
use Rattle.terms.specs.Lightest.{Lightest, the_lightest}
use Rattle.terms.specs.Refusal.{Rule, refusal, output_after, AllKept, also, Numbered, no_rule, and_rule}
use Rattle.terms.proofs.RefusalParts.{kept_first, kept_later, numbered_both}
use Rattle.terms.proofs.RefusalLaws.{refused_exactly, answered_exactly}
use Rattle.terms.proofs.Decide.{both?}
use Rattle.fleet.specs.declared.Answer.{Answer}
use Rattle.fleet.specs.declared.Answer.TheVariants.{Done, Refused}
use Rattle.fleet.proofs.AnswerLaws.{done_exactly, done_number, refused_number}
use Rattle.matching.specs.Limits.{most_nodes_of_a_pattern}
use Rattle.search.specs.Counted.{Entry}
use Rattle.listing.specs.declared.Reply.{Reply}
use Rattle.listing.specs.declared.Reply.TheVariants.{Form, End, Refused as Declined}
use Rattle.listing.specs.Listing.{Asked, Listed}
use Rattle.listing.specs.ListedSelected.{listed_form}
use Rattle.listing.specs.Calls.{Call, asked_rules, rules, eligible, Eligible, found, found_is, output_of, Outcome, answerTo}
use Rattle.listing.specs.Session as L
use Rattle.listing.specs.Session.{Exchange, AsPromised, no_more, and_also, Due, a_start, a_step, Session, over, refused, form_given, end_given, and_then, answers, before_end}
use Rattle.listing.specs.Claims.{SessionClaim}
use Rattle.listing.proofs.AskedLaws.{asked_numbered, kept_parts}
use Rattle.listing.proofs.CallLaws.{respond_form, answer_is}
use Rattle.listing.proofs.SessionLaws.{session_claim}
use Rattle.filling.specs.Row.{in_a_row}
use Rattle.filling.specs.Filling.{number_for, pairs_given, numbers_given, after_rules}
use Rattle.batch.specs.Batch.{Batch, entries_of, batch_rules, batch_answer, batch_output, batch_found}
use Rattle.batch.specs.Session.{BatchExchange, read_off, forms_told, told_by_batch, told, Turn, single, many, AllAsPromised, no_more as none_left, also_single, also_many, calls_of, singles, last_form, pattern_after, MixedSession, over as ended, single_call, batch_refused, batch_answered}
use Rattle.batch.specs.Claims.{BatchRefusedClaim, BatchAnsweredClaim, ReadOffClaim, BatchEndClaim, SinglesClaim, MixedSessionClaim}
use Rattle.batch.proofs.BatchLaws.{after_numbered, outputs}
use Rattle.batch.proofs.RowSession.{AllWithin, and_form, Last, none_yet, last_given, Row, the_row, row_within, row_ends, row_last, row_session, row_promised, row_answers}

module _ (b : Batch) where
  abbrev follows : List Rule
  follows = after_rules b.pattern b.asked.request.bound

  batch_numbered : Numbered (batch_rules b)
  unfolding batch_rules
  batch_numbered = numbered_both (asked_numbered b.asked) (numbered_both (after_numbered b.pattern b.asked.request.bound) (and_rule 16 refl (and_rule 16 refl no_rule)))

  -- the calls that a batch stands for, where it breaks no rule
  its_row : AllKept (batch_rules b) → Row b.asked b.output b.pattern (length b.output) (length b.found) (in_a_row b.asked b.pattern b.output (length b.output) (length b.found))
  unfolding batch_rules
  its_row k =
      let behind : AllKept (follows ++ outputs b) = kept_later (asked_rules b.asked) (follows ++ outputs b) k in
      the_row b.asked b.output (kept_first (asked_rules b.asked) (follows ++ outputs b) k) (room (kept_later follows (outputs b) behind)) (length b.found) b.pattern (length b.output) (kept_first follows (outputs b) behind)
    where
      room : AllKept (outputs b) → b.asked.request.bound ≤ length b.output
      room (also h _) = h

  few_nodes : AllKept (batch_rules b) → b.asked.request.bound ≤ most_nodes_of_a_pattern
  unfolding batch_rules
  few_nodes k = (kept_parts b.asked (kept_first (asked_rules b.asked) (follows ++ outputs b) k)).bound_kept.1

pub batch_refused_claim : BatchRefusedClaim
unfolding BatchRefusedClaim batch_answer
batch_refused_claim b n h =
    let number = refused_number (refusal (batch_rules b)) (length (entries_of b)) n h in
    let first = refused_exactly n (batch_numbered b) h in
    ((λ e. first.0 (number.0 e)), (λ k. number.1 (first.1 k)))

pub batch_answered_claim : BatchAnsweredClaim
unfolding BatchAnsweredClaim batch_answer
batch_answered_claim b =
    let done = done_exactly (refusal (batch_rules b)) (length (entries_of b)) in
    let kept = answered_exactly (batch_numbered b) in
    ((λ e. kept.0 (done.0 e)), (λ k. done.1 (kept.1 k)))

-- a number tells the nodes and the count
nodes_told : (nodes held : ℕ) → nodes ≤ most_nodes_of_a_pattern → number_for nodes held % 100 ≡ nodes
nodes_told nodes held h = omega arith

held_told : (nodes held : ℕ) → nodes ≤ most_nodes_of_a_pattern → number_for nodes held / 100 ≡ held
held_told nodes held h = omega arith

-- forms end to end are read off one by one
read_given : (bound : ℕ) → bound ≤ most_nodes_of_a_pattern → (entries : List Entry) (rest others : List ℕ) → AllWithin bound entries
    → read_off (length entries) (pairs_given entries ++ rest) (numbers_given entries ++ others) ≡ entries
unfolding read_off pairs_given numbers_given
read_given bound h [] rest others w = refl
read_given bound h (entry ∷ entries) rest others (and_form k w) =
    let n = length entry.form in
    let small : n ≤ most_nodes_of_a_pattern = omega arith in
    let behind = pairs_given entries ++ rest in
    let next : read_off (length entries) behind (numbers_given entries ++ others) ≡ entries = read_given bound h entries rest others w in
    rw (nodes_told n entry.held small, held_told n entry.held small, append_assoc entry.form (pairs_given entries) rest, take-append_seam entry.form behind, drop-append_seam entry.form behind, next)

pub read_off_claim : ReadOffClaim
unfolding ReadOffClaim batch_answer batch_output batch_found output_after
read_off_claim b forms e =
    let z = (done_number (refusal (batch_rules b)) (length (entries_of b)) forms).0 e in
    let k = (answered_exactly (batch_numbered b)).0 z.0 in
    rw (z.0, ← z.1) (read_given b.asked.request.bound (few_nodes b k) (entries_of b) _ _ (row_within b.asked b.output (its_row b k)))

pub batch_end_claim : BatchEndClaim
unfolding BatchEndClaim
batch_end_claim b k fits = row_ends b.asked b.output (its_row b k) fits.0 fits.1

-- EXCHANGES IN FRONT OF A SESSION, which gave these forms.
record Joins (asked : Asked) (last : Option (List ℕ)) (row : List Exchange) (entries : List Entry) : Type 0 where
  still : Last (last_form last entries)
  promised : {xs : List Exchange} → AsPromised xs → AsPromised (row ++ xs)
  joined : {xs : List Exchange} → Session asked (last_form last entries) xs → Session asked last (row ++ xs)

-- a form given by a call that is due is listed
due_listed : {asked : Asked} {last : Option (List ℕ)} {call : Call} {form : List ℕ} → Due asked last call → Lightest (Eligible call) (some form) → Listed asked form
unfolding eligible
due_listed (a_start output) (the_lightest h _) = h
due_listed (a_step pattern output) (the_lightest h _) = h.0

form_listed : {asked : Asked} {last : Option (List ℕ)} (x : Exchange) (nodes held : ℕ) → x.outcome ≡ answerTo x.call → Due asked last x.call → x.outcome.reply ≡ Form nodes held
    → Listed asked (take nodes x.outcome.output)
form_listed x nodes held k d e =
    let c = x.call in
    let said = answer_is c ∙ sym k in
    let z = respond_form (refusal (rules c)) (found c) (eligible c).count (output_of c) nodes held (ap (λ (o : Outcome). o.reply) said ∙ e) in
    let shown : take nodes x.outcome.output ≡ z.form = ap (λ (o : Outcome). take nodes o.output) (sym said) ∙ z.shown in
    rw shown (due_listed d (rw z.is at (found_is c)))

single_joins : {asked : Asked} {last : Option (List ℕ)} {x : Exchange} → x.outcome ≡ answerTo x.call → Last last → Session asked last (x ∷ []) → Joins asked last (x ∷ []) (before_end (answers (x ∷ [])))
unfolding answers and_then before_end last_form
single_joins {x = x} k w (refused number e _) =
    let z : before_end (answers (x ∷ [])) ≡ [] = rw e in
    rw z (record { still = w; promised = λ p. and_also k p; joined = λ s. refused number e s })
single_joins {x = x} k w (form_given nodes held d e _) =
    let z : before_end (answers (x ∷ [])) ≡ record { form = take nodes x.outcome.output; held = held } ∷ [] = rw e in
    rw z (record { still = last_given (listed_form (form_listed x nodes held k d e)).in_form.is_tree.has_root; promised = λ p. and_also k p; joined = λ s. form_given nodes held d e s })
single_joins {x = x} k w (end_given d e _) =
    let z : before_end (answers (x ∷ [])) ≡ [] = rw e in
    rw z (record { still = w; promised = λ p. and_also k p; joined = λ s. end_given d e s })

refused_joins : {asked : Asked} {last : Option (List ℕ)} (x : BatchExchange) (number : ℕ) → x.answer ≡ Refused number → Last last → Joins asked last (calls_of x.answer x.batch) []
unfolding calls_of last_form
refused_joins x number e w = rw e (record { still = w; promised = λ p. p; joined = λ s. s })

answered_joins : {asked : Asked} {last : Option (List ℕ)} (x : BatchExchange) (forms : ℕ) → x.answer ≡ batch_answer x.batch → x.output ≡ batch_output x.batch → x.found ≡ batch_found x.batch
    → x.answer ≡ Done forms → x.batch.asked ≡ asked → x.batch.pattern ≡ pattern_after last → Last last → Joins asked last (calls_of x.answer x.batch) (read_off forms x.output x.found)
unfolding calls_of ReadOffClaim batch_answer
answered_joins x forms ka ko kf e same p w =
    let b = x.batch in
    let done = sym ka ∙ e in
    let read : read_off forms x.output x.found ≡ entries_of b = rw (ko, kf) (read_off_claim b forms done) in
    let row = its_row b ((answered_exactly (batch_numbered b)).0 ((done_number (refusal (batch_rules b)) (length (entries_of b)) forms).0 done).0) in
    rw (← same, e, read) (record {
      still = row_last b.asked b.output w row;
      promised = λ s. row_promised b.asked b.output row s;
      joined = λ s. row_session b.asked b.output row w (sym p) s;
    })

singles_from : {asked : Asked} {last : Option (List ℕ)} (turns : List Turn) → Last last → AllAsPromised turns → MixedSession asked last turns → AsPromised (singles turns) × Session asked last (singles turns)
unfolding singles last_form
singles_from {last = last} [] w none_left ended = (no_more, over)
singles_from {last = last} (single x ∷ turns) w (also_single k ks) (single_call s m) =
    let j = single_joins k w s in
    let z = singles_from {last = last_form last (before_end (answers (x ∷ [])))} turns j.still ks m in
    (j.promised z.0, j.joined z.1)
singles_from {last = last} (many x ∷ turns) w (also_many ka ko kf ks) (batch_refused number e m) =
    let j = refused_joins x number e w in
    let z = singles_from {last = last} turns w ks m in
    (j.promised z.0, j.joined z.1)
singles_from {last = last} (many x ∷ turns) w (also_many ka ko kf ks) (batch_answered forms e same p m) =
    let j = answered_joins x forms ka ko kf e same p w in
    let z = singles_from {last = last_form last (read_off forms x.output x.found)} turns j.still ks m in
    (j.promised z.0, j.joined z.1)

pub singles_claim : SinglesClaim
unfolding SinglesClaim
singles_claim asked turns k m = singles_from turns none_yet k m

-- WHAT IS TOLD is what the single calls answer
answers_then : (r : Reply) (output : List ℕ) (told others : List L.Answer) → and_then r output told ++ others ≡ and_then r output (told ++ others)
unfolding and_then
answers_then (Form nodes held) output told others = refl
answers_then End output told others = refl
answers_then (Declined number) output told others = refl

answers_append : (xs ys : List Exchange) → answers (xs ++ ys) ≡ answers xs ++ answers ys
unfolding answers
answers_append [] ys = refl
answers_append (x ∷ xs) ys = ap (and_then x.outcome.reply x.outcome.output) (answers_append xs ys) ∙ sym (answers_then x.outcome.reply x.outcome.output (answers xs) (answers ys))

batch_tells : (x : BatchExchange) → x.answer ≡ batch_answer x.batch → x.output ≡ batch_output x.batch → x.found ≡ batch_found x.batch → told_by_batch x.answer x ≡ answers (calls_of x.answer x.batch)
unfolding told_by_batch forms_told calls_of ReadOffClaim batch_answer both? answers
batch_tells x ka ko kf = go x.answer refl
  where
    b : Batch
    b = x.batch

    go : (a : Answer) → a ≡ x.answer → told_by_batch a x ≡ answers (calls_of a b)
    go (Refused number) e = refl
    go (Done forms) e =
        let done = sym ka ∙ sym e in
        let read : read_off forms x.output x.found ≡ entries_of b = rw (ko, kf) (read_off_claim b forms done) in
        let row = its_row b ((answered_exactly (batch_numbered b)).0 ((done_number (refusal (batch_rules b)) (length (entries_of b)) forms).0 done).0) in
        rw read (sym (row_answers b.asked b.output row))

told_singles : (turns : List Turn) → AllAsPromised turns → told turns ≡ answers (singles turns)
unfolding told singles answers
told_singles [] none_left = refl
told_singles (single x ∷ turns) (also_single k ks) =
    answers_then x.outcome.reply x.outcome.output [] (told turns) ∙ ap (and_then x.outcome.reply x.outcome.output) (told_singles turns ks)
told_singles (many x ∷ turns) (also_many ka ko kf ks) =
    rw (batch_tells x ka ko kf, told_singles turns ks) (sym (answers_append (calls_of x.answer x.batch) (singles turns)))

pub mixed_session_claim : MixedSessionClaim
unfolding MixedSessionClaim SessionClaim
mixed_session_claim asked turns k m entries l =
    let z = singles_from turns none_yet k m in
    rw (told_singles turns k) (session_claim asked (singles turns) z.0 z.1 entries l)
