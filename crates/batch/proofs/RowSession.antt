-- LAWS. The calls that an answered batch stands for, one by one: none is refused, each gives a listed form or ends the list; and the session that they are.
use mathlib.Core.Path.{◌≡◌, refl, sym, ap, ◌∙◌}
use mathlib.Core.Logic.{◌⊎◌, inl, inr}
use mathlib.Core.List.{List, [], ◌∷◌, ◌++◌}
use mathlib.Core.Option.{Option, none, some}
use Prim.Native.Nat.{ℕ, zero, suc, ◌-◌, ◌≤◌, ◌<◌}
use native.Mathlib.Omega.{arith}
use native.Mathlib.Decide.{dec_le, dec_lt}
use lib.ListN.{length, take, drop, length-append}
use lib.Seq.{take-append_seam}
use Rattle.terms.specs.Order.{Lighter}
use Rattle.terms.specs.Lightest.{Lightest, the_lightest, none_at_all}
use Rattle.terms.specs.Refusal.{AllKept, none as no_rule_left, also}
use Rattle.terms.proofs.RefusalLaws.{all_kept_refusal, answered_exactly}
use Rattle.terms.proofs.RefusalParts.{kept_both}
use Rattle.fleet.specs.Rules.{output_rule}
use Rattle.search.specs.Counted.{Entry}
use Rattle.listing.specs.declared.Reply.TheVariants.{Form, End}
use Rattle.listing.specs.Listing.{Asked, Listed}
use Rattle.listing.specs.ListedSelected.{listed_form}
use Rattle.listing.specs.Calls.{Call, asked_rules, rules, eligible, Eligible, found, found_is, output_of, Outcome, respond, answerTo, handed}
use Rattle.listing.specs.Session.{Exchange, AsPromised, and_also, Due, a_start, a_step, Session, form_given, end_given, given, ended, answers, before_end}
use Rattle.listing.proofs.CallLaws.{answer_found}
use Rattle.listing.proofs.SessionLaws.{answers_form, answers_end}
use Rattle.filling.specs.Row.{call_after, exchange_after, if_so, after_form, in_a_row}
use Rattle.filling.specs.Filling.{pairs_given, after_rules}
use Rattle.terms.proofs.Decide.{both?}
use Rattle.listing.specs.Session as L
use Rattle.batch.specs.Session.{each_given, end_if, last_form, pattern_after}
use Rattle.filling.proofs.FillLaws.{form_follows}
use Rattle.batch.proofs.BatchLaws.{after_numbered}

-- an end is told by what is so, however it is decided
end_same : {P Q : Type 0} → (P → Q) → (Q → P) → (p : Dec P) (q : Dec Q) → end_if p ≡ end_if q
unfolding end_if
end_same f g (yes _) (yes _) = refl
end_same f g (yes p) (no q) = absurd (q (f p))
end_same f g (no p) (yes q) = absurd (p (g q))
end_same f g (no _) (no _) = refl

end_told : {P : Type 0} → P → (d : Dec P) → end_if d ≡ ended ∷ []
unfolding end_if
end_told p (yes _) = refl
end_told p (no n) = absurd (n p)

none_answered : answers [] ≡ []
unfolding answers
none_answered = refl

no_end_told : {P : Type 0} → ¬ P → (d : Dec P) → end_if d ≡ []
unfolding end_if
no_end_told n (yes p) = absurd (n p)
no_end_told n (no _) = refl

-- every form has at most so many pairs
pub data AllWithin (bound : ℕ) : List Entry → Type 0 where
  no_form : AllWithin bound []
  and_form : {entry : Entry} {entries : List Entry} → length entry.form ≤ bound → AllWithin bound entries → AllWithin bound (entry ∷ entries)

-- the last form given, if any: it has a root, so that a step can go on from it
pub data Last : Option (List ℕ) → Type 0 where
  none_yet : Last none
  last_given : {form : List ℕ} → 1 ≤ length form → Last (some form)

-- the call after a pattern: what is eligible, and its output
module _ (asked : Asked) (output : List ℕ) where
  eligible_listed : (pattern form : List ℕ) → Eligible (call_after asked pattern output) form → Listed asked form
  unfolding call_after eligible
  eligible_listed [] form h = h
  eligible_listed (x ∷ pattern) form h = h.0

  heavier_eligible : (pattern form : List ℕ) → Listed asked form → Lighter pattern form → Eligible (call_after asked pattern output) form
  unfolding call_after eligible
  heavier_eligible [] form l h = l
  heavier_eligible (x ∷ pattern) form l h = (l, h)

  same_output : (pattern : List ℕ) → output_of (call_after asked pattern output) ≡ output
  unfolding call_after output_of
  same_output [] = refl
  same_output (x ∷ pattern) = refl

  call_kept : AllKept (asked_rules asked) → asked.request.bound ≤ length output → (pattern : List ℕ) → AllKept (after_rules pattern asked.request.bound) → AllKept (rules (call_after asked pattern output))
  unfolding rules call_after after_rules
  call_kept k long [] m = kept_both k (also {rule = output_rule asked.request.bound output} long no_rule_left)
  call_kept k long (x ∷ pattern) m = kept_both k (kept_both m (also {rule = output_rule asked.request.bound output} long no_rule_left))

  -- What it says where it is not refused: a listed form, or that none is heavier than the pattern.
  data Says (pattern : List ℕ) : Type 0 where
    a_form : (entry : Entry) → Listed asked entry.form → answerTo (call_after asked pattern output) ≡ handed (some entry) output → Says pattern
    the_end : ((form : List ℕ) → Listed asked form → ¬ Lighter pattern form) → answerTo (call_after asked pattern output) ≡ handed none output → Says pattern

  says : (pattern : List ℕ) → AllKept (rules (call_after asked pattern output)) → Says pattern
  unfolding respond handed
  says pattern k = go (found call) (found_is call)
    where
      call : Call
      call = call_after asked pattern output

      answered : (o : Option (List ℕ)) → Lightest (Eligible call) o → answerTo call ≡ respond 0 o (eligible call).count output
      answered o l = answer_found call o (all_kept_refusal k) l ∙ ap (λ (p : List ℕ). respond 0 o (eligible call).count p) (same_output pattern)

      go : (o : Option (List ℕ)) → Lightest (Eligible call) o → Says pattern
      go o (the_lightest {s = form} h n) = a_form (record { form = form; held = (eligible call).count form }) (eligible_listed pattern form h) (answered (some form) (the_lightest h n))
      go o (none_at_all n) = the_end (λ form e h. n form (heavier_eligible pattern form e h)) (answered none (none_at_all n))

  -- and what it then answers
  ends : {o : Outcome} → o ≡ handed none output → o.reply ≡ End
  unfolding handed
  ends e = ap (λ (o : Outcome). o.reply) e

  gives : (entry : Entry) {o : Outcome} → o ≡ handed (some entry) output → o.reply ≡ Form (length entry.form) entry.held
  unfolding handed
  gives entry e = ap (λ (o : Outcome). o.reply) e

  shown : (entry : Entry) {o : Outcome} → o ≡ handed (some entry) output → take (length entry.form) o.output ≡ entry.form
  unfolding handed
  shown entry e = ap (λ (o : Outcome). take (length entry.form) o.output) e ∙ take-append_seam entry.form (drop (length entry.form) output)

  -- what follows it
  rest : (room places : ℕ) → Outcome → ℕ → List Exchange
  rest room places o nodes = in_a_row asked (take nodes o.output) output (room - nodes) places

  none_follows : (room places : ℕ) (o : Outcome) → o ≡ handed none output → after_form o.reply (rest room places o) ≡ []
  unfolding after_form
  none_follows room places o e = rw (ends e)

  row_follows : (room places : ℕ) (entry : Entry) (o : Outcome) → o ≡ handed (some entry) output
      → after_form o.reply (rest room places o) ≡ in_a_row asked entry.form output (room - length entry.form) places
  unfolding after_form rest
  row_follows room places entry o e = rw (gives entry e, shown entry e)

  may_follow : (form : List ℕ) → Listed asked form → AllKept (after_rules form asked.request.bound)
  may_follow form l =
      let s = listed_form l in
      (answered_exactly (after_numbered form asked.request.bound)).0 (form_follows asked form s.up_to_bound (λ _. s.in_form))

  -- THE CALLS IN A ROW after a pattern, where the first is not refused: the next is not refused either, as a listed form may be gone on from.
  pub data Row : (pattern : List ℕ) (room places : ℕ) → List Exchange → Type 0 where
    full : {pattern : List ℕ} {room places : ℕ} → (room < asked.request.bound) ⊎ (places ≡ 0) → Row pattern room places []
    at_end : {pattern : List ℕ} {room places : ℕ} → asked.request.bound ≤ room → ((form : List ℕ) → Listed asked form → ¬ Lighter pattern form) → answerTo (call_after asked pattern output) ≡ handed none output
        → Row pattern room (suc places) (exchange_after asked pattern output ∷ [])
    and_on : {pattern : List ℕ} {room places : ℕ} {row : List Exchange} (entry : Entry) → Listed asked entry.form → answerTo (call_after asked pattern output) ≡ handed (some entry) output
        → Row entry.form (room - length entry.form) places row → Row pattern room (suc places) (exchange_after asked pattern output ∷ row)

  pub the_row : AllKept (asked_rules asked) → asked.request.bound ≤ length output → (places : ℕ) (pattern : List ℕ) (room : ℕ) → AllKept (after_rules pattern asked.request.bound)
      → Row pattern room places (in_a_row asked pattern output room places)
  unfolding in_a_row if_so rest
  the_row k long zero pattern room m = full (inr refl)
  the_row k long (suc places) pattern room m = go (dec_le asked.request.bound room) (says pattern (call_kept k long pattern m)) (λ p r. the_row k long places p r)
    where
      o : Outcome
      o = answerTo (call_after asked pattern output)

      go : (d : Dec (asked.request.bound ≤ room)) → Says pattern → ((p : List ℕ) (r : ℕ) → AllKept (after_rules p asked.request.bound) → Row p r places (in_a_row asked p output r places))
          → Row pattern room (suc places) (if_so d (exchange_after asked pattern output ∷ after_form o.reply (rest room places o)))
      go (no n) s next = let h : room < asked.request.bound = omega arith in full (inl h)
      go (yes h) (the_end n e) next = rw (none_follows room places o e) (at_end h n e)
      go (yes _) (a_form entry l e) next = rw (row_follows room places entry o e) (and_on entry l e (next entry.form (room - length entry.form) (may_follow entry.form l)))

  -- the forms that a row gives
  entries_end : (pattern : List ℕ) → answerTo (call_after asked pattern output) ≡ handed none output → before_end (answers (exchange_after asked pattern output ∷ [])) ≡ []
  unfolding before_end
  entries_end pattern e = rw (answers_end (exchange_after asked pattern output) [] (ends e))

  entries_on : (pattern : List ℕ) (entry : Entry) (row : List Exchange) → answerTo (call_after asked pattern output) ≡ handed (some entry) output
      → before_end (answers (exchange_after asked pattern output ∷ row)) ≡ entry ∷ before_end (answers row)
  unfolding before_end
  entries_on pattern entry row e =
      rw (answers_form (exchange_after asked pattern output) row (length entry.form) entry.held (gives entry e), shown entry e)

  -- each within the bound
  pub row_within : {pattern : List ℕ} {room places : ℕ} {row : List Exchange} → Row pattern room places row → AllWithin asked.request.bound (before_end (answers row))
  unfolding answers before_end
  row_within (full h) = no_form
  row_within (at_end {pattern = pattern} h n e) = rw (entries_end pattern e) no_form
  row_within (and_on {pattern = pattern} {row = row} entry l e r) = rw (entries_on pattern entry row e) (and_form (listed_form l).up_to_bound (row_within r))

  -- room and a place are left: the list ends there
  pub row_ends : {pattern : List ℕ} {room places : ℕ} {row : List Exchange} → Row pattern room places row → length (before_end (answers row)) < places
      → asked.request.bound ≤ room - length (pairs_given (before_end (answers row))) → (form : List ℕ) → Listed asked form → ¬ Lighter (pattern_after (last_form (some pattern) (before_end (answers row)))) form
  unfolding answers before_end pairs_given last_form pattern_after
  row_ends (full {room = room} (inl h)) p b = absurd (omega arith)
  row_ends (full (inr h)) p b = absurd (omega arith)
  row_ends (at_end {pattern = pattern} h n e) p b = rw (entries_end pattern e) n
  row_ends (and_on {pattern = pattern} {room = room} {row = row} entry l e r) p b =
      let z = entries_on pattern entry row e in
      let a = length-append entry.form (pairs_given (before_end (answers row))) in
      rw z (row_ends r (omega (arith, rw z at p)) (omega (arith, rw z at b, a)))

  pub row_last : {last : Option (List ℕ)} {pattern : List ℕ} {room places : ℕ} {row : List Exchange} → Last last → Row pattern room places row → Last (last_form last (before_end (answers row)))
  unfolding answers before_end last_form
  row_last {last = last} w (full h) = w
  row_last {last = last} w (at_end {pattern = pattern} h n e) = rw (entries_end pattern e) w
  row_last {last = last} w (and_on {pattern = pattern} {row = row} entry l e r) = rw (entries_on pattern entry row e) (row_last {last = some entry.form} (last_given (listed_form l).in_form.is_tree.has_root) r)

  due_after : (last : Option (List ℕ)) → Last last → Due asked last (call_after asked (pattern_after last) output)
  unfolding call_after pattern_after
  due_after none w = a_start output
  due_after (some []) (last_given h) = absurd (omega arith)
  due_after (some (x ∷ form)) w = a_step (x ∷ form) output

  -- THE SESSION that a row is, before further calls
  pub row_session : {pattern : List ℕ} {room places : ℕ} {row : List Exchange} → Row pattern room places row → {last : Option (List ℕ)} → Last last → pattern_after last ≡ pattern
      → {xs : List Exchange} → Session asked (last_form last (before_end (answers row))) xs → Session asked last (row ++ xs)
  unfolding answers before_end last_form pattern_after
  row_session (full h) w p s = s
  row_session (at_end {pattern = pattern} h n e) {last} w p {xs} s =
      end_given (rw p at (due_after last w)) (ends e) (rw (entries_end pattern e) at s)
  row_session (and_on {pattern = pattern} {row = row} entry l e r) {last} w p {xs} s =
      form_given {x = exchange_after asked pattern output} {xs = row ++ xs} (length entry.form) entry.held (rw p at (due_after last w)) (gives entry e) (rw (shown entry e) (row_session r (last_given (listed_form l).in_form.is_tree.has_root) refl (rw (entries_on pattern entry row e) at s)))

  pub row_promised : {pattern : List ℕ} {room places : ℕ} {row : List Exchange} → Row pattern room places row → {xs : List Exchange} → AsPromised xs → AsPromised (row ++ xs)
  row_promised (full h) k = k
  row_promised (at_end h n e) k = and_also refl k
  row_promised (and_on entry l e r) k = and_also refl (row_promised r k)

  -- THE ANSWERS of a row: its forms, and end where one more would have fitted
  abbrev fits? : (room places : ℕ) (entries : List Entry) → Dec ((length entries < places) × (asked.request.bound ≤ room - length (pairs_given entries)))
  fits? room places entries = both? (dec_lt (length entries) places) (dec_le asked.request.bound (room - length (pairs_given entries)))

  none_told : (room places : ℕ) (t : List L.Answer) → t ≡ [] → (room < asked.request.bound) ⊎ (places ≡ 0) → t ≡ each_given (before_end t) ++ end_if (fits? room places (before_end t))
  unfolding before_end each_given pairs_given
  none_told room places t q (inl h) = rw q (sym (no_end_told (λ k. omega (arith, k.1)) (fits? room places [])))
  none_told room places t q (inr h) = rw q (sym (no_end_told (λ k. omega (arith, k.0)) (fits? room places [])))

  just_end : (room places : ℕ) (t : List L.Answer) → t ≡ ended ∷ [] → asked.request.bound ≤ room → t ≡ each_given (before_end t) ++ end_if (fits? room (suc places) (before_end t))
  unfolding before_end each_given pairs_given
  just_end room places t q h = rw q (sym (end_told (omega arith, omega arith) (fits? room (suc places) [])))

  form_told : (room places : ℕ) (entry : Entry) (rest t : List L.Answer) → t ≡ given entry ∷ rest
      → rest ≡ each_given (before_end rest) ++ end_if (fits? (room - length entry.form) places (before_end rest)) → t ≡ each_given (before_end t) ++ end_if (fits? room (suc places) (before_end t))
  unfolding before_end each_given pairs_given
  form_told room places entry rest t q ih =
      let es = before_end rest in
      let k = length-append entry.form (pairs_given es) in
      let same = end_same (λ z. (omega (arith, z.0), omega (arith, z.1, k))) (λ z. (omega (arith, z.0), omega (arith, z.1, k))) (fits? (room - length entry.form) places es) (fits? room (suc places) (entry ∷ es)) in
      rw q (ap (λ (l : List L.Answer). given entry ∷ l) (ih ∙ ap (λ (l : List L.Answer). each_given es ++ l) same))

  pub row_answers : {pattern : List ℕ} {room places : ℕ} {row : List Exchange} → Row pattern room places row
      → answers row ≡ each_given (before_end (answers row)) ++ end_if (fits? room places (before_end (answers row)))
  row_answers (full {room = room} {places = places} h) = none_told room places (answers []) none_answered h
  row_answers (at_end {pattern = pattern} {room = room} {places = places} h n e) =
      just_end room places (answers (exchange_after asked pattern output ∷ [])) (answers_end (exchange_after asked pattern output) [] (ends e) ∙ ap (λ (l : List L.Answer). ended ∷ l) none_answered) h
  row_answers (and_on {pattern = pattern} {room = room} {places = places} {row = row} entry l e r) =
      form_told room places entry (answers row) (answers (exchange_after asked pattern output ∷ row))
      (answers_form (exchange_after asked pattern output) row (length entry.form) entry.held (gives entry e) ∙ ap (λ (f : List ℕ). given (record { form = f; held = entry.held }) ∷ answers row) (shown entry e)) (row_answers r)
