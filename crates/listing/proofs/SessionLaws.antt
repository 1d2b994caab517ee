-- LAWS. The answers of a session are the replies of the listed forms; the session theorem.
use mathlib.Core.Path.{◌≡◌, refl, sym, ap, ◌∙◌}
use mathlib.Core.List.{List, [], ◌∷◌}
use mathlib.Core.Option.{Option, none, some}
use Prim.Native.Nat.{ℕ}
use lib.ListN.{take}
use Rattle.terms.specs.Lightest.{Lightest}
use Rattle.terms.specs.Refusal.{refusal}
use Rattle.search.specs.Counted.{Entry}
use Rattle.listing.specs.declared.Reply.{Reply}
use Rattle.listing.specs.declared.Reply.TheVariants.{Form, End, Refused}
use Rattle.listing.specs.Listing.{Asked, count_of, listed_forms}
use Rattle.listing.specs.Calls.{Call, rules, eligible, Eligible, found, found_is, output_of, Outcome, answerTo}
use Rattle.listing.specs.Session.{Exchange, AsPromised, and_also, Due, a_start, a_step, Session, over, refused, form_given, end_given, given, ended, and_then, answers}
use Rattle.listing.specs.Claims.{SessionClaim}
use Rattle.listing.proofs.CallLaws.{respond_form, respond_end, answer_is}
use Rattle.listing.proofs.RepliesLaws as replies

-- of a call that is due, the eligible forms are those that are due
due_lightest : {asked : Asked} {last : Option (List ℕ)} {call : Call} (found : Option (List ℕ)) → Due asked last call → Lightest (Eligible call) found → Lightest (replies.after (listed_forms asked) last).Holds found
unfolding eligible replies.after
due_lightest found (a_start output) l = l
due_lightest found (a_step form output) l = l

pub lightest_due : {asked : Asked} {last : Option (List ℕ)} {call : Call} (found : Option (List ℕ)) → Due asked last call → Lightest (replies.after (listed_forms asked) last).Holds found → Lightest (Eligible call) found
unfolding eligible replies.after
lightest_due found (a_start output) l = l
lightest_due found (a_step form output) l = l

due_count : {asked : Asked} {last : Option (List ℕ)} {call : Call} → Due asked last call → (form : List ℕ) → (eligible call).count form ≡ count_of asked form
unfolding eligible
due_count (a_start output) form = refl
due_count (a_step pattern output) form = refl

answers_refused : (x : Exchange) (xs : List Exchange) (number : ℕ) → x.outcome.reply ≡ Refused number → answers (x ∷ xs) ≡ answers xs
unfolding answers and_then
answers_refused x xs number e = ap (λ (r : Reply). and_then r x.outcome.output (answers xs)) e

pub answers_form : (x : Exchange) (xs : List Exchange) (nodes held : ℕ) → x.outcome.reply ≡ Form nodes held → answers (x ∷ xs) ≡ given (record { form = take nodes x.outcome.output; held = held }) ∷ answers xs
unfolding answers and_then
answers_form x xs nodes held e = ap (λ (r : Reply). and_then r x.outcome.output (answers xs)) e

pub answers_end : (x : Exchange) (xs : List Exchange) → x.outcome.reply ≡ End → answers (x ∷ xs) ≡ ended ∷ answers xs
unfolding answers and_then
answers_end x xs e = ap (λ (r : Reply). and_then r x.outcome.output (answers xs)) e

-- an exchange that gave a form gave the lightest that was due, with its count
record GaveDue (asked : Asked) (last : Option (List ℕ)) (form : List ℕ) (held : ℕ) : Type 0 where
  lightest : Lightest (replies.after (listed_forms asked) last).Holds (some form)
  counted : held ≡ count_of asked form

gave_due : {asked : Asked} {last : Option (List ℕ)} {x : Exchange} (nodes held : ℕ) → x.outcome ≡ answerTo x.call → Due asked last x.call → x.outcome.reply ≡ Form nodes held
    → GaveDue asked last (take nodes x.outcome.output) held
gave_due {asked} {last} {x} nodes held k d e =
    let c = x.call in
    let said = answer_is c ∙ sym k in
    let z = respond_form (refusal (rules c)) (found c) (eligible c).count (output_of c) nodes held (ap (λ (o : Outcome). o.reply) said ∙ e) in
    let shown : take nodes x.outcome.output ≡ z.form = ap (λ (o : Outcome). take nodes o.output) (sym said) ∙ z.shown in
    record {
      lightest = due_lightest (some (take nodes x.outcome.output)) d (rw (z.is, ← shown) at (found_is c));
      counted = z.counted ∙ due_count d z.form ∙ ap (count_of asked) (sym shown);
    }

none_due : {asked : Asked} {last : Option (List ℕ)} {x : Exchange} → x.outcome ≡ answerTo x.call → Due asked last x.call → x.outcome.reply ≡ End → Lightest (replies.after (listed_forms asked) last).Holds none
none_due {x = x} k d e =
    let c = x.call in
    let nothing = respond_end (refusal (rules c)) (found c) (eligible c).count (output_of c) (ap (λ (o : Outcome). o.reply) (answer_is c ∙ sym k) ∙ e) in
    due_lightest none d (rw nothing at (found_is c))

pub session_replies : (asked : Asked) (last : Option (List ℕ)) (xs : List Exchange) → AsPromised xs → Session asked last xs → replies.Replies (listed_forms asked) last (answers xs)
unfolding answers
session_replies asked last [] k over = replies.over
session_replies asked last (x ∷ xs) (and_also k ks) (refused number e s) = rw (answers_refused x xs number e) (session_replies asked last xs ks s)
session_replies asked last (x ∷ xs) (and_also k ks) (form_given nodes held d e s) =
    let g = gave_due nodes held k d e in
    let entry : Entry = record { form = take nodes x.outcome.output; held = held } in
    rw (answers_form x xs nodes held e) (replies.next_form entry g.lightest g.counted (session_replies asked (some (take nodes x.outcome.output)) xs ks s))
session_replies asked last (x ∷ xs) (and_also k ks) (end_given d e s) =
    rw (answers_end x xs e) (replies.at_end (none_due k d e) (session_replies asked last xs ks s))

-- THE SESSION THEOREM
pub session_claim : SessionClaim
unfolding SessionClaim
session_claim asked xs k s L l = replies.replies_go_through l (session_replies asked none xs k s)
