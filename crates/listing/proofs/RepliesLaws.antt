-- LAWS. Answers in a row go through the list of any set of forms with a count, whichever calls gave them.
use mathlib.Core.Path.{◌≡◌, refl, sym, ap, ◌∙◌}
use mathlib.Core.List.{List, [], ◌∷◌}
use mathlib.Core.Option.{Option, none, some}
use Prim.Native.Nat.{ℕ, zero, suc, ◌+◌, ◌≤◌, ◌<◌}
use native.Mathlib.Omega.{arith}
use lib.ListN.{length, get_or}
use Rattle.terms.specs.Lightest.{Lightest}
use Rattle.terms.proofs.LightestLaws.{lightest_unique}
use Rattle.search.specs.Counted.{Counted, Entry, heavier_than}
use Rattle.listing.specs.Listing.{no_entry, formAt, IsListOf}
use Rattle.listing.specs.Session.{Answer, given, ended, GoThrough, before_end}
use Rattle.listing.proofs.ListLaws.{entry_path, form_at, form_at_some, form_at_none, first_lightest, next_lightest}

-- the forms of a set that are due after the last one given, if any
unfoldable pub after : Counted → Option (List ℕ) → Counted
after set none = set
after set (some form) = heavier_than set form

-- each answer is the lightest form that is due, with its count; or end, where none is
pub data Replies (set : Counted) : Option (List ℕ) → List Answer → Type 0 where
  over : {last : Option (List ℕ)} → Replies set last []
  next_form : {last : Option (List ℕ)} {told : List Answer} (entry : Entry) → Lightest (after set last).Holds (some entry.form) → entry.held ≡ set.count entry.form
      → Replies set (some entry.form) told → Replies set last (given entry ∷ told)
  at_end : {last : Option (List ℕ)} {told : List Answer} → Lightest (after set last).Holds none → Replies set last told → Replies set last (ended ∷ told)

-- where one stands in the list: n forms have been given, and this was the last
pub data Stands (L : List Entry) : ℕ → Option (List ℕ) → Type 0 where
  at_start : Stands L 0 none
  behind : {form : List ℕ} (k : ℕ) → k < length L → formAt L k ≡ form → Stands L (suc k) (some form)

-- the form at n is the lightest that is due
pub stands_lightest : {set : Counted} {L : List Entry} {n : ℕ} {last : Option (List ℕ)} → IsListOf set L → Stands L n last → Lightest (after set last).Holds (form_at L n)
unfolding after
stands_lightest l at_start = first_lightest l
stands_lightest l (behind k h e) = rw e at (next_lightest l k h)

-- the answer at a place of the list, and end past its end
answerAt : List Entry → ℕ → Answer
answerAt [] n = ended
answerAt (e ∷ L) zero = given e
answerAt (e ∷ L) (suc n) = answerAt L n

answer_in : (L : List Entry) (n : ℕ) → n < length L → answerAt L n ≡ given (get_or L n no_entry)
unfolding answerAt
answer_in [] n h = absurd (omega arith)
answer_in (e ∷ L) zero h = refl
answer_in (e ∷ L) (suc n) h = answer_in L n (omega arith)

answer_past : (L : List Entry) (n : ℕ) → length L ≤ n → answerAt L n ≡ ended
unfolding answerAt
answer_past [] n h = refl
answer_past (e ∷ L) zero h = absurd (omega arith)
answer_past (e ∷ L) (suc n) h = answer_past L n (omega arith)

module _ {set : Counted} {L : List Entry} (l : IsListOf set L) where
  -- what is due at n is the entry there
  entry_due : {n : ℕ} {last : Option (List ℕ)} (entry : Entry) → Stands L n last → Lightest (after set last).Holds (some entry.form) → entry.held ≡ set.count entry.form
      → (n < length L) × (get_or L n no_entry ≡ entry)
  entry_due {n} entry w due counted =
      let f = form_at_some L n entry.form (lightest_unique (stands_lightest l w) due) in
      (f.inside, entry_path f.is (l.with_count n f.inside ∙ ap set.count f.is ∙ sym counted))

  from_there : (n : ℕ) {last : Option (List ℕ)} {told : List Answer} → Stands L n last → Replies set last told → (i : ℕ) → i < length told → get_or told i ended ≡ answerAt L (n + i)
  from_there n w over i h = absurd (omega arith)
  from_there n w (next_form {told = told} entry due counted r) i h = tell (entry_due entry w due counted) i (λ q j k. from_there (suc n) (behind n q.0 (ap (λ (e : Entry). e.form) q.1)) r j k) h
    where
      tell : (n < length L) × (get_or L n no_entry ≡ entry) → (i : ℕ) → ((n < length L) × (get_or L n no_entry ≡ entry) → (j : ℕ) → j < length told → get_or told j ended ≡ answerAt L (suc n + j))
          → i < suc (length told) → get_or (given entry ∷ told) i ended ≡ answerAt L (n + i)
      tell q zero f k = let a : n + 0 ≡ n = omega arith in ap given (sym q.1) ∙ sym (answer_in L n q.0) ∙ ap (answerAt L) (sym a)
      tell q (suc i) f k = let a : suc n + i ≡ n + suc i = omega arith in f q i (omega arith) ∙ ap (answerAt L) a
  from_there n w (at_end {told = told} due r) i h = tell (form_at_none L n (lightest_unique (stands_lightest l w) due)) i (λ j k. from_there n w r j k) h
    where
      tell : length L ≤ n → (i : ℕ) → ((j : ℕ) → j < length told → get_or told j ended ≡ answerAt L (n + j)) → i < suc (length told) → get_or (ended ∷ told) i ended ≡ answerAt L (n + i)
      tell g zero f k = sym (answer_past L (n + 0) (omega arith))
      tell g (suc i) f k = f i (omega arith) ∙ answer_past L (n + i) (omega arith) ∙ sym (answer_past L (n + suc i) (omega arith))

  -- THE SESSION THEOREM, for any set
  pub replies_go_through : {told : List Answer} → Replies set none told → GoThrough L told
  replies_go_through {told} r = record { forms_first = λ i h b. at i h ∙ answer_in L i b; then_end = λ i h b. at i h ∙ answer_past L i b }
    where
      at : (i : ℕ) → i < length told → get_or told i ended ≡ answerAt L i
      at i h = let z : 0 + i ≡ i = omega arith in from_there 0 at_start r i h ∙ ap (answerAt L) z

-- who reaches end has been given the whole list before
pub whole_before_end : (told : List Answer) (L : List Entry) → GoThrough L told → (m : ℕ) → m < length told → get_or told m (given no_entry) ≡ ended → before_end told ≡ L
unfolding before_end
whole_before_end [] L g m h e = absurd (omega arith)
whole_before_end (ended ∷ told) [] g m h e = refl
whole_before_end (ended ∷ told) (x ∷ L) g m h e = let q : ended ≡ given x = g.forms_first 0 (omega arith) (omega arith) in let z : ◌≡◌ {A = ℕ} 0 1 = cc in absurd (omega arith)
whole_before_end (given y ∷ told) [] g m h e = let q : given y ≡ ended = g.then_end 0 (omega arith) (omega arith) in let z : ◌≡◌ {A = ℕ} 0 1 = cc in absurd (omega arith)
whole_before_end (given y ∷ told) (x ∷ L) g zero h e = let z : ◌≡◌ {A = ℕ} 0 1 = cc in absurd (omega arith)
whole_before_end (given y ∷ told) (x ∷ L) g (suc m) h e =
    let q : given y ≡ given x = g.forms_first 0 (omega arith) (omega arith) in
    let t : before_end told ≡ L = whole_before_end told L rest m (omega arith) e in
    cc
  where
    rest : GoThrough L told
    rest = record { forms_first = λ i a b. g.forms_first (suc i) (omega arith) (omega arith); then_end = λ i a b. g.then_end (suc i) (omega arith) (omega arith) }
