-- LAWS. One for each way out of the function that judges and answers a batch.
use mathlib.Core.Path.{◌≡◌, refl, sym, ap, ◌∙◌}
use mathlib.Core.List.{List, [], ◌∷◌, ◌++◌}
use Prim.Native.Nat.{ℕ, zero, suc, ◌≤◌, ◌<◌}
use native.Mathlib.Omega.{arith}
use lib.ListN.{length}
use Rattle.terms.specs.Refusal.{Rule, refusal, output_after, Numbered, no_rule}
use Rattle.terms.specs.Form.{InForm}
use Rattle.terms.proofs.RefusalLaws.{kept_on, broken_here}
use Rattle.terms.proofs.RefusalParts.{refused_first, refused_later}
use Rattle.matching.specs.Limits.{most_nodes_of_a_pattern}
use Rattle.fleet.specs.declared.Answer.{Answer}
use Rattle.fleet.specs.declared.Answer.TheVariants.{Done, Refused}
use Rattle.fleet.specs.Answering.{answer}
use Rattle.fleet.specs.Rules.{output_rule}
use Rattle.search.specs.declared.Pattern.{Pattern}
use Rattle.search.specs.Search.{pairs_of, FirstInput}
use Rattle.listing.specs.Listing.{Asked}
use Rattle.listing.specs.ListedSelected.{search_of}
use Rattle.listing.specs.Calls.{asked_rules, pattern_rules}
use Rattle.listing.proofs.AskedLaws.{asked_numbered}
use Rattle.listing.proofs.StartStepLaws.{accepted, pattern_numbered, few_pairs, within_bound, its_form, first_input}
use Rattle.filling.specs.Filling.{pairs_given, numbers_given, after_rules, FillInput, Filled}
use Rattle.batch.specs.Batch.{Batch, entries_of, batch_rules, batch_answer, batch_output, batch_found}

pub after_none : (p : List ℕ) (bound : ℕ) → length p ≡ 0 → 0 ≡ refusal (after_rules p bound)
unfolding after_rules refusal
after_none [] bound h = refl
after_none (x ∷ p) bound h = absurd (omega arith)

pub after_some : (p : List ℕ) (bound : ℕ) → ¬ (length p ≡ 0) → refusal (pattern_rules p bound) ≡ refusal (after_rules p bound)
unfolding after_rules
after_some [] bound h = absurd (h refl)
after_some (x ∷ p) bound h = refl

pub after_numbered : (p : List ℕ) (bound : ℕ) → Numbered (after_rules p bound)
unfolding after_rules
after_numbered [] bound = no_rule
after_numbered (x ∷ p) bound = pattern_numbered (x ∷ p) bound

-- what a batch says: its answer, and the two outputs
abbrev pub Says : Batch → Answer → (output found : List ℕ) → Type 0
Says b a output found = (a ≡ batch_answer b) × ((output ≡ batch_output b) × (found ≡ batch_found b))

pub refused_with : (b : Batch) (n : ℕ) → refusal (batch_rules b) ≡ suc n → Says b (Refused (suc n)) b.output b.found
unfolding batch_answer batch_output batch_found answer output_after
refused_with b n e = (
  ap (λ (k : ℕ). answer k (length (entries_of b))) (sym e),
  (ap (λ (k : ℕ). output_after k (pairs_given (entries_of b)) b.output) (sym e), ap (λ (k : ℕ). output_after k (numbers_given (entries_of b)) b.found) (sym e)),
)

answered_with : (b : Batch) (n : ℕ) {output' found' : List ℕ} → refusal (batch_rules b) ≡ 0 → Filled b.asked b.pattern b.output b.found n output' found' → Says b (Done n) output' found'
unfolding batch_answer batch_output batch_found answer output_after
answered_with b n e f = (
  ap Done f.as_many ∙ ap (λ (k : ℕ). answer k (length (entries_of b))) (sym e),
  (f.pairs ∙ ap (λ (k : ℕ). output_after k (pairs_given (entries_of b)) b.output) (sym e), f.numbers ∙ ap (λ (k : ℕ). output_after k (numbers_given (entries_of b)) b.found) (sym e)),
)

pub filled_after : {asked : Asked} {p q output found output' found' : List ℕ} {n : ℕ} → p ≡ q → Filled asked p output found n output' found' → Filled asked q output found n output' found'
filled_after e f = rw e at f

-- the rules of the two outputs
abbrev pub outputs : Batch → List Rule
outputs b = output_rule b.asked.request.bound b.output ∷ output_rule 1 b.found ∷ []

module _ (b : Batch) (r : ℕ) (e : r ≡ refusal (asked_rules b.asked)) where
  pub asked_refused : ¬ (r ≡ 0) → Says b (Refused r) b.output b.found
  unfolding batch_rules
  asked_refused n = go r refl
    where
      go : (k : ℕ) → k ≡ r → Says b (Refused r) b.output b.found
      go zero z = absurd (n (sym z))
      go (suc k) z = rw (← z) (refused_with b k (refused_first (asked_rules b.asked) (after_rules b.pattern b.asked.request.bound ++ outputs b) k (sym e ∙ sym z)))

  module _ (z : r ≡ 0) (s : ℕ) (e' : s ≡ refusal (after_rules b.pattern b.asked.request.bound)) where
    to_pattern : refusal (batch_rules b) ≡ refusal (after_rules b.pattern b.asked.request.bound ++ outputs b)
    unfolding batch_rules
    to_pattern = refused_later (after_rules b.pattern b.asked.request.bound ++ outputs b) (asked_numbered b.asked) (sym e ∙ z)

    pub pattern_refused : ¬ (s ≡ 0) → Says b (Refused s) b.output b.found
    pattern_refused n = go s refl
      where
        go : (k : ℕ) → k ≡ s → Says b (Refused s) b.output b.found
        go zero x = absurd (n (sym x))
        go (suc k) x = rw (← x) (refused_with b k (to_pattern ∙ refused_first (after_rules b.pattern b.asked.request.bound) (outputs b) k (sym e' ∙ sym x)))

    module _ (z' : s ≡ 0) where
      to_outputs : refusal (batch_rules b) ≡ refusal (outputs b)
      to_outputs = to_pattern ∙ refused_later (outputs b) (after_numbered b.pattern b.asked.request.bound) (sym e' ∙ z')

      pub output_short : length b.output < b.asked.request.bound → Says b (Refused 17) b.output b.found
      output_short h = refused_with b 16 (to_outputs ∙ broken_here (output_rule b.asked.request.bound b.output) (output_rule 1 b.found ∷ []) (λ k. omega arith))

      to_found : b.asked.request.bound ≤ length b.output → refusal (batch_rules b) ≡ refusal (output_rule 1 b.found ∷ [])
      to_found h = to_outputs ∙ kept_on (output_rule b.asked.request.bound b.output) (output_rule 1 b.found ∷ []) h

      pub found_short : b.asked.request.bound ≤ length b.output → length b.found < 1 → Says b (Refused 17) b.output b.found
      found_short h k = refused_with b 16 (to_found h ∙ broken_here (output_rule 1 b.found) [] (λ m. omega arith))

      pub all_right : b.asked.request.bound ≤ length b.output → 1 ≤ length b.found → {n : ℕ} {output' found' : List ℕ} → Filled b.asked b.pattern b.output b.found n output' found' → Says b (Done n) output' found'
      unfolding refusal
      all_right h k {n} f = answered_with b n (to_found h ∙ kept_on (output_rule 1 b.found) [] k) f

      -- the pattern of the lent pairs
      is_form : (p : List ℕ) (bound : ℕ) → 0 ≡ refusal (after_rules p bound) → (1 ≤ length p → InForm p) × (length p ≤ bound)
      unfolding after_rules
      is_form [] bound f = ((λ h. absurd (omega arith)), omega arith)
      is_form (x ∷ p) bound f = ((λ h. its_form (x ∷ p) bound 0 f refl), within_bound (x ∷ p) bound 0 f refl)

      pub few : length b.pattern ≤ most_nodes_of_a_pattern
      few = few_pairs (accepted b.asked r e z) (is_form b.pattern b.asked.request.bound (sym z' ∙ e')).1

      pub fill_input : (pattern : Pattern) → (pattern.len ≡ length b.pattern) × (pairs_of pattern ≡ b.pattern)
          → FirstInput (search_of b.asked) pattern × FillInput b.asked (pairs_of pattern)
      fill_input pattern is =
          let f = is_form b.pattern b.asked.request.bound (sym z' ∙ e') in (
            first_input pattern (accepted b.asked r e z) (omega (arith, is.0, f.1)) (λ k. rw is.1 (f.0 (omega (arith, is.0)))),
            record { accepted = sym e ∙ z; may_follow = rw is.1 (sym e' ∙ z') },
          )
