-- LAWS. The ways out of the call that makes a register, and of the test whether one is a fleet's.
use mathlib.Core.Path.{◌≡◌, refl, sym, ap, ◌∙◌}
use mathlib.Core.Bool.{Bool, true, false, not}
use mathlib.Core.List.{List, [], ◌++◌, append-nil}
use mathlib.Core.Bool.{true≢false}
use Prim.Native.Nat.{ℕ, zero, suc, ◌≤◌, ◌<◌}
use lib.Dec.{eqb}
use Rattle.std.specs.Cmp.Lexicographic.{pointwise}
use Rattle.std.proofs.lemmas.Bool.Decides.{Decides-eqb}
use Rattle.std.proofs.lemmas.Slice.Eq.{starts_is}
use Rattle.fleet.proofs.TellsLaws.{tells_if, told_yes, told_no}
use native.Mathlib.Omega.{arith}
use lib.ListN.{length, take, drop, replicate, length-replicate, get_or-replicate, drop_of_length-le, take-append-drop}
use lib.Seq.{take_at, drop_at}
use Rattle.terms.specs.Fleet.{IsFleet}
use Rattle.terms.specs.Refusal.{refusal, output_after, this, later, none, also}
use Rattle.terms.specs.Tells.{Tells, decided}
use Rattle.terms.proofs.DecidedLaws.{says_yes, says_no, said_yes, said_no, denied, not_denied}
use Rattle.terms.proofs.FleetLaws.{fleet?}
use Rattle.terms.proofs.RefusalLaws.{first_broken_refusal, all_kept_refusal}
use Rattle.fleet.specs.Answering.{answer}
use Rattle.fleet.specs.declared.Answer.{Answer}
use Rattle.fleet.specs.declared.Answer.TheVariants.{Done, Refused}
use Rattle.fleet.proofs.AnswerLaws.{refused_with, done_with}
use Rattle.register.specs.Register.{most_label, register_nodes, register_holders, register?}
use Rattle.register.specs.RegisterCall.{register_rules, register_answer, nodes_output, holders_output}
use Rattle.register.specs.Trees.{Cleared, AddAllInput, AllAdded}
use Rattle.register.proofs.EntryLaws.{entries_length}

pub nodes_long : (fleet : List ℕ) → length (register_nodes fleet) ≡ most_label
nodes_long fleet = entries_length _ most_label 1

pub holders_long : (fleet : List ℕ) → length (register_holders fleet) ≡ most_label
holders_long fleet = entries_length _ most_label 1

-- WHAT A CALL LEAVES in an output: an answered one its result, and behind it what stood there; a refused one all that stood there
pub written : (number : ℕ) (result output : List ℕ) → number ≡ 0 → output_after number result output ≡ result ++ drop (length result) output
unfolding output_after
written zero result output e = refl
written (suc n) result output e = absurd (omega arith)

pub left_as_was : (number value n : ℕ) (result output : List ℕ) → answer number value ≡ Refused n → output_after number result output ≡ output
unfolding answer output_after
left_as_was zero value n result output e = let z : ◌≡◌ {A = ℕ} 0 1 = cc in absurd (omega arith)
left_as_was (suc k) value n result output e = refl

-- a register's entries, and behind them what stood there
module _ (l result output : List ℕ) (e : l ≡ result ++ drop (length result) output) (long : length result ≡ most_label) where
  pub entries_first : take most_label l ≡ result
  entries_first = ap (take most_label) e ∙ take_at result (drop (length result) output) most_label long

  pub entries_behind : drop most_label l ≡ drop most_label output
  entries_behind = ap (drop most_label) e ∙ drop_at result (drop (length result) output) most_label long ∙ ap (λ (k : ℕ). drop k output) long

-- MAKING ONE
module _ (fleet nodes holders : List ℕ) where
  abbrev pub Answers : Answer → (nodes' holders' : List ℕ) → Type 0
  Answers r nodes' holders' = (r ≡ register_answer fleet nodes holders) × ((nodes' ≡ nodes_output fleet nodes holders) × (holders' ≡ holders_output fleet nodes holders))

  refused : (k : ℕ) → refusal (register_rules fleet nodes holders) ≡ suc k → Answers (Refused (suc k)) nodes holders
  unfolding register_answer nodes_output holders_output
  refused k e =
      let n = refused_with (refusal (register_rules fleet nodes holders)) k most_label (register_nodes fleet) nodes e in
      let h = refused_with (refusal (register_rules fleet nodes holders)) k most_label (register_holders fleet) holders e in
      (n.0, (n.1, h.1))

  module _ (b : Bool) (e : b ≡ decided (fleet? fleet)) where
    pub no_fleet : not b ≡ true → Answers (Refused 10) nodes holders
    no_fleet t = refused 9 (first_broken_refusal (this (said_no (fleet? fleet) (denied b t ∙ e)) refl))

    module _ (t : not b ≡ false) where
      pub a_fleet : IsFleet fleet
      a_fleet = said_yes (fleet? fleet) (not_denied b t ∙ e)

      pub nodes_short : length nodes < most_label → Answers (Refused 17) nodes holders
      nodes_short h = refused 16 (first_broken_refusal (later a_fleet (this (λ k. omega arith) refl)))

      module _ (long : most_label ≤ length nodes) where
        pub holders_short : length holders < most_label → Answers (Refused 17) nodes holders
        holders_short h = refused 16 (first_broken_refusal (later a_fleet (later long (this (λ k. omega arith) refl))))

        module _ (long_too : most_label ≤ length holders) {nodes' holders' : List ℕ} (c : Cleared nodes holders nodes' holders') where
          pub cleared_input : AddAllInput fleet nodes' holders'
          cleared_input = record {
            is_fleet = a_fleet;
            all_nodes = omega (arith, c.rest.as_long);
            all_holders = omega (arith, c.rest.as_long_too);
            no_nodes = c.no_nodes;
            no_holders = c.no_holders;
          }

          pub made : {nodes'' holders'' : List ℕ} → AllAdded fleet nodes' holders' nodes'' holders'' → Answers (Done most_label) nodes'' holders''
          unfolding register_answer nodes_output holders_output
          made {nodes''} {holders''} a =
              let number = refusal (register_rules fleet nodes holders) in
              let n = done_with number most_label (register_nodes fleet) nodes nodes'' kept
              (whole nodes'' nodes nodes' (register_nodes fleet) (nodes_long fleet) a.nodes_are c.rest.nodes_rest) in
              let h = done_with number most_label (register_holders fleet) holders holders'' kept
              (whole holders'' holders holders' (register_holders fleet) (holders_long fleet) a.holders_are c.rest.holders_rest) in
              (n.0, (n.1, h.1))
            where
              kept : refusal (register_rules fleet nodes holders) ≡ 0
              kept = all_kept_refusal (also a_fleet (also long (also long_too none)))

              whole : (l l₀ l' first : List ℕ) → length first ≡ most_label → l ≡ first ++ drop most_label l' → drop most_label l' ≡ drop most_label l₀
                  → l ≡ first ++ drop (length first) l₀
              whole l l₀ l' first k p q = p ∙ ap (λ (s : List ℕ). first ++ s) q ∙ ap (λ (m : ℕ). first ++ drop m l₀) (sym k)

-- THE TEST: the lent entries against those made from zeros
abbrev pub Says : (fleet nodes holders : List ℕ) → Bool → Type 0
Says fleet nodes holders b = b ≡ decided (register? fleet nodes holders)

abbrev pub zeros : List ℕ
zeros = replicate most_label 0

zeros_long : length zeros ≡ most_label
zeros_long = length-replicate {A = ℕ} most_label 0

pub zeros_input : (fleet : List ℕ) → IsFleet fleet → AddAllInput fleet zeros zeros
zeros_input fleet f = record {
  is_fleet = f;
  all_nodes = omega (arith, zeros_long);
  all_holders = omega (arith, zeros_long);
  no_nodes = λ e h. get_or-replicate {A = ℕ} most_label e 0 0 h;
  no_holders = λ e h. get_or-replicate {A = ℕ} most_label e 0 0 h;
}

module _ {fleet made made' : List ℕ} (a : AllAdded fleet zeros zeros made made') where
  no_rest : drop most_label zeros ≡ []
  no_rest = drop_of_length-le zeros {i = most_label} (omega (arith, zeros_long))

  made_nodes : made ≡ register_nodes fleet
  made_nodes = a.nodes_are ∙ ap (λ (s : List ℕ). register_nodes fleet ++ s) no_rest ∙ append-nil (register_nodes fleet)

  made_holders : made' ≡ register_holders fleet
  made_holders = a.holders_are ∙ ap (λ (s : List ℕ). register_holders fleet ++ s) no_rest ∙ append-nil (register_holders fleet)

  made_nodes_long : length made ≡ most_label
  made_nodes_long = ap length made_nodes ∙ nodes_long fleet

  made_holders_long : length made' ≡ most_label
  made_holders_long = ap length made_holders ∙ holders_long fleet

  -- `starts_with` tells whether the first entries are those that were made
  starts_tell : (lent entries : List ℕ) (r : Bool) → length entries ≡ most_label → r ≡ pointwise eqb entries (take (length entries) lent) → Tells r (take most_label lent ≡ entries)
  starts_tell lent entries r long v =
      let is = starts_is Decides-eqb lent entries r v in
      tells_if r (λ t. ap (take most_label) (is.0 t) ∙ take_at entries _ most_label long)
      (λ f h. true≢false (sym (is.1 (drop most_label lent) (sym (take-append-drop most_label lent) ∙ ap (λ (s : List ℕ). s ++ drop most_label lent) h)) ∙ f))

  module _ (nodes holders : List ℕ) where
    pub other_nodes : (r : Bool) → r ≡ pointwise eqb made (take (length made) nodes) → r ≡ false → Says fleet nodes holders r
    other_nodes r v f = f ∙ says_no (register? fleet nodes holders) (λ k. told_no r (starts_tell nodes made r made_nodes_long v) f (k.nodes_are ∙ sym made_nodes))

    pub holders_tell : (r b : Bool) → r ≡ pointwise eqb made (take (length made) nodes) → r ≡ true → b ≡ pointwise eqb made' (take (length made') holders) → Says fleet nodes holders b
    holders_tell r b v t w = said b (starts_tell holders made' b made_holders_long w)
      where
        nodes_same : take most_label nodes ≡ made
        nodes_same = told_yes r (starts_tell nodes made r made_nodes_long v) t

        said : (b : Bool) → Tells b (take most_label holders ≡ made') → Says fleet nodes holders b
        said true h = says_yes (register? fleet nodes holders) (record { nodes_are = nodes_same ∙ made_nodes; holders_are = h ∙ made_holders })
        said false h = says_no (register? fleet nodes holders) (λ k. h (k.holders_are ∙ sym made_holders))
