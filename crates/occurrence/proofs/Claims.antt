-- The claims of specs/Claims about the calls, proved; those about occurrence and support are in `OccurrenceLaws` and `SupportLaws`.
use mathlib.Core.Path.{◌≡◌, refl, sym, ap, ◌∙◌}
use mathlib.Core.Logic.{◌↔◌}
use mathlib.Core.List.{List, ◌++◌}
use Prim.Native.Nat.{ℕ, zero, suc, ◌+◌}
use native.Mathlib.Omega.{arith}
use lib.ListN.{length, drop}
use Rattle.terms.specs.LeftOut.{HeaviestWithout, ShownWithout, placed, nowhere}
use Rattle.terms.specs.Remarks.{Remark, HeldBy}
use Rattle.terms.specs.Refusal.{refusal, FirstBroken, AllKept}
use Rattle.terms.proofs.RefusalLaws.{first_broken_refusal, all_kept_refusal, refused_exactly, answered_exactly}
use Rattle.terms.proofs.RemarkLaws.{shown_without_remarks}
use Rattle.terms.proofs.RemainingPlacing.{heaviest_without_unique}
use Rattle.fleet.proofs.AnswerLaws.{done_exactly, refused_number}
use Rattle.vehicles.specs.Vehicle.{tree_numbered}
use Rattle.occurrence.specs.Support.{support}
use Rattle.occurrence.specs.SupportCall.{support_rules, support_answer}
use Rattle.occurrence.specs.PlaceCall.{place_rules, placement, placement_output, place_answer, place_output}
use Rattle.occurrence.specs.declared.Placement.{Placement}
use Rattle.occurrence.specs.declared.Placement.TheVariants.{Placed, Nowhere, Refused}
use Rattle.occurrence.specs.Claims.{SupportAnsweredExactly, SupportRefusedExactly, PlaceRefusedExactly, PlaceRefusedUntouched, PlacedExactly, NowhereExactly, HeaviestShown, NowhereUntouched}
use Rattle.occurrence.proofs.CallLaws.{support_numbered, place_numbered}

pub support_answered_exactly : SupportAnsweredExactly
unfolding support_answer
support_answered_exactly fleet pattern =
    let number = done_exactly (refusal (support_rules fleet pattern)) (support fleet pattern) in
    let kept = answered_exactly (support_numbered fleet pattern) in
    ((λ e. kept.0 (number.0 e)), (λ k. number.1 (kept.1 k)))

pub support_refused_exactly : SupportRefusedExactly
unfolding support_answer
support_refused_exactly fleet pattern n h =
    let number = refused_number (refusal (support_rules fleet pattern)) (support fleet pattern) n h in
    let first = refused_exactly n (support_numbered fleet pattern) h in
    ((λ e. first.0 (number.0 e)), (λ b. number.1 (first.1 b)))

-- tells the answers of `place` apart
tag : Placement → ℕ
tag (Placed nodes) = 0
tag Nowhere = 1
tag (Refused number) = number + 2

pub place_refused_exactly : PlaceRefusedExactly
unfolding place_answer placement tag
place_refused_exactly fleet vehicle pattern output n h = (
  (λ e. exactly.0 (to (refusal (place_rules fleet vehicle pattern output)) (shown_without_remarks pattern (tree_numbered fleet vehicle)) e)),
  (λ b. from (refusal (place_rules fleet vehicle pattern output)) (shown_without_remarks pattern (tree_numbered fleet vehicle)) (exactly.1 b)),
)
  where
    exactly : (refusal (place_rules fleet vehicle pattern output) ≡ n) ↔ FirstBroken n (place_rules fleet vehicle pattern output)
    exactly = refused_exactly n (place_numbered fleet vehicle pattern output) h

    to : (k : ℕ) (s : ShownWithout (Remark (tree_numbered fleet vehicle)) pattern (tree_numbered fleet vehicle)) → placement k s ≡ Refused n → k ≡ n
    to zero (placed tuple _) e = absurd (omega (arith, ap tag e))
    to zero (nowhere _) e = absurd (omega (arith, ap tag e))
    to (suc k) s e = omega (arith, ap tag e)

    from : (k : ℕ) (s : ShownWithout (Remark (tree_numbered fleet vehicle)) pattern (tree_numbered fleet vehicle)) → k ≡ n → placement k s ≡ Refused n
    from zero s e = absurd (omega arith)
    from (suc k) s e = ap Refused e

pub place_refused_untouched : PlaceRefusedUntouched
unfolding place_output placement_output
place_refused_untouched fleet vehicle pattern output n h b = go (refusal (place_rules fleet vehicle pattern output)) (first_broken_refusal b)
  where
    go : (k : ℕ) → k ≡ n → placement_output k (shown_without_remarks pattern (tree_numbered fleet vehicle)) output ≡ output
    go zero e = absurd (omega arith)
    go (suc k) e = refl

-- where no rule is broken
module _ (fleet : List ℕ) (vehicle : ℕ) (pattern output : List ℕ) (kept : AllKept (place_rules fleet vehicle pattern output)) where
  -- the answer and the output are those of a heaviest placing, or those of no placing
  data Outcome : Type 0 where
    placed_there : (tuple : List ℕ) → HeaviestWithout (Remark (tree_numbered fleet vehicle)) pattern (tree_numbered fleet vehicle) tuple → place_answer fleet vehicle pattern output ≡ Placed (length pattern)
        → place_output fleet vehicle pattern output ≡ tuple ++ drop (length tuple) output → Outcome
    placed_nowhere : ¬ HeldBy pattern (tree_numbered fleet vehicle) → place_answer fleet vehicle pattern output ≡ Nowhere → place_output fleet vehicle pattern output ≡ output → Outcome

  outcome : Outcome
  unfolding place_answer place_output placement placement_output
  outcome = go (shown_without_remarks pattern (tree_numbered fleet vehicle)) refl refl
    where
      z : refusal (place_rules fleet vehicle pattern output) ≡ 0
      z = all_kept_refusal kept

      go : (s : ShownWithout (Remark (tree_numbered fleet vehicle)) pattern (tree_numbered fleet vehicle)) → placement 0 (shown_without_remarks pattern (tree_numbered fleet vehicle)) ≡ placement 0 s
          → placement_output 0 (shown_without_remarks pattern (tree_numbered fleet vehicle)) output ≡ placement_output 0 s output → Outcome
      go (placed tuple h) e f = placed_there tuple h (rw z (e ∙ ap Placed h.placing.placing.each_placed)) (rw z f)
      go (nowhere n) e f = placed_nowhere n (rw z e) (rw z f)

  occurs_by : {tuple : List ℕ} → HeaviestWithout (Remark (tree_numbered fleet vehicle)) pattern (tree_numbered fleet vehicle) tuple → HeldBy pattern (tree_numbered fleet vehicle)
  occurs_by h = record { tuple = _; placing = h.placing }

  placed_if : Outcome → (place_answer fleet vehicle pattern output ≡ Placed (length pattern)) ↔ HeldBy pattern (tree_numbered fleet vehicle)
  unfolding tag
  placed_if (placed_there tuple h e f) = ((λ _. occurs_by h), (λ _. e))
  placed_if (placed_nowhere n e f) = ((λ q. absurd (omega (arith, ap tag (sym e ∙ q)))), (λ o. absurd (n o)))

  nowhere_if : Outcome → (place_answer fleet vehicle pattern output ≡ Nowhere) ↔ ¬ HeldBy pattern (tree_numbered fleet vehicle)
  unfolding tag
  nowhere_if (placed_there tuple h e f) = ((λ q. absurd (omega (arith, ap tag (sym e ∙ q)))), (λ n. absurd (n (occurs_by h))))
  nowhere_if (placed_nowhere n e f) = ((λ _. n), (λ _. e))

  shown_if : Outcome → (tuple : List ℕ) → HeaviestWithout (Remark (tree_numbered fleet vehicle)) pattern (tree_numbered fleet vehicle) tuple → place_output fleet vehicle pattern output ≡ tuple ++ drop (length tuple) output
  shown_if (placed_there m h e f) tuple k = let q : m ≡ tuple = heaviest_without_unique h k in rw q at f
  shown_if (placed_nowhere n e f) tuple k = absurd (n (occurs_by k))

  untouched_if : Outcome → ¬ HeldBy pattern (tree_numbered fleet vehicle) → place_output fleet vehicle pattern output ≡ output
  untouched_if (placed_there m h e f) n = absurd (n (occurs_by h))
  untouched_if (placed_nowhere _ e f) n = f

pub placed_exactly : PlacedExactly
placed_exactly fleet vehicle pattern output kept = placed_if fleet vehicle pattern output kept (outcome fleet vehicle pattern output kept)

pub nowhere_exactly : NowhereExactly
nowhere_exactly fleet vehicle pattern output kept = nowhere_if fleet vehicle pattern output kept (outcome fleet vehicle pattern output kept)

pub heaviest_shown : HeaviestShown
heaviest_shown fleet vehicle pattern output kept = shown_if fleet vehicle pattern output kept (outcome fleet vehicle pattern output kept)

pub nowhere_untouched : NowhereUntouched
nowhere_untouched fleet vehicle pattern output kept = untouched_if fleet vehicle pattern output kept (outcome fleet vehicle pattern output kept)
