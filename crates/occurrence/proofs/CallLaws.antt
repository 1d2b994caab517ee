-- One law for each way out of the functions that check the rules of a call.
use mathlib.Core.Path.{◌≡◌, refl, sym, ap, ◌∙◌}
use mathlib.Core.Logic.{◌≢◌}
use mathlib.Core.Bool.{Bool, true, false}
use mathlib.Core.List.{List, [], ◌∷◌, ◌++◌}
use Prim.Native.Nat.{ℕ, zero, suc, ◌≤◌, ◌<◌}
use native.Mathlib.Omega.{arith}
use lib.ListN.{length, drop}
use Rattle.terms.specs.Fleet.{IsFleet, IsVehicle, vehicles}
use Rattle.terms.specs.Refusal.{Rule, refusal, AllKept, this, later, none, also, Numbered, no_rule, and_rule}
use Rattle.terms.specs.Tells.{decided}
use Rattle.terms.proofs.DecidedLaws.{true_holds, false_fails}
use Rattle.terms.proofs.TreeLaws.{tree?}
use Rattle.terms.proofs.FleetLaws.{fleet?}
use Rattle.terms.proofs.RefusalLaws.{first_broken_refusal, all_kept_refusal, answered_exactly}
use Rattle.terms.proofs.RefusalParts.{refused_first, refused_later}
use Rattle.terms.specs.LeftOut as w
use Rattle.terms.specs.LeftOut.{ShownWithout, HeaviestWithout}
use Rattle.terms.specs.Remarks.{Remark, HoldsRemark}
use Rattle.terms.proofs.RemarkLaws.{remark_nowhere, held_as_before, heaviest_kept, shown_without_remarks}
use Rattle.terms.proofs.RemainingPlacing.{heaviest_without_unique}
use Rattle.fleet.specs.declared.Answer.TheVariants as a
use Rattle.fleet.specs.Answering.{answer}
use Rattle.fleet.specs.Rules.{vehicle_rule, output_rule}
use Rattle.vehicles.specs.Vehicle.{tree_numbered}
use Rattle.vehicles.proofs.StretchLaws.{has_number, numbered_vehicle}
use Rattle.occurrence.specs.Support.{support, whole_support}
use Rattle.occurrence.specs.CountSteps.{CountInput}
use Rattle.heaviest.specs.Heaviest.{PlaceInput, PlacingWritten, placed, nowhere}
use Rattle.occurrence.specs.SupportCall.{support_rules, support_answer}
use Rattle.occurrence.specs.PlaceCall.{place_rules, placement, placement_output, place_answer, place_output}
use Rattle.occurrence.specs.declared.Placement.{Placement}
use Rattle.occurrence.proofs.SupportLaws.{remark_unsupported, support_as_before}
use Rattle.occurrence.specs.declared.Placement.TheVariants.{Placed, Nowhere, Refused}

-- `pattern_refusal`
module _ (fleet pattern : List ℕ) (b : Bool) (e : b ≡ decided (fleet? fleet)) where
  pub refused_10 : b ≡ false → 10 ≡ refusal (support_rules fleet pattern)
  refused_10 t = sym (first_broken_refusal (this (false_fails (fleet? fleet) b e t) refl))

  fleet_kept : b ≡ true → IsFleet fleet
  fleet_kept t = true_holds (fleet? fleet) b e t

  refused_13 : b ≡ true → ¬ ((1 ≤ length pattern) × (length pattern ≤ 16)) → 13 ≡ refusal (support_rules fleet pattern)
  refused_13 t h = sym (first_broken_refusal (later (fleet_kept t) (this h refl)))

  pub refused_empty : b ≡ true → length pattern ≡ 0 → 13 ≡ refusal (support_rules fleet pattern)
  refused_empty t h = refused_13 t (λ k. let z = k.0 in omega arith)

  pub refused_long : b ≡ true → 16 < length pattern → 13 ≡ refusal (support_rules fleet pattern)
  refused_long t h = refused_13 t (λ k. let z = k.1 in omega arith)

  module _ (c : Bool) (f : c ≡ decided (tree? pattern)) where
    pub refused_14 : b ≡ true → (1 ≤ length pattern) × (length pattern ≤ 16) → c ≡ false → 14 ≡ refusal (support_rules fleet pattern)
    refused_14 t h u = sym (first_broken_refusal (later (fleet_kept t) (later h (this (false_fails (tree? pattern) c f u) refl))))

    pub refused_not : b ≡ true → (1 ≤ length pattern) × (length pattern ≤ 16) → c ≡ true → 0 ≡ refusal (support_rules fleet pattern)
    refused_not t h u = sym (all_kept_refusal (also (fleet_kept t) (also h (also (true_holds (tree? pattern) c f u) none))))

-- every rule has a number
pub support_numbered : (fleet pattern : List ℕ) → Numbered (support_rules fleet pattern)
support_numbered fleet pattern = and_rule 9 refl (and_rule 12 refl (and_rule 13 refl no_rule))

pub place_numbered : (fleet : List ℕ) (vehicle : ℕ) (pattern output : List ℕ) → Numbered (place_rules fleet vehicle pattern output)
place_numbered fleet vehicle pattern output = and_rule 9 refl (and_rule 12 refl (and_rule 13 refl (and_rule 15 refl (and_rule 16 refl no_rule))))

-- `support`
pub count_input : (fleet pattern : List ℕ) (n : ℕ) → n ≡ refusal (support_rules fleet pattern) → n ≤ 0 → CountInput fleet pattern
count_input fleet pattern n e h = go ((answered_exactly (support_numbered fleet pattern)).0 (omega arith))
  where
    go : AllKept (support_rules fleet pattern) → CountInput fleet pattern
    go (also f (also s (also t none))) = record { is_fleet = f; is_tree = t; pattern_nodes = s.1 }

refused_by : (n value : ℕ) → 0 < n → a.Refused n ≡ answer n value
unfolding answer
refused_by zero value h = absurd (omega arith)
refused_by (suc n) value h = refl

pub support_refused : (fleet pattern : List ℕ) (n : ℕ) → n ≡ refusal (support_rules fleet pattern) → 0 < n → a.Refused n ≡ support_answer fleet pattern
unfolding support_answer
support_refused fleet pattern n e h = rw (← e) (refused_by n (support fleet pattern) h)

support_done : (fleet pattern : List ℕ) (n r : ℕ) → n ≡ refusal (support_rules fleet pattern) → n ≤ 0 → r ≡ support fleet pattern → a.Done r ≡ support_answer fleet pattern
unfolding support_answer answer
support_done fleet pattern n r e h q = let z : refusal (support_rules fleet pattern) ≡ 0 = omega arith in rw (z, q) refl

pub none_supported : (fleet pattern : List ℕ) (n : ℕ) → n ≡ refusal (support_rules fleet pattern) → n ≤ 0 → HoldsRemark pattern → a.Done 0 ≡ support_answer fleet pattern
none_supported fleet pattern n e h r = support_done fleet pattern n 0 e h (sym (remark_unsupported fleet pattern r))

pub all_supported : (fleet pattern : List ℕ) (n r : ℕ) → n ≡ refusal (support_rules fleet pattern) → n ≤ 0 → ¬ HoldsRemark pattern → r ≡ whole_support fleet pattern → a.Done r ≡ support_answer fleet pattern
all_supported fleet pattern n r e h k q = support_done fleet pattern n r e h (q ∙ sym (support_as_before fleet pattern k))

-- `place`
module _ (fleet : List ℕ) (vehicle : ℕ) (pattern output : List ℕ) (n : ℕ) (e : n ≡ refusal (support_rules fleet pattern)) where
  abbrev pub Answered : Placement → List ℕ → Type 0
  Answered r exit = (r ≡ place_answer fleet vehicle pattern output) × (exit ≡ place_output fleet vehicle pattern output)

  abbrev last_rules : List Rule
  last_rules = vehicle_rule fleet vehicle ∷ output_rule (length pattern) output ∷ []

  refused_with : (k : ℕ) → 0 < k → refusal (place_rules fleet vehicle pattern output) ≡ k → Answered (Refused k) output
  unfolding place_answer place_output placement placement_output
  refused_with zero h z = absurd (omega arith)
  refused_with (suc k) h z = rw z (refl, refl)

  pub place_refused : 0 < n → Answered (Refused n) output
  place_refused h = refused_with n h (go n h e)
    where
      go : (k : ℕ) → 0 < k → k ≡ refusal (support_rules fleet pattern) → refusal (place_rules fleet vehicle pattern output) ≡ k
      go zero p q = absurd (omega arith)
      go (suc k) p q = refused_first (support_rules fleet pattern) last_rules k (sym q)

  module _ (h : n ≤ 0) (tree : List ℕ) (q : tree ≡ tree_numbered fleet vehicle) where
    left_to_last : refusal (place_rules fleet vehicle pattern output) ≡ refusal last_rules
    left_to_last = refused_later last_rules (support_numbered fleet pattern) (omega arith)

    input : CountInput fleet pattern
    input = count_input fleet pattern n e h

    pub place_16 : length tree ≡ 0 → Answered (Refused 16) output
    place_16 z = refused_with 16 (omega arith) (left_to_last ∙ first_broken_refusal (this unnamed refl))
      where
        unnamed : ¬ ((1 ≤ vehicle) × (vehicle ≤ length (vehicles fleet)))
        unnamed w = let k : 1 ≤ length tree = rw q (numbered_vehicle fleet vehicle input.is_fleet w).is_tree.has_root in omega arith

    module _ (some : length tree ≢ 0) where
      named : (1 ≤ vehicle) × (vehicle ≤ length (vehicles fleet))
      named = has_number (vehicles fleet) vehicle (rw q at some)

      is_vehicle : IsVehicle tree
      is_vehicle = rw q (numbered_vehicle fleet vehicle input.is_fleet named)

      pub place_17 : length output < length pattern → Answered (Refused 17) output
      place_17 k = refused_with 17 (omega arith) (left_to_last ∙ first_broken_refusal (later named (this (λ room. omega arith) refl)))

      pub place_input : length pattern ≤ length output → PlaceInput pattern tree output
      place_input room = record {
        trees = record { pattern_is_tree = input.is_tree; tree_is_tree = is_vehicle.is_tree; pattern_nodes = input.pattern_nodes; tree_nodes = is_vehicle.nodes };
        room = room;
      }

      answered : length pattern ≤ length output → refusal (place_rules fleet vehicle pattern output) ≡ 0
      answered room = left_to_last ∙ all_kept_refusal (also named (also room none))

      -- what is shown, by what was found
      module _ (room : length pattern ≤ length output) where
        shown_placed : (exit tuple : List ℕ) → HeaviestWithout (Remark tree) pattern tree tuple → exit ≡ tuple ++ drop (length tuple) output → Answered (Placed (length pattern)) exit
        unfolding place_answer place_output placement placement_output
        shown_placed exit tuple heaviest written = rw (answered room, ← q) (go (shown_without_remarks pattern tree))
          where
            go : (s : ShownWithout (Remark tree) pattern tree) → (Placed (length pattern) ≡ placement 0 s) × (exit ≡ placement_output 0 s output)
            go (w.placed other o) =
                let same : tuple ≡ other = heaviest_without_unique heaviest o in
                (ap Placed (sym o.placing.placing.each_placed), written ∙ ap (λ (l : List ℕ). l ++ drop (length l) output) same)
            go (w.nowhere never) = absurd (never (record { tuple = tuple; placing = heaviest.placing }))

        shown_nowhere : (exit : List ℕ) → ¬ w.OccursWithout (Remark tree) pattern tree → exit ≡ output → Answered Nowhere exit
        unfolding place_answer place_output placement placement_output
        shown_nowhere exit none_there same = rw (answered room, ← q) (go (shown_without_remarks pattern tree))
          where
            go : (s : ShownWithout (Remark tree) pattern tree) → (Nowhere ≡ placement 0 s) × (exit ≡ placement_output 0 s output)
            go (w.placed other o) = absurd (none_there (record { tuple = other; placing = o.placing }))
            go (w.nowhere _) = (refl, same)

        pub place_remark : HoldsRemark pattern → Answered Nowhere output
        place_remark r = shown_nowhere output (remark_nowhere pattern tree r) refl

        module _ (plain : ¬ HoldsRemark pattern) where
          pub place_placed : (exit : List ℕ) → PlacingWritten pattern tree output exit true → Answered (Placed (length pattern)) exit
          place_placed exit (placed tuple heaviest written) = shown_placed exit tuple (heaviest_kept plain heaviest) written

          pub place_nowhere : (exit : List ℕ) → PlacingWritten pattern tree output exit false → Answered Nowhere exit
          place_nowhere exit (nowhere none_there same) = shown_nowhere exit (λ o. none_there ((held_as_before pattern tree plain).0 o)) same
