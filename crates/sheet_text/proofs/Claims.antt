-- The claims of specs/Claims, proved.
use mathlib.Core.Path.{◌≡◌, refl, sym, ap, ◌∙◌}
use mathlib.Core.Bool.{Bool, true, false}
use mathlib.Core.Logic.{ite, if_pos, if_neg}
use mathlib.Core.List.{List, [], ◌∷◌, ◌++◌}
use Prim.Native.Nat.{ℕ, zero, suc, ◌+◌, ◌/◌, ◌%◌, ◌≤◌}
use native.Mathlib.Omega.{arith}
use native.Mathlib.Decide.{dec_le}
use lib.ListN.{length, take, drop, length-take}
use lib.Seq.{take_at, take_all}
use Rattle.terms.specs.Tree.{pair}
use Rattle.terms.specs.Fleet.{vehicles, IsFleet}
use Rattle.terms.specs.Refusal.{refusal, output_after, AllKept, none, also, Numbered, no_rule, and_rule}
use Rattle.terms.proofs.RefusalLaws.{answered_exactly}
use Rattle.fleet.proofs.AnswerLaws.{done_number}
use Rattle.fleet.proofs.FleetGrowth.{Begun, nothing_yet, a_fleet, fleet_grows}
use Rattle.token.specs.Token.{Front, pair_then, line_end_then, text_end, no_pair, token}
use Rattle.fleet_text.specs.FleetText.{fleet_text, print_rules, print_answer, print_output}
use Rattle.fleet_text.specs.Claims.{TextShortClaim}
use Rattle.fleet_text.proofs.Claims.{text_short_claim}
use Rattle.sheet_text.specs.TextReading.{pair_rules, whole, stopped, at_end, take_token, read_text, most_text_bytes, text_reading, within_memory, answer_of, memory_of}
use Rattle.sheet_text.specs.Claims.{TextIsFleetClaim, TextKeptClaim, FleetTextReadsBackClaim, PrintedReadsBackClaim}
use Rattle.sheet_text.proofs.ReadingLaws.{right_node, not_whole, same_pairs, none_broken}
use Rattle.sheet_text.proofs.RoundTrip.{read_back}

module _ (first : Bool) (before : List ℕ) (depth label : ℕ) where
  grown : Begun before → refusal (pair_rules first before depth label) ≡ 0 → Begun (before ++ pair depth label ∷ [])
  grown b e =
      let r = right_node before first depth label e in
      let s : label ≤ 999 = r.rule6.1 in
      let d : depth ≡ pair depth label / 1000 = omega arith in
      let l : label ≡ pair depth label % 1000 = omega arith in
      a_fleet (fleet_grows before (pair depth label) b (rw (← d, ← l) r))

module _ (pairs : List ℕ) where
  -- so it is for readings of so many turns
  abbrev FleetWith : ℕ → Type 0
  FleetWith n = (line : ℕ) (first : Bool) (before text : List ℕ) → Begun before → read_text n line first before text ≡ whole pairs → IsFleet pairs

  read_is_fleet : (n : ℕ) → FleetWith n
  unfolding read_text take_token at_end
  read_is_fleet zero line first before text b e = absurd (not_whole e)
  read_is_fleet (suc n) line first before text b e = go (token text) (read_is_fleet n) e
    where
      ended : (s : List ℕ) → Begun s → at_end line s ≡ whole pairs → IsFleet pairs
      ended [] c q = absurd (not_whole q)
      ended (x ∷ s) (a_fleet f) q = rw (same_pairs q) at f
      ended (x ∷ s) (nothing_yet z) q = absurd (omega (arith, ap length z))

      go : (f : Front) → FleetWith n → take_token line first before f (read_text n) ≡ whole pairs → IsFleet pairs
      go (pair_then depth label rest) later q =
          let k = none_broken (refusal (pair_rules first before depth label)) line _ pairs q in
          later line false (before ++ pair depth label ∷ []) rest (grown first before depth label b k.0) k.1
      go (line_end_then rest) later q = later (suc line) true before rest b q
      go text_end later q = ended before b q
      go no_pair later q = absurd (not_whole q)

pub text_is_fleet_claim : TextIsFleetClaim
unfolding TextIsFleetClaim text_reading
text_is_fleet_claim text pairs e = go (dec_le (length text) most_text_bytes) e
  where
    go : (d : Dec (length text ≤ most_text_bytes)) → ite d (read_text (suc (length text)) 1 true [] text) (stopped 1 255) ≡ whole pairs → IsFleet pairs
    go (yes _) q = read_is_fleet pairs (suc (length text)) 1 true [] text (nothing_yet refl) q
    go (no _) q = absurd (not_whole q)

pub text_kept_claim : TextKeptClaim
unfolding TextKeptClaim text_reading
text_kept_claim text = go (dec_le (length text) most_text_bytes)
  where
    go : Dec (length text ≤ most_text_bytes) → text_reading (take (most_text_bytes + 1) text) ≡ text_reading text
    go (yes h) = ap text_reading (take_all (most_text_bytes + 1) text (omega arith))
    go (no h) =
        let long : ¬ (length (take (most_text_bytes + 1) text) ≤ most_text_bytes) = λ k. omega (arith, length-take (most_text_bytes + 1) text) in
        if_neg (dec_le (length (take (most_text_bytes + 1) text)) most_text_bytes) long _ _ ∙ sym (if_neg (dec_le (length text) most_text_bytes) h _ _)

pub fleet_text_reads_back_claim : FleetTextReadsBackClaim
unfolding FleetTextReadsBackClaim TextShortClaim text_reading vehicles
fleet_text_reads_back_claim [] f = absurd (omega (arith, f.some_tree))
fleet_text_reads_back_claim (x ∷ pairs) f =
    if_pos (dec_le (length (fleet_text (x ∷ pairs))) most_text_bytes) (omega (arith, text_short_claim (x ∷ pairs) f, f.nodes)) _ _ ∙ read_back x pairs (length (fleet_text (x ∷ pairs))) f (omega arith)

print_numbered : (pairs output : List ℕ) → Numbered (print_rules pairs output)
print_numbered pairs output = and_rule 9 refl (and_rule 16 refl no_rule)

pub printed_reads_back_claim : PrintedReadsBackClaim
unfolding PrintedReadsBackClaim FleetTextReadsBackClaim print_answer print_output output_after answer_of memory_of within_memory
printed_reads_back_claim pairs output n e memory room =
    let d = (done_number (refusal (print_rules pairs output)) (length (fleet_text pairs)) n).0 e in
    let text : take n (print_output pairs output) ≡ fleet_text pairs
    = ap (λ (k : ℕ). take n (output_after k (fleet_text pairs) output)) d.0 ∙ take_at (fleet_text pairs) (drop (length (fleet_text pairs)) output) n d.1 in
    rw (text, fleet_text_reads_back_claim pairs (fleet ((answered_exactly (print_numbered pairs output)).0 d.0)), if_pos (dec_le (length pairs) (length memory)) room (whole pairs) (stopped 0 17)) (refl, refl)
  where
    fleet : AllKept (print_rules pairs output) → IsFleet pairs
    fleet (also f (also _ none)) = f
