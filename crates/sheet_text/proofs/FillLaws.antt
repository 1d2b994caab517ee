-- LAWS. The second pass of parse, and the ways out of parse.
use mathlib.Core.Path.{◌≡◌, refl, sym, ap, ◌∙◌}
use mathlib.Core.Bool.{Bool, true, false}
use mathlib.Core.Logic.{ite, if_pos, if_neg}
use mathlib.Core.List.{List, [], ◌∷◌, ◌++◌}
use Prim.Native.Nat.{ℕ, zero, suc, ◌+◌, ◌*◌, ◌≤◌, ◌<◌}
use native.Mathlib.Omega.{arith}
use native.Mathlib.Decide.{dec_le}
use lib.ListN.{length, set, drop, length-append}
use Rattle.terms.specs.Tree.{pair}
use Rattle.terms.specs.Refusal.{refusal}
use Rattle.sheet.proofs.ReadSteps.{one_more}
use Rattle.fleet.proofs.NodeLaws.{NodeRight}
use Rattle.token.specs.Token.{Front, pair_then, line_end_then, text_end, no_pair, token, front_of}
use Rattle.token.specs.declared.Token.{Token}
use Rattle.token.specs.declared.Token.TheVariants.{Pair, LineEnd, End, Wrong}
use Rattle.sheet_text.specs.TextReading.{pair_rules, TextReading, whole, stopped, take_token, read_text, most_text_bytes, text_reading, within_memory, answer_of, memory_of, TextFits, parse_answer, parse_output}
use Rattle.sheet_text.specs.declared.Parsed.{Parsed}
use Rattle.sheet_text.specs.declared.Parsed.TheVariants.{Pairs, Refused}
use Rattle.sheet_text.proofs.ReadingLaws.{right_node, not_whole, ended_whole, none_broken, Reads, turn_end, turn_wrong, turn_line, turn_kept, turn_right}

-- what is read keeps what was read before
module _ (pairs : List ℕ) where
  abbrev KeepsWith : ℕ → Type 0
  KeepsWith n = (line : ℕ) (first : Bool) (before text : List ℕ) → read_text n line first before text ≡ whole pairs → length before ≤ length pairs

  pub reads_on : (n : ℕ) → KeepsWith n
  unfolding read_text take_token
  reads_on zero line first before text e = absurd (not_whole e)
  reads_on (suc n) line first before text e = go (token text) (reads_on n) e
    where
      go : (f : Front) → KeepsWith n → take_token line first before f (read_text n) ≡ whole pairs → length before ≤ length pairs
      go (pair_then depth label rest) later q =
          omega (arith, later line false (before ++ pair depth label ∷ []) rest (none_broken (refusal (pair_rules first before depth label)) line _ pairs q).1, length-append before (pair depth label ∷ []))
      go (line_end_then rest) later q = later (suc line) true before rest q
      go text_end later q = omega (arith, ap length (ended_whole line before pairs q))
      go no_pair later q = absurd (not_whole q)

-- between two turns of fill: the text says pairs that fit, those read so far stand at the front of the memory, and the rest of the text says
-- the others
pub record Filling (text memory₀ memory : List ℕ) (at nodes : ℕ) : Type 0 where
  pub said : List ℕ
  pub says : text_reading text ≡ whole said
  pub room : length said ≤ length memory₀
  pub before : List ℕ
  pub line : ℕ
  pub first : Bool
  pub reads : Reads text at line first before (whole said)
  pub nodes_are : length before ≡ nodes
  pub so_far : memory ≡ before ++ drop nodes memory₀

pub filling_first : (text memory : List ℕ) → TextFits text memory → Filling text memory memory 0 0
unfolding text_reading
filling_first text memory f = record {
  said = f.0;
  says = f.1;
  room = f.2;
  before = [];
  line = 1;
  first = true;
  reads = record { turns = suc (length text); enough = omega arith; rest_says = go (dec_le (length text) most_text_bytes) f.1 };
  nodes_are = refl;
  so_far = refl;
}
  where
    go : (d : Dec (length text ≤ most_text_bytes)) → ite d (read_text (suc (length text)) 1 true [] text) (stopped 1 255) ≡ whole f.0 → read_text (suc (length text)) 1 true [] text ≡ whole f.0
    go (yes _) q = q
    go (no _) q = absurd (not_whole q)

module _ {text memory₀ memory : List ℕ} {at nodes : ℕ} (g : Filling text memory₀ memory at nodes) (t : Token) (e : front_of t text ≡ token (drop at text)) where
  pub filled : t ≡ End → memory ≡ memory_of (text_reading text) memory₀
  unfolding memory_of
  filled z =
      let b : g.before ≡ g.said = ended_whole g.line g.before g.said (turn_end g.reads t e z) in
      let n : nodes ≡ length g.said = sym g.nodes_are ∙ ap length b in
      g.so_far ∙ ap (λ (s : List ℕ). s ++ drop nodes memory₀) b ∙ ap (λ (k : ℕ). g.said ++ drop k memory₀) n ∙ ap (λ (r : TextReading). memory_of r memory₀) (sym g.says)

  pub never_wrong : t ≡ Wrong → ⊥
  never_wrong z = not_whole (turn_wrong g.reads t e z)

  pub fill_line : {next : ℕ} → t ≡ LineEnd next → (at < next) × (next ≤ length text) → Filling text memory₀ memory next nodes
  fill_line z a = record {
    said = g.said;
    says = g.says;
    room = g.room;
    before = g.before;
    line = suc g.line;
    first = true;
    reads = turn_line g.reads t e z a;
    nodes_are = g.nodes_are;
    so_far = g.so_far;
  }

  module _ {depth label next : ℕ} (z : t ≡ Pair depth label next) where
    kept : refusal (pair_rules g.first g.before depth label) ≡ 0
    kept = turn_right g.reads t e z

    right : NodeRight g.before depth label
    right = right_node g.before g.first depth label kept

    pub depth_to_15 : depth ≤ 15
    depth_to_15 = right.rule5.1.1

    pub label_to_999 : label ≤ 999
    label_to_999 = right.rule6.1

    module _ (a : (at < next) × (next ≤ length text)) where
      rest : Reads text next g.line false (g.before ++ pair depth label ∷ []) (whole g.said)
      rest = turn_kept g.reads t e z a kept

      pub room_for : nodes < length memory₀
      room_for = omega (arith, g.room, g.nodes_are, reads_on g.said rest.turns g.line false (g.before ++ pair depth label ∷ []) (drop next text) rest.rest_says, length-append g.before (pair depth label ∷ []))

      pub fill_pair : Filling text memory₀ (set memory nodes (1000 * depth + label)) next (nodes + 1)
      fill_pair =
          let w : suc nodes ≡ nodes + 1 = omega arith in
          record {
            said = g.said;
            says = g.says;
            room = g.room;
            before = g.before ++ pair depth label ∷ [];
            line = g.line;
            first = false;
            reads = rest;
            nodes_are = omega (arith, g.nodes_are, length-append g.before (pair depth label ∷ []));
            so_far =
                ap (λ (m : List ℕ). set m nodes (pair depth label)) g.so_far ∙ one_more g.before memory₀ (pair depth label) nodes g.nodes_are room_for
                ∙ ap (λ (n : ℕ). (g.before ++ pair depth label ∷ []) ++ drop n memory₀) w;
          }

-- the ways out of parse
unfoldable number_in : Parsed → ℕ
number_in (Pairs nodes) = suc nodes
number_in (Refused line cause) = 0

module _ (text memory : List ℕ) where
  pub parse_refused : (line cause : ℕ) → Refused line cause ≡ answer_of (text_reading text) → (Refused line cause ≡ parse_answer text memory) × (memory ≡ parse_output text memory)
  unfolding answer_of within_memory memory_of number_in
  parse_refused line cause e = go (text_reading text) e
    where
      go : (r : TextReading) → Refused line cause ≡ answer_of r → (Refused line cause ≡ answer_of (within_memory r memory)) × (memory ≡ memory_of (within_memory r memory) memory)
      go (whole pairs) q = absurd (omega (arith, ap number_in q))
      go (stopped line' cause') q = (q, refl)

  pub parse_short : (nodes : ℕ) → Pairs nodes ≡ answer_of (text_reading text) → length memory < nodes → (Refused 0 17 ≡ parse_answer text memory) × (memory ≡ parse_output text memory)
  unfolding answer_of within_memory memory_of number_in
  parse_short nodes e h = go (text_reading text) e
    where
      go : (r : TextReading) → Pairs nodes ≡ answer_of r → (Refused 0 17 ≡ answer_of (within_memory r memory)) × (memory ≡ memory_of (within_memory r memory) memory)
      go (whole pairs) q = rw (if_neg (dec_le (length pairs) (length memory)) (λ k. omega (arith, ap number_in q)) (whole pairs) (stopped 0 17)) (refl, refl)
      go (stopped line cause) q = absurd (omega (arith, ap number_in q))

  pub text_fits : (nodes : ℕ) → Pairs nodes ≡ answer_of (text_reading text) → nodes ≤ length memory → TextFits text memory
  unfolding answer_of number_in
  text_fits nodes e h = go (text_reading text) refl e
    where
      go : (r : TextReading) → text_reading text ≡ r → Pairs nodes ≡ answer_of r → TextFits text memory
      go (whole pairs) s q = (pairs, s, omega (arith, ap number_in q))
      go (stopped line cause) s q = absurd (omega (arith, ap number_in q))

  pub parse_done : (nodes : ℕ) (exit : List ℕ) → Pairs nodes ≡ answer_of (text_reading text) → nodes ≤ length memory → exit ≡ memory_of (text_reading text) memory
      → (Pairs nodes ≡ parse_answer text memory) × (exit ≡ parse_output text memory)
  unfolding answer_of within_memory memory_of number_in
  parse_done nodes exit e h x = go (text_reading text) e x
    where
      go : (r : TextReading) → Pairs nodes ≡ answer_of r → exit ≡ memory_of r memory → (Pairs nodes ≡ answer_of (within_memory r memory)) × (exit ≡ memory_of (within_memory r memory) memory)
      go (whole pairs) q y = rw (if_pos (dec_le (length pairs) (length memory)) (omega (arith, ap number_in q)) (whole pairs) (stopped 0 17)) (q, y)
      go (stopped line cause) q y = absurd (omega (arith, ap number_in q))
