-- LAWS. A text read token by token: what holds between two turns of the first pass of parse, and what each way out gives.
use mathlib.Core.Path.{◌≡◌, refl, sym, ap, ◌∙◌}
use mathlib.Core.Bool.{Bool, true, false, not}
use mathlib.Core.Logic.{◌≢◌, if_pos, if_neg}
use mathlib.Core.List.{List, [], ◌∷◌, ◌++◌}
use Prim.Native.Nat.{ℕ, zero, suc, ◌+◌, ◌-◌, ◌≤◌, ◌<◌}
use native.Mathlib.Omega.{arith}
use native.Mathlib.Decide.{dec_le}
use lib.ListN.{length, drop, length-append}
use Rattle.terms.specs.Tree.{pair}
use Rattle.terms.specs.Tells.{Tells}
use Rattle.terms.specs.Refusal.{refusal, AllKept, also, Numbered, and_rule}
use Rattle.terms.proofs.RefusalLaws.{kept_on, broken_here, answered_exactly, all_kept_refusal}
use Rattle.fleet.specs.Reader.{StateOf, Joined}
use Rattle.fleet.specs.declared.State.{State}
use Rattle.fleet.specs.declared.Joining.{Joining}
use Rattle.fleet.proofs.NodeLaws.{NodeRight, node_numbered, zero_node}
use Rattle.token.specs.Token.{Front, pair_then, line_end_then, text_end, no_pair, token, front_of, Ahead}
use Rattle.token.specs.declared.Token.{Token}
use Rattle.token.specs.declared.Token.TheVariants.{Pair, LineEnd, End, Wrong}
use Rattle.sheet_text.specs.TextReading.{RootFirst, pair_rules, JoinedLine, TextReading, whole, stopped, at_end, unless_broken, take_token, read_text, most_text_bytes, text_reading, answer_of}
use Rattle.sheet_text.specs.declared.Parsed.{Parsed}
use Rattle.sheet_text.specs.declared.Parsed.TheVariants.{Pairs, Refused}

-- a token lies ahead
pub ahead_line : {t : Token} {next : ℕ} (at size : ℕ) → t ≡ LineEnd next → Ahead t at size → (at < next) × (next ≤ size)
ahead_line at size e a = rw e at a

pub ahead_pair : {t : Token} {depth label next : ℕ} (at size : ℕ) → t ≡ Pair depth label next → Ahead t at size → (at < next) × (next ≤ size)
ahead_pair at size e a = rw e at a

-- the end of a text
pub ended_none : (line : ℕ) (before : List ℕ) → length before ≡ 0 → Refused line 1 ≡ answer_of (at_end line before)
unfolding answer_of at_end
ended_none line [] e = refl
ended_none line (x ∷ before) e = absurd (omega arith)

pub ended_some : (line nodes : ℕ) (before : List ℕ) → length before ≡ nodes → nodes ≢ 0 → Pairs nodes ≡ answer_of (at_end line before)
unfolding answer_of at_end
ended_some line nodes [] e n = absurd (n (sym e))
ended_some line nodes (x ∷ before) e n = ap Pairs (sym e)

-- a root and any other node in a line
pub root_told : (first : Bool) (depth : ℕ) → depth ≡ 0 → Tells first (RootFirst first depth)
root_told true depth e = e
root_told false depth e = λ h. omega arith

pub other_told : (first : Bool) (depth : ℕ) → depth ≢ 0 → Tells (not first) (RootFirst first depth)
other_told true depth n = n
other_told false depth n = omega arith

-- a pair of a line
module _ (before : List ℕ) (first : Bool) (depth label : ℕ) where
  pub line_wrong : (state : State) → ¬ RootFirst first depth → JoinedLine before first depth label record { refusal = 5; state = state }
  unfolding pair_rules
  line_wrong state n = record { number_is = sym (broken_here _ _ n); joins = λ z. absurd (omega arith) }

  pub line_right : (state : State) (result : Joining) → RootFirst first depth → Joined before state depth label result → JoinedLine before first depth label result
  unfolding pair_rules
  line_right state result r j = record { number_is = j.number_is ∙ sym (kept_on _ _ r); joins = j.joins }

  line_numbered : Numbered (pair_rules first before depth label)
  unfolding pair_rules
  line_numbered = and_rule 4 refl (node_numbered before depth label)

  -- the rules of a pair are kept, so those of its node are
  pub right_node : refusal (pair_rules first before depth label) ≡ 0 → NodeRight before depth label
  unfolding pair_rules
  right_node e = go ((answered_exactly line_numbered).0 e)
    where
      go : AllKept (pair_rules first before depth label) → NodeRight before depth label
      go (also _ k) = zero_node before depth label (all_kept_refusal k)

-- a reading that is whole is none that stopped
unfoldable is_whole : TextReading → ℕ
is_whole (whole pairs) = 1
is_whole (stopped line cause) = 0

pub not_whole : {line cause : ℕ} {pairs : List ℕ} → stopped line cause ≡ whole pairs → ⊥
unfolding is_whole
not_whole e = omega (arith, ap is_whole e)

unfoldable pairs_in : TextReading → List ℕ
pairs_in (whole pairs) = pairs
pairs_in (stopped line cause) = []

pub same_pairs : {before pairs : List ℕ} → whole before ≡ whole pairs → before ≡ pairs
unfolding pairs_in
same_pairs e = ap pairs_in e

pub ended_whole : (line : ℕ) (before pairs : List ℕ) → at_end line before ≡ whole pairs → before ≡ pairs
unfolding at_end
ended_whole line [] pairs e = absurd (not_whole e)
ended_whole line (x ∷ before) pairs e = same_pairs e

-- a pair of a reading that is whole breaks no rule
pub none_broken : (number line : ℕ) (reading : TextReading) (pairs : List ℕ) → unless_broken number line reading ≡ whole pairs → (number ≡ 0) × (reading ≡ whole pairs)
unfolding unless_broken
none_broken zero line reading pairs e = (refl, e)
none_broken (suc number) line reading pairs e = absurd (not_whole e)

-- behind these pairs the rest of the text says this
pub record Reads (text : List ℕ) (at line : ℕ) (first : Bool) (before : List ℕ) (said : TextReading) : Type 0 where
  pub turns : ℕ
  pub enough : length text - at < turns
  pub rest_says : read_text turns line first before (drop at text) ≡ said

-- between two turns of count: some pairs were read, the state is that of a reader of them, and the rest of the text says what the text says
pub record Between (text : List ℕ) (at line : ℕ) (first : Bool) (nodes : ℕ) (state : State) : Type 0 where
  pub before : List ℕ
  pub stands : StateOf before state
  pub nodes_are : length before ≡ nodes
  pub reads : Reads text at line first before (text_reading text)

pub too_long : (text : List ℕ) → most_text_bytes < length text → Refused 1 255 ≡ answer_of (text_reading text)
unfolding text_reading answer_of
too_long text h = rw (if_neg (dec_le (length text) most_text_bytes) (λ k. omega arith) (read_text (suc (length text)) 1 true [] text) (stopped 1 255)) refl

read_first : (text : List ℕ) → length text ≤ most_text_bytes → read_text (suc (length text)) 1 true [] text ≡ text_reading text
unfolding text_reading
read_first text h = sym (if_pos (dec_le (length text) most_text_bytes) h _ _)

pub reading_first : (text : List ℕ) (state : State) → length text ≤ most_text_bytes → StateOf [] state → Between text 0 1 true 0 state
reading_first text state h s = record { before = []; stands = s; nodes_are = refl; reads = record { turns = suc (length text); enough = omega arith; rest_says = read_first text h } }

-- one turn: a token is taken
module _ {text : List ℕ} {at line : ℕ} {first : Bool} {before : List ℕ} {said : TextReading} (g : Reads text at line first before said) (t : Token) (e : front_of t text ≡ token (drop at text)) where
  some_turn : (n : ℕ) × (g.turns ≡ suc n) × (length text - at ≤ n)
  some_turn = go g.turns refl g.enough
    where
      go : (k : ℕ) → g.turns ≡ k → length text - at < k → (n : ℕ) × (g.turns ≡ suc n) × (length text - at ≤ n)
      go zero z h = absurd (omega arith)
      go (suc k) z h = (k, z, omega arith)

  turn : (f : Front) → f ≡ front_of t text → take_token line first before f (read_text some_turn.0) ≡ said
  unfolding read_text
  turn f q = ap (λ (f : Front). take_token line first before f (read_text some_turn.0)) (q ∙ e) ∙ rw some_turn.1 at g.rest_says

  as_token : {u : Token} → t ≡ u → front_of u text ≡ front_of t text
  as_token z = ap (λ (u : Token). front_of u text) (sym z)

  pub turn_end : t ≡ End → at_end line before ≡ said
  unfolding front_of take_token
  turn_end z = turn text_end (as_token z)

  pub turn_wrong : t ≡ Wrong → stopped line 0 ≡ said
  unfolding front_of take_token
  turn_wrong z = turn no_pair (as_token z)

  pub turn_line : {next : ℕ} → t ≡ LineEnd next → (at < next) × (next ≤ length text) → Reads text next (suc line) true before said
  unfolding front_of take_token
  turn_line {next} z a =
      let k : length text - at ≤ some_turn.0 = some_turn.2 in
      let b : at < next = a.0 in
      record { turns = some_turn.0; enough = omega arith; rest_says = turn (line_end_then (drop next text)) (as_token z) }

  -- a pair that breaks a rule, and one that breaks none
  turn_pair : {depth label next : ℕ} → t ≡ Pair depth label next → unless_broken (refusal (pair_rules first before depth label)) line (read_text some_turn.0 line false (before ++ pair depth label ∷ []) (drop next text)) ≡ said
  unfolding front_of take_token
  turn_pair {depth} {label} {next} z = turn (pair_then depth label (drop next text)) (as_token z)

  pub turn_refused : {depth label next : ℕ} → t ≡ Pair depth label next → (number : ℕ) → number ≡ refusal (pair_rules first before depth label) → 0 < number → stopped line number ≡ said
  unfolding unless_broken
  turn_refused z zero q h = absurd (omega arith)
  turn_refused z (suc number) q h = rw (← q) at (turn_pair z)

  pub turn_kept : {depth label next : ℕ} → t ≡ Pair depth label next → (at < next) × (next ≤ length text) → refusal (pair_rules first before depth label) ≡ 0 → Reads text next line false (before ++ pair depth label ∷ []) said
  unfolding unless_broken
  turn_kept {next = next} z a q =
      let k : length text - at ≤ some_turn.0 = some_turn.2 in
      let b : at < next = a.0 in
      record { turns = some_turn.0; enough = omega arith; rest_says = rw q at (turn_pair z) }

-- where the text says pairs, no rule is broken
pub turn_right : {text : List ℕ} {at line : ℕ} {first : Bool} {before pairs : List ℕ} (g : Reads text at line first before (whole pairs)) (t : Token) → front_of t text ≡ token (drop at text) → {depth label next : ℕ} → t ≡ Pair depth label next
    → refusal (pair_rules first before depth label) ≡ 0
turn_right {line = line} {first = first} {before = before} g t e {depth} {label} z = go (refusal (pair_rules first before depth label)) refl
  where
    go : (k : ℕ) → refusal (pair_rules first before depth label) ≡ k → refusal (pair_rules first before depth label) ≡ 0
    go zero q = q
    go (suc k) q = absurd (not_whole (turn_refused g t e z (suc k) (sym q) (omega arith)))

-- the ways of count
module _ {text : List ℕ} {at line : ℕ} {first : Bool} {nodes : ℕ} {state : State} (g : Between text at line first nodes state) (t : Token) (e : front_of t text ≡ token (drop at text)) where
  pub text_ended : t ≡ End → (r : Parsed) → ((before : List ℕ) → length before ≡ nodes → r ≡ answer_of (at_end line before)) → r ≡ answer_of (text_reading text)
  text_ended z r p = p g.before g.nodes_are ∙ ap answer_of (turn_end g.reads t e z)

  pub text_wrong : t ≡ Wrong → Refused line 0 ≡ answer_of (text_reading text)
  unfolding answer_of
  text_wrong z = ap answer_of (turn_wrong g.reads t e z)

  pub line_turn : {next : ℕ} → t ≡ LineEnd next → (at < next) × (next ≤ length text) → Between text next (line + 1) true nodes state
  line_turn z a =
      let w : suc line ≡ line + 1 = omega arith in
      record { before = g.before; stands = g.stands; nodes_are = g.nodes_are; reads = rw w at (turn_line g.reads t e z a) }

  module _ {depth label next : ℕ} (z : t ≡ Pair depth label next) (j : Joining) (p : (before : List ℕ) → StateOf before state → JoinedLine before first depth label j) where
    joined : JoinedLine g.before first depth label j
    joined = p g.before g.stands

    pub pair_refused : 0 < j.refusal → Refused line j.refusal ≡ answer_of (text_reading text)
    unfolding answer_of
    pair_refused h = ap answer_of (turn_refused g.reads t e z j.refusal joined.number_is h)

    pub next_turn : j.refusal ≡ 0 → (at < next) × (next ≤ length text) → Between text next line false (nodes + 1) j.state
    next_turn none a = record {
      before = g.before ++ pair depth label ∷ [];
      stands = joined.joins none;
      nodes_are = omega (arith, g.nodes_are, length-append g.before (pair depth label ∷ []));
      reads = turn_kept g.reads t e z a (sym joined.number_is ∙ none);
    }
