-- What a text of a fleet says: a line for each vehicle's tree.
use Rattle.std.specs.Prelude.{◌≡◌, Bool, true, false, List, [], ◌∷◌, ◌++◌, ℕ, zero, suc, ◌≤◌, length, drop}
use Rattle.std.proofs.Math.Logic.{ite}
use Rattle.std.proofs.Math.Decide.{dec_le, ℕ_discrete}
use Rattle.terms.specs.Tree.{pair}
use Rattle.terms.specs.Refusal.{Rule, refusal}
use Rattle.fleet.specs.NodeRules.{node_rules}
use Rattle.fleet.specs.Reader.{StateOf}
use Rattle.fleet.specs.declared.Joining.{Joining}
use Rattle.token.specs.Token.{Front, pair_then, line_end_then, text_end, no_pair, token}
use Rattle.sheet_text.specs.declared.Parsed.{Parsed}
use Rattle.sheet_text.specs.declared.Parsed.TheVariants.{Pairs, Refused}

-- A line is one tree: its first pair, and no other, is a root.
abbrev pub RootFirst : (first : Bool) (depth : ℕ) → Type 0
RootFirst true depth = depth ≡ 0
RootFirst false depth = 1 ≤ depth

unfoldable pub root_first? : (first : Bool) (depth : ℕ) → Dec (RootFirst first depth)
unfolding ℕ_discrete dec_le
root_first? true depth = ℕ_discrete depth 0
root_first? false depth = dec_le 1 depth

-- The rules of a pair as a node behind those before it: a depth that its line does not allow is a wrong depth (5); then the rules 5, 6, 7
-- and 9, 8 being about records.
unfoldable pub pair_rules : (first : Bool) (before : List ℕ) (depth label : ℕ) → List Rule
unfolding root_first? node_rules
pair_rules first before depth label = record { number = 5; Kept = RootFirst first depth; decide = root_first? first depth } ∷ node_rules before depth label

-- What the code keeps: the number of the rule that is broken, and the state with the node where none is.
pub record JoinedLine (before : List ℕ) (first : Bool) (depth label : ℕ) (result : Joining) : Type 0 where
  pub number_is : result.refusal ≡ refusal (pair_rules first before depth label)
  pub joins : result.refusal ≡ 0 → StateOf (before ++ pair depth label ∷ []) result.state

-- The pairs of a text; or the number of the first wrong line, from 1, and the cause: the number of the first rule that is broken, or 0 for
-- what is no pair.
pub data TextReading : Type 0 where
  whole : (pairs : List ℕ) → TextReading
  stopped : (line cause : ℕ) → TextReading

-- A text of no pairs is a sheet of no bytes (1).
unfoldable pub at_end : (line : ℕ) (before : List ℕ) → TextReading
at_end line [] = stopped line 1
at_end line (x ∷ before) = whole (x ∷ before)

unfoldable pub unless_broken : (number line : ℕ) → TextReading → TextReading
unless_broken zero line reading = reading
unless_broken (suc number) line reading = stopped line (suc number)

unfoldable pub take_token : (line : ℕ) (first : Bool) (before : List ℕ) → Front → (read : (line : ℕ) (first : Bool) (before text : List ℕ) → TextReading) → TextReading
unfolding refusal pair_rules unless_broken at_end
take_token line first before (pair_then depth label rest) read = unless_broken (refusal (pair_rules first before depth label)) line (read line false (before ++ pair depth label ∷ []) rest)
take_token line first before (line_end_then rest) read = read (suc line) true before rest
take_token line first before text_end read = at_end line before
take_token line first before no_pair read = stopped line 0

-- Token by token. The first number is that of the turns left, one for each token and one for the end; a token has at least one byte, so one
-- more than the bytes is enough (`Reads`, proofs/ReadingLaws), and the first case is not reached.
unfoldable pub read_text : (turns line : ℕ) (first : Bool) (before text : List ℕ) → TextReading
unfolding take_token token
read_text zero line first before text = stopped line 0
read_text (suc turns) line first before text = take_token line first before (token text) (read_text turns)

abbrev pub most_text_bytes : ℕ
most_text_bytes = 65536

-- What a text says; one that is too long (cause 255) is not read.
unfoldable pub text_reading : (text : List ℕ) → TextReading
unfolding dec_le read_text
text_reading text = ite (dec_le (length text) most_text_bytes) (read_text (suc (length text)) 1 true [] text) (stopped 1 255)

-- `parse`: what the text says; then 17, "output shorter than the nodes read", which is no line's (0).
unfoldable pub within_memory : TextReading → (memory : List ℕ) → TextReading
unfolding dec_le
within_memory (whole pairs) memory = ite (dec_le (length pairs) (length memory)) (whole pairs) (stopped 0 17)
within_memory (stopped line cause) memory = stopped line cause

unfoldable pub answer_of : TextReading → Parsed
answer_of (whole pairs) = Pairs (length pairs)
answer_of (stopped line cause) = Refused line cause

-- The pairs stand at the front of the memory, and past them it is as it was; where the text is refused, all of it is.
unfoldable pub memory_of : TextReading → (memory : List ℕ) → List ℕ
memory_of (whole pairs) memory = pairs ++ drop (length pairs) memory
memory_of (stopped line cause) memory = memory

-- The text says pairs, and the memory has room for them.
abbrev pub TextFits : (text memory : List ℕ) → Type 0
TextFits text memory = (pairs : List ℕ) × (text_reading text ≡ whole pairs) × (length pairs ≤ length memory)

abbrev pub parse_answer : (text memory : List ℕ) → Parsed
parse_answer text memory = answer_of (within_memory (text_reading text) memory)

abbrev pub parse_output : (text memory : List ℕ) → List ℕ
parse_output text memory = memory_of (within_memory (text_reading text) memory) memory
