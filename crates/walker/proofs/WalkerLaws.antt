-- LAWS. The walker: what the record function promises is what a call of `next` gives, and its calls in a row hand out what the reading says.
use mathlib.Core.Path.{◌≡◌, refl, sym, ap, ◌∙◌, subst}
use Prim.Native.Nat.{ℕ, ◌≤◌}
use native.Mathlib.Omega.{arith}
use mathlib.Core.List.{List, [], ◌∷◌, ◌++◌, map, append-nil, append_assoc}
use lib.ListN.{length, drop}
use denote.Ref.{Bor}
use Rattle.terms.specs.Tree.{pair}
use Rattle.record.specs.NextRecord.{Step, node, end, wrong, after_last, next_record}
use Rattle.fleet.specs.Reader.{StateOf}
use Rattle.sheet.specs.Walking.{step_of_answer, Moved}
use Rattle.walker.specs.Walker.{remain, IsFirst, MovesBy, Handed, Calls, call, node_of, handed_out, HandsOut}
use Rattle.sheet.specs.Refused.{WrongBehind}
use Rattle.fleet.specs.declared.State.{State}
use Rattle.sheet.specs.declared.RecordAnswer.{RecordAnswer}
use Rattle.sheet.specs.declared.RecordAnswer.TheVariants.{Node, End, Refused}
use Rattle.sheet.specs.declared.Advance.{Advance}
use Rattle.walker.specs.declared.Walker.{Walker}
use Rattle.walker.specs.declared.Stepped.{Stepped}
use Rattle.fleet.proofs.FleetGrowth.{pair_depth, pair_label}
use Rattle.sheet.proofs.ReadingPath.{Reached, start, further, node_said, label_fits, remains}
use Rattle.sheet.proofs.WalkSteps.{Promised}
use Rattle.sheet.proofs.WayBack.{said_reached, said_some, wrong_reached, refused_behind}
use Rattle.walker.specs.Claims.{WalkOfAccepted, WalkOfRefused, WalkOfNoBytes}

-- the walker at another position and state
abbrev pub moved_to : Walker → ℕ → State → Walker
moved_to walker at state = record { sheet = walker.sheet; at = at; state = state }

moves_by : (walker : Walker) (answer : RecordAnswer) (next : ℕ) (state : State) → Moved answer walker.at walker.state next state (length walker.sheet.now) → MovesBy answer walker (moved_to walker next state)
moves_by walker (Node depth label) next state m = m
moves_by walker End next state m = λ i. moved_to walker (m.0 i) (m.1 i)
moves_by walker (Refused number) next state m = λ i. moved_to walker (m.0 i) (m.1 i)

pub next_handed : (walker : Walker) (r : Advance) → Promised walker.sheet.now walker.at walker.state r → Handed walker (record { answer = r.answer; walker = moved_to walker r.next r.state })
next_handed walker r p = record {
  same_sheet = refl;
  says = λ before s. (p.0 before s).says;
  keeps = λ before s. (p.0 before s).keeps;
  moves = moves_by walker r.answer r.next r.state p.1;
}

-- a step's answer, and the bytes that remain after a node
abbrev answer_in : Step → RecordAnswer
answer_in (node depth label remain) = Node depth label
answer_in end = End
answer_in (wrong number) = Refused number

answer_back : (answer : RecordAnswer) (bytes : List ℕ) → answer ≡ answer_in (step_of_answer answer bytes)
answer_back (Node depth label) bytes = refl
answer_back End bytes = refl
answer_back (Refused number) bytes = refl

-- a walker behind these nodes, with these bytes before it
record Behind (before bytes : List ℕ) (walker : Walker) : Type 0 where
  state_is : StateOf before walker.state
  bytes_are : remain walker ≡ bytes

module _ (before bytes : List ℕ) (walker : Walker) (b : Behind before bytes walker) (result : Stepped) (h : Handed walker result) where
  says_next : step_of_answer result.answer (remain result.walker) ≡ next_record before bytes
  says_next = h.says before b.state_is ∙ ap (next_record before) b.bytes_are

  answer_is : (step : Step) → next_record before bytes ≡ step → result.answer ≡ answer_in step
  answer_is step e = answer_back result.answer (remain result.walker) ∙ ap answer_in (says_next ∙ e)

  behind_node : (depth label : ℕ) (rest : List ℕ) → next_record before bytes ≡ node depth label rest → Behind (before ++ pair depth label ∷ []) rest result.walker
  behind_node depth label rest e =
      let a : result.answer ≡ Node depth label = answer_is (node depth label rest) e in
      record {
        state_is = rw a at (h.keeps before b.state_is);
        bytes_are = ap remains (rw a at (says_next ∙ e));
      }

-- what the calls of a walker behind these nodes, with these bytes before it, hand out
abbrev HandsOutFrom : (before bytes pairs : List ℕ) (last : RecordAnswer) → Type 0
HandsOutFrom before bytes pairs last = (walker : Walker) (results : List Stepped) → Behind before bytes walker → Calls walker results → map (λ (result : Stepped). result.answer) results ≡ handed_out (length results) pairs last

-- Where no node comes next, each call gives the same answer, and the walker stays.
all_last : (before bytes : List ℕ) (last : RecordAnswer) → answer_in (next_record before bytes) ≡ last → ((walker after : Walker) → MovesBy last walker after → after ≡ walker)
    → HandsOutFrom before bytes [] last
all_last before bytes last e stays walker [] b c = refl
all_last before bytes last e stays walker (result ∷ results) b (call h c) =
    let a : result.answer ≡ last = answer_is before bytes walker b result h (next_record before bytes) refl ∙ e in
    let m : MovesBy last walker result.walker = rw a at h.moves in
    let b' : Behind before bytes result.walker = subst (Behind before bytes) (sym (stays walker result.walker m)) b in
    let ih = all_last before bytes last e stays result.walker results b' c in
    λ i. a i ∷ ih i

node_again : (depth label : ℕ) → label ≤ 999 → node_of (pair depth label) ≡ Node depth label
node_again depth label h = λ i. Node (pair_depth depth label h i) (pair_label depth label h i)

one_before : (before bytes : List ℕ) (depth label : ℕ) (remain : List ℕ) (pairs : List ℕ) (last : RecordAnswer) → next_record before bytes ≡ node depth label remain
    → HandsOutFrom (before ++ pair depth label ∷ []) remain pairs last → HandsOutFrom before bytes (pair depth label ∷ pairs) last
one_before before bytes depth label remain pairs last e h walker [] b c = refl
one_before before bytes depth label remain pairs last e h walker (result ∷ results) b (call handed c) =
    let small : label ≤ 999 = label_fits (node_said before bytes depth label remain e) in
    let a : result.answer ≡ node_of (pair depth label) = answer_is before bytes walker b result handed (node depth label remain) e ∙ sym (node_again depth label small) in
    let rest = h result.walker results (behind_node before bytes walker b result handed depth label remain e) c in
    λ i. a i ∷ rest i

-- the nodes on the way are handed out first
all_before : {sheet before bytes : List ℕ} (pairs : List ℕ) (last : RecordAnswer) → Reached sheet before bytes → HandsOutFrom before bytes pairs last → HandsOutFrom [] sheet (before ++ pairs) last
all_before pairs last start h = h
all_before {sheet} pairs last (further {before} {bytes} {remain} {depth} {label} r e) h =
    let z = all_before (pair depth label ∷ pairs) last r (one_before before bytes depth label remain pairs last e h) in
    subst (λ (s : List ℕ). HandsOutFrom [] sheet s last) (sym (append_assoc before (pair depth label ∷ []) pairs)) z

at_first : (lent : Bor (List ℕ)) (walker : Walker) (sheet : List ℕ) → lent.now ≡ sheet → IsFirst lent walker → Behind [] sheet walker
at_first lent walker sheet e f = record {
  state_is = f.nothing_read;
  bytes_are = ap (λ (at : ℕ). drop at walker.sheet.now) f.at_start ∙ ap (λ (lent' : Bor (List ℕ)). lent'.now) f.over ∙ e;
}

hands_out : (sheet pairs rest : List ℕ) (last : RecordAnswer) → Reached sheet pairs rest → answer_in (next_record pairs rest) ≡ last → ((walker after : Walker) → MovesBy last walker after → after ≡ walker) → HandsOut sheet pairs last
hands_out sheet pairs rest last r e stays lent walker results first behind c =
    let z = all_before [] last r (all_last pairs rest last e stays) in
    subst (λ (s : List ℕ). HandsOutFrom [] sheet s last) (append-nil pairs) z walker results (at_first lent walker sheet first behind) c

pub walk_of_accepted : WalkOfAccepted
unfolding next_record after_last
walk_of_accepted sheet pairs e = hands_out sheet pairs [] End (said_reached sheet pairs e) (go pairs (said_some sheet pairs e)) (λ walker after m. m)
  where
    go : (pairs : List ℕ) → 1 ≤ length pairs → answer_in (next_record pairs []) ≡ End
    go [] h = absurd (omega arith)
    go (x ∷ pairs) h = refl

pub walk_behind : (sheet pairs : List ℕ) (number : ℕ) → WrongBehind sheet pairs number → HandsOut sheet pairs (Refused number)
walk_behind sheet pairs number w = hands_out sheet pairs w.rest (Refused number) (wrong_reached w) (ap answer_in w.wrong_next) (λ walker after m. m)

pub walk_of_refused : WalkOfRefused
walk_of_refused sheet number s e = let b = refused_behind sheet number s e in (b.0, b.1, walk_behind sheet b.0 number b.1)

pub walk_of_no_bytes : WalkOfNoBytes
unfolding next_record after_last
walk_of_no_bytes = hands_out [] [] [] (Refused 1) start refl (λ walker after m. m)
