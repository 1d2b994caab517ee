-- LAWS. A reading as a path: record by record, from no node and all bytes of the sheet to more nodes and fewer bytes.
use mathlib.Core.Path.{◌≡◌, refl, sym, ap, ◌∙◌, subst}
use mathlib.Core.List.{List, [], ◌∷◌, ◌++◌}
use Prim.Native.Nat.{ℕ, zero, suc, ◌/◌, ◌%◌, ◌≤◌, ◌<◌}
use native.Mathlib.Omega.{arith}
use native.Mathlib.Decide.{dec_lt, ℕ_discrete}
use lib.ListN.{length, drop, length-drop, length-append}
use Rattle.terms.specs.Tree.{pair}
use Rattle.record.specs.Record.{field_bytes, said_depth, said_label}
use Rattle.record.specs.NextRecord.{Step, node, end, wrong, step_of, after_last, next_record}
use Rattle.sheet.specs.Reading.{accepted, refused, go_on, read_on, reading}
use Rattle.fleet.proofs.FleetGrowth.{Begun, nothing_yet, a_fleet, pair_depth, pair_label, fleet_grows}
use Rattle.fleet.proofs.NodeLaws.{NodeRight}
use Rattle.record.proofs.RecordLaws.{record_refusal, Right, zero_right}
use Rattle.sheet.proofs.ReadingTurns.{not_both, accepted_same, refused_same, turns_enough}

-- behind these nodes, the reading of the sheet comes to these bytes
pub data Reached (sheet : List ℕ) : (before bytes : List ℕ) → Type 0 where
  start : Reached sheet [] sheet
  further : {before bytes remain : List ℕ} {depth label : ℕ} → Reached sheet before bytes → next_record before bytes ≡ node depth label remain → Reached sheet (before ++ pair depth label ∷ []) remain

-- a node comes from a record that keeps the rules, and the end from no bytes
pub data Said (before : List ℕ) : (bytes : List ℕ) (depth label : ℕ) (remain : List ℕ) → Type 0 where
  by_rules : {bits : ℕ} {bytes : List ℕ} → Right before bits bytes → Said before (bits ∷ bytes) (said_depth before bits bytes) (said_label before bits bytes) (drop (field_bytes bits) bytes)

abbrev SaidBy : (before bytes : List ℕ) → Step → Type 0
SaidBy before bytes (node depth label remain) = Said before bytes depth label remain
SaidBy before bytes end = bytes ≡ []
SaidBy before bytes (wrong number) = Unit {0}

step_said : (before bytes : List ℕ) → SaidBy before bytes (next_record before bytes)
unfolding next_record step_of after_last
step_said [] [] = tt
step_said (x ∷ before) [] = refl
step_said before (bits ∷ bytes) = go (record_refusal before bits bytes) refl
  where
    go : (k : ℕ) → record_refusal before bits bytes ≡ k → SaidBy before (bits ∷ bytes) (step_of k (said_depth before bits bytes) (said_label before bits bytes) (drop (field_bytes bits) bytes))
    go zero z = by_rules (zero_right before bits bytes z)
    go (suc k) z = tt

pub node_said : (before bytes : List ℕ) (depth label : ℕ) (remain : List ℕ) → next_record before bytes ≡ node depth label remain → Said before bytes depth label remain
node_said before bytes depth label remain e = subst (SaidBy before bytes) e (step_said before bytes)

pub label_fits : {before bytes : List ℕ} {depth label : ℕ} {remain : List ℕ} → Said before bytes depth label remain → label ≤ 999
label_fits (by_rules right) = right.node.rule6.1

pub fewer_bytes : {before bytes : List ℕ} {depth label : ℕ} {remain : List ℕ} → Said before bytes depth label remain → length remain < length bytes
fewer_bytes (by_rules {bits} {bytes} right) = omega (arith, length-drop (field_bytes bits) bytes)

-- nothing yet, or a fleet
node_pair : {before : List ℕ} {d l : ℕ} → NodeRight before d l → NodeRight before (pair d l / 1000) (pair d l % 1000)
node_pair {before} {d} {l} r = rw (pair_depth d l r.rule6.1, pair_label d l r.rule6.1) r

pub reached_begun : {sheet before bytes : List ℕ} → Reached sheet before bytes → Begun before
reached_begun start = nothing_yet refl
reached_begun (further {before} {bytes} {remain} {depth} {label} r e) = grown (reached_begun r) (node_said before bytes depth label remain e)
  where
    grown : {depth label : ℕ} {bytes remain : List ℕ} → Begun before → Said before bytes depth label remain → Begun (before ++ pair depth label ∷ [])
    grown b (by_rules {bits} {bytes} right) = a_fleet (fleet_grows before (pair (said_depth before bits bytes) (said_label before bits bytes)) b (node_pair right.node))

-- from there on the reading says what the sheet says
pub reading_from : {sheet before bytes : List ℕ} (turns : ℕ) → Reached sheet before bytes → length bytes < turns → reading sheet ≡ read_on turns before bytes
unfolding reading read_on go_on
reading_from {sheet} turns start h = turns_enough (suc (length sheet)) turns [] sheet (omega arith) h
reading_from {sheet} turns (further {before} {bytes} {remain} {depth} {label} r e) h =
    reading_from (suc (length bytes)) r (omega arith)
    ∙ ap (λ (step : Step). go_on step before (read_on (length bytes))) e
    ∙ turns_enough (length bytes) turns (before ++ pair depth label ∷ []) remain (fewer_bytes (node_said before bytes depth label remain e)) h

-- the path of an accepted sheet comes to its end, that of a refused one to the wrong record
pub reached_end : {sheet before bytes pairs : List ℕ} (turns : ℕ) → Reached sheet before bytes → read_on turns before bytes ≡ accepted pairs → Reached sheet pairs []
unfolding read_on go_on
reached_end zero r e = absurd (not_both e)
reached_end {sheet} {before} {bytes} {pairs} (suc turns) r e = go (next_record before bytes) refl (step_said before bytes) e (λ before' bytes' r' e'. reached_end turns r' e')
  where
    go : (step : Step) → next_record before bytes ≡ step → SaidBy before bytes step → go_on step before (read_on turns) ≡ accepted pairs
        → ((before' bytes' : List ℕ) → Reached sheet before' bytes' → read_on turns before' bytes' ≡ accepted pairs → Reached sheet pairs []) → Reached sheet pairs []
    go (node depth label remain) n s e on = on (before ++ pair depth label ∷ []) remain (further r n) e
    go end n s e on = rw (accepted_same e, s) at r
    go (wrong number) n s e on = absurd (not_both e)

pub record Stopped (sheet : List ℕ) (number : ℕ) : Type 0 where
  pub pairs : List ℕ
  pub rest : List ℕ
  pub reached : Reached sheet pairs rest
  pub wrong_next : next_record pairs rest ≡ wrong number

pub reached_wrong : {sheet before bytes : List ℕ} {number : ℕ} (turns : ℕ) → Reached sheet before bytes → length bytes < turns → read_on turns before bytes ≡ refused number → Stopped sheet number
unfolding read_on go_on
reached_wrong zero r h e = absurd (omega arith)
reached_wrong {sheet} {before} {bytes} {number} (suc turns) r h e = go (next_record before bytes) refl (step_said before bytes) e (λ before' bytes' r' h' e'. reached_wrong turns r' h' e')
  where
    go : (step : Step) → next_record before bytes ≡ step → SaidBy before bytes step → go_on step before (read_on turns) ≡ refused number
        → ((before' bytes' : List ℕ) → Reached sheet before' bytes' → length bytes' < turns → read_on turns before' bytes' ≡ refused number → Stopped sheet number) → Stopped sheet number
    go (node depth label remain) n s e on = on (before ++ pair depth label ∷ []) remain (further r n) (omega (arith, fewer_bytes s)) e
    go end n s e on = absurd (not_both (sym e))
    go (wrong k) n s e on = record { pairs = before; rest = bytes; reached = r; wrong_next = n ∙ ap wrong (refused_same e) }

-- at a wrong record the reading stops: no sheet has two such places
is_node : Step → ℕ
is_node (node depth label remain) = 1
is_node end = 0
is_node (wrong number) = 0

next_pair : Step → ℕ
next_pair (node depth label remain) = pair depth label
next_pair end = 0
next_pair (wrong number) = 0

abbrev pub remains : Step → List ℕ
remains (node depth label remain) = remain
remains end = []
remains (wrong number) = []

same_place : {sheet p r q s : List ℕ} → Reached sheet p r → Reached sheet q s → length p ≡ length q → (p ≡ q) × (r ≡ s)
unfolding next_pair
same_place start start e = (refl, refl)
same_place start (further {before} {bytes} {remain} {depth} {label} _ _) e = absurd (omega (arith, length-append before (pair depth label ∷ [])))
same_place (further {before} {bytes} {remain} {depth} {label} _ _) start e = absurd (omega (arith, length-append before (pair depth label ∷ [])))
same_place (further {before = b} {bytes = w} {depth = d} {label = l} r n) (further {before = b'} {depth = d'} {label = l'} r' n') e =
    let z = same_place r r' (omega (arith, length-append b (pair d l ∷ []), length-append b' (pair d' l' ∷ []))) in
    let m = sym n ∙ ap (λ (before : List ℕ). next_record before w) z.0 ∙ ap (next_record b') z.1 ∙ n' in
    ((λ i. z.0 i ++ next_pair (m i) ∷ []), ap remains m)

record Passed (sheet : List ℕ) (count : ℕ) : Type 0 where
  before : List ℕ
  bytes : List ℕ
  reached : Reached sheet before bytes
  count_is : length before ≡ count
  node_next : is_node (next_record before bytes) ≡ 1

passes : {sheet q s : List ℕ} (count : ℕ) → Reached sheet q s → count < length q → Passed sheet count
unfolding is_node
passes count start h = absurd (omega arith)
passes {sheet} count (further {before} {bytes} {remain} {depth} {label} r n) h = go (ℕ_discrete (length before) count) (λ k. passes count r k)
  where
    go : Dec (length before ≡ count) → (count < length before → Passed sheet count) → Passed sheet count
    go (yes e) shorter = record { before = before; bytes = bytes; reached = r; count_is = e; node_next = ap is_node n }
    go (no e) shorter = shorter (omega (arith, length-append before (pair depth label ∷ [])))

no_shorter : {sheet p r q s : List ℕ} {number : ℕ} → Reached sheet p r → next_record p r ≡ wrong number → Reached sheet q s → ¬ (length p < length q)
unfolding is_node
no_shorter {sheet} {p} {r} there n on h =
    let k = passes (length p) on h in
    let z = same_place k.reached there k.count_is in
    let e : is_node (next_record p r) ≡ 1 = ap (λ (before : List ℕ). is_node (next_record before r)) (sym z.0) ∙ ap (λ (bytes : List ℕ). is_node (next_record k.before bytes)) (sym z.1) ∙ k.node_next in
    omega (arith, e, ap is_node n)

pub stops_once : {sheet p r q s : List ℕ} {m n : ℕ} → Reached sheet p r → next_record p r ≡ wrong m → Reached sheet q s → next_record q s ≡ wrong n → p ≡ q
stops_once {sheet} {p} {r} {q} {s} a wa b wb = (same_place a b (go (dec_lt (length p) (length q)) (dec_lt (length q) (length p)))).0
  where
    go : Dec (length p < length q) → Dec (length q < length p) → length p ≡ length q
    go (yes h) _ = absurd (no_shorter a wa b h)
    go (no h) (yes k) = absurd (no_shorter b wb a k)
    go (no h) (no k) = omega arith
