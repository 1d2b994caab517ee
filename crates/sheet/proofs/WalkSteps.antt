-- LAWS. One for each way out of record_at.
use mathlib.Core.Path.{◌≡◌, refl, sym, ap, ◌∙◌, subst}
use mathlib.Core.Logic.{◌≢◌}
use mathlib.Core.List.{List, [], ◌∷◌, ◌++◌}
use Prim.Native.Nat.{ℕ, zero, suc, ◌≤◌, ◌<◌}
use native.Mathlib.Omega.{arith}
use lib.ListN.{length, drop, drop_of_length-le}
use Rattle.terms.specs.Tree.{pair}
use Rattle.fleet.specs.Reader.{StateOf}
use Rattle.fleet.specs.declared.reader.Reader.{Reader}
use Rattle.fleet.specs.declared.State.{State}
use Rattle.record.specs.NextRecord.{Step, end, wrong, step_of, after_last, next_record}
use Rattle.record.specs.Judging.{JudgedAt}
use Rattle.record.specs.declared.Judged.{Judged}
use Rattle.sheet.specs.Walking.{Moved, Walked}
use Rattle.sheet.specs.declared.RecordAnswer.TheVariants.{Node, Refused}
use Rattle.sheet.specs.declared.Advance.{Advance}

-- what record_at promises
abbrev pub Promised : List ℕ → ℕ → State → Advance → Type 0
Promised sheet at state r = ((before : List ℕ) → StateOf before state → Walked before sheet at r) × Moved r.answer at state r.next r.state (length sheet)

-- behind the last byte
module _ (before sheet : List ℕ) (at : ℕ) where
  pub record_1 : length sheet ≤ at → length before ≡ 0 → wrong 1 ≡ next_record before (drop at sheet)
  unfolding next_record after_last
  record_1 h e = rw (drop_of_length-le sheet {i = at} h) (go before e)
    where
      go : (b : List ℕ) → length b ≡ 0 → wrong 1 ≡ after_last b
      go [] q = refl
      go (x ∷ b) q = absurd (omega arith)

  pub record_end : length sheet ≤ at → length before ≢ 0 → end ≡ next_record before (drop at sheet)
  unfolding next_record after_last
  record_end h e = rw (drop_of_length-le sheet {i = at} h) (go before e)
    where
      go : (b : List ℕ) → length b ≢ 0 → end ≡ after_last b
      go [] q = absurd (q refl)
      go (x ∷ b) q = refl

-- what a state keeps, handed out
pub judged_of : (sheet : List ℕ) (at : ℕ) {reader reader' : Reader} {families families' : List ℕ} {r : Judged} → reader ≡ reader' → families ≡ families' → JudgedAt sheet at reader families r → JudgedAt sheet at reader' families' r
judged_of sheet at {reader = reader} {families' = families'} {r = r} e f j = subst (λ (w : Reader). JudgedAt sheet at w families' r) e (subst (λ (w : List ℕ). JudgedAt sheet at reader w r) f j)

pub nodes_of : (before : List ℕ) (state : State) {reader : Reader} → reader ≡ state.reader → StateOf before state → length before ≡ reader.nodes
nodes_of before state e s = s.nodes_are ∙ sym (ap (λ (w : Reader). w.nodes) e)

-- the ways out of record_at
module _ (sheet : List ℕ) (at : ℕ) (state : State) (judged : Judged) (p : JudgedAt sheet at state.reader state.families judged) where
  pub record_refused : (r : Advance) → 0 < judged.number → (r.answer ≡ Refused judged.number) × ((r.next ≡ at) × (r.state ≡ state)) → Promised sheet at state r
  unfolding step_of
  record_refused r h e = ((λ before s. record { says = rw e.0 (go judged.number h (p.0 before s)); keeps = rw (e.0, e.1.1) s }), rw e.0 e.1)
    where
      go : {step : Step} (k : ℕ) → 0 < k → step_of k judged.depth judged.label (drop judged.next sheet) ≡ step → wrong k ≡ step
      go zero q e = absurd (omega arith)
      go (suc k) q e = e

  pub record_node : (r : Advance) → judged.number ≡ 0 → (r.answer ≡ Node judged.depth judged.label) → r.next ≡ judged.next
      → ((before : List ℕ) → StateOf before state → StateOf (before ++ pair judged.depth judged.label ∷ []) r.state) → Promised sheet at state r
  unfolding step_of
  record_node r z e n k = ((λ before s. record { says = rw (e, n) (rw z at (p.0 before s)); keeps = rw e (k before s) }), rw (e, n) (p.1 z).1)

pub record_stops : (state : State) (r : Advance) (sheet : List ℕ) (k at : ℕ) → (r.answer ≡ Refused k) × ((r.next ≡ at) × (r.state ≡ state))
    → ((before : List ℕ) → StateOf before state → wrong k ≡ next_record before (drop at sheet)) → Promised sheet at state r
record_stops state r sheet k at e f = ((λ before s. record { says = rw e.0 (f before s); keeps = rw (e.0, e.1.1) s }), rw e.0 e.1)
