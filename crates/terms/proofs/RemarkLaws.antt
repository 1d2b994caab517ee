-- LAWS of remarks: they have no children; a pattern with one is held by nobody, and one without is held where it occurs.
use mathlib.Core.Path.{◌≡◌, refl, ap, ◌∙◌}
use mathlib.Core.List.{List, [], ◌∷◌, ◌++◌}
use mathlib.Core.Logic.{◌↔◌}
use Prim.Native.Nat.{ℕ, suc, ◌+◌, ◌<◌}
use native.Mathlib.Omega.{arith}
use native.Mathlib.Decide.{dec_lt, ℕ_discrete}
use lib.ListN.{length, get_or, length-append, get_or-append}
use lib.Seq.{get_or-append-add}
use Rattle.terms.specs.Tree.{label_at, IsParent}
use Rattle.terms.specs.Tells.{decided}
use Rattle.terms.specs.Placing.{Placing, Occurs, HeaviestPlacing}
use Rattle.terms.specs.Fleet.{family, marks, MayStandUnder, vehicles, end_to_end, IsVehicle, IsFleet}
use Rattle.terms.specs.LeftOut.{LeftOut, LeftOutOfEach, PlacingWithout, HeaviestWithout, ShownWithout, placed, nowhere, remaining, each_remaining}
use Rattle.terms.specs.Remarks.{Remark, remark?, HeldBy, without_remarks, each_without_remarks, HoldsRemark}
use Rattle.terms.specs.Claims.{RemarksLeftOut, FleetWithoutRemarks, HeldExactly, RemarkNowhere, HeldAsBefore, HeaviestHeldExists, NoRemarkLeft, NothingTakenOut}
use Rattle.terms.proofs.Decide.{not?, both?, all_below?, some_below?, map?, by_computing}
use Rattle.terms.proofs.FamilyLaws.{no_row}
use Rattle.terms.proofs.VehicleLaws.{vehicles_join}
use Rattle.terms.proofs.OccursDecided.{occurs?}
use Rattle.terms.proofs.PlacingLaws.{heaviest_exists}
use Rattle.terms.proofs.RemainingLaws.{unless_no, remaining_is, remaining_same}
use Rattle.terms.proofs.RemainingFleet.{occurs_without_exactly, fleet_without}

-- column 6 of the table has no mark (document 02, "the customer's own family table", will check a loaded one for that)
unfoldable none_under_6? : Dec ((below : ℕ) → below < 10 → ¬ MayStandUnder below 6)
unfolding all_below? not? ℕ_discrete marks
none_under_6? = all_below? (λ below. ¬ MayStandUnder below 6) (λ below. not? (ℕ_discrete (get_or (get_or marks below []) 6 0) 1)) 10

pub none_under_remarks : (below : ℕ) → ¬ MayStandUnder below 6
unfolding none_under_6? decided
none_under_remarks below = go (dec_lt below 10)
  where
    go : Dec (below < 10) → ¬ MayStandUnder below 6
    go (yes h) = by_computing none_under_6? refl below h
    go (no h) = no_row below 6 (omega arith)

-- "They have no children, so nothing else goes with them."
pub remarks_left_out : RemarksLeftOut
remarks_left_out t v = record {
  root_stays = λ r. omega (arith, r, v.root_family);
  with_all_below = λ i j p r. absurd (none_under_remarks (family (label_at t j)) (rw r at (v.families i j p)));
}

-- What is left out are the remarks of these pairs; their positions may be counted from elsewhere.
record RemarksOf (s : List ℕ) (Out : ℕ → Type 0) : Type 0 where
  exactly : (i : ℕ) → i < length s → Out i ↔ Remark s i

remarks_front : (t u : List ℕ) {Out : ℕ → Type 0} → RemarksOf (t ++ u) Out → RemarksOf t Out
remarks_front t u q = record { exactly = λ i h. let z = q.exactly i (omega (arith, length-append t u)) in let e = get_or-append t u 0 i h in ((λ o. rw e at (z.0 o)), (λ r. z.1 (rw e r))) }

remarks_behind : (t u : List ℕ) {Out : ℕ → Type 0} → RemarksOf (t ++ u) Out → RemarksOf u (λ i. Out (length t + i))
remarks_behind t u q = record { exactly = λ i h. let z = q.exactly (length t + i) (omega (arith, length-append t u)) in let e = get_or-append-add t u i 0 in ((λ o. rw e at (z.0 o)), (λ r. z.1 (rw e r))) }

each_left_out : (ts : List (List ℕ)) → ((n : ℕ) → n < length ts → IsVehicle (get_or ts n [])) → {Out : ℕ → Type 0} → RemarksOf (end_to_end ts) Out → LeftOutOfEach ts Out
unfolding LeftOutOfEach end_to_end
each_left_out [] a q = tt
each_left_out (t ∷ ts) a {Out} q = (record { root_stays = λ o. l.root_stays ((here.exactly 0 v.is_tree.has_root).0 o); with_all_below = below }, each_left_out ts (λ n h. a (suc n) (omega arith)) (remarks_behind t (end_to_end ts) q))
  where
    v : IsVehicle t
    v = a 0 (omega arith)

    l : LeftOut t (Remark t)
    l = remarks_left_out t v

    here : RemarksOf t Out
    here = remarks_front t (end_to_end ts) q

    below : (i j : ℕ) → IsParent t i j → Out i → Out j
    below i j p o = (here.exactly j p.inside).1 (l.with_all_below i j p ((here.exactly i (omega (arith, p.before, p.inside))).0 o))

each_same : (ts : List (List ℕ)) {Out : ℕ → Type 0} (out? : (i : ℕ) → Dec (Out i)) → RemarksOf (end_to_end ts) Out → each_remaining out? ts ≡ each_without_remarks ts
unfolding each_remaining each_without_remarks end_to_end without_remarks
each_same [] out? q = refl
each_same (t ∷ ts) out? q =
    ap (λ (r : List (List ℕ)). remaining out? t ∷ r) (each_same ts (λ i. out? (length t + i)) (remarks_behind t (end_to_end ts) q))
    ∙ ap (λ (s : List ℕ). s ∷ each_without_remarks ts) (remaining_same t out? (remark? t) (remarks_front t (end_to_end ts) q).exactly)

pub fleet_without_remarks : FleetWithoutRemarks
unfolding without_remarks
fleet_without_remarks fleet f = (z.0, z.1 ∙ each_same (vehicles fleet) (remark? fleet) all)
  where
    these : RemarksOf fleet (Remark fleet)
    these = record { exactly = λ i h. ((λ o. o), (λ o. o)) }

    all : RemarksOf (end_to_end (vehicles fleet)) (Remark fleet)
    all = rw (vehicles_join fleet) these

    z : IsFleet (remaining (remark? fleet) fleet) × (vehicles (remaining (remark? fleet) fleet) ≡ each_remaining (remark? fleet) (vehicles fleet))
    z = fleet_without fleet (Remark fleet) (remark? fleet) f (each_left_out (vehicles fleet) f.each all)

pub held_exactly : HeldExactly
unfolding without_remarks
held_exactly pattern tree v = occurs_without_exactly (remark? tree) v.is_tree (remarks_left_out tree v) pattern

-- PATTERNS
pub remark_nowhere : RemarkNowhere
remark_nowhere pattern tree r o =
    o.placing.avoids r.at r.inside (rw (o.placing.placing.labels r.at r.inside) at r.is_remark)

module _ {pattern tree : List ℕ} (n : ¬ HoldsRemark pattern) where
  -- a placing of a pattern without remarks keeps off them by its labels
  pub keeps_off : {m : List ℕ} → Placing pattern tree m → PlacingWithout (Remark tree) pattern tree m
  keeps_off o = record { placing = o; avoids = λ i h r. n (record { at = i; inside = h; is_remark = rw (o.labels i h) r }) }

  pub heaviest_kept : {m : List ℕ} → HeaviestPlacing pattern tree m → HeaviestWithout (Remark tree) pattern tree m
  heaviest_kept h = record { placing = keeps_off h.placing; none_heavier = λ k o. h.none_heavier k o.placing }

pub held_as_before : HeldAsBefore
held_as_before pattern tree n = ((λ o. record { tuple = o.tuple; placing = o.placing.placing }), (λ o. record { tuple = o.tuple; placing = keeps_off n o.placing }))

unfoldable pub holds_remark? : (pattern : List ℕ) → Dec (HoldsRemark pattern)
unfolding map? some_below? remark?
holds_remark? pattern = map? (λ h. record { at = h.0; inside = h.1; is_remark = h.2 }) (λ h. (h.at, h.inside, h.is_remark)) (some_below? (λ i. Remark pattern i) (remark? pattern) (length pattern))

-- Whether a vehicle holds a pattern is decided.
unfoldable pub held_by? : (pattern tree : List ℕ) → Dec (HeldBy pattern tree)
unfolding map? both? not? holds_remark? occurs?
held_by? pattern tree = map?
    (λ h. (held_as_before pattern tree h.0).1 h.1)
    (λ o. ((λ r. remark_nowhere pattern tree r o), record { tuple = o.tuple; placing = o.placing.placing }))
    (both? (not? (holds_remark? pattern)) (occurs? pattern tree))

-- What is to be shown of a pattern in a vehicle's tree.
pub shown_without_remarks : (pattern tree : List ℕ) → ShownWithout (Remark tree) pattern tree
shown_without_remarks pattern tree = go (holds_remark? pattern) (occurs? pattern tree)
  where
    go : Dec (HoldsRemark pattern) → Dec (Occurs pattern tree) → ShownWithout (Remark tree) pattern tree
    go (yes r) _ = nowhere (remark_nowhere pattern tree r)
    go (no n) (yes o) = let z = heaviest_exists pattern tree o in placed z.0 (heaviest_kept n z.1)
    go (no n) (no k) = nowhere (λ o. k ((held_as_before pattern tree n).0 o))

-- There is one heaviest placing where a vehicle holds the pattern.
pub heaviest_held_exists : HeaviestHeldExists
heaviest_held_exists pattern tree o = go (shown_without_remarks pattern tree)
  where
    go : ShownWithout (Remark tree) pattern tree → (tuple : List ℕ) × HeaviestWithout (Remark tree) pattern tree tuple
    go (placed tuple h) = (tuple, h)
    go (nowhere n) = absurd (n o)

-- PAIRS
pub no_remark_left : NoRemarkLeft
unfolding without_remarks
no_remark_left s r =
    let w = remaining_is s (remark? s) in
    w.stays r.at r.inside (rw (w.pair r.at r.inside) at r.is_remark)

none_out : (s : List ℕ) {Out : ℕ → Type 0} (out? : (i : ℕ) → Dec (Out i)) → ((i : ℕ) → i < length s → ¬ Out i) → remaining out? s ≡ s
unfolding remaining
none_out [] out? n = refl
none_out (x ∷ s) out? n = unless_no (n 0 (omega arith)) (out? 0) x _ ∙ ap (λ (r : List ℕ). x ∷ r) (none_out s (λ i. out? (suc i)) (λ i h. n (suc i) (omega arith)))

pub nothing_taken_out : NothingTakenOut
unfolding without_remarks
nothing_taken_out s n = none_out s (remark? s) (λ i h r. n (record { at = i; inside = h; is_remark = r }))
