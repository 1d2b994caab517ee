-- LAWS. The support is that of the fleet with remarks taken out; it never grows with the pattern, and is the same for the same unordered trees, of the
-- pattern and of the vehicles.
use mathlib.Core.Path.{◌≡◌, refl, sym, ap, ◌∙◌}
use mathlib.Core.Logic.{◌↔◌}
use mathlib.Core.List.{List, [], ◌∷◌}
use Prim.Native.Nat.{ℕ, suc, ◌≤◌, ◌<◌}
use native.Mathlib.Omega.{arith}
use lib.ListN.{length, get_or, take}
use Rattle.terms.specs.Tree.{IsTree, IsTreeAnyDepth}
use Rattle.terms.specs.Matching.{SameTree, placeAt}
use Rattle.terms.specs.Placing.{Occurs}
use Rattle.terms.specs.Fleet.{vehicles, IsVehicle, IsFleet, most_trees}
use Rattle.terms.specs.Remarks.{HoldsRemark, without_remarks, each_without_remarks}
use Rattle.terms.proofs.OccursDecided.{occurs?}
use Rattle.terms.proofs.TreeLaws.{tree_any_depth}
use Rattle.terms.proofs.MatchingLaws.{occurs_trans_any_depth, same_occurs, same_symmetric_any_depth, same_reflexive}
use Rattle.terms.proofs.RemarkLaws.{held_by?, holds_remark?, held_exactly, remark_nowhere, held_as_before, fleet_without_remarks, no_remark_left, nothing_taken_out}
use Rattle.terms.proofs.BeginningLaws.{beginning_tree, beginning_occurs}
use Rattle.occurrence.specs.Support.{counted, holding, support, occurring, whole_support, NeverGrows}
use Rattle.occurrence.specs.Claims.{SameOneByOne, SupportNeverGrows, WholeSupportNeverGrows, SupportFalls, SupportSame, SupportBeginning, SupportSameVehicles, RemarkUnsupported, SupportAsBefore, SupportExactly, SupportWithoutRemarks}
use Rattle.occurrence.proofs.OccurrenceLaws.{occurs_same}

counted_le : {A B : Type 0} → (A → B) → (a : Dec A) (b : Dec B) → counted a ≤ counted b
unfolding counted
counted_le f (yes a) (yes b) = omega arith
counted_le f (yes a) (no b) = absurd (b (f a))
counted_le f (no a) (yes b) = omega arith
counted_le f (no a) (no b) = omega arith

pub counted_yes : {A : Type 0} → A → (d : Dec A) → counted d ≡ 1
unfolding counted
counted_yes a (yes _) = refl
counted_yes a (no h) = absurd (h a)

pub counted_no : {A : Type 0} → ¬ A → (d : Dec A) → counted d ≡ 0
unfolding counted
counted_no a (yes h) = absurd (a h)
counted_no a (no _) = refl

pub counted_holds : {A : Type 0} → (d : Dec A) → 1 ≤ counted d → A
unfolding counted
counted_holds (yes a) h = a
counted_holds (no a) h = absurd (omega arith)

-- one vehicle more
pub occurring_yes : {p t : List ℕ} (ts : List (List ℕ)) → Occurs p t → occurring p (t ∷ ts) ≡ suc (occurring p ts)
unfolding occurring
occurring_yes {p} {t} ts o = omega (arith, counted_yes o (occurs? p t))

pub occurring_no : {p t : List ℕ} (ts : List (List ℕ)) → ¬ Occurs p t → occurring p (t ∷ ts) ≡ occurring p ts
unfolding occurring
occurring_no {p} {t} ts n = omega (arith, counted_no n (occurs? p t))

pub occurring_le : (p q : List ℕ) → ((t : List ℕ) → Occurs p t → Occurs q t) → (ts : List (List ℕ)) → occurring p ts ≤ occurring q ts
unfolding occurring
occurring_le p q f [] = omega arith
occurring_le p q f (t ∷ ts) = omega (arith, counted_le (f t) (occurs? p t) (occurs? q t), occurring_le p q f ts)

-- a pattern that occurs in a pattern occurs in no fewer trees
in_no_fewer : (fleet p q : List ℕ) → IsTreeAnyDepth p → Occurs p q → whole_support fleet q ≤ whole_support fleet p
unfolding whole_support
in_no_fewer fleet p q tp o = occurring_le q p (λ t. occurs_trans_any_depth tp o) (vehicles fleet)

pub whole_support_never_grows : WholeSupportNeverGrows
whole_support_never_grows fleet p q tp tq = in_no_fewer fleet p q tp

-- REMARKS
none_holding : (p : List ℕ) → HoldsRemark p → (ts : List (List ℕ)) → holding p ts ≡ 0
unfolding holding
none_holding p r [] = refl
none_holding p r (t ∷ ts) = omega (arith, counted_no (remark_nowhere p t r) (held_by? p t), none_holding p r ts)

pub remark_unsupported : RemarkUnsupported
unfolding support
remark_unsupported fleet p r = none_holding p r (vehicles fleet)

pub counted_iff : {A B : Type 0} → (A → B) → (B → A) → (a : Dec A) (b : Dec B) → counted a ≡ counted b
counted_iff f g a b = omega (arith, counted_le f a b, counted_le g b a)

holding_before : (p : List ℕ) → ¬ HoldsRemark p → (ts : List (List ℕ)) → holding p ts ≡ occurring p ts
unfolding holding occurring
holding_before p n [] = refl
holding_before p n (t ∷ ts) = omega (arith, counted_iff (held_as_before p t n).0 (held_as_before p t n).1 (held_by? p t) (occurs? p t), holding_before p n ts)

pub support_as_before : SupportAsBefore
unfolding support whole_support
support_as_before fleet p n = holding_before p n (vehicles fleet)

holding_exactly : (p : List ℕ) (ts : List (List ℕ)) → ((n : ℕ) → n < length ts → IsVehicle (get_or ts n [])) → holding p ts ≡ occurring p (each_without_remarks ts)
unfolding holding occurring each_without_remarks
holding_exactly p [] a = refl
holding_exactly p (t ∷ ts) a =
    let e = held_exactly p t (a 0 (omega arith)) in
    omega (arith, counted_iff e.0 e.1 (held_by? p t) (occurs? p (without_remarks t)), holding_exactly p ts (λ n h. a (suc n) (omega arith)))

pub support_exactly : SupportExactly
unfolding support whole_support
support_exactly fleet p f = holding_exactly p (vehicles fleet) f.each ∙ ap (occurring p) (sym (fleet_without_remarks fleet f).1)

pub support_without_remarks : SupportWithoutRemarks
support_without_remarks fleet p f =
    support_exactly (without_remarks fleet) p (fleet_without_remarks fleet f).0
    ∙ ap (λ (s : List ℕ). whole_support s p) (nothing_taken_out (without_remarks fleet) (no_remark_left fleet))
    ∙ sym (support_exactly fleet p f)

-- a remark of a pattern is one of every pattern in which it occurs
remark_kept : {p q : List ℕ} → Occurs p q → HoldsRemark p → HoldsRemark q
remark_kept o r =
    let m = o.placing in
    record { at = placeAt o.tuple r.at; inside = omega (arith, m.from_1 r.at r.inside, m.to_last r.at r.inside); is_remark = rw (m.labels r.at r.inside) at r.is_remark }

held_by_no_fewer : (fleet p q : List ℕ) → IsTreeAnyDepth p → Occurs p q → support fleet q ≤ support fleet p
held_by_no_fewer fleet p q tp o = go (holds_remark? q)
  where
    go : Dec (HoldsRemark q) → support fleet q ≤ support fleet p
    go (yes r) = omega (arith, remark_unsupported fleet q r)
    go (no n) = omega (arith, support_as_before fleet q n, support_as_before fleet p (λ r. n (remark_kept o r)), in_no_fewer fleet p q tp o)

pub support_never_grows : SupportNeverGrows
support_never_grows fleet p q tp tq = held_by_no_fewer fleet p q tp

pub support_falls : SupportFalls
support_falls fleet p q tp = held_by_no_fewer fleet p q (tree_any_depth tp)

-- a count that never grows is one of unordered trees
pub never_grows_same : {count : List ℕ → ℕ} {p q : List ℕ} → NeverGrows count → IsTreeAnyDepth p → IsTreeAnyDepth q → SameTree p q → count p ≡ count q
never_grows_same {p = p} {q = q} f tp tq e = omega (arith, f p q tp tq (same_occurs e), f q p tq tp (same_occurs (same_symmetric_any_depth tp tq e)))

pub support_same : SupportSame
support_same fleet s t ts tt = never_grows_same (support_never_grows fleet) (tree_any_depth ts) (tree_any_depth tt)

pub support_beginning : SupportBeginning
support_beginning fleet s n t h = support_falls fleet (take (suc n) s) s (beginning_tree s n h t) (beginning_occurs s n h t)

-- at most every vehicle holds a pattern
counted_one : {A : Type 0} (d : Dec A) → counted d ≤ 1
unfolding counted
counted_one (yes _) = omega arith
counted_one (no _) = omega arith

pub occurring_most : (pattern : List ℕ) (trees : List (List ℕ)) → occurring pattern trees ≤ length trees
unfolding occurring
occurring_most pattern [] = omega arith
occurring_most pattern (tree ∷ trees) = omega (arith, counted_one (occurs? pattern tree), occurring_most pattern trees)

pub whole_support_most : (fleet pattern : List ℕ) → IsFleet fleet → whole_support fleet pattern ≤ most_trees
unfolding whole_support
whole_support_most fleet pattern f = omega (arith, occurring_most pattern (vehicles fleet), f.trees)

pub holding_most : (pattern : List ℕ) (trees : List (List ℕ)) → holding pattern trees ≤ length trees
unfolding holding
holding_most pattern [] = omega arith
holding_most pattern (tree ∷ trees) = omega (arith, counted_one (held_by? pattern tree), holding_most pattern trees)

pub support_most : (fleet pattern : List ℕ) → IsFleet fleet → support fleet pattern ≤ most_trees
unfolding support
support_most fleet pattern f = omega (arith, holding_most pattern (vehicles fleet), f.trees)

AllTrees : List (List ℕ) → Type 0
AllTrees ts = (n : ℕ) → n < length ts → IsTree (get_or ts n [])

occurring_same : (p : List ℕ) → IsTree p → (ts us : List (List ℕ)) → AllTrees ts → AllTrees us → SameOneByOne ts us → occurring p ts ≡ occurring p us
unfolding occurring AllTrees
occurring_same p tp [] [] a b e = refl
occurring_same p tp [] (u ∷ us) a b e = absurd (omega (arith, e.as_many))
occurring_same p tp (t ∷ ts) [] a b e = absurd (omega (arith, e.as_many))
occurring_same p tp (t ∷ ts) (u ∷ us) a b e =
    let same : Occurs p t ↔ Occurs p u = occurs_same p p t u tp tp (a 0 (omega arith)) (b 0 (omega arith)) (same_reflexive tp) (e.each 0 (omega arith)) in
    let rest : occurring p ts ≡ occurring p us = occurring_same p tp ts us (λ n h. a (suc n) (omega arith)) (λ n h. b (suc n) (omega arith)) (record { as_many = omega (arith, e.as_many); each = λ n h. e.each (suc n) (omega arith) }) in
    omega (arith, counted_le same.0 (occurs? p t) (occurs? p u), counted_le same.1 (occurs? p u) (occurs? p t), rest)

pub support_same_vehicles : SupportSameVehicles
unfolding whole_support AllTrees
support_same_vehicles fleet other s f g t e =
    support_exactly fleet s f
    ∙ occurring_same s t (vehicles (without_remarks fleet)) (vehicles (without_remarks other)) (λ k h. ((fleet_without_remarks fleet f).0.each k h).is_tree) (λ k h. ((fleet_without_remarks other g).0.each k h).is_tree) e
    ∙ sym (support_exactly other s g)

-- of a fleet of one vehicle
pub whole_support_single : (fleet s t : List ℕ) → vehicles fleet ≡ t ∷ [] → whole_support fleet s ≡ counted (occurs? s t)
unfolding whole_support occurring
whole_support_single fleet s t e = rw e (omega arith)
