-- LAWS. The table of counts tells which pair makes a frequent form, and its support.
use mathlib.Core.Path.{◌≡◌, sym}
use mathlib.Core.Logic.{inl, ⊎_elim}
use mathlib.Core.List.{List, [], ◌∷◌, ◌++◌}
use Prim.Native.Nat.{ℕ, suc, ◌≤◌, ◌<◌}
use native.Mathlib.Omega.{arith}
use lib.ListN.{length, get_or}
use Rattle.terms.specs.Form.{InForm}
use Rattle.terms.specs.Fleet.{vehicles}
use Rattle.terms.proofs.LeftHeavyLaws.{in_form?}
use Rattle.occurrence.specs.Support.{whole_support}
use Rattle.rightmost.specs.Ends.{NewChild}
use Rattle.rightmost.specs.NextPair.{MayComeNext}
use Rattle.rightmost.specs.PlaceList.{Places}
use Rattle.rightmost.specs.Vehicles.{VehiclesNumbered}
use Rattle.rightmost.specs.Counts.{top_of, Counts, CountsFrom}
use Rattle.rightmost.proofs.LongerLaws.{longer, new_child_of}
use Rattle.rightmost.proofs.NextPairLaws.{next_exactly}
use Rattle.rightmost.proofs.TallyLaws.{tally_none}
use Rattle.rightmost.proofs.GatherLaws.{noted_none, gathered_support}

-- no pair of a new child is deeper than a child of the last node
pub below_top : {p : List ℕ} {x b : ℕ} → NewChild p x b → x < top_of p
below_top e = omega (arith, e.one_deeper, e.on_branch.no_deeper)

-- tables of zeros, before the first place
pub counts_start : (S : ℕ → Type 0) (p fleet table places counts last : List ℕ) → ((x : ℕ) → x < top_of p → get_or counts x 0 ≡ 0) → ((x : ℕ) → get_or last x 0 ≡ 0) → CountsFrom S p fleet table places 0 counts last
counts_start S p fleet table places counts last zc zl = record { tallied = λ x b e m. rw (zc x (below_top e), zl x) (tally_none (suc (length (vehicles fleet))) noted_none); others = λ x h. inl (zc x h) }

-- after the last place: the table of counts
pub counts_end : {p fleet table places counts last : List ℕ} → InForm p → VehiclesNumbered fleet table → Places p fleet places → CountsFrom (MayComeNext p) p fleet table places (length places) counts last → Counts p fleet counts
counts_end {p} {fleet} {table} {places} {counts} {last} f nb ps c = record { forms = forms; others = λ x h g. ⊎_elim (λ z. z) (λ z. absurd (g ((next_exactly f z.1).1 z.2))) (c.others x h) }
  where
    forms : (x : ℕ) → InForm (longer p x) → get_or counts x 0 ≡ whole_support fleet (longer p x)
    forms x g =
        let z = new_child_of p x f.is_tree g.is_tree in
        sym (gathered_support nb z.1 ps (c.tallied x z.0 z.1 ((next_exactly f z.1).0 g)))

-- THE CLAIM: the pairs whose count reaches the threshold are those that make a frequent form.
module _ {p fleet counts : List ℕ} {threshold : ℕ} (x : ℕ) (c : Counts p fleet counts) where
  pub frequent_counted : InForm (p ++ x ∷ []) → threshold ≤ whole_support fleet (p ++ x ∷ []) → threshold ≤ get_or counts x 0
  frequent_counted g h = omega (arith, c.forms x g)

  pub counted_frequent : x < top_of p → 1 ≤ threshold → threshold ≤ get_or counts x 0 → InForm (p ++ x ∷ []) × (threshold ≤ whole_support fleet (p ++ x ∷ []))
  counted_frequent l h q = go (in_form? (p ++ x ∷ []))
    where
      go : Dec (InForm (p ++ x ∷ [])) → InForm (p ++ x ∷ []) × (threshold ≤ whole_support fleet (p ++ x ∷ []))
      go (yes g) = (g, omega (arith, c.forms x g))
      go (no g) = absurd (omega (arith, c.others x l g))
