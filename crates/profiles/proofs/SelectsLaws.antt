-- LAWS. The test of a form that the search found, by profile.
use mathlib.Core.Path.{◌≡◌, refl}
use mathlib.Core.Logic.{◌≢◌, ◌↔◌}
use mathlib.Core.Bool.{Bool, true, false, not}
use mathlib.Core.List.{List}
use Prim.Native.Nat.{ℕ, zero, suc}
use native.Mathlib.Omega.{arith}
use lib.Dec.{eqb}
use lib.ListN.{take}
use Rattle.terms.specs.Tells.{Tells}
use Rattle.terms.specs.Tree.{IsTreeAnyDepth}
use Rattle.terms.proofs.TreeLaws.{tree_any_depth}
use Rattle.occurrence.specs.Support.{NeverGrows}
use Rattle.supertrees.specs.Supertree.{LargerReaches}
use Rattle.supertrees.specs.Profile.{full, closed, Selects}
use Rattle.supertrees.proofs.ProfileLaws.{closed_by_one_node, maximal_by_one_node}
use Rattle.search.specs.Sought.{Search, count_in, search_never_grows}
use Rattle.profiles.specs.Selected.{FoundInput}

-- the number that no supertree may reach: the form's own support, or the threshold
pub data Need (profile threshold held need : ℕ) : Type 0 where
  own_support : profile ≡ closed → need ≡ held → Need profile threshold held need
  the_threshold : profile ≢ closed → need ≡ threshold → Need profile threshold held need

pub full_selects : {profile : ℕ} (count : List ℕ → ℕ) (threshold : ℕ) (form : List ℕ) → profile ≡ full → Tells (eqb profile full) (Selects profile count threshold form)
unfolding Selects
full_selects count threshold form e = rw e tt

tells_not : {A B : Type 0} → A ↔ (¬ B) → (r : Bool) → Tells r B → Tells (not r) A
tells_not e true b = λ a. e.0 a b
tells_not e false n = e.1 n

module _ (count : List ℕ → ℕ) (never : NeverGrows count) (threshold : ℕ) (form : List ℕ) (tree : IsTreeAnyDepth form) where
  by_one_node : (profile need : ℕ) (r : Bool) → profile ≢ full → Need profile threshold (count form) need → Tells r (LargerReaches count need form) → Tells (not r) (Selects profile count threshold form)
  unfolding Selects
  by_one_node zero need r h n k = absurd (h refl)
  by_one_node (suc zero) need r h (own_support p n) k = tells_not (closed_by_one_node count never form tree) r (rw n at k)
  by_one_node (suc zero) need r h (the_threshold p n) k = absurd (p refl)
  by_one_node (suc (suc m)) need r h (own_support p n) k = absurd (omega arith)
  by_one_node (suc (suc m)) need r h (the_threshold p n) k = tells_not (maximal_by_one_node count never threshold form tree) r (rw n at k)

pub selects_told : {search : Search} {nodes : List ℕ} {n held : ℕ} {parents numbers sizes places lens : List ℕ} → FoundInput search nodes n held parents numbers sizes places lens
    → {need : ℕ} (r : Bool) → search.profile ≢ full → Need search.profile search.threshold held need → Tells r (LargerReaches (count_in search) need (take n nodes))
    → Tells (not r) (Selects search.profile (count_in search) search.threshold (take n nodes))
selects_told {search} {nodes} {n} i {need} r h k t = by_one_node (count_in search) (search_never_grows search) search.threshold (take n nodes) (tree_any_depth (i.testable 1 (omega arith)).is_tree) search.profile need r h (rw i.support_is at k) t
