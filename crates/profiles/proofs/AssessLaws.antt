-- LAWS. What is told of a form: by its profile alone, by what covers it, by its own matched leaf, or by the test.
use mathlib.Core.Path.{◌≡◌, refl}
use mathlib.Core.Logic.{◌≢◌}
use mathlib.Core.Bool.{Bool, true, false}
use mathlib.Core.List.{List}
use Prim.Native.Nat.{ℕ, ◌≤◌}
use native.Mathlib.Omega.{arith}
use native.Mathlib.Decide.{ℕ_discrete}
use lib.ListN.{take}
use Rattle.terms.specs.Tells.{Tells}
use Rattle.supertrees.specs.Supertree.{LargerReaches}
use Rattle.supertrees.specs.Profile.{full, closed, Selects}
use Rattle.blanket.specs.Blanket.{ReachesInput}
use Rattle.search.specs.Sought.{Search, count_in}
use Rattle.pruning.specs.Pruning.{MatchedBeginning, Covers}
use Rattle.std.specs.Prelude.{Option, Some, None, IfSome, IsSome}
use Rattle.std.proofs.lemmas.Bool.{false≢true}
use Rattle.pruning.specs.declared.Matched.{Matched}
use Rattle.pruning.proofs.PruningLaws.{covered}
use Rattle.profiles.specs.Selected.{FoundInput, Told}
use Rattle.profiles.proofs.SelectsLaws.{own_support, the_threshold, selects_told}

-- a full list has every form
pub told_full : {search : Search} {nodes : List ℕ} {n : ℕ} {matched : Option Matched} → search.profile ≡ full → MatchedBeginning search.fleet nodes n matched → Told search nodes n (record { listed = true; matched = matched })
unfolding Selects
told_full e m = record { listed = rw e tt; matched = m }

module _ {search : Search} {nodes : List ℕ} {n held : ℕ} {parents numbers sizes places lens : List ℕ} (i : FoundInput search nodes n held parents numbers sizes places lens) where
  input : ReachesInput search.fleet nodes n 1 parents numbers sizes places lens
  input = i.testable 1 (omega arith)

  pub few : n ≤ 16
  few = input.few

  -- a form with a supertree of one more node in as many vehicles is neither closed nor maximal
  not_selected : search.profile ≢ full → ((need : ℕ) → need ≤ held → LargerReaches (count_in search) need (take n nodes)) → ¬ Selects search.profile (count_in search) search.threshold (take n nodes)
  not_selected h larger = go (ℕ_discrete search.profile closed)
    where
      go : Dec (search.profile ≡ closed) → ¬ Selects search.profile (count_in search) search.threshold (take n nodes)
      go (yes e) = selects_told i true h (own_support e refl) (larger held (omega arith))
      go (no e) = selects_told i true h (the_threshold e refl) (larger search.threshold i.enough)

  -- so a form that is covered is not listed
  pub told_covered : {matched : Option Matched} → search.profile ≢ full → MatchedBeginning search.fleet nodes n matched → Covers matched nodes n → Told search nodes n (record { listed = false; matched = matched })
  told_covered h m c = record {
    listed = not_selected h (λ need k. covered nodes n _ input.indexed.has_numbers.are (omega (arith, input.few, input.all_nodes)) input.is_tree m c (omega (arith, i.support_is)));
    matched = m;
  }

  -- nor is one that can have a leaf more wherever it occurs: it covers itself
  pub told_found : (found : Option Matched) → search.profile ≢ full → MatchedBeginning search.fleet nodes n found × IfSome found (λ known. known.len ≡ n) → IsSome found → Told search nodes n (record { listed = false; matched = found })
  told_found None h f k = absurd (false≢true k)
  told_found (Some known) h f k = told_covered h f.0 (λ j a b. absurd (omega (arith, f.1)))

-- or the test tells
pub told_tested : {search : Search} {nodes : List ℕ} {n : ℕ} {matched : Option Matched} (r : Bool) → MatchedBeginning search.fleet nodes n matched → Tells r (Selects search.profile (count_in search) search.threshold (take n nodes)) → Told search nodes n (record { listed = r; matched = matched })
told_tested r m t = record { listed = t; matched = m }
