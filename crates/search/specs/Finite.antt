-- LAWS that definitions lean on: of a finite, decided set of forms there is a lightest, or none.
use Rattle.std.specs.Prelude.{List, ℕ, ◌≤◌, length}
use Rattle.std.proofs.Math.Option.{Option}
use Rattle.terms.specs.Lightest.{Lightest}
use Rattle.terms.proofs.Decide.{both?, AllBelow}
use Rattle.terms.proofs.OrderLaws.{lighter?}
use Rattle.terms.proofs.LightestLaws.{lightest_exists}
use Rattle.noting.specs.Noting.{pair_limit}
use Rattle.search.specs.Counted.{Counted, heavier_than}

-- The forms of the set have at most so many nodes, all of them pairs, and it is decided which sequences are among them.
pub record Finite (set : Counted) : Type 0 where
  pub most : ℕ
  pub within : (form : List ℕ) → set.Holds form → (length form ≤ most) × AllBelow pair_limit form
  pub decide : (form : List ℕ) → Dec (set.Holds form)

unfoldable pub heavier_finite : {set : Counted} → Finite set → (s : List ℕ) → Finite (heavier_than set s)
unfolding both? lighter?
heavier_finite f s = record {
  most = f.most;
  within = λ form h. f.within form h.0;
  decide = λ form. both? (f.decide form) (lighter? s form);
}

-- How it is found does not matter: there is only one (`lightest_unique`).
pub lightest_found : {set : Counted} → Finite set → (found : Option (List ℕ)) × Lightest set.Holds found
lightest_found {set} f = lightest_exists pair_limit f.most set.Holds f.within f.decide

-- The lightest form of the set, or none.
unfoldable pub lightest_of : {set : Counted} → Finite set → Option (List ℕ)
lightest_of f = (lightest_found f).0

pub lightest_is : {set : Counted} (f : Finite set) → Lightest set.Holds (lightest_of f)
unfolding lightest_of
lightest_is f = (lightest_found f).1
