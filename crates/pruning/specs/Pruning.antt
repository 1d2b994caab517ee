-- A matched beginning of a form, and the forms that it covers.
use Rattle.std.specs.Prelude.{Option, Some, IfSome, IsSomeAnd, List, ℕ, ◌≤◌, take}
use Rattle.matched.specs.Matched.{MatchedBy, Lacks}
use Rattle.pruning.specs.declared.Matched.{Matched}

-- A beginning of the first n of `nodes`, which can have a leaf of the pair more wherever it occurs.
pub record BeginningOf (fleet nodes : List ℕ) (n : ℕ) (known : Matched) : Type 0 where
  pub within : known.len ≤ n
  pub is : MatchedBy fleet (take known.len nodes) (Some known.pair)

-- What is known of the first n of `nodes`: such a beginning of them, or nothing.
abbrev pub MatchedBeginning : (fleet nodes : List ℕ) (n : ℕ) → Option Matched → Type 0
MatchedBeginning fleet nodes n matched = IfSome matched (λ known. BeginningOf fleet nodes n known)

-- One is known, and they go on from it without that pair.
abbrev pub Covers : Option Matched → (nodes : List ℕ) (n : ℕ) → Type 0
Covers matched nodes n = IsSomeAnd matched (λ known. Lacks nodes known.pair known.len n)
