-- Document 01, "Form and weight": the order of sequences.
use Rattle.std.specs.Prelude.{◌≡◌, List, [], ◌∷◌, ℕ, ◌<◌}

-- "Sequences compare at the first difference; a proper extension is heavier than its beginning." The first is lighter than the second.
-- "Pairs compare by depth, then label": that is the order of their numbers. The same order compares tuples of node numbers.
pub data Lighter : List ℕ → List ℕ → Type 0 where
  shorter : {y : ℕ} {v : List ℕ} → Lighter [] (y ∷ v)
  differ : {x y : ℕ} {u v : List ℕ} → x < y → Lighter (x ∷ u) (y ∷ v)
  agree : {x y : ℕ} {u v : List ℕ} → x ≡ y → Lighter u v → Lighter (x ∷ u) (y ∷ v)
