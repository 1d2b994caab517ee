-- LAWS. The parts of an input.
use mathlib.Core.Path.{◌≡◌, sym, ap, ◌∙◌}
use mathlib.Core.List.{List, [], ◌∷◌}
use Prim.Native.Nat.{ℕ, zero, suc, min, ◌+◌, ◌-◌}
use native.Mathlib.Omega.{arith}
use lib.ListN.{length, take, drop}
use lib.Seq.{take-nil}
use Rattle.std.proofs.lemmas.List.{take_min, drop_min, take_rest}
use Rattle.header.specs.Header.{most_sheet_bytes, sheet_behind}

-- what a slice from a position on has of it, where both ends keep within the input
pub sheet_cut : (header start most : ℕ) (s : List ℕ) → start ≡ min header (length s) → most ≡ min (length (take (length s - start) (drop start s))) most_sheet_bytes
    → take most (take (length s - start) (drop start s)) ≡ sheet_behind header s
sheet_cut header start most s e m =
    let rest : take (length s - start) (drop start s) ≡ drop header s = take_rest s start ∙ ap (λ (n : ℕ). drop n s) e ∙ drop_min header s in
    let kept : most ≡ min most_sheet_bytes (length (drop header s)) = omega (arith, m, ap length rest) in
    ap (λ (n : ℕ). take n (take (length s - start) (drop start s))) kept ∙ ap (take (min most_sheet_bytes (length (drop header s)))) rest ∙ take_min most_sheet_bytes (drop header s)

-- what is behind the header is kept by who takes both
pub behind_taken : (header more : ℕ) (s : List ℕ) → drop header (take (header + more) s) ≡ take more (drop header s)
behind_taken zero more s = let e : 0 + more ≡ more = omega arith in rw e
behind_taken (suc header) more [] = ap (λ (t : List ℕ). drop (suc header) t) (take-nil (suc header + more)) ∙ sym (take-nil more)
behind_taken (suc header) more (x ∷ s) = let e : suc header + more ≡ suc (header + more) = omega arith in rw e (behind_taken header more s)
