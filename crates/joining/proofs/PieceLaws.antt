-- LAWS. The pieces of a text between separators.
use mathlib.Core.Path.{◌≡◌, refl, sym, ap, ◌∙◌}
use mathlib.Core.Logic.{if_pos, if_neg}
use mathlib.Core.List.{List, [], ◌∷◌, ◌++◌, append_assoc, append-nil}
use Prim.Native.Nat.{ℕ, zero, suc, ◌≤◌}
use native.Mathlib.Omega.{arith}
use native.Mathlib.Decide.{ℕ_discrete}
use lib.ListN.{length, replicate}
use Rattle.paper.specs.Paper.{none, also}
use Rattle.paper.proofs.EachLaws.{Over}
use Rattle.joining.specs.Joining.{ended, pieces_on}

module _ (separator : ℕ) where
  -- bytes that are no separators go on with the piece
  piece_on : (piece : List ℕ) {s : List ℕ} (t : List ℕ) → Over separator s → pieces_on separator piece (s ++ t) ≡ pieces_on separator (piece ++ s) t
  unfolding pieces_on
  piece_on piece t none = ap (λ (p : List ℕ). pieces_on separator p t) (sym (append-nil piece))
  piece_on piece t (also {x = b} {s = s} h hs) =
      let n : ¬ (b ≡ separator) = λ (e : b ≡ separator). omega (arith, h, e) in
      if_neg (ℕ_discrete b separator) n (ended piece (pieces_on separator [] (s ++ t))) (pieces_on separator (piece ++ b ∷ []) (s ++ t))
      ∙ piece_on (piece ++ b ∷ []) t hs
      ∙ ap (λ (p : List ℕ). pieces_on separator p t) (append_assoc piece (b ∷ []) s)

  -- a separator ends it
  piece_ends : (piece t : List ℕ) → pieces_on separator piece (separator ∷ t) ≡ ended piece (pieces_on separator [] t)
  unfolding pieces_on
  piece_ends piece t = if_pos (ℕ_discrete separator separator) refl (ended piece (pieces_on separator [] t)) (pieces_on separator (piece ++ separator ∷ []) t)

  ended_some : (piece : List ℕ) (later : List (List ℕ)) → 1 ≤ length piece → ended piece later ≡ piece ∷ later
  unfolding ended
  ended_some [] later h = absurd (omega arith)
  ended_some (b ∷ piece) later h = refl

  pub piece_then : (s t : List ℕ) → 1 ≤ length s → Over separator s → pieces_on separator [] (s ++ separator ∷ t) ≡ s ∷ pieces_on separator [] t
  piece_then s t some h = piece_on [] (separator ∷ t) h ∙ piece_ends s t ∙ ended_some s (pieces_on separator [] t) some

  -- separators in front make no piece
  pub separators_gone : (n : ℕ) (t : List ℕ) → pieces_on separator [] (replicate n separator ++ t) ≡ pieces_on separator [] t
  unfolding ended
  separators_gone zero t = refl
  separators_gone (suc n) t = piece_ends [] (replicate n separator ++ t) ∙ separators_gone n t

  pub separators_alone : (n : ℕ) → pieces_on separator [] (replicate n separator) ≡ []
  unfolding pieces_on ended
  separators_alone n = ap (λ (s : List ℕ). pieces_on separator [] s) (sym (append-nil (replicate n separator))) ∙ separators_gone n []

  pub piece_then_some : (s : List ℕ) (n : ℕ) (t : List ℕ) → 1 ≤ length s → 1 ≤ n → Over separator s → pieces_on separator [] (s ++ (replicate n separator ++ t)) ≡ s ∷ pieces_on separator [] t
  piece_then_some s zero t some h k = absurd (omega arith)
  piece_then_some s (suc n) t some h k = piece_then s (replicate n separator ++ t) some k ∙ ap (λ (later : List (List ℕ)). s ∷ later) (separators_gone n t)
