-- LAWS. What holds of each of some things holds of each of their parts.
use mathlib.Core.List.{List, ◌++◌}
use Prim.Native.Nat.{ℕ, zero, suc, ◌<◌}
use lib.ListN.{take, drop, replicate}
use Rattle.paper.specs.Paper.{Each, none, also}

-- bytes above a number
abbrev pub Over : ℕ → List ℕ → Type 0
Over least s = Each (λ b. least < b) s

module _ {A : Type 0} {P : A → Type 0} where
  pub each_append : {s t : List A} → Each P s → Each P t → Each P (s ++ t)
  each_append none k = k
  each_append (also h hs) k = also h (each_append hs k)

  pub each_replicate : (n : ℕ) (x : A) → P x → Each P (replicate n x)
  each_replicate zero x h = none
  each_replicate (suc n) x h = also h (each_replicate n x h)

  pub each_take : (n : ℕ) {s : List A} → Each P s → Each P (take n s)
  each_take zero h = none
  each_take (suc n) none = none
  each_take (suc n) (also h hs) = also h (each_take n hs)

  pub each_drop : (n : ℕ) {s : List A} → Each P s → Each P (drop n s)
  each_drop zero h = h
  each_drop (suc n) none = none
  each_drop (suc n) (also h hs) = each_drop n hs

  pub each_as : {Q : A → Type 0} → ((x : A) → P x → Q x) → {s : List A} → Each P s → Each Q s
  each_as f none = none
  each_as f (also {x} h hs) = also (f x h) (each_as f hs)
