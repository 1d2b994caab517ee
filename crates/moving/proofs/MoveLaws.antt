-- LAWS. Pairs moved one by one within a list, and replaced.
use mathlib.Core.Path.{◌≡◌, sym, ap, ◌∙◌}
use mathlib.Core.List.{List, [], ◌∷◌, ◌++◌, append_assoc, append-nil}
use Prim.Native.Nat.{ℕ, suc, ◌+◌, ◌-◌, ◌≤◌, ◌<◌}
use native.Mathlib.Omega.{arith}
use lib.ListN.{length, get_or, set, take, drop, length-drop, length-set, drop_of_length-le, get_or-append}
use lib.Seq.{paste, paste-suc, length_paste_head, length-take-le, take-suc, drop-cons, append_snoc, set_at, get_or-append-add, get_or-drop, get_or-take, take-append-le, drop_at, drop-drop, take-take}
use Rattle.std.proofs.lemmas.List.{take_rest}
use Rattle.moving.specs.Moving.{MoveInput, ReplaceInput, moved, spliced}

-- the loop of move_down: the first `i` pairs have been moved
pub record Down (before now : List ℕ) (from to count i : ℕ) : Type 0 where
  pub as_long : length now ≡ length before
  pub so_far : now ≡ paste before to (drop from before) i
  pub upto : i ≤ count

module _ (b now : List ℕ) (from to count i : ℕ) (input : MoveInput b from to count) (g : Down b now from to count i) where
  abbrev head : List ℕ
  head = take to b ++ take i (drop from b)

  pub down_next : to ≤ from → i < count → Down b (set now (to + i) (get_or now (from + i) 0)) from to count (i + 1)
  down_next h k = record { as_long = length-set now (to + i) (get_or now (from + i) 0) ∙ g.as_long; so_far = step; upto = omega arith }
    where
      size : length head ≡ to + i
      size = length_paste_head b to (drop from b) i (omega (arith, input.there)) (omega (arith, length-drop from b, input.here))

      read : get_or now (from + i) 0 ≡ get_or (drop from b) i 0
      read =
          let at : from + i ≡ length head + (from - to) = omega (arith, size) in
          let there : to + i + (from - to) ≡ from + i = omega arith in
          ap (λ (s : List ℕ). get_or s (from + i) 0) g.so_far ∙ ap (λ (n : ℕ). get_or (head ++ drop (to + i) b) n 0) at
          ∙ get_or-append-add head (drop (to + i) b) (from - to) 0 ∙ get_or-drop (to + i) b (from - to) 0
          ∙ ap (λ (n : ℕ). get_or b n 0) there ∙ sym (get_or-drop from b i 0)

      step : set now (to + i) (get_or now (from + i) 0) ≡ paste b to (drop from b) (i + 1)
      step =
          let n : suc i ≡ i + 1 = omega arith in
          ap (set now (to + i)) read ∙ ap (λ (s : List ℕ). set s (to + i) (get_or (drop from b) i 0)) g.so_far
          ∙ paste-suc b to (drop from b) i 0 (omega (arith, input.there)) (omega (arith, length-drop from b, input.here)) ∙ ap (paste b to (drop from b)) n

-- the loop of move_up: all but the first `left` pairs have been moved
pub record Up (before now : List ℕ) (from to count left : ℕ) : Type 0 where
  pub as_long : length now ≡ length before
  pub so_far : now ≡ paste before (to + left) (drop (from + left) before) (count - left)
  pub upto : left ≤ count

module _ (b now : List ℕ) (from to count left : ℕ) (input : MoveInput b from to count) (g : Up b now from to count left) where
  abbrev rest : List ℕ
  rest = take (count - left) (drop (from + left) b) ++ drop (to + left + (count - left)) b

  pub up_next : from ≤ to → 1 ≤ left → Up b (set now (to + (left - 1)) (get_or now (from + (left - 1)) 0)) from to count (left - 1)
  up_next h k = record { as_long = length-set now (to + (left - 1)) (get_or now (from + (left - 1)) 0) ∙ g.as_long; so_far = step (left - 1) (omega arith); upto = omega (arith, g.upto) }
    where
      split : now ≡ take (to + left) b ++ rest
      split = g.so_far ∙ append_assoc (take (to + left) b) (take (count - left) (drop (from + left) b)) (drop (to + left + (count - left)) b)

      step : (l : ℕ) → suc l ≡ left → set now (to + l) (get_or now (from + l) 0) ≡ paste b (to + l) (drop (from + l) b) (count - l)
      step l e =
          let size : length (take (to + left) b) ≡ to + left = length-take-le (to + left) b (omega (arith, input.there, g.upto)) in
          let read : get_or now (from + l) 0 ≡ get_or b (from + l) 0 =
          ap (λ (s : List ℕ). get_or s (from + l) 0) split ∙ get_or-append (take (to + left) b) rest 0 (from + l) (omega (arith, size, e))
          ∙ get_or-take (to + left) b (from + l) 0 (omega (arith, e)) in
          let n : suc (to + l) ≡ to + left = omega (arith, e) in
          let first : take (to + left) b ≡ take (to + l) b ++ (get_or b (to + l) 0 ∷ []) =
          ap (λ (i : ℕ). take i b) (sym n) ∙ take-suc b (to + l) 0 (omega (arith, input.there, g.upto, e)) in
          let whole : now ≡ take (to + l) b ++ get_or b (to + l) 0 ∷ rest =
          split ∙ ap (λ (s : List ℕ). s ++ rest) first ∙ append_snoc (take (to + l) b) (get_or b (to + l) 0) rest in
          let m : suc (from + l) ≡ from + left = omega (arith, e) in
          let c : suc (count - left) ≡ count - l = omega (arith, e, g.upto) in
          let d : to + left + (count - left) ≡ to + l + (count - l) = omega (arith, e, g.upto) in
          let moved_part : get_or b (from + l) 0 ∷ take (count - left) (drop (from + left) b) ≡ take (count - l) (drop (from + l) b) =
          ap (λ (i : ℕ). get_or b (from + l) 0 ∷ take (count - left) (drop i b)) (sym m)
          ∙ ap (take (suc (count - left))) (sym (drop-cons b (from + l) 0 (omega (arith, input.here, g.upto, e))))
          ∙ ap (λ (i : ℕ). take i (drop (from + l) b)) c in
          ap (set now (to + l)) read
          ∙ ap (λ (s : List ℕ). set s (to + l) (get_or b (from + l) 0)) whole
          ∙ set_at (take (to + l) b) (get_or b (to + l) 0) rest (get_or b (from + l) 0) (to + l) (length-take-le (to + l) b (omega (arith, input.there, g.upto, e)))
          ∙ sym (append_assoc (take (to + l) b) (get_or b (from + l) 0 ∷ take (count - left) (drop (from + left) b)) (drop (to + left + (count - left)) b))
          ∙ ap (λ (s : List ℕ). take (to + l) b ++ s ++ drop (to + left + (count - left)) b) moved_part
          ∙ ap (λ (i : ℕ). take (to + l) b ++ take (count - l) (drop (from + l) b) ++ drop i b) d

-- replace: first those behind move, then the others are copied over the buffer from there on
pub replaced : (b moving part copied : List ℕ) (used from to : ℕ) (pairs : List ℕ) → ReplaceInput b used from to pairs
    → moving ≡ moved b to (from + length pairs) (used - to) → part ≡ take (length moving - from) (drop from moving) → copied ≡ pairs ++ drop (length pairs) part
    → take from moving ++ (copied ++ drop (length moving - from) (drop from moving)) ≡ spliced b used from to pairs
replaced b moving part copied used from to pairs input e r f =
    let behind : ℕ = from + length pairs in
    let size : length (take behind b) ≡ behind = length-take-le behind b (omega (arith, input.there)) in
    let split = e ∙ append_assoc (take behind b) (take (used - to) (drop to b)) (drop (behind + (used - to)) b) in
    let behind_moved : List ℕ = take (used - to) (drop to b) ++ drop (behind + (used - to)) b in
    let front : take from moving ≡ take from b =
    ap (take from) split ∙ take-append-le from (take behind b) behind_moved (omega (arith, size)) ∙ take-take from behind b (omega arith) in
    let back : drop behind moving ≡ behind_moved = ap (drop behind) split ∙ drop_at (take behind b) behind_moved behind size in
    let none : drop (length moving - from) (drop from moving) ≡ [] = drop_of_length-le (drop from moving) {i = length moving - from} (simp length-drop (omega arith)) in
    let copied_is : copied ≡ pairs ++ behind_moved = f ∙ ap (λ (s : List ℕ). pairs ++ drop (length pairs) s) (r ∙ take_rest moving from)
    ∙ ap (λ (s : List ℕ). pairs ++ s) (drop-drop (length pairs) from moving ∙ back) in
    ap (λ (s : List ℕ). take from moving ++ (copied ++ s)) none
    ∙ ap (λ (s : List ℕ). take from moving ++ s) (append-nil copied ∙ copied_is)
    ∙ ap (λ (s : List ℕ). s ++ (pairs ++ behind_moved)) front
    ∙ sym (append_assoc (take from b) pairs behind_moved)
    ∙ sym (append_assoc (take from b ++ pairs) (take (used - to) (drop to b)) (drop (behind + (used - to)) b))
