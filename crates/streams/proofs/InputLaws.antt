-- LAWS. What the answer of a read tells; how many bytes an input may count.
use Rattle.std.proofs.Common.{◌≡◌, ℕ, zero, suc, ◌+◌, ◌-◌, ◌<◌, ◌≤◌, List, ◌++◌, length, take, drop, Option, Some, None, Result, Ok, Err, arith, refl, sym, ap, ◌∙◌, subst, le_refl, length-append, length-take-le, length-drop}
use Rattle.std.proofs.lemmas.List.{take-append-le}
use Rattle.std.proofs.lemmas.Slice.{take-put_mid_below}
use Rattle.std.proofs.Math.Seq.{take-append-add}
use Rattle.std.proofs.KnownBytes.{Consumes-trans, Consumes-kept}
use Rattle.std.specs.Io.{ReadsAtMost}
use Rattle.std.specs.Io.KnownBytes.{Consumes, ReadConsumes}
use Rattle.std.specs.declared.io.Error.{Error}
use borrow.Rule.Slice.PartMut.{put_mid, post_of}
use Rattle.streams.specs.Input.{told_by, Within, TakenFrom}

-- what a read tells
abbrev pub Told : Type 0
Told = Result (Option ℕ) Error

-- a read that tells of bytes put down at least one
pub bytes_told : (answer : Result ℕ Error) {told : Told} {count : Option ℕ} {more : ℕ} → told ≡ told_by answer → told ≡ Ok count → count ≡ Some more → (answer ≡ Ok more) × (1 ≤ more)
unfolding told_by
bytes_told (Ok zero) t e s = absurd cc
bytes_told (Ok (suc n)) {more = more} t e s = let z : suc n ≡ more = cc in (cc, omega (arith, z))
bytes_told (Err _) t e s = absurd cc

pub end_told : (answer : Result ℕ Error) {told : Told} {count : Option ℕ} → told ≡ told_by answer → told ≡ Ok count → count ≡ None → answer ≡ Ok 0
unfolding told_by
end_told (Ok zero) t e s = refl
end_told (Ok (suc n)) t e s = absurd cc
end_told (Err _) t e s = absurd cc

pub failure_told : (answer : Result ℕ Error) {told : Told} {x : Error} → told ≡ told_by answer → told ≡ Err x → answer ≡ Err x
unfolding told_by
failure_told (Ok zero) t e = absurd cc
failure_told (Ok (suc n)) t e = absurd cc
failure_told (Err y) t e = cc

abbrev got_ok : ℕ → Result ℕ Error
got_ok n = Ok n

-- a read into what is left of a buffer, behind `size` bytes that were taken from the reader
module _ (buffer put : List ℕ) (size : ℕ) (within : size ≤ length buffer) (room : length put ≡ length buffer - size) where
  -- the buffer after it
  abbrev after_put : List ℕ
  after_put = put_mid size (length buffer - size) buffer put

  pub put_length : length after_put ≡ length buffer
  put_length =
      let behind = post_of size (length buffer - size) buffer in
      let whole : length after_put ≡ length (take size buffer) + length (put ++ behind) = length-append (take size buffer) (put ++ behind) in
      let none : length behind ≡ length (drop size buffer) - (length buffer - size) = length-drop (length buffer - size) (drop size buffer) in
      omega (arith, whole, none, length-drop size buffer, length-append put behind, length-take-le size buffer within, room, within)

  put_front : take size after_put ≡ take size buffer
  put_front = take-put_mid_below size (length buffer - size) buffer put size (le_refl size) within

  put_taken : (n : ℕ) → n ≤ length put → take (size + n) after_put ≡ take size buffer ++ take n put
  put_taken n h =
      let behind = put ++ post_of size (length buffer - size) buffer in
      ap (λ (m : ℕ). take (m + n) after_put) (sym (length-take-le size buffer within)) ∙ take-append-add (take size buffer) behind n
      ∙ ap (λ (s : List ℕ). take size buffer ++ s) (take-append-le n put (post_of size (length buffer - size) buffer) h)

  module _ (before mid after : Option (List ℕ)) (taken : Consumes before mid (take size buffer)) (answer : Result ℕ Error) (bound : ReadsAtMost answer put) (bytes : ReadConsumes mid after answer put) where
    pub more_taken : {more : ℕ} → answer ≡ Ok more → (size + more ≤ length after_put) × Consumes before after (take (size + more) after_put)
    more_taken {more} e =
        let b : ReadsAtMost (got_ok more) put = subst (λ (r : Result ℕ Error). ReadsAtMost r put) e bound in
        let t : ReadConsumes mid after (got_ok more) put = subst (λ (r : Result ℕ Error). ReadConsumes mid after r put) e bytes in
        (omega (arith, b.0, put_length, room, within), subst (Consumes before after) (sym (put_taken more b.0)) (Consumes-trans before mid after (take size buffer) (take more put) taken t.0))

    pub end_taken : answer ≡ Ok 0 → size < length buffer → TakenFrom before after after_put (Ok size)
    unfolding TakenFrom
    end_taken e h =
        let t : ReadConsumes mid after (got_ok 0) put = subst (λ (r : Result ℕ Error). ReadConsumes mid after r put) e bytes in
        let m = more_taken e in
        let z : size + 0 ≡ size = omega arith in
        (subst (λ (n : ℕ). Consumes before after (take n after_put)) z m.1, λ _. t.1 refl (omega (arith, room, h)))

    pub failed_taken : (x : Error) → answer ≡ Err x → TakenFrom before after after_put (Err x)
    unfolding TakenFrom
    failed_taken x e =
        (take size buffer, Consumes-kept before mid after (take size buffer) taken (subst (λ (r : Result ℕ Error). ReadConsumes mid after r put) e bytes))

pub full_taken : (buffer : List ℕ) (size : ℕ) (before after : Option (List ℕ)) → length buffer ≤ size → Consumes before after (take size buffer) → TakenFrom before after buffer (Ok size)
unfolding TakenFrom
full_taken buffer size before after h taken = (taken, λ k. absurd (omega (arith, h, k)))

pub read_within : (size most : ℕ) → size ≤ most → Within (Ok size) most
unfolding Within
read_within size most h = h

pub failed_within : (x : Error) (most : ℕ) → Within (Err x) most
unfolding Within
failed_within x most = tt

-- for the programs: what is counted lies within the buffer
pub size_within : {r : Result ℕ Error} {size : ℕ} (most : ℕ) → r ≡ Ok size → Within r most → size ≤ most
unfolding Within
size_within {r} {size} most e h = subst (λ (i : Result ℕ Error). Within i most) e h
