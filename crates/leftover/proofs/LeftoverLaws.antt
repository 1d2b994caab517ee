-- LAWS. What is left over, child by child, and the largest count.
use mathlib.Core.Path.{◌≡◌, refl, sym, ap, ◌∙◌}
use mathlib.Core.Logic.{◌⊎◌, inl, inr, ⊎_elim}
use mathlib.Core.List.{List}
use Prim.Native.Nat.{ℕ, ◌+◌, ◌-◌, ◌*◌, ◌/◌, ◌%◌, ◌≤◌, ◌<◌, max}
use native.Mathlib.Omega.{arith}
use native.Mathlib.Decide.{dec_le, ℕ_discrete}
use lib.ListN.{length, get_or, set}
use Rattle.terms.specs.Tree.{IsParent}
use Rattle.rightmost.specs.Ends.{children}
use Rattle.rightmost.proofs.UpLaws.{up_depth}
use Rattle.rightmost.proofs.TestLaws.{child_counts}
use Rattle.index.specs.Index.{ChildInput}
use Rattle.noting.specs.Noting.{Once, AllNoted, ChildPair, ChildrenToNote}
use Rattle.noting.proofs.NoteLaws.{ChildrenTo, children_start, child_pair, children_more, children_not, children_again, PlaceTo, place_start, children_input, place_again}
use Rattle.leftover.specs.Leftover.{Leftover, OwnRoom, LeftoversToNote, Most}

-- THE LARGEST COUNT: after one pair was noted
pub most_after : {x number most most' : ℕ} {counts last counts' last' : List ℕ} → Most counts most → AllNoted (λ y. y ≡ x) number counts last counts' last' → most' ≡ max most (get_or counts' x 0) → Most counts' most'
most_after {x} {number} {most} {most'} {counts} {last} {counts'} {last'} m n l = record { reached = which (dec_le (get_or counts' x 0) most); none_more = λ y. bound y (ℕ_discrete y x) }
  where
    other : (y : ℕ) → ¬ (y ≡ x) → get_or counts' y 0 ≡ get_or counts y 0
    other y k = ⊎_elim (λ z. z.0) (λ z. absurd (k z.0)) (n.some.each y)

    grown : get_or counts x 0 ≤ get_or counts' x 0
    grown = ⊎_elim (λ z. omega (arith, z.0)) (λ z. up (ℕ_discrete (get_or last x 0) number) z.1) (n.some.each x)
      where
        up : Dec (get_or last x 0 ≡ number) → Once number (get_or last x 0) (get_or counts x 0) (get_or last' x 0) (get_or counts' x 0) → get_or counts x 0 ≤ get_or counts' x 0
        up (yes k) z = omega (arith, z.again k)
        up (no k) z = omega (arith, z.more k)

    bound : (y : ℕ) → Dec (y ≡ x) → get_or counts' y 0 ≤ most'
    bound y (yes e) = rw e (omega (arith, l))
    bound y (no k) = omega (arith, other y k, m.none_more y, l)

    old : most' ≡ most → (most' ≡ 0) ⊎ ((y : ℕ) × (get_or counts' y 0 ≡ most'))
    old e = ⊎_elim (λ z. inl (e ∙ z)) (λ z. inr (z.0, there z.0 z.1 (ℕ_discrete z.0 x))) m.reached
      where
        there : (y : ℕ) → get_or counts y 0 ≡ most → Dec (y ≡ x) → get_or counts' y 0 ≡ most'
        there y q (yes k) = let same : get_or counts y 0 ≡ get_or counts x 0 = ap (λ (i : ℕ). get_or counts i 0) k in let now : get_or counts' y 0 ≡ get_or counts' x 0 = ap (λ (i : ℕ). get_or counts' i 0) k in omega (arith, grown, l)
        there y q (no k) = other y k ∙ q ∙ sym e

    which : Dec (get_or counts' x 0 ≤ most) → (most' ≡ 0) ⊎ ((y : ℕ) × (get_or counts' y 0 ≡ most'))
    which (yes k) = old (omega (arith, l))
    which (no k) = inr (x, omega (arith, l))

-- THE CHILDREN of d (`note_children`)
pub record LeftoversTo (fleet sizes own : List ℕ) (d above number : ℕ) (counts₀ last₀ counts last : List ℕ) (most end c : ℕ) : Type 0 where
  pub to : ChildrenTo (Leftover fleet own d) fleet sizes d above number counts₀ last₀ counts last end c
  pub room : OwnRoom fleet own last₀ d above
  pub largest : Most counts most

pub leftovers_start : {fleet sizes own : List ℕ} {d above number most : ℕ} {counts last : List ℕ}
    → ChildrenToNote (Leftover fleet own d) fleet sizes d above number counts last × OwnRoom fleet own last d above × Most counts most
    → LeftoversTo fleet sizes own d above number counts last counts last most (d + 1 + get_or sizes d 0) (d + 1)
leftovers_start (i, r, m) = record { to = children_start i; room = r; largest = m }

module _ {fleet sizes own : List ℕ} {d above number : ℕ} {counts₀ last₀ counts last : List ℕ} {most end c : ℕ} (w : LeftoversTo fleet sizes own d above number counts₀ last₀ counts last most end c) (h : c < end) where
  child : IsParent fleet d c
  child = w.to.walked.at_child h

  pub in_own : get_or fleet c 0 - above < length own
  in_own = w.room.in_own (get_or fleet c 0 - above) c child (omega (arith, child_pair w.to h))

  pub in_last : get_or fleet c 0 - above < length last
  in_last = omega (arith, w.room.in_last (get_or fleet c 0 - above) c child (omega (arith, child_pair w.to h)), w.to.some.all_last)

  label : (get_or fleet c 0 - above) % 1000 ≡ get_or fleet c 0 % 1000
  label = omega (arith, child_pair w.to h, w.room.whole)

  pub leftover_input : ChildInput fleet sizes d (get_or fleet c 0) × (0 < children fleet d (get_or fleet c 0 % 1000))
  leftover_input = (record { is_fleet = w.to.input.is_fleet; has_sizes = w.to.input.has_sizes; inside = w.to.input.inside; one_deeper = child.one_deeper }, child_counts (child, refl))

  pub is_leftover : get_or own (get_or fleet c 0 - above) 0 < children fleet d (get_or fleet c 0 % 1000) → Leftover fleet own d (get_or fleet c 0 - above)
  is_leftover l = record { more = rw label l }

  pub leftovers_more : {most' : ℕ} {counts' last' : List ℕ} → get_or own (get_or fleet c 0 - above) 0 < children fleet d (get_or fleet c 0 % 1000)
      → AllNoted (λ y. y ≡ get_or fleet c 0 - above) number counts last counts' last' → most' ≡ max most (get_or counts' (get_or fleet c 0 - above) 0)
      → LeftoversTo fleet sizes own d above number counts₀ last₀ counts' last' most' end (c + 1 + get_or sizes c 0)
  leftovers_more l n g = record { to = children_more w.to h (is_leftover l) n; room = w.room; largest = most_after w.largest n g }

  pub leftovers_again : get_or last (get_or fleet c 0 - above) 0 ≡ number → LeftoversTo fleet sizes own d above number counts₀ last₀ counts last most end (c + 1 + get_or sizes c 0)
  leftovers_again l = record { to = children_again w.to h l; room = w.room; largest = w.largest }

  pub leftovers_not : ¬ (get_or own (get_or fleet c 0 - above) 0 < children fleet d (get_or fleet c 0 % 1000))
      → LeftoversTo fleet sizes own d above number counts₀ last₀ counts last most end (c + 1 + get_or sizes c 0)
  leftovers_not l = record { to = children_not w.to h (λ q. l (rw label at q.more)); room = w.room; largest = w.largest }

-- ONE PLACE (`note_place`): the levels below this one are done
pub record LevelsTo (fleet parents sizes own : List ℕ) (place depth number : ℕ) (seen₀ counts₀ last₀ seen counts last : List ℕ) (most d level : ℕ) : Type 0 where
  pub to : PlaceTo (λ level. Leftover fleet own) fleet parents sizes place depth number seen₀ counts₀ last₀ seen counts last d level
  pub room : (depth + 2) * 1000 ≤ length own
  pub room_last : (depth + 2) * 1000 ≤ length last₀
  pub largest : Most counts most

pub levels_start : {fleet parents sizes own : List ℕ} {place depth number most : ℕ} {seen counts last : List ℕ} → LeftoversToNote fleet parents sizes own place depth number seen counts last × Most counts most
    → LevelsTo fleet parents sizes own place depth number seen counts last seen counts last most place depth
levels_start (i, m) = record { to = place_start i.at; room = i.room; room_last = i.room_last; largest = m }

module _ {fleet parents sizes own : List ℕ} {place depth number : ℕ} {seen₀ counts₀ last₀ seen counts last : List ℕ} {most d level : ℕ}
    (w : LevelsTo fleet parents sizes own place depth number seen₀ counts₀ last₀ seen counts last most d level) where
  pub children_to_note : ChildrenToNote (Leftover fleet own d) fleet sizes d ((get_or fleet place 0 / 1000 - depth) * 1000) number counts last × OwnRoom fleet own last d ((get_or fleet place 0 / 1000 - depth) * 1000) × Most counts most
  children_to_note = (children_input w.to, record { levels = get_or fleet place 0 / 1000 - depth; whole = refl; in_own = room (length own) w.room; in_last = room (length last) (omega (arith, w.room_last, w.to.some.all_last)) }, w.largest)
    where
      room : (size : ℕ) → (depth + 2) * 1000 ≤ size → (x c : ℕ) → IsParent fleet d c → get_or fleet c 0 ≡ x + (get_or fleet place 0 / 1000 - depth) * 1000 → x < size
      room size l x c p e = omega (arith, l, p.one_deeper, up_depth w.to.up, w.to.to_depth, w.to.input.no_deeper)

  pub levels_again : {most' : ℕ} {counts' last' : List ℕ} → AllNoted (ChildPair (Leftover fleet own d) fleet d ((get_or fleet place 0 / 1000 - depth) * 1000)) number counts last counts' last' → Most counts' most' → ¬ (level ≡ 0)
      → LevelsTo fleet parents sizes own place depth number seen₀ counts₀ last₀ (set seen level d) counts' last' most' (get_or parents d 0) (level - 1)
  levels_again n m h = record { to = place_again w.to n h; room = w.room; room_last = w.room_last; largest = m }
