-- LAWS of augmenting paths, over any E and L.
use mathlib.Core.Path.{◌≡◌, refl, sym, ap, ◌∙◌}
use mathlib.Core.Bool.{Bool, true, false, true≢false}
use mathlib.Core.List.{List, [], ◌∷◌}
use Prim.Native.Nat.{ℕ, zero, suc, ◌≤◌, ◌<◌}
use native.Mathlib.Omega.{arith}
use native.Mathlib.Decide.{dec_lt, ℕ_discrete}
use lib.ListN.{length, get_or, set, replicate, length-set}
use lib.Seq.{get_or-set_same, get_or-set_other}
use Rattle.terms.specs.Assignment.{HeldByVisited, unvisited, Covering, PartialMatching, Augmented, Exhausted}
use Rattle.terms.proofs.Pigeonhole.{pigeonhole}

pub both_ways : {b : Bool} → b ≡ true → b ≡ false → ⊥
both_ways p q = true≢false (sym p ∙ q)

pub past : {A : Type 0} (l : List A) (i : ℕ) (d : A) → length l ≤ i → get_or l i d ≡ d
past [] i d h = refl
past (y ∷ l) zero d h = absurd (omega arith)
past (y ∷ l) (suc i) d h = past l i d (omega arith)

pub all_same : {A : Type 0} (n i : ℕ) (d : A) → get_or (replicate n d) i d ≡ d
all_same zero i d = refl
all_same (suc n) zero d = refl
all_same (suc n) (suc i) d = all_same n i d

in_range : (l : List ℕ) (i : ℕ) → ¬ (get_or l i 0 ≡ 0) → i < length l
in_range l i h = go (dec_lt i (length l))
  where
    go : Dec (i < length l) → i < length l
    go (yes b) = b
    go (no b) = absurd (h (past l i 0 (omega arith)))

pub unvisited_set : (s : List Bool) (u : ℕ) → u < length s → get_or s u false ≡ false → unvisited (set s u true) < unvisited s
unvisited_set [] u h e = absurd (omega arith)
unvisited_set (true ∷ s) zero h e = absurd (both_ways refl e)
unvisited_set (false ∷ s) zero h e = omega arith
unvisited_set (true ∷ s) (suc u) h e = omega (arith, unvisited_set s u (omega arith) e)
unvisited_set (false ∷ s) (suc u) h e = omega (arith, unvisited_set s u (omega arith) e)

visited? : (b : Bool) → Dec (b ≡ true)
visited? true = yes refl
visited? false = no (λ e. both_ways e refl)

-- Those of L from x on have a place, the others have none.
pub record MatchedFrom (E : ℕ → ℕ → Type 0) (L : ℕ → Type 0) (x : ℕ) (places : List ℕ) : Type 0 where
  pub good : PartialMatching E L places
  pub done : (y : ℕ) → L y → x ≤ y → ¬ (get_or places y 0 ≡ 0)
  pub later : (y : ℕ) → y < x → get_or places y 0 ≡ 0

module _ (E : ℕ → ℕ → Type 0) (L : ℕ → Type 0) where
  -- u gets r, which nobody holds
  pub assign : (u r : ℕ) (places : List ℕ) → L u → E u r → u < length places → PartialMatching E L places → ((x : ℕ) → ¬ (get_or places x 0 ≡ r)) → PartialMatching E L (set places u r)
  assign u r places l e b g empty = record { allowed = λ x h. rgt x h (ℕ_discrete x u); apart = λ x y h q. apt x y h q (ℕ_discrete x u) (ℕ_discrete y u) }
    where
      same : get_or (set places u r) u 0 ≡ r
      same = get_or-set_same places u r 0 b

      other : (x : ℕ) → ¬ (x ≡ u) → get_or (set places u r) x 0 ≡ get_or places x 0
      other x ne = get_or-set_other places u x r 0 ne

      rgt : (x : ℕ) → ¬ (get_or (set places u r) x 0 ≡ 0) → Dec (x ≡ u) → L x × E x (get_or (set places u r) x 0)
      rgt x h (yes z) = rw (z, same) (l, e)
      rgt x h (no z) = rw (other x z) (g.allowed x (rw (other x z) at h))

      apt : (x y : ℕ) → ¬ (get_or (set places u r) x 0 ≡ 0) → get_or (set places u r) x 0 ≡ get_or (set places u r) y 0 → Dec (x ≡ u) → Dec (y ≡ u) → x ≡ y
      apt x y h q (yes a) (yes b) = a ∙ sym b
      apt x y h q (yes a) (no b) = absurd (empty y (sym (other y b) ∙ sym q ∙ ap (λ (n : ℕ). get_or (set places u r) n 0) a ∙ same))
      apt x y h q (no a) (yes b) = absurd (empty x (sym (other x a) ∙ q ∙ ap (λ (n : ℕ). get_or (set places u r) n 0) b ∙ same))
      apt x y h q (no a) (no b) = g.apart x y (rw (other x a) at h) (sym (other x a) ∙ q ∙ other y b)

  -- u gives up its place
  pub release : (u : ℕ) (places : List ℕ) → u < length places → PartialMatching E L places → PartialMatching E L (set places u 0)
  release u places b g = record { allowed = λ x h. let z = ne x h in rw (other x z) (g.allowed x (rw (other x z) at h)); apart = λ x y h q. apt x y h q (ℕ_discrete y u) }
    where
      same : get_or (set places u 0) u 0 ≡ 0
      same = get_or-set_same places u 0 0 b

      other : (x : ℕ) → ¬ (x ≡ u) → get_or (set places u 0) x 0 ≡ get_or places x 0
      other x ne = get_or-set_other places u x 0 0 ne

      ne : (x : ℕ) → ¬ (get_or (set places u 0) x 0 ≡ 0) → ¬ (x ≡ u)
      ne x h q = h (rw q same)

      apt : (x y : ℕ) → ¬ (get_or (set places u 0) x 0 ≡ 0) → get_or (set places u 0) x 0 ≡ get_or (set places u 0) y 0 → Dec (y ≡ u) → x ≡ y
      apt x y h q (yes a) = absurd (h (q ∙ rw a same))
      apt x y h q (no a) = g.apart x y (rw (other x (ne x h)) at h) (sym (other x (ne x h)) ∙ q ∙ other y a)

  -- u gets r, which nobody else holds; the others are as in places₁
  put : (u r : ℕ) (visited : List Bool) (places places₁ : List ℕ) → L u → E u r → ¬ (r ≡ 0) → u < length places₁ → ¬ (get_or visited u false ≡ true) → length places₁ ≡ length places → PartialMatching E L places₁
      → ((x : ℕ) → ¬ (get_or places₁ x 0 ≡ r)) → get_or places₁ u 0 ≡ get_or places u 0 → ¬ (get_or places u 0 ≡ r)
      → ((x : ℕ) → get_or visited x false ≡ true → get_or places₁ x 0 ≡ get_or places x 0)
      → ((x : ℕ) → ¬ (x ≡ u) → get_or places x 0 ≡ 0 → get_or places₁ x 0 ≡ 0)
      → ((x : ℕ) → ¬ (get_or places x 0 ≡ 0) → ¬ (get_or places₁ x 0 ≡ 0))
      → Augmented E L u visited places (set places₁ u r)
  put u r visited places places₁ l e r0 b ns len g empty own old keep stays_free stays_matched = record {
    long = length-set places₁ u r ∙ len;
    good = assign u r places₁ l e b g empty;
    keep = λ x s. let ne : ¬ (x ≡ u) = λ z. ns (rw z at s) in other x ne ∙ keep x s;
    matched = λ z. r0 (sym same ∙ z);
    vacated = λ x h q. lft x h q (ℕ_discrete x u);
    stays_free = λ x ne z. other x ne ∙ stays_free x ne z;
    stays_matched = λ x h z. sty x h z (ℕ_discrete x u);
  }
    where
      same : get_or (set places₁ u r) u 0 ≡ r
      same = get_or-set_same places₁ u r 0 b

      other : (x : ℕ) → ¬ (x ≡ u) → get_or (set places₁ u r) x 0 ≡ get_or places₁ x 0
      other x ne = get_or-set_other places₁ u x r 0 ne

      lft : (x : ℕ) → ¬ (get_or places u 0 ≡ 0) → get_or (set places₁ u r) x 0 ≡ get_or places u 0 → Dec (x ≡ u) → ⊥
      lft x h q (yes z) = old (sym q ∙ ap (λ (n : ℕ). get_or (set places₁ u r) n 0) z ∙ same)
      lft x h q (no z) =
          let k : get_or places₁ x 0 ≡ get_or places₁ u 0 = sym (other x z) ∙ q ∙ sym own in
          z (g.apart x u (λ w. h (sym own ∙ sym k ∙ w)) k)

      sty : (x : ℕ) → ¬ (get_or places x 0 ≡ 0) → get_or (set places₁ u r) x 0 ≡ 0 → Dec (x ≡ u) → ⊥
      sty x h q (yes z) = r0 (sym same ∙ ap (λ (n : ℕ). get_or (set places₁ u r) n 0) (sym z) ∙ q)
      sty x h q (no z) = stays_matched x h (sym (other x z) ∙ q)

  -- a free place
  pub augmented_free : (u r : ℕ) (visited : List Bool) (places : List ℕ) → L u → E u r → ¬ (r ≡ 0) → u < length places → ¬ (get_or visited u false ≡ true) → PartialMatching E L places
      → ((x : ℕ) → ¬ (get_or places x 0 ≡ r)) → Augmented E L u visited places (set places u r)
  augmented_free u r visited places l e r0 b ns g empty = put u r visited places places l e r0 b ns refl g empty refl (empty u) (λ x s. refl) (λ x ne z. z) (λ x h. h)

  -- the place of o, who found another
  pub augmented_via : (u o r : ℕ) (visited s₁ : List Bool) (places places₁ : List ℕ) → L u → E u r → ¬ (r ≡ 0) → u < length places₁ → ¬ (get_or visited u false ≡ true) → PartialMatching E L places
      → ((x : ℕ) → get_or visited x false ≡ true → get_or s₁ x false ≡ true) → get_or s₁ u false ≡ true → get_or s₁ o false ≡ false → get_or places o 0 ≡ r
      → Augmented E L o s₁ places places₁ → Augmented E L u visited places (set places₁ u r)
  augmented_via u o r visited s₁ places places₁ l e r0 b ns g mono mine unvisited_o matched w =
      put u r visited places places₁ l e r0 b ns w.long w.good (λ x q. w.vacated x o0 (q ∙ sym matched)) (w.keep u mine) old (λ x s. w.keep x (mono x s)) stays_free w.stays_matched
    where
      o0 : ¬ (get_or places o 0 ≡ 0)
      o0 z = r0 (sym matched ∙ z)

      old : ¬ (get_or places u 0 ≡ r)
      old q = let k : o ≡ u = g.apart o u o0 (matched ∙ sym q) in both_ways mine (rw k at unvisited_o)

      stays_free : (x : ℕ) → ¬ (x ≡ u) → get_or places x 0 ≡ 0 → get_or places₁ x 0 ≡ 0
      stays_free x ne z = let k : ¬ (x ≡ o) = λ q. o0 (rw q at z) in w.stays_free x k z

  pub exhausted_none : (u n : ℕ) (visited : List Bool) (places : List ℕ) → get_or visited u false ≡ true → ((r : ℕ) → r < n → E u r → ⊥) → Exhausted E L u n visited visited places
  exhausted_none u n visited places h none = record { here = h; grow = λ x s. s; closed = λ r b e. absurd (none r b e); new = λ x s n ne. absurd (n s) }

  -- u's own mark does not matter
  pub exhausted_unmark : {u n : ℕ} {visited s₁ : List Bool} {places : List ℕ} → u < length visited → Exhausted E L u n (set visited u true) s₁ places → Exhausted E L u n visited s₁ places
  exhausted_unmark {u} {n} {visited} {s₁} {places} b f = record {
    here = f.here;
    grow = λ x s. up x s (ℕ_discrete x u);
    closed = f.closed;
    new = λ x s ns ne. f.new x s (λ z. ns (sym (get_or-set_other visited u x true false ne) ∙ z)) ne;
  }
    where
      up : (x : ℕ) → get_or visited x false ≡ true → Dec (x ≡ u) → get_or s₁ x false ≡ true
      up x s (yes z) = rw z f.here
      up x s (no z) = f.grow x (get_or-set_other visited u x true false z ∙ s)

  pub exhausted_skip : {u n : ℕ} {visited s₁ : List Bool} {places : List ℕ} → Exhausted E L u n visited s₁ places → (E u n → HeldByVisited s₁ places n) → Exhausted E L u (suc n) visited s₁ places
  exhausted_skip {u} {n} {visited} {s₁} {places} f h = record { here = f.here; grow = f.grow; closed = λ r b e. go r b e (ℕ_discrete r n); new = f.new }
    where
      go : (r : ℕ) → r < suc n → E u r → Dec (r ≡ n) → HeldByVisited s₁ places r
      go r b e (yes q) = rw q (h (rw q at e))
      go r b e (no q) = f.closed r (omega arith) e

  pub exhausted_through : {u n o m : ℕ} {visited s₁ s₂ : List Bool} {places : List ℕ} → ((x r : ℕ) → E x r → r < m) → ¬ (n ≡ 0) → Exhausted E L u n visited s₁ places → get_or places o 0 ≡ n → Exhausted E L o m s₁ s₂ places → Exhausted E L u (suc n) visited s₂ places
  exhausted_through {u} {n} {o} {m} {visited} {s₁} {s₂} {places} top n0 f matched g = record {
    here = g.grow u f.here;
    grow = λ x s. g.grow x (f.grow x s);
    closed = λ r b e. go r b e (ℕ_discrete r n);
    new = λ x s ns ne. fresh x s ns ne (visited? (get_or s₁ x false)) (ℕ_discrete x o);
  }
    where
      more : {r : ℕ} → HeldByVisited s₁ places r → HeldByVisited s₂ places r
      more h = record { holder = h.holder; matched = h.matched; was_visited = g.grow h.holder h.was_visited }

      go : (r : ℕ) → r < suc n → E u r → Dec (r ≡ n) → HeldByVisited s₂ places r
      go r b e (yes q) = record { holder = o; matched = matched ∙ sym q; was_visited = g.here }
      go r b e (no q) = more (f.closed r (omega arith) e)

      fresh : (x : ℕ) → get_or s₂ x false ≡ true → ¬ (get_or visited x false ≡ true) → ¬ (x ≡ u) → Dec (get_or s₁ x false ≡ true) → Dec (x ≡ o) → ¬ (get_or places x 0 ≡ 0) × ((r : ℕ) → E x r → HeldByVisited s₂ places r)
      fresh x s ns ne (yes a) _ = let z = f.new x a ns ne in (z.0, λ r e. more (z.1 r e))
      fresh x s ns ne (no a) (yes b) = ((λ q. n0 (sym matched ∙ ap (λ (k : ℕ). get_or places k 0) (sym b) ∙ q)), λ r e. let e' : E o r = rw b at e in g.closed r (top o r e') e')
      fresh x s ns ne (no a) (no b) = g.new x s a b

  -- without an augmenting path: the newly visited have no places for all, but those of u and of the ones visited before
  pub no_covering_around : (m u k : ℕ) (visited s₁ : List Bool) (places : List ℕ) (E' : ℕ → ℕ → Type 0) (L' : ℕ → Type 0) → length places ≡ suc k → u < suc k → L u → ¬ (get_or visited u false ≡ true) → PartialMatching E L places
      → ((y r : ℕ) → E' y r → E y r × (r < m) × ¬ (r ≡ 0) × ¬ (get_or places u 0 ≡ r) × ((f : ℕ) → get_or visited f false ≡ true → ¬ (get_or places f 0 ≡ r)))
      → ((y : ℕ) → L y → ¬ (get_or visited y false ≡ true) → L' y) → Exhausted E L u m visited s₁ places → Covering E' L' m → ⊥
  no_covering_around m u k visited s₁ places E' L' long b l nu g bar lefts f s = pigeonhole k h hbelow hinj
    where
      known : (x : ℕ) → get_or s₁ x false ≡ true → ¬ (get_or visited x false ≡ true) → L' x × HeldByVisited s₁ places (s.to x)
      known x a n = go (ℕ_discrete x u)
        where
          go : Dec (x ≡ u) → L' x × HeldByVisited s₁ places (s.to x)
          go (yes q) =
              let lu : L' u = lefts u l nu in
              let z = bar u (s.to u) (s.edge u lu) in
              rw q (lu, f.closed (s.to u) z.1 z.0)
          go (no q) =
              let z = f.new x a n q in
              let lx : L' x = lefts x (g.allowed x z.0).0 n in
              (lx, z.1 (s.to x) (bar x (s.to x) (s.edge x lx)).0)

      -- whom x's place belongs to
      whose : (x : ℕ) → Dec (get_or s₁ x false ≡ true) → Dec (get_or visited x false ≡ true) → ℕ
      whose x (yes a) (no n) = (known x a n).1.holder
      whose x (yes a) (yes n) = x
      whose x (no a) _ = x

      barred : (x : ℕ) (a : get_or s₁ x false ≡ true) (n : ¬ (get_or visited x false ≡ true))
          → E x (s.to x) × (s.to x < m) × ¬ (s.to x ≡ 0) × ¬ (get_or places u 0 ≡ s.to x) × ((y : ℕ) → get_or visited y false ≡ true → ¬ (get_or places y 0 ≡ s.to x))
      barred x a n = bar x (s.to x) (s.edge x (known x a n).0)

      ¬zero : (x : ℕ) (a : get_or s₁ x false ≡ true) (n : ¬ (get_or visited x false ≡ true)) → ¬ (get_or places (known x a n).1.holder 0 ≡ 0)
      ¬zero x a n q = (barred x a n).2 (sym (known x a n).1.matched ∙ q)

      notu : (x : ℕ) (d : Dec (get_or s₁ x false ≡ true)) (c : Dec (get_or visited x false ≡ true)) → ¬ (whose x d c ≡ u)
      notu x (yes a) (no n) q = (barred x a n).3 (ap (λ (y : ℕ). get_or places y 0) (sym q) ∙ (known x a n).1.matched)
      notu x (yes a) (yes n) q = nu (rw q at n)
      notu x (no a) (yes c) q = a (rw q f.here)
      notu x (no a) (no c) q = a (rw q f.here)

      wbelow : (x : ℕ) (d : Dec (get_or s₁ x false ≡ true)) (c : Dec (get_or visited x false ≡ true)) → x ≤ k → whose x d c ≤ k
      wbelow x (yes a) (no n) h = omega (arith, in_range places (known x a n).1.holder (¬zero x a n))
      wbelow x (yes a) (yes n) h = h
      wbelow x (no a) (yes c) h = h
      wbelow x (no a) (no c) h = h

      -- the holder of a newly visited one's place is newly visited
      apart_from : (x y : ℕ) (a : get_or s₁ x false ≡ true) (n : ¬ (get_or visited x false ≡ true)) → (known x a n).1.holder ≡ y → (get_or s₁ y false ≡ true) × ¬ (get_or visited y false ≡ true)
      apart_from x y a n q = let z = (known x a n).1 in (rw q at z.was_visited, λ w. (barred x a n).4 y w (ap (λ (j : ℕ). get_or places j 0) (sym q) ∙ z.matched))

      winj : (x y : ℕ) (d : Dec (get_or s₁ x false ≡ true)) (c : Dec (get_or visited x false ≡ true)) (d' : Dec (get_or s₁ y false ≡ true)) (c' : Dec (get_or visited y false ≡ true)) → whose x d c ≡ whose y d' c' → x ≡ y
      winj x y (yes a) (no n) (yes a') (no n') q =
          let zx = known x a n in
          let zy = known y a' n' in
          s.inj x y zx.0 zy.0 (sym zx.1.matched ∙ ap (λ (j : ℕ). get_or places j 0) q ∙ zy.1.matched)
      winj x y (yes a) (no n) (yes a') (yes n') q = absurd ((apart_from x y a n q).1 n')
      winj x y (yes a) (no n) (no a') (yes c') q = absurd (a' (apart_from x y a n q).0)
      winj x y (yes a) (no n) (no a') (no c') q = absurd (a' (apart_from x y a n q).0)
      winj x y (yes a) (yes n) (yes a') (no n') q = absurd ((apart_from y x a' n' (sym q)).1 n)
      winj x y (yes a) (yes n) (yes a') (yes n') q = q
      winj x y (yes a) (yes n) (no a') (yes c') q = q
      winj x y (yes a) (yes n) (no a') (no c') q = q
      winj x y (no a) (yes c) (yes a') (no n') q = absurd (a (apart_from y x a' n' (sym q)).0)
      winj x y (no a) (yes c) (yes a') (yes n') q = q
      winj x y (no a) (yes c) (no a') (yes c') q = q
      winj x y (no a) (yes c) (no a') (no c') q = q
      winj x y (no a) (no c) (yes a') (no n') q = absurd (a (apart_from y x a' n' (sym q)).0)
      winj x y (no a) (no c) (yes a') (yes n') q = q
      winj x y (no a) (no c) (no a') (yes c') q = q
      winj x y (no a) (no c) (no a') (no c') q = q

      -- nobody is u: let k be u instead
      turn : (n : ℕ) → Dec (n ≡ k) → ℕ
      turn n (yes _) = u
      turn n (no _) = n

      w : ℕ → ℕ
      w x = whose x (visited? (get_or s₁ x false)) (visited? (get_or visited x false))

      h : ℕ → ℕ
      h x = turn (w x) (ℕ_discrete (w x) k)

      hbelow : (i : ℕ) → i ≤ k → h i < k
      hbelow i c = go (ℕ_discrete (w i) k)
        where
          go : (d : Dec (w i ≡ k)) → turn (w i) d < k
          go (yes q) = let ne = notu i (visited? (get_or s₁ i false)) (visited? (get_or visited i false)) in let nk : ¬ (u ≡ k) = λ z. ne (q ∙ sym z) in omega arith
          go (no q) = omega (arith, wbelow i (visited? (get_or s₁ i false)) (visited? (get_or visited i false)) c)

      hinj : (i j : ℕ) → i ≤ k → j ≤ k → h i ≡ h j → i ≡ j
      hinj i j a c = go (ℕ_discrete (w i) k) (ℕ_discrete (w j) k)
        where
          same : w i ≡ w j → i ≡ j
          same = winj i j (visited? (get_or s₁ i false)) (visited? (get_or visited i false)) (visited? (get_or s₁ j false)) (visited? (get_or visited j false))

          go : (d : Dec (w i ≡ k)) (d' : Dec (w j ≡ k)) → turn (w i) d ≡ turn (w j) d' → i ≡ j
          go (yes p) (yes q) e = same (p ∙ sym q)
          go (yes p) (no q) e = absurd (notu j (visited? (get_or s₁ j false)) (visited? (get_or visited j false)) (sym e))
          go (no p) (yes q) e = absurd (notu i (visited? (get_or s₁ i false)) (visited? (get_or visited i false)) e)
          go (no p) (no q) e = same e

  -- with none visited before: there are no places for all
  pub no_covering : (m u k : ℕ) (visited s₁ : List Bool) (places : List ℕ) → length places ≡ suc k → u < suc k → L u → get_or places u 0 ≡ 0 → PartialMatching E L places → ((x : ℕ) → get_or visited x false ≡ false)
      → ((x r : ℕ) → E x r → (r < m) × ¬ (r ≡ 0)) → Exhausted E L u m visited s₁ places → Covering E L m → ⊥
  no_covering m u k visited s₁ places long b l u0 g fresh top =
      no_covering_around m u k visited s₁ places E L long b l (λ z. both_ways z (fresh u)) g
      (λ y r e. let z = top y r e in (e, z.0, z.1, (λ q. z.1 (sym q ∙ u0)), λ f w. absurd (both_ways w (fresh f))))
      (λ y ly _. ly)

  pub matched_none : (x : ℕ) (places : List ℕ) → ((y : ℕ) → get_or places y 0 ≡ 0) → ((y : ℕ) → L y → x ≤ y → ⊥) → MatchedFrom E L x places
  matched_none x places zeros none = record { good = record { allowed = λ y h. absurd (h (zeros y)); apart = λ y z h. absurd (h (zeros y)) }; done = λ y l b. absurd (none y l b); later = λ y b. zeros y }

  pub matched_skip : {x : ℕ} {places : List ℕ} → MatchedFrom E L (suc x) places → ¬ (L x) → MatchedFrom E L x places
  matched_skip {x} {places} s n = record { good = s.good; done = λ y l b. old y l b (ℕ_discrete y x); later = λ y b. s.later y (omega arith) }
    where
      old : (y : ℕ) → L y → x ≤ y → Dec (y ≡ x) → ¬ (get_or places y 0 ≡ 0)
      old y l b (yes q) = absurd (n (rw q at l))
      old y l b (no q) = s.done y l (omega arith)

  pub matched_next : {x : ℕ} {visited : List Bool} {places places₁ : List ℕ} → MatchedFrom E L (suc x) places → Augmented E L x visited places places₁ → MatchedFrom E L x places₁
  matched_next {x} {visited} {places} {places₁} s g = record { good = g.good; done = λ y l b. old y l b (ℕ_discrete y x); later = λ y b. let ne : ¬ (y ≡ x) = λ q. omega arith in g.stays_free y ne (s.later y (omega arith)) }
    where
      old : (y : ℕ) → L y → x ≤ y → Dec (y ≡ x) → ¬ (get_or places₁ y 0 ≡ 0)
      old y l b (yes q) = rw q g.matched
      old y l b (no q) = g.stays_matched y (s.done y l (omega arith))

  pub matched_covering : (m x : ℕ) (places : List ℕ) → MatchedFrom E L x places → ((y : ℕ) → L y → x ≤ y) → ((y r : ℕ) → E y r → r < m) → Covering E L m
  matched_covering m x places s all top = record {
    to = λ y. get_or places y 0;
    inside = λ y l. top y (get_or places y 0) (edge y l);
    edge = edge;
    inj = λ y z l k q. s.good.apart y z (s.done y l (all y l)) q;
  }
    where
      edge : (y : ℕ) → L y → E y (get_or places y 0)
      edge y l = (s.good.allowed y (s.done y l (all y l))).1
