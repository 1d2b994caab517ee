-- LAWS. Which children of d serve the new node: those beside which b's inner children with its label can be seated. Leaves find a place where
-- there are enough, so only the inner ones are matched: a child of d serves if nobody holds it, or if its holder can be moved.
use mathlib.Core.Path.{◌≡◌, sym, ◌∙◌, subst}
use mathlib.Core.Logic.{◌↔◌, ◌⊎◌, inl, inr, ⊎_elim}
use mathlib.Core.Bool.{Bool, false}
use mathlib.Core.List.{List}
use Prim.Native.Nat.{ℕ, zero, suc, ◌<◌}
use native.Mathlib.Omega.{arith}
use native.Mathlib.Decide.{ℕ_discrete}
use lib.ListN.{length, get_or}
use Rattle.terms.specs.Tree.{IsTree, IsParent}
use Rattle.terms.specs.Assignment.{Covering, Augmented, Exhausted}
use Rattle.terms.specs.Fits.{Fits, fits, Edge}
use Rattle.terms.proofs.Decide.{choose}
use Rattle.terms.proofs.FitsLaws.{fits_sat, occ_fits}
use Rattle.terms.proofs.TreeLaws.{parent?}
use Rattle.matching.proofs.FitsLaws.{edge_in}
use Rattle.matching.proofs.SizeLaws.{But, but?}
use Rattle.rightmost.specs.Ends.{PlacedAt, IsChild, child?, children, SeatedOf, Seated, IsInner, InnerSeated, AllSeated, InnerMatched}
use Rattle.rightmost.proofs.Counting.{but_one, LeftOver, left_over}
use Rattle.rightmost.proofs.BranchLaws.{Maps, placed_maps}
use Rattle.rightmost.proofs.MoveLaws.{seats_as_they_are, seats_stuck}

module _ {p q : List ℕ} {b d l : ℕ} where
  seated : {places : List ℕ} → InnerMatched p b l q d places → AllSeated (Edge p q d) (IsInner p b l) places
  seated m = record { matching = record { allowed = λ x h. (m.only x h, (m.matching.allowed x h).1); apart = m.matching.apart }; all = m.full }

  -- nobody holds w
  pub inner_free : {places : List ℕ} {w : ℕ} → InnerMatched p b l q d places → ((x : ℕ) → ¬ (get_or places x 0 ≡ w)) → InnerSeated p q b d l w
  inner_free {places} {w} m f = seats_as_they_are (Edge p q d) (IsInner p b l) (length q) w places (seated m) (λ x r e. (edge_in p q d x r e).0) (λ x _. f x)

  -- after a holder was moved they are matched still
  pub inner_after : {places places' : List ℕ} {visited : List Bool} {u : ℕ} → InnerMatched p b l q d places → IsInner p b l u → Augmented (Edge p q d) (IsParent p b) u visited places places' → InnerMatched p b l q d places'
  inner_after {places} {places'} {visited} {u} m k g = record { length_places = g.long ∙ m.length_places; matching = g.good; full = λ y c. g.stays_matched y (m.full y c); only = λ y h. only y h (ℕ_discrete y u) (ℕ_discrete (get_or places y 0) 0) }
    where
      only : (y : ℕ) → ¬ (get_or places' y 0 ≡ 0) → Dec (y ≡ u) → Dec (get_or places y 0 ≡ 0) → IsInner p b l y
      only y h (yes e) _ = rw e k
      only y h (no e) (yes z) = absurd (h (g.stays_free y e z))
      only y h (no e) (no z) = m.only y z

  -- the holder of w found another place
  pub inner_moved : {places places' : List ℕ} {visited : List Bool} {u w : ℕ} → InnerMatched p b l q d places → IsInner p b l u → get_or places u 0 ≡ w → Augmented (Edge p q d) (IsParent p b) u visited places places' → InnerSeated p q b d l w
  inner_moved {places} {places'} {visited} {u} {w} m k e g = inner_free (inner_after m k g) (λ x r. g.vacated x (m.full u k) (r ∙ sym e))

  -- it found none
  pub inner_stuck : {places : List ℕ} {visited visited' : List Bool} {u w : ℕ} → InnerMatched p b l q d places → IsInner p b l u → u < 16 → get_or places u 0 ≡ w → ((x : ℕ) → get_or visited x false ≡ false)
      → Exhausted (Edge p q d) (IsParent p b) u (length q) visited visited' places → ¬ InnerSeated p q b d l w
  inner_stuck {places} {visited} {visited'} {u} {w} m k h e fresh f s =
      seats_stuck (Edge p q d) (IsInner p b l) (length q) u 15 visited visited' places m.length_places h (seated m) k (edge_in p q d) fresh (record { here = f.here; grow = f.grow; closed = f.closed; new = f.new })
      (subst (λ (v : ℕ). InnerSeated p q b d l v) (sym e) s)

-- LEAVES. A node without a child right behind it has none at all.
pub no_first_child : {s : List ℕ} {c x : ℕ} → IsTree s → ¬ IsParent s c (suc c) → ¬ IsParent s c x
no_first_child {s} {c} {x} t n r = go (ℕ_discrete x (suc c))
  where
    go : Dec (x ≡ suc c) → ⊥
    go (yes e) = n (rw e at r)
    go (no e) = n (record {
      before = omega arith;
      inside = omega (arith, r.before, r.inside);
      one_deeper = omega (arith, r.between (suc c) (omega arith) (omega (arith, r.before)), t.later_to_next c (omega (arith, r.before, r.inside)));
      between = λ k a h. absurd (omega arith);
    })

-- the inner ones, and all that stand before n
abbrev InnerTo : (p : List ℕ) (b l n x : ℕ) → Type 0
InnerTo p b l n x = IsChild p b l x × (IsParent p x (suc x) ⊎ (x < n))

-- Where d has more children with the label than b, the leaves find places when the inner ones have.
module _ {p q : List ℕ} {b d l w : ℕ} (t : IsTree p) (c : IsChild q d l w) (more : children p b l < children q d l) where
  one_leaf : (n : ℕ) → IsChild p b l n → ¬ IsParent p n (suc n) → SeatedOf (InnerTo p b l n) p q d w → SeatedOf (InnerTo p b l (suc n)) p q d w
  unfolding Edge children
  one_leaf n k leaf s = record { to = to; inside = λ x z. (edge x z).0.0.inside; edge = edge; inj = λ x y z z' e. inj x y z z' (ℕ_discrete x n) (ℕ_discrete y n) e }
    where
      o : LeftOver (But (IsChild p b l) n) (But (IsChild q d l) w) (length p) (length q) s.to
      o = left_over (but? (child? p b l) n) (but? (child? q d l) w) (length p) (length q) s.to (omega (arith, more, but_one (child? p b l) n (length p) k.0.inside k, but_one (child? q d l) w (length q) c.0.inside c))

      to : ℕ → ℕ
      to x = choose (ℕ_discrete x n) o.place (s.to x)

      old : (x : ℕ) → InnerTo p b l (suc n) x → ¬ (x ≡ n) → InnerTo p b l n x
      old x z e = (z.0, ⊎_elim (λ i. inl i) (λ h. inr (omega arith)) z.1)

      there : (x : ℕ) → x ≡ n → Fits p q x o.place
      there x e = rw e (fits (k.1 ∙ sym o.is_so.0.1) (λ i. i) (λ y r. absurd (no_first_child t leaf r)) (λ y r. absurd (no_first_child t leaf r)) (λ y y' r _ _. absurd (no_first_child t leaf r)))

      edge : (x : ℕ) → InnerTo p b l (suc n) x → (IsParent q d (to x) × Fits p q x (to x)) × ¬ (to x ≡ w)
      edge x z = go (ℕ_discrete x n)
        where
          go : (e : Dec (x ≡ n)) → (IsParent q d (choose e o.place (s.to x)) × Fits p q x (choose e o.place (s.to x))) × ¬ (choose e o.place (s.to x) ≡ w)
          go (yes e) = ((o.is_so.0.0, there x e), o.is_so.1)
          go (no e) = s.edge x (old x z e)

      inj : (x y : ℕ) → InnerTo p b l (suc n) x → InnerTo p b l (suc n) y → (e : Dec (x ≡ n)) (f : Dec (y ≡ n)) → choose e o.place (s.to x) ≡ choose f o.place (s.to y) → x ≡ y
      inj x y z z' (yes e) (yes f) r = e ∙ sym f
      inj x y z z' (yes e) (no f) r = absurd (o.unused y z'.0.0.inside (z'.0, f) (sym r))
      inj x y z z' (no e) (yes f) r = absurd (o.unused x z.0.0.inside (z.0, e) r)
      inj x y z z' (no e) (no f) r = s.inj x y (old x z e) (old y z' f) r

  step : (n : ℕ) → SeatedOf (InnerTo p b l n) p q d w → SeatedOf (InnerTo p b l (suc n)) p q d w
  step n s = go (child? p b l n) (parent? p n (suc n))
    where
      same : ((x : ℕ) → InnerTo p b l (suc n) x → InnerTo p b l n x) → SeatedOf (InnerTo p b l (suc n)) p q d w
      same f = record { to = s.to; inside = λ x z. s.inside x (f x z); edge = λ x z. s.edge x (f x z); inj = λ x y z z' e. s.inj x y (f x z) (f y z') e }

      but_n : (x : ℕ) → InnerTo p b l (suc n) x → (x ≡ n → IsParent p x (suc x)) → InnerTo p b l n x
      but_n x z f = (z.0, ⊎_elim (λ i. inl i) (λ h. at h (ℕ_discrete x n)) z.1)
        where
          at : x < suc n → Dec (x ≡ n) → IsParent p x (suc x) ⊎ (x < n)
          at h (yes e) = inl (f e)
          at h (no e) = inr (omega arith)

      go : Dec (IsChild p b l n) → Dec (IsParent p n (suc n)) → SeatedOf (InnerTo p b l (suc n)) p q d w
      go (no k) _ = same (λ x z. but_n x z (λ e. absurd (k (rw e at z.0))))
      go (yes k) (yes i) = same (λ x z. but_n x z (λ e. rw e i))
      go (yes k) (no i) = one_leaf n k i s

  grow : (n : ℕ) → InnerSeated p q b d l w → SeatedOf (InnerTo p b l n) p q d w
  grow zero s = record { to = s.to; inside = λ x z. s.inside x (inner x z); edge = λ x z. s.edge x (inner x z); inj = λ x y z z' e. s.inj x y (inner x z) (inner y z') e }
    where
      inner : (x : ℕ) → InnerTo p b l 0 x → IsInner p b l x
      inner x z = (z.0, ⊎_elim (λ i. i) (λ (h : x < 0). absurd (omega arith)) z.1)
  grow (suc n) s = step n (grow n s)

  pub inner_exactly : InnerSeated p q b d l w ↔ Seated p q b d l w
  inner_exactly = (out, λ s. record { to = s.to; inside = λ x z. s.inside x z.0; edge = λ x z. s.edge x z.0; inj = λ x y z z' e. s.inj x y z.0 z'.0 e })
    where
      out : InnerSeated p q b d l w → Seated p q b d l w
      out i =
          let s = grow (length p) i in
          record { to = s.to; inside = λ x k. s.inside x (k, inr k.0.inside); edge = λ x k. s.edge x (k, inr k.0.inside); inj = λ x y k k' e. s.inj x y (k, inr k.0.inside) (k', inr k'.0.inside) e }

-- At a place d of b all of b's children have seats: the first matching never fails.
pub placed_covering : {p q : List ℕ} {b d : ℕ} → b < length p → PlacedAt p q b d → Covering (Edge p q d) (IsParent p b) (length q)
placed_covering {p} {q} {b} {d} h z = (fits_sat p q b d (rw m.there at (occ_fits p q m.map m.embeds b h))).1
  where
    m : Maps p q b d
    m = placed_maps z
