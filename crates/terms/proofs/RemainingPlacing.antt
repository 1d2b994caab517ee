-- LAWS. Placings in the whole tree at nodes that count, and placings in the tree without the nodes left out, correspond one to one; the heaviest
-- to the heaviest.
use mathlib.Core.Path.{◌≡◌, refl, sym, ap, ◌∙◌}
use mathlib.Core.List.{List, [], ◌∷◌}
use mathlib.Core.Logic.{◌↔◌}
use Prim.Native.Nat.{ℕ, zero, suc, ◌-◌, ◌≤◌, ◌<◌}
use native.Mathlib.Omega.{arith}
use native.Mathlib.Decide.{ℕ_discrete}
use lib.ListN.{length, get_or}
use lib.Seq.{ext_get_or}
use Rattle.terms.specs.Tree.{label_at, IsTree}
use Rattle.terms.specs.Order.{Lighter, shorter, differ, agree}
use Rattle.terms.specs.Matching.{placeAt}
use Rattle.terms.specs.Placing.{Placing, HeaviestPlacing}
use Rattle.terms.proofs.Decide.{some_below?}
use Rattle.terms.proofs.OrderLaws.{Compared, compare_weight, is_lighter, is_equal, is_heavier, lighter_irrefl, lighter_trans}
use Rattle.terms.proofs.MatchingLaws.{numbers, numbers_length, numbers_at}
use Rattle.terms.specs.LeftOut.{LeftOut, PlacingWithout, HeaviestWithout, carried_back}
use Rattle.terms.proofs.RemainingLaws.{IsRemaining}
use Rattle.terms.proofs.RemainingTree as tp

pub carried_length : (ns m : List ℕ) → length (carried_back ns m) ≡ length m
unfolding carried_back
carried_length ns [] = refl
carried_length ns (x ∷ m) = ap suc (carried_length ns m)

pub carried_at : (ns m : List ℕ) (i : ℕ) → i < length m → get_or (carried_back ns m) i 0 ≡ get_or ns (placeAt m i) 0
unfolding carried_back
carried_at ns [] i h = absurd (omega arith)
carried_at ns (x ∷ m) zero h = refl
carried_at ns (x ∷ m) (suc i) h = carried_at ns m i (omega arith)

-- all numbers of a tuple are node numbers of a tree of n nodes
pub NodeNumbers : ℕ → List ℕ → Type 0
NodeNumbers n m = (i : ℕ) → i < length m → (1 ≤ get_or m i 0) × (get_or m i 0 ≤ n)

pub placing_numbered : {p t m : List ℕ} → Placing p t m → NodeNumbers (length t) m
unfolding NodeNumbers
placing_numbered o i h = let e = o.each_placed in (o.from_1 i (omega arith), o.to_last i (omega arith))

-- there is one heaviest
pub heaviest_without_unique : {Out : ℕ → Type 0} {p t m n : List ℕ} → HeaviestWithout Out p t m → HeaviestWithout Out p t n → m ≡ n
heaviest_without_unique {m = m} {n = n} a b = go (compare_weight m n)
  where
    go : Compared m n → m ≡ n
    go (is_lighter h) = absurd (a.none_heavier n b.placing h)
    go (is_equal h) = h
    go (is_heavier h) = absurd (b.none_heavier m a.placing h)

module _ {s : List ℕ} {Out : ℕ → Type 0} {t ns : List ℕ} (p : IsRemaining s Out t ns) where
  -- numbers rise with numbers: the weight of tuples is kept
  number_up : (x y : ℕ) → 1 ≤ x → x < y → y ≤ length t → get_or ns (x - 1) 0 < get_or ns (y - 1) 0
  number_up x y a b c = omega (arith, p.rising (x - 1) (y - 1) (omega arith) (omega arith), p.from_1 (y - 1) (omega arith))

  pub lighter_carried : {m n : List ℕ} → NodeNumbers (length t) m → NodeNumbers (length t) n → Lighter m n → Lighter (carried_back ns m) (carried_back ns n)
  unfolding NodeNumbers carried_back
  lighter_carried a b shorter = shorter
  lighter_carried a b (differ {x = x} {y = y} h) = differ (number_up x y (a 0 (omega arith)).0 h (b 0 (omega arith)).1)
  lighter_carried a b (agree {x = x} {y = y} e h) = agree (ap (λ (k : ℕ). get_or ns (k - 1) 0) e) (lighter_carried (λ i q. a (suc i) (omega arith)) (λ i q. b (suc i) (omega arith)) h)

  pub lighter_back : {m n : List ℕ} → NodeNumbers (length t) m → NodeNumbers (length t) n → Lighter (carried_back ns m) (carried_back ns n) → Lighter m n
  lighter_back {m} {n} a b h = go (compare_weight m n)
    where
      go : Compared m n → Lighter m n
      go (is_lighter q) = q
      go (is_equal e) = absurd (lighter_irrefl (carried_back ns n) (rw e at h))
      go (is_heavier q) = absurd (lighter_irrefl (carried_back ns m) (lighter_trans h (lighter_carried b a q)))

  -- the position in t of a position of the whole
  found : (k : ℕ) → Dec ((i : ℕ) × (i < length t) × (placeAt ns i ≡ k)) → ℕ
  found k (yes z) = z.0
  found k (no _) = 0

  index : ℕ → ℕ
  index k = found k (some_below? (λ i. placeAt ns i ≡ k) (λ i. ℕ_discrete (placeAt ns i) k) (length t))

  index_is : (k : ℕ) → k < length s → ¬ Out k → (index k < length t) × (placeAt ns (index k) ≡ k)
  unfolding index found
  index_is k h o = go (some_below? (λ i. placeAt ns i ≡ k) (λ i. ℕ_discrete (placeAt ns i) k) (length t))
    where
      go : (d : Dec ((i : ℕ) × (i < length t) × (placeAt ns i ≡ k))) → (found k d < length t) × (placeAt ns (found k d) ≡ k)
      go (yes z) = (z.1, z.2)
      go (no z) = absurd (z (p.none_missing k h o))

  module _ (w : IsTree s) (c : LeftOut s Out) (pattern : List ℕ) where
    -- to the whole
    pub placing_up : {m : List ℕ} → Placing pattern t m → PlacingWithout Out pattern s (carried_back ns m)
    placing_up {m} o = record {
      placing = record {
        each_placed = carried_length ns m ∙ o.each_placed;
        from_1 = λ i h. omega (arith, at i h, p.from_1 (placeAt m i) (in_t i h));
        to_last = λ i h. omega (arith, at i h, p.inside (placeAt m i) (in_t i h), p.from_1 (placeAt m i) (in_t i h));
        different = λ i j h k e. o.different i j h k (apart i j h k (tp.order_equal p (placeAt m i) (placeAt m j) (in_t i h) (in_t j k) (omega (arith, e, at i h, at j k))));
        labels = λ i h. o.labels i h ∙ tp.label_kept p (placeAt m i) (in_t i h) ∙ ap (label_at s) (sym (place i h));
        parents = λ i j h k. (
          (λ r. rw (place i h, place j k) (tp.parent_up p w c (placeAt m i) (placeAt m j) ((o.parents i j h k).0 r))),
          (λ r. (o.parents i j h k).1 (tp.parent_down p w c (placeAt m i) (placeAt m j) (in_t i h) (in_t j k) (rw (place i h, place j k) at r))),
        );
      };
      avoids = λ i h q. p.stays (placeAt m i) (in_t i h) (rw (place i h) at q);
    }
      where
        in_t : (i : ℕ) → i < length pattern → placeAt m i < length t
        in_t i h = omega (arith, o.from_1 i h, o.to_last i h)

        at : (i : ℕ) → i < length pattern → get_or (carried_back ns m) i 0 ≡ get_or ns (placeAt m i) 0
        at i h = carried_at ns m i (omega (arith, o.each_placed))

        place : (i : ℕ) → i < length pattern → placeAt (carried_back ns m) i ≡ placeAt ns (placeAt m i)
        place i h = ap (λ (k : ℕ). k - 1) (at i h)

        apart : (i j : ℕ) → i < length pattern → j < length pattern → placeAt m i ≡ placeAt m j → get_or m i 0 ≡ get_or m j 0
        apart i j h k e = omega (arith, o.from_1 i h, o.from_1 j k)

    -- from the whole
    pub down : List ℕ → List ℕ
    down m = numbers (length pattern) (λ i. index (placeAt m i))

    module _ {m : List ℕ} (o : PlacingWithout Out pattern s m) where
      in_s : (i : ℕ) → i < length pattern → placeAt m i < length s
      in_s i h = omega (arith, o.placing.from_1 i h, o.placing.to_last i h)

      is : (i : ℕ) → i < length pattern → (index (placeAt m i) < length t) × (placeAt ns (index (placeAt m i)) ≡ placeAt m i)
      is i h = index_is (placeAt m i) (in_s i h) (o.avoids i h)

      at : (i : ℕ) → i < length pattern → get_or (down m) i 0 ≡ suc (index (placeAt m i))
      unfolding down
      at i h = numbers_at (length pattern) (λ k. index (placeAt m k)) i h

      place : (i : ℕ) → i < length pattern → placeAt (down m) i ≡ index (placeAt m i)
      place i h = omega (arith, at i h)

      long : length (down m) ≡ length pattern
      unfolding down
      long = numbers_length (length pattern) (λ k. index (placeAt m k))

      back : (i : ℕ) → i < length pattern → get_or ns (placeAt (down m) i) 0 ≡ get_or m i 0
      back i h = omega (arith, ap (placeAt ns) (place i h), (is i h).1, o.placing.from_1 i h, p.from_1 (placeAt (down m) i) (rw (place i h) (is i h).0))

      pub carried_down : carried_back ns (down m) ≡ m
      carried_down = ext_get_or 0 (carried_back ns (down m)) m (carried_length ns (down m) ∙ long ∙ sym o.placing.each_placed)
          (λ i h. let q : i < length pattern = omega (arith, carried_length ns (down m), long) in carried_at ns (down m) i (omega (arith, long)) ∙ back i q)

      pub placing_down : Placing pattern t (down m)
      placing_down = record {
        each_placed = long;
        from_1 = λ i h. omega (arith, at i h);
        to_last = λ i h. omega (arith, at i h, (is i h).0);
        different = λ i j h k e. o.placing.different i j h k (apart i j h k (omega (arith, at i h, at j k)));
        labels = λ i h. o.placing.labels i h ∙ ap (label_at s) (sym (is i h).1) ∙ sym (tp.label_kept p (index (placeAt m i)) (is i h).0) ∙ ap (label_at t) (sym (place i h));
        parents = λ i j h k. (
          (λ r. rw (place i h, place j k) (tp.parent_down p w c (index (placeAt m i)) (index (placeAt m j)) (is i h).0 (is j k).0 (rw ((is i h).1, (is j k).1) ((o.placing.parents i j h k).0 r)))),
          (λ r. (o.placing.parents i j h k).1 (rw ((is i h).1, (is j k).1) at (tp.parent_up p w c (index (placeAt m i)) (index (placeAt m j)) (rw (place i h, place j k) at r)))),
        );
      }
        where
          apart : (i j : ℕ) → i < length pattern → j < length pattern → index (placeAt m i) ≡ index (placeAt m j) → get_or m i 0 ≡ get_or m j 0
          apart i j h k e = omega (arith, ap (placeAt ns) e, (is i h).1, (is j k).1, o.placing.from_1 i h, o.placing.from_1 j k)

    -- THE CORRESPONDENCE: what is placed at nodes that count is exactly what is carried back, each from one placing.
    pub placing_exactly : (m : List ℕ) → PlacingWithout Out pattern s m ↔ ((m' : List ℕ) × Placing pattern t m' × (m ≡ carried_back ns m'))
    placing_exactly m = ((λ o. (down m, placing_down o, sym (carried_down o))), (λ z. rw z.2 (placing_up z.1)))

    pub placing_once : (m n : List ℕ) → Placing pattern t m → Placing pattern t n → carried_back ns m ≡ carried_back ns n → m ≡ n
    placing_once m n a b e = go (compare_weight m n)
      where
        go : Compared m n → m ≡ n
        go (is_lighter q) = absurd (lighter_irrefl (carried_back ns n) (rw e at (lighter_carried (placing_numbered a) (placing_numbered b) q)))
        go (is_equal q) = q
        go (is_heavier q) = absurd (lighter_irrefl (carried_back ns n) (rw e at (lighter_carried (placing_numbered b) (placing_numbered a) q)))

    -- the heaviest from the heaviest
    pub heaviest_exactly : (m : List ℕ) → HeaviestWithout Out pattern s m ↔ ((m' : List ℕ) × HeaviestPlacing pattern t m' × (m ≡ carried_back ns m'))
    heaviest_exactly m = (to, from)
      where
        to : HeaviestWithout Out pattern s m → (m' : List ℕ) × HeaviestPlacing pattern t m' × (m ≡ carried_back ns m')
        to h = (
          down m,
          record {
            placing = placing_down h.placing;
            none_heavier = λ n q l. h.none_heavier (carried_back ns n) (placing_up q)
                (rw (carried_down h.placing) at (lighter_carried (placing_numbered (placing_down h.placing)) (placing_numbered q) l));
          },
          sym (carried_down h.placing),
        )

        from : (m' : List ℕ) × HeaviestPlacing pattern t m' × (m ≡ carried_back ns m') → HeaviestWithout Out pattern s m
        from z = rw z.2 (record {
          placing = placing_up z.1.placing;
          none_heavier = λ n o q. z.1.none_heavier (down n) (placing_down o)
              (lighter_back (placing_numbered z.1.placing) (placing_numbered (placing_down o)) (rw (carried_down o) q));
        })
