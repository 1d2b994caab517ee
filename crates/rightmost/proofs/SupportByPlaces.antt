-- LAWS. Support without matching: a pattern with one pair more occurs where the pair's parent is placed at a node with a child to spare.
use mathlib.Core.Path.{◌≡◌, refl, sym, ap, ◌∙◌}
use mathlib.Core.Logic.{◌↔◌, ◌≢◌}
use mathlib.Core.List.{List}
use Prim.Native.Nat.{ℕ, suc, ◌%◌, ◌≤◌, ◌<◌}
use native.Mathlib.Omega.{arith}
use lib.ListN.{length, get_or}
use Rattle.terms.specs.Tree.{IsTree}
use Rattle.terms.specs.Matching.{placeAt}
use Rattle.terms.proofs.PreorderLinks.{Embeds}
use Rattle.terms.proofs.MatchingLaws.{placing_occ, occ_placing, numbers, numbers_at}
use Rattle.matching.proofs.SizeLaws.{But, but?}
use Rattle.rightmost.specs.Ends.{PlacedAt, PlacedBoth, PlacedBeside, LastPlace, IsChild, child?, count_below, children, NewChild}
use Rattle.rightmost.proofs.Counting.{but_one, count_into, LeftOver, left_over}
use Rattle.rightmost.proofs.BranchLaws.{Maps, placed_maps, maps_placed}
use Rattle.rightmost.proofs.LongerLaws.{longer, longer_length, longer_end, label_last, parent_new, longer_tree, shorter_embeds, put, put_same, put_other, longer_embeds, user_is_child, child_image}

-- b is placed at d, and no node at w: by maps
pub record MapsBeside (p q : List ℕ) (b d w : ℕ) : Type 0 where
  pub map : ℕ → ℕ
  pub embeds : Embeds p q map
  pub there : map b ≡ d
  pub beside : (i : ℕ) → i < length p → map i ≢ w

pub beside_maps : {p q : List ℕ} {b d w : ℕ} → PlacedBeside p q b d w → MapsBeside p q b d w
beside_maps z = record { map = placeAt z.tuple; embeds = placing_occ z.placing; there = omega (arith, z.there); beside = λ i h e. z.beside i h (omega (arith, z.placing.from_1 i h)) }

pub maps_beside : {p q : List ℕ} {b d w : ℕ} → IsTree p → b < length p → MapsBeside p q b d w → PlacedBeside p q b d w
maps_beside {p} t h z = record { tuple = numbers (length p) z.map; placing = occ_placing t z.embeds; there = numbers_at (length p) z.map _ h ∙ ap suc z.there; beside = λ i l e. z.beside i l (omega (arith, numbers_at (length p) z.map i l)) }

-- the last node's image, and the pattern's placing beside it
image_last : {p q : List ℕ} {x b : ℕ} {φ : ℕ → ℕ} → NewChild p x b → Embeds (longer p x) q φ → IsChild q (φ b) (x % 1000) (φ (length p))
image_last {p} {q} {x} {b} {φ} e o =
    let n : length p < length (longer p x) = omega (arith, longer_length p x) in
    (o.parents b (length p) (omega (arith, e.on_branch.inside)) n (parent_new e), sym (o.labels (length p) n) ∙ label_last p x)

apart_last : (p : List ℕ) (x : ℕ) {q : List ℕ} {φ : ℕ → ℕ} → Embeds (longer p x) q φ → (i : ℕ) → i < length p → φ i ≢ φ (length p)
apart_last p x o i h e = let z = o.inj i (length p) (omega (arith, longer_length p x)) (omega (arith, longer_length p x)) e in omega arith

-- THEOREM 3, in general: the new node can be at w, with b at d, exactly if w is a child of d with its label and the pattern has a placing with
-- b at d that does not use w.
pub last_exactly : {p q : List ℕ} {x b d w : ℕ} → NewChild p x b → PlacedBoth (longer p x) q b d (length p) w ↔ (IsChild q d (x % 1000) w × PlacedBeside p q b d w)
last_exactly {p} {q} {x} {b} {d} {w} e = (to, from)
  where
    inb : b < length p
    inb = e.on_branch.inside

    to : PlacedBoth (longer p x) q b d (length p) w → IsChild q d (x % 1000) w × PlacedBeside p q b d w
    to z =
        let φ = placeAt z.tuple in
        let o : Embeds (longer p x) q φ = placing_occ z.placing in
        let hb : φ b ≡ d = omega (arith, z.there) in
        let hw : φ (length p) ≡ w = omega (arith, z.other_there) in
        (rw (hb, hw) at (image_last e o), maps_beside e.is_tree inb (record { map = φ; embeds = shorter_embeds p x o; there = hb; beside = λ i h r. apart_last p x o i h (r ∙ sym hw) }))

    from : IsChild q d (x % 1000) w × PlacedBeside p q b d w → PlacedBoth (longer p x) q b d (length p) w
    from z =
        let m = beside_maps z.1 in
        let o : Embeds (longer p x) q (put m.map (length p) w) = longer_embeds e m.embeds (rw m.there z.0) m.beside in
        record {
          tuple = numbers (length (longer p x)) (put m.map (length p) w);
          placing = occ_placing (longer_tree e) o;
          there = numbers_at (length (longer p x)) (put m.map (length p) w) b (omega (arith, longer_length p x, inb)) ∙ ap suc (put_other m.map (length p) w b (omega (arith, inb)) ∙ m.there);
          other_there = numbers_at (length (longer p x)) (put m.map (length p) w) (length p) (omega (arith, longer_length p x)) ∙ ap suc (put_same m.map (length p) w (length p) refl);
        }

-- The new last places: those of all places d of b.
pub ends_exactly : {p q : List ℕ} {x b w : ℕ} → NewChild p x b → LastPlace (longer p x) q w ↔ ((d : ℕ) × IsChild q d (x % 1000) w × PlacedBeside p q b d w)
ends_exactly {p} {q} {x} {b} {w} e = (to, from)
  where
    inb : b < length (longer p x)
    inb = omega (arith, e.on_branch.inside, longer_length p x)

    to : LastPlace (longer p x) q w → (d : ℕ) × IsChild q d (x % 1000) w × PlacedBeside p q b d w
    to z =
        let at : get_or z.tuple (length p) 0 ≡ suc w = ap (λ (i : ℕ). get_or z.tuple i 0) (sym (longer_end p x)) ∙ z.there in
        let r = (last_exactly {d = placeAt z.tuple b} e).0 (record { tuple = z.tuple; placing = z.placing; there = omega (arith, z.placing.from_1 b inb); other_there = at }) in
        (placeAt z.tuple b, r.0, r.1)

    from : (d : ℕ) × IsChild q d (x % 1000) w × PlacedBeside p q b d w → LastPlace (longer p x) q w
    from z =
        let r = (last_exactly {d = z.0} e).1 (z.1, z.2) in
        record { tuple = r.tuple; placing = r.placing; there = ap (λ (i : ℕ). get_or r.tuple i 0) (longer_end p x) ∙ r.other_there }

-- THEOREM 2. The longer pattern has a placing with b at d exactly if the pattern has one and d has more children with the new label than b has.
pub spare_exactly : {p q : List ℕ} {x b d : ℕ} → NewChild p x b → PlacedAt (longer p x) q b d ↔ (PlacedAt p q b d × (children p b (x % 1000) < children q d (x % 1000)))
unfolding children
spare_exactly {p} {q} {x} {b} {d} e = (to, from)
  where
    inb : b < length p
    inb = e.on_branch.inside

    to : PlacedAt (longer p x) q b d → PlacedAt p q b d × (count_below (child? p b (x % 1000)) (length p) < count_below (child? q d (x % 1000)) (length q))
    to z = go (placed_maps z)
      where
        go : Maps (longer p x) q b d → PlacedAt p q b d × (count_below (child? p b (x % 1000)) (length p) < count_below (child? q d (x % 1000)) (length q))
        go m = (maps_placed e.is_tree inb (record { map = φ; embeds = s; there = m.there }), omega (arith, most, one))
          where
            φ : ℕ → ℕ
            φ = m.map

            o : Embeds (longer p x) q φ
            o = m.embeds

            s : Embeds p q φ
            s = shorter_embeds p x o

            w : ℕ
            w = φ (length p)

            kid : IsChild q d (x % 1000) w
            kid = rw m.there at (image_last e o)

            one : count_below (child? q d (x % 1000)) (length q) ≡ suc (count_below (but? (child? q d (x % 1000)) w) (length q))
            one = but_one (child? q d (x % 1000)) w (length q) kid.0.inside kid

            into : (i : ℕ) → i < length p → IsChild p b (x % 1000) i → (φ i < length q) × But (IsChild q d (x % 1000)) w (φ i)
            into i h c = (s.bound i h, (rw m.there at (child_image s i c), λ r. apart_last p x o i h r))

            most : count_below (child? p b (x % 1000)) (length p) ≤ count_below (but? (child? q d (x % 1000)) w) (length q)
            most = count_into (child? p b (x % 1000)) (but? (child? q d (x % 1000)) w) (length p) (length q) φ into (λ i j h k _ _ r. s.inj i j h k r)

    from : PlacedAt p q b d × (count_below (child? p b (x % 1000)) (length p) < count_below (child? q d (x % 1000)) (length q)) → PlacedAt (longer p x) q b d
    from z = go (placed_maps z.0) z.1
      where
        go : Maps p q b d → count_below (child? p b (x % 1000)) (length p) < count_below (child? q d (x % 1000)) (length q) → PlacedAt (longer p x) q b d
        go m h = record { tuple = r.tuple; placing = r.placing; there = r.there }
          where
            f : LeftOver (IsChild p b (x % 1000)) (IsChild q d (x % 1000)) (length p) (length q) m.map
            f = left_over (child? p b (x % 1000)) (child? q d (x % 1000)) (length p) (length q) m.map h

            free : (i : ℕ) → i < length p → m.map i ≢ f.place
            free i k r = f.unused i k (user_is_child e.is_tree m.embeds inb (rw m.there f.is_so) i k r) r

            r : PlacedBoth (longer p x) q b d (length p) f.place
            r = (last_exactly e).1 (f.is_so, maps_beside e.is_tree inb (record { map = m.map; embeds = m.embeds; there = m.there; beside = free }))
