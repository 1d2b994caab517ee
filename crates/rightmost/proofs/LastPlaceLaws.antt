-- LAWS. The last places of the longer pattern from those of the pattern; children by their pairs.
use mathlib.Core.Path.{◌≡◌, sym, ap, ◌∙◌}
use mathlib.Core.Logic.{◌↔◌}
use mathlib.Core.List.{List}
use Prim.Native.Nat.{ℕ, suc, ◌+◌, ◌-◌, ◌*◌, ◌/◌, ◌%◌, ◌<◌}
use native.Mathlib.Omega.{arith}
use lib.ListN.{length, get_or}
use Rattle.terms.specs.Tree.{depthAt, label_at, IsParent}
use Rattle.terms.specs.Fits.{Fits, fits}
use Rattle.rightmost.specs.Ends.{PlacedAt, LastPlace, last_of, Up, IsChild, NewChild, Seated}
use Rattle.rightmost.proofs.BranchLaws.{branch_exactly, branch_deeper}
use Rattle.rightmost.proofs.LongerLaws.{longer, label_at_node, parent_to}
use Rattle.rightmost.proofs.SupportByPlaces.{ends_exactly}
use Rattle.rightmost.proofs.SeatLaws.{beside_exactly}

-- WHERE THE NEW LAST NODE CAN BE, with b at d: three ways

-- THE LIST OF LAST PLACES, from that of the pattern: for each of its last places the ancestor d of x's parent's depth, and for each d those
-- children that have seats left for the others.
pub places_exactly : {p q : List ℕ} {x b w : ℕ} → NewChild p x b
    → LastPlace (longer p x) q w ↔ ((v d : ℕ) × LastPlace p q v × Up q d (depthAt p (last_of p) - depthAt p b) v × IsChild q d (x % 1000) w × Seated p q b d (x % 1000) w)
places_exactly {p} {q} {x} {b} {w} e = (to, from)
  where
    to : LastPlace (longer p x) q w → (v d : ℕ) × LastPlace p q v × Up q d (depthAt p (last_of p) - depthAt p b) v × IsChild q d (x % 1000) w × Seated p q b d (x % 1000) w
    to z =
        let r = (ends_exactly e).0 z in
        let y : PlacedAt p q b r.0 = record { tuple = r.2.tuple; placing = r.2.placing; there = r.2.there } in
        let u = (branch_exactly e.is_tree e.on_branch).0 y in
        (u.0, r.0, u.1, u.2, r.1, (beside_exactly e.is_tree e.on_branch y r.1).0 r.2)

    from : (v d : ℕ) × LastPlace p q v × Up q d (depthAt p (last_of p) - depthAt p b) v × IsChild q d (x % 1000) w × Seated p q b d (x % 1000) w → LastPlace (longer p x) q w
    from z =
        let y = (branch_exactly e.is_tree e.on_branch).1 (z.0, z.2, z.3) in
        (ends_exactly e).1 (z.1, z.4, (beside_exactly e.is_tree e.on_branch y z.4).1 z.5)

-- b's children with x's label are the nodes behind b that are the pair x
pub child_is_pair : {p : List ℕ} {x b : ℕ} → NewChild p x b → (i : ℕ) → i < length p → IsChild p b (x % 1000) i ↔ ((b < i) × (get_or p i 0 ≡ x))
child_is_pair {p} {x} {b} e i h = (to, from)
  where
    to : IsChild p b (x % 1000) i → (b < i) × (get_or p i 0 ≡ x)
    to c = (c.0.before, omega (arith, c.0.one_deeper, c.1, e.one_deeper))

    from : (b < i) × (get_or p i 0 ≡ x) → IsChild p b (x % 1000) i
    from z = (record { before = z.0; inside = h; one_deeper = ap (λ (y : ℕ). y / 1000) z.1 ∙ e.one_deeper; between = λ k l m. branch_deeper e.is_tree e.on_branch k l (omega arith) }, ap (λ (y : ℕ). y % 1000) z.1)

-- a child of d with a label, by its pair
pub child_pair : {q : List ℕ} {d l w : ℕ} → IsParent q d w → l < 1000 → label_at q w ≡ l ↔ (get_or q w 0 ≡ 1000 * suc (depthAt q d) + l)
child_pair {q} {d} {l} {w} r h = ((λ e. omega (arith, r.one_deeper)), (λ e. omega (arith, r.one_deeper)))

-- WITH THE LONGER PATTERN IN HAND: what stands below a child of b is the same in both

fits_out : {p q : List ℕ} {x b : ℕ} → NewChild p x b → {i v : ℕ} → b < i → i < length p → Fits (longer p x) q i v → Fits p q i v
fits_out {p} {q} {x} {b} e {i} {v} h l (fits s to kid sub inj) =
    fits (sym (label_at_node p x i l) ∙ s) to (λ y r. kid y (parent_to p x r)) (λ y r. fits_out e (omega (arith, r.before)) r.inside (sub y (parent_to p x r))) (λ y z r r'. inj y z (parent_to p x r) (parent_to p x r'))
