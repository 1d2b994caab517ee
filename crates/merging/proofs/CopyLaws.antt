-- LAWS. A stretch of pairs copied to another place: subtrees, their weights and neighbours within it.
use mathlib.Core.Path.{◌≡◌, sym, ap}
use mathlib.Core.List.{List}
use Prim.Native.Nat.{ℕ, zero, suc, ◌+◌, ◌-◌, ◌/◌, ◌≤◌, ◌<◌}
use native.Mathlib.Omega.{arith}
use native.Mathlib.Decide.{dec_lt}
use lib.ListN.{length, get_or}
use lib.Seq.{slice, slice-cons, slice_empty}
use Rattle.terms.specs.Tree.{depthAt, SubtreeEnd}
use Rattle.terms.specs.Order.{Lighter}

-- what stands from u to u' in t is what stands from v to v' in s
pub record Copied (s t : List ℕ) (v v' u u' : ℕ) : Type 0 where
  pub width : u' + v ≡ v' + u
  pub low : v ≤ v'
  pub source : v' ≤ length s
  pub target : u' ≤ length t
  pub copy : (x y : ℕ) → u ≤ x → x < u' → y + u ≡ x + v → get_or t x 0 ≡ get_or s y 0

module _ (s t : List ℕ) (v v' u u' : ℕ) (o : Copied s t v v' u u') where
  pub depth_copied : (x y : ℕ) → u ≤ x → x < u' → y + u ≡ x + v → depthAt t x ≡ depthAt s y
  depth_copied x y h q e = ap (λ (n : ℕ). n / 1000) (o.copy x y h q e)

  pub slice_copied : (n x z y w : ℕ) → z ≡ x + n → u ≤ x → z ≤ u' → y + u ≡ x + v → w + u ≡ z + v → slice x z t ≡ slice y w s
  slice_copied zero x z y w e h q f g =
      let a : z ≡ x = omega arith in
      let b : w ≡ y = omega arith in
      rw (a, b, slice_empty x t, slice_empty y s)
  slice_copied (suc n) x z y w e h q f g =
      let i : slice (suc x) z t ≡ slice (suc y) w s = slice_copied n (suc x) z (suc y) w (omega arith) (omega arith) q (omega arith) g in
      rw (slice-cons x z t 0 (omega arith) (omega (arith, o.target)), slice-cons y w s 0 (omega arith) (omega (arith, o.source, o.width)), i, o.copy x y h (omega arith) f)

  pub end_copied : (x z y w : ℕ) → SubtreeEnd t x z → u ≤ x → z ≤ u' → y + u ≡ x + v → w + u ≡ z + v → (z ≡ u' → v' < length s → depthAt s v' ≤ depthAt s y) → SubtreeEnd s y w
  end_copied x z y w r h q f g b = record {
    after = omega (arith, r.after);
    within = omega (arith, o.source, o.width);
    deeper = λ k l m. inner k l m;
    stop = λ l. outer l (dec_lt z u');
  }
    where
      here : depthAt t x ≡ depthAt s y
      here = depth_copied x y h (omega (arith, r.after)) f

      inner : (k : ℕ) → y < k → k < w → depthAt s y < depthAt s k
      inner k l m = omega (arith, here, depth_copied (k + u - v) k (omega arith) (omega arith) (omega arith), r.deeper (k + u - v) (omega arith) (omega arith))

      outer : w < length s → Dec (z < u') → depthAt s w ≤ depthAt s y
      outer l (yes m) = omega (arith, here, depth_copied z w (omega (arith, r.after)) m g, r.stop (omega (arith, o.target)))
      outer l (no m) = let a : v' ≡ w = omega (arith, o.width) in rw a at (b (omega arith) (omega (arith, o.width)))

  -- two neighbours within the copied stretch
  pub pair_copied : (d x e f : ℕ) → ((y w g : ℕ) → y + u ≡ x + v → w + u ≡ e + v → SubtreeEnd s y w → depthAt s w ≡ depthAt s y → SubtreeEnd s w g → ¬ Lighter (slice y w s) (slice w g s))
      → (v' < length s → depthAt s v' ≤ d) → u ≤ x → f ≤ u' → SubtreeEnd t x e → depthAt t e ≡ depthAt t x → d ≤ depthAt t x → SubtreeEnd t e f → ¬ Lighter (slice x e t) (slice e f t)
  pair_copied d x e f hv st h q r dd dx r' l =
      let a : x < e = r.after in
      let b : e < f = r'.after in
      let y : ℕ = x + v - u in
      let w : ℕ = e + v - u in
      let g : ℕ = f + v - u in
      let ey : y + u ≡ x + v = omega arith in
      let ew : w + u ≡ e + v = omega arith in
      let eg : g + u ≡ f + v = omega arith in
      let dy : depthAt t x ≡ depthAt s y = depth_copied x y h (omega arith) ey in
      let dw : depthAt t e ≡ depthAt s w = depth_copied e w (omega arith) (omega arith) ew in
      hv y w g ey ew
      (end_copied x e y w r h (omega arith) ey ew (λ z. absurd (omega arith)))
      (omega arith)
      (end_copied e f w g r' (omega arith) q ew eg (λ z m. omega (arith, st m)))
      (rw (slice_copied (e - x) x e y w (omega arith) h (omega arith) ey ew, slice_copied (f - e) e f w g (omega arith) (omega arith) q ew eg) at l)

pub copied_back : {s t : List ℕ} {v v' u u' : ℕ} → Copied s t v v' u u' → Copied t s u u' v v'
copied_back o = record { width = sym o.width; low = omega (arith, o.low, o.width); source = o.target; target = o.source; copy = λ x y h q e. sym (o.copy y x (omega arith) (omega (arith, o.width)) (sym e)) }
