-- The loop of `next_child`: what is passed is below d, and no child of d that is the pair and large enough.
use mathlib.Core.Path.{◌≡◌}
use mathlib.Core.Logic.{⊎_elim}
use mathlib.Core.List.{List}
use Prim.Native.Nat.{ℕ, suc, ◌+◌, ◌≤◌, ◌<◌}
use native.Mathlib.Omega.{arith}
use native.Mathlib.Decide.{dec_lt, ℕ_discrete}
use lib.ListN.{length, get_or}
use Rattle.terms.specs.Tree.{IsParent, depthAt}
use Rattle.terms.proofs.AugmentingLaws.{past}
use Rattle.matching.specs.FitsSteps.{Measured, least_below, ScanInput, NextChild}

-- where the stretch below a node ends, its children do
pub ended : (s : List ℕ) (i x y : ℕ) → i < x → depthAt s x ≤ depthAt s i → IsParent s i y → y < x
ended s i x y h k c = go (dec_lt y x)
  where
    go : Dec (y < x) → y < x
    go (yes b) = b
    go (no b) = or_later (ℕ_discrete x y)
      where
        or_later : Dec (x ≡ y) → y < x
        or_later (yes q) = let z : depthAt s x ≡ suc (depthAt s i) = rw q c.one_deeper in omega arith
        or_later (no q) = let z = c.between x h (omega arith) in omega arith

-- what may be skipped ends within the tree
pub skip_within : {q sizes : List ℕ} {e : ℕ} → Measured q sizes → e < length q → e + (1 + get_or sizes e 0) ≤ length q
skip_within {q} {sizes} {e} s h = go (dec_lt (length q) (e + (1 + get_or sizes e 0)))
  where
    go : Dec (length q < e + (1 + get_or sizes e 0)) → e + (1 + get_or sizes e 0) ≤ length q
    go (yes b) = absurd (omega (arith, s.below e (length q) h h (omega arith), past q (length q) 0 (omega arith)))
    go (no b) = omega arith

-- from e, which is below d, on to what is not skipped
module _ (q sizes : List ℕ) (d e : ℕ) (s : Measured q sizes) (h : e < length q) (here : depthAt q d < depthAt q e) where
  skipped : (m : ℕ) → e < m → m < e + (1 + get_or sizes e 0) → depthAt q e < depthAt q m
  skipped m a b = s.below e m h a (omega arith)

  below_to : ((m : ℕ) → d < m → m < e → depthAt q d < depthAt q m) → (m : ℕ) → d < m → m < e + (1 + get_or sizes e 0) → depthAt q d < depthAt q m
  below_to f m a b = go (dec_lt m e) (dec_lt e m)
    where
      go : Dec (m < e) → Dec (e < m) → depthAt q d < depthAt q m
      go (yes c) _ = f m a c
      go (no c) (yes k) = let w = skipped m k b in omega (arith, here)
      go (no c) (no k) = let w : m ≡ e = omega arith in rw w here

  no_child : (m : ℕ) → e < m → m < e + (1 + get_or sizes e 0) → ¬ IsParent q d m
  no_child m a b c = omega (arith, skipped m a b, here, c.one_deeper)

pub record ScanInv (q sizes : List ℕ) (d last w least size e : ℕ) : Type 0 where
  pub input : ScanInput q d last w
  pub measured : Measured q sizes
  pub is_least : least ≡ least_below q d
  pub after : last < e
  pub within : e ≤ length q
  pub below : (m : ℕ) → d < m → m < e → depthAt q d < depthAt q m
  pub none_between : (m : ℕ) → last < m → m < e → IsParent q d m → get_or q m 0 ≡ w → get_or sizes m 0 < size

-- `last` is d itself, or a child of it
no_earlier : {q : List ℕ} {d e w : ℕ} → ScanInput q d e w → d ≤ e
no_earlier {d = d} {e = e} a = ⊎_elim (λ (z : d ≡ e). omega arith) (λ c. omega (arith, c.before)) a.last

a_child : {q : List ℕ} {d e w : ℕ} → ScanInput q d e w → d < e → IsParent q d e
a_child {q} {d} {e} a h = ⊎_elim (λ (z : d ≡ e). absurd (omega arith)) (λ c. c) a.last

pub scan_first : {q sizes : List ℕ} {d e w least size : ℕ} → ScanInput q d e w → Measured q sizes → least ≡ least_below q d → e ≤ d → ScanInv q sizes d e w least size (e + 1)
scan_first a s l h = record {
  input = a;
  measured = s;
  is_least = l;
  after = omega arith;
  within = omega (arith, a.inside);
  below = λ m k j. absurd (omega arith);
  none_between = λ m k j. absurd (omega arith);
}

pub scan_after : {q sizes : List ℕ} {d e w least size : ℕ} → ScanInput q d e w → Measured q sizes → least ≡ least_below q d → d < e → ScanInv q sizes d e w least size (e + 1 + get_or sizes e 0)
scan_after {q} {sizes} {d} {e} a s n h =
    let c = a_child a h in
    let here : depthAt q d < depthAt q e = omega (arith, c.one_deeper) in
    record {
      input = a;
      measured = s;
      is_least = n;
      after = omega arith;
      within = omega (arith, skip_within s a.inside);
      below = λ m k l. below_to q sizes d e s a.inside here c.between m k (omega arith);
      none_between = λ m k l z. absurd (no_child q sizes d e s a.inside here m k (omega arith) z);
    }

module _ {q sizes : List ℕ} {d last w least size e : ℕ} (v : ScanInv q sizes d last w least size e) where
  pub scan_found : e < length q → get_or q e 0 ≡ w → size ≤ get_or sizes e 0 → NextChild q sizes d last w size e
  scan_found h z k = record {
    after = v.after;
    within = v.within;
    child = λ _. (record { before = omega (arith, v.after, no_earlier v.input); inside = h; one_deeper = rw z v.input.one_deeper; between = v.below }, z, k);
    none_between = v.none_between;
  }

  pub scan_past : get_or q e 0 < least → NextChild q sizes d last w size (length q)
  scan_past h = record {
    after = v.input.inside;
    within = omega arith;
    child = λ b. absurd (omega arith);
    none_between = λ m a b c. v.none_between m a (ended q d e m (omega (arith, v.after, no_earlier v.input)) (omega (arith, v.is_least)) c) c;
  }

  pub scan_end : length q ≤ e → NextChild q sizes d last w size e
  scan_end h = record { after = v.after; within = v.within; child = λ b. absurd (omega arith); none_between = v.none_between }

  pub scan_on : e < length q → least ≤ get_or q e 0 → (get_or q e 0 ≡ w → get_or sizes e 0 < size) → ScanInv q sizes d last w least size (e + (1 + get_or sizes e 0))
  scan_on h k n = record {
    input = v.input;
    measured = s;
    is_least = v.is_least;
    after = omega (arith, v.after);
    within = skip_within s h;
    below = below_to q sizes d e s h here v.below;
    none_between = λ m a b c z. go m a b c z (dec_lt m e) (dec_lt e m);
  }
    where
      s : Measured q sizes
      s = v.measured

      here : depthAt q d < depthAt q e
      here = omega (arith, v.is_least)

      go : (m : ℕ) → last < m → m < e + (1 + get_or sizes e 0) → IsParent q d m → get_or q m 0 ≡ w → Dec (m < e) → Dec (e < m) → get_or sizes m 0 < size
      go m a b c z (yes f) _ = v.none_between m a f c z
      go m a b c z (no f) (yes g) = absurd (no_child q sizes d e s h here m g b c)
      go m a b c z (no f) (no g) = let y : m ≡ e = omega arith in rw y (n (rw y at z))
