-- LAWS. Level by level: the test of a child of a place, and what is done of a place.
use mathlib.Core.Path.{◌≡◌, ap}
use mathlib.Core.Logic.{◌↔◌, ◌⊎◌, inl, inr, ⊎_elim}
use mathlib.Core.List.{List}
use Prim.Native.Nat.{ℕ, suc, ◌+◌, ◌*◌, ◌/◌, ◌%◌, ◌≤◌, ◌<◌}
use native.Mathlib.Omega.{arith}
use native.Mathlib.Decide.{ℕ_discrete}
use lib.ListN.{get_or}
use Rattle.terms.specs.Tree.{depthAt}
use Rattle.terms.specs.Form.{InForm}
use Rattle.rightmost.specs.Ends.{last_of, OnBranch, IsChild, children, NewChild}
use Rattle.rightmost.specs.NextPair.{MayComeNext, LimitTo}
use Rattle.rightmost.specs.Counts.{AtLevel}
use Rattle.rightmost.proofs.BranchLaws.{branch_unique}
use Rattle.rightmost.proofs.SiblingLaws.{lighter_none, last_none}
use Rattle.rightmost.proofs.LimitLaws.{limit_exactly}
use Rattle.rightmost.proofs.TestLaws.{child_counts}

-- THE HEAVIEST PAIR of a level, with all that the branch allows (`LimitTo`) known

pair_small : {p : List ℕ} {x b : ℕ} → NewChild p x b → x < 16000
pair_small e = omega (arith, e.is_pair.depth_to_15)

-- under the last node: what the neighbours allow, and no deeper
pub level_last : {p : List ℕ} {b t most heaviest : ℕ} → InForm p → b ≡ last_of p → depthAt p (last_of p) < t → LimitTo p t most → heaviest ≤ most → ((x : ℕ) → x < 1000 * (depthAt p b + 2) → x ≤ most → x ≤ heaviest) → AtLevel p b heaviest 0
level_last {p} {b} {t} {most} {heaviest} f q h m low all = record { allowed = allowed; lighter = λ x e _. last_none e q; same = λ x e _. last_none e q }
  where
    allowed : (x : ℕ) → NewChild p x b → MayComeNext p x ↔ (x ≤ heaviest)
    allowed x e = ((λ z. all x (omega (arith, e.one_deeper)) ((limit_exactly f.is_tree (pair_small e) h m).0 z).1), (λ z. (limit_exactly f.is_tree (pair_small e) h m).1 ((λ c o. absurd (omega (arith, o.no_deeper, e.one_deeper, ap (depthAt p) q))), omega arith)))

module _ {p : List ℕ} {b c t most : ℕ} (f : InForm p) (o : OnBranch p (suc (depthAt p b)) c) (h : depthAt p (last_of p) < t) (m : LimitTo p t most) where
  on : {x : ℕ} → NewChild p x b → OnBranch p (x / 1000) c
  on e = rw e.one_deeper o

  may : (x : ℕ) → NewChild p x b → MayComeNext p x ↔ ((x ≤ get_or p c 0) × (x ≤ most))
  may x e = ((λ z. let y = (limit_exactly f.is_tree (pair_small e) h m).0 z in (y.0 c (on e), y.1)), (λ z. (limit_exactly f.is_tree (pair_small e) h m).1 ((λ c' o'. same c' (branch_unique o' (on e)) z.0), z.1)))
    where
      same : (c' : ℕ) → c' ≡ c → x ≤ get_or p c 0 → x ≤ get_or p c' 0
      same c' q l = rw q l

  -- under another node of the branch: its last child's pair, with that child's equals
  pub level_child : get_or p c 0 ≤ most → AtLevel p b (get_or p c 0) (children p b (get_or p c 0 % 1000))
  level_child l = record { allowed = λ x e. ((λ z. ((may x e).0 z).0), (λ z. (may x e).1 (z, omega arith))); lighter = λ x e k. lighter_none f e (on e) k; same = λ x e q. ap (λ (y : ℕ). children p b (y % 1000)) q }

  -- or what the neighbours allow, if that is lighter
  pub level_limited : most < get_or p c 0 → AtLevel p b most 0
  level_limited l = record { allowed = λ x e. ((λ z. ((may x e).0 z).1), (λ z. (may x e).1 (omega arith, z))); lighter = λ x e k. lighter_none f e (on e) (omega arith); same = λ x e q. lighter_none f e (on e) (omega arith) }

-- THE TEST of a child w of d, a place of b, of which x is the pair
pub level_test : {p q : List ℕ} {x b d w heaviest equal : ℕ} → AtLevel p b heaviest equal → NewChild p x b → IsChild q d (x % 1000) w
    → ((x < heaviest) ⊎ ((x ≡ heaviest) × (equal < children q d (x % 1000)))) ↔ (MayComeNext p x × (children p b (x % 1000) < children q d (x % 1000)))
level_test {p} {q} {x} {b} {d} {w} {heaviest} {equal} l e c = (⊎_elim less (λ z. equals z.0 z.1), from)
  where
    less : x < heaviest → MayComeNext p x × (children p b (x % 1000) < children q d (x % 1000))
    less k = ((l.allowed x e).1 (omega arith), omega (arith, l.lighter x e k, child_counts c))

    equals : x ≡ heaviest → equal < children q d (x % 1000) → MayComeNext p x × (children p b (x % 1000) < children q d (x % 1000))
    equals k n = ((l.allowed x e).1 (omega arith), omega (arith, l.same x e k))

    from : MayComeNext p x × (children p b (x % 1000) < children q d (x % 1000)) → (x < heaviest) ⊎ ((x ≡ heaviest) × (equal < children q d (x % 1000)))
    from z = go (ℕ_discrete x heaviest) ((l.allowed x e).0 z.0) z.1
      where
        go : Dec (x ≡ heaviest) → x ≤ heaviest → children p b (x % 1000) < children q d (x % 1000) → (x < heaviest) ⊎ ((x ≡ heaviest) × (equal < children q d (x % 1000)))
        go (yes k) h n = inr (k, omega (arith, l.same x e k))
        go (no k) h n = inl (omega arith)

-- b is told by the pair
pub parent_unique : {p : List ℕ} {x b c : ℕ} → NewChild p x b → NewChild p x c → b ≡ c
parent_unique {p} {x} {b} {c} e f = let q : depthAt p b ≡ depthAt p c = omega (arith, e.one_deeper, f.one_deeper) in branch_unique (rw q at e.on_branch) f.on_branch
