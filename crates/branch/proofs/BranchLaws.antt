-- LAWS for `branch_of`: the node of each depth, of the nodes so far.
use mathlib.Core.Path.{◌≡◌, refl, sym, ap, ◌∙◌}
use mathlib.Core.List.{List}
use Prim.Native.Nat.{ℕ, zero, suc, ◌+◌, ◌≤◌, ◌<◌}
use native.Mathlib.Omega.{arith}
use native.Mathlib.Decide.{ℕ_discrete}
use lib.ListN.{length, get_or, set, length-set}
use lib.Seq.{get_or-set_same, get_or-set_other}
use Rattle.terms.specs.Tree.{depthAt}
use Rattle.rightmost.specs.Ends.{last_of}
use Rattle.branch.specs.Branch.{PatternInput}

-- of the first n nodes b is the last of depth e
pub record LastOfDepth (s : List ℕ) (n e b : ℕ) : Type 0 where
  pub inside : b < n
  pub depth : depthAt s b ≡ e
  pub none_later : (k : ℕ) → b < k → k < n → ¬ (depthAt s k ≡ e)

-- the branch of the first n nodes, of which k is the last
pub record BranchTo (s : List ℕ) (n : ℕ) (branch : List ℕ) : Type 0 where
  pub all : length branch ≡ 16
  pub within : n ≤ length s
  pub each : (e k : ℕ) → suc k ≡ n → e ≤ depthAt s k → LastOfDepth s n e (get_or branch e 0)

pub depth_small : {s : List ℕ} → PatternInput s → (i : ℕ) → i < length s → depthAt s i < 16
depth_small v i h = omega (arith, (v.is_tree.pairs i h).depth_to_15)

pub last_small : {s : List ℕ} → PatternInput s → depthAt s (last_of s) < 16
last_small {s} p = depth_small p (last_of s) (omega (arith, p.is_tree.has_root))

pub branch_next : {s branch : List ℕ} {i : ℕ} → PatternInput s → BranchTo s i branch → i < length s → BranchTo s (i + 1) (set branch (depthAt s i) i)
branch_next {s} {branch} {i} p v h = record { all = length-set branch (depthAt s i) i ∙ v.all; within = omega arith; each = λ e k q l. at e k (omega arith) l (ℕ_discrete e (depthAt s i)) }
  where
    here : LastOfDepth s (i + 1) (depthAt s i) (get_or (set branch (depthAt s i) i) (depthAt s i) 0)
    here = rw (get_or-set_same branch (depthAt s i) i 0 (omega (arith, v.all, depth_small p i h))) (record { inside = omega arith; depth = refl; none_later = λ k a b. absurd (omega arith) })

    older : (i : ℕ) → i < length s → BranchTo s i branch → (e : ℕ) → e < depthAt s i → LastOfDepth s i e (get_or branch e 0)
    older zero h v e l = absurd (omega (arith, p.is_tree.root_depth))
    older (suc m) h v e l = v.each e m refl (omega (arith, p.is_tree.later_to_next m h))

    stays : (e b : ℕ) → ¬ (e ≡ depthAt s i) → LastOfDepth s i e b → LastOfDepth s (i + 1) e b
    stays e b n z = record { inside = omega (arith, z.inside); depth = z.depth; none_later = λ k a q r. later k a q r (ℕ_discrete k i) }
      where
        later : (k : ℕ) → b < k → k < i + 1 → depthAt s k ≡ e → Dec (k ≡ i) → ⊥
        later k a q r (yes w) = n (sym r ∙ ap (depthAt s) w)
        later k a q r (no w) = z.none_later k a (omega arith) r

    at : (e k : ℕ) → k ≡ i → e ≤ depthAt s k → Dec (e ≡ depthAt s i) → LastOfDepth s (i + 1) e (get_or (set branch (depthAt s i) i) e 0)
    at e k q l (yes w) = rw w here
    at e k q l (no w) = rw (get_or-set_other branch (depthAt s i) e i 0 w) (stays e (get_or branch e 0) w (older i h v e (omega (arith, ap (depthAt s) q))))
