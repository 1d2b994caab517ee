-- LAWS. The branch of a tree has a node of each depth, up from its last.
use mathlib.Core.Path.{◌≡◌, ap}
use mathlib.Core.List.{List}
use Prim.Native.Nat.{ℕ, zero, suc, ◌+◌, ◌-◌, ◌≤◌, ◌<◌}
use native.Mathlib.Omega.{arith}
use native.Mathlib.Decide.{dec_lt}
use lib.ListN.{length}
use Rattle.terms.specs.Tree.{depthAt, IsTree, IsParent}
use Rattle.terms.proofs.EmbedsLaws.{has_parent}
use Rattle.terms.proofs.TreeLaws.{tree_any_depth}
use Rattle.rightmost.specs.Ends.{last_of, OnBranch}
use Rattle.rightmost.proofs.BranchLaws.{branch_last, branch_deeper, branch_of_deeper}

up_one : {p : List ℕ} {e : ℕ} → IsTree p → (b : ℕ) → OnBranch p (suc e) b → (a : ℕ) × OnBranch p e a
up_one {p} {e} t zero o = absurd (omega (arith, o.depth, t.root_depth))
up_one {p} {e} t (suc b) o =
    let z = has_parent p (tree_any_depth t) b o.inside in
    let r : IsParent p z.0 (suc b) = z.1 in
    let deep : depthAt p z.0 ≡ e = omega (arith, r.one_deeper, o.depth) in
    (z.0, rw deep at (branch_of_deeper p z.0 (omega (arith, r.before, r.inside)) (λ k a h. deeper z.0 r k a h (dec_lt k (suc b)) (dec_lt (suc b) k))))
  where
    deeper : (a : ℕ) → IsParent p a (suc b) → (k : ℕ) → a < k → k < length p → Dec (k < suc b) → Dec (suc b < k) → depthAt p a < depthAt p k
    deeper a r k h l (yes q) _ = r.between k h q
    deeper a r k h l (no q) (yes q') = omega (arith, branch_deeper t o k q' l, r.one_deeper, o.depth)
    deeper a r k h l (no q) (no q') = let same : suc b ≡ k = omega arith in omega (arith, r.one_deeper, ap (depthAt p) same)

branch_by : {p : List ℕ} → IsTree p → (n e : ℕ) → e + n ≡ depthAt p (last_of p) → (b : ℕ) × OnBranch p e b
branch_by {p} t zero e h = let same : depthAt p (last_of p) ≡ e = omega arith in (last_of p, rw same at (branch_last p t))
branch_by {p} t (suc n) e h = let z = branch_by t n (suc e) (omega arith) in up_one t z.0 z.1

pub branch_at : {p : List ℕ} → IsTree p → (e : ℕ) → e ≤ depthAt p (last_of p) → (b : ℕ) × OnBranch p e b
branch_at {p} t e h = branch_by t (depthAt p (last_of p) - e) e (omega arith)
