-- LAWS for `levels`: one for each way round the loop, and the last node.
use mathlib.Core.Path.{◌≡◌, subst, ◌∙◌}
use mathlib.Core.List.{List}
use Prim.Native.Nat.{ℕ, suc, min, ◌+◌, ◌-◌, ◌*◌, ◌%◌, ◌≤◌, ◌<◌}
use native.Mathlib.Omega.{arith}
use native.Mathlib.Numerals.{add-one}
use native.Mathlib.Decide.{ℕ_discrete}
use lib.ListN.{length, get_or, set, length-set}
use lib.Seq.{get_or-set_same, get_or-set_other}
use Rattle.terms.specs.Tree.{depthAt}
use Rattle.rightmost.specs.Ends.{last_of, OnBranch, NewChild, children}
use Rattle.rightmost.specs.Counts.{AtLevel}
use Rattle.rightmost.proofs.BranchLaws.{branch_unique, branch_last}
use Rattle.rightmost.proofs.LongerLaws.{new_child_at}
use Rattle.rightmost.proofs.LevelLaws.{level_last, level_child, level_limited}
use Rattle.branch.specs.Branch.{PatternInput, BranchOf, FormInput, LevelsOf}
use Rattle.branch.specs.Limit.{LimitOf}
use Rattle.branch.proofs.BranchLaws.{last_small}

pub pattern_input : {s : List ℕ} → FormInput s → PatternInput s
pattern_input f = record { is_tree = f.in_form.is_tree; few = f.few }

-- the levels of depth below n
pub record LevelsTo (s : List ℕ) (n : ℕ) (heaviest equal : List ℕ) : Type 0 where
  pub all_heaviest : length heaviest ≡ 16
  pub all_equal : length equal ≡ 16
  pub small : (e : ℕ) → e < n → get_or heaviest e 0 < 16000
  pub few : (e : ℕ) → e < n → get_or equal e 0 ≤ 16
  pub each : (e b : ℕ) → e < n → OnBranch s e b → AtLevel s b (get_or heaviest e 0) (get_or equal e 0)

-- one level more
levels_more : {s heaviest equal : List ℕ} {n x y : ℕ} → LevelsTo s n heaviest equal → n < 16 → x < 16000 → y ≤ 16 → ((b : ℕ) → OnBranch s n b → AtLevel s b x y) → LevelsTo s (n + 1) (set heaviest n x) (set equal n y)
levels_more {s} {heaviest} {equal} {n} {x} {y} v h small few at = record {
  all_heaviest = length-set heaviest n x ∙ v.all_heaviest;
  all_equal = length-set equal n y ∙ v.all_equal;
  small = λ e l. small_to e (omega arith) (ℕ_discrete e n);
  few = λ e l. few_to e (omega arith) (ℕ_discrete e n);
  each = λ e b l o. each_to e b (omega arith) o (ℕ_discrete e n);
}
  where
    new_x : get_or (set heaviest n x) n 0 ≡ x
    new_x = get_or-set_same heaviest n x 0 (omega (arith, v.all_heaviest))

    new_y : get_or (set equal n y) n 0 ≡ y
    new_y = get_or-set_same equal n y 0 (omega (arith, v.all_equal))

    small_to : (e : ℕ) → e ≤ n → Dec (e ≡ n) → get_or (set heaviest n x) e 0 < 16000
    small_to e l (yes q) = rw (q, new_x) small
    small_to e l (no q) = rw (get_or-set_other heaviest n e x 0 q) (v.small e (omega arith))

    few_to : (e : ℕ) → e ≤ n → Dec (e ≡ n) → get_or (set equal n y) e 0 ≤ 16
    few_to e l (yes q) = rw (q, new_y) few
    few_to e l (no q) = rw (get_or-set_other equal n e y 0 q) (v.few e (omega arith))

    each_to : (e b : ℕ) → e ≤ n → OnBranch s e b → Dec (e ≡ n) → AtLevel s b (get_or (set heaviest n x) e 0) (get_or (set equal n y) e 0)
    each_to e b l o (yes q) = rw (q, new_x, new_y) (at b (rw q at o))
    each_to e b l o (no q) = rw (get_or-set_other heaviest n e x 0 q, get_or-set_other equal n e y 0 q) (v.each e b (omega arith) o)

pub depth_below : {s : List ℕ} {n : ℕ} → FormInput s → n < depthAt s (last_of s) → n < 16
depth_below f h = omega (arith, last_small (pattern_input f))

-- A NODE OF THE BRANCH with a child there, the next of the branch
module _ {s branch : List ℕ} {n : ℕ} (f : FormInput s) (b : BranchOf s branch) (h : n < depthAt s (last_of s)) where
  node : OnBranch s n (get_or branch n 0)
  node = b.each n (omega arith)

  child : OnBranch s (suc n) (get_or branch (n + 1) 0)
  child = subst (λ (k : ℕ). OnBranch s k (get_or branch (n + 1) 0)) (add-one n) (b.each (n + 1) (omega arith))

  pub child_inside : get_or branch (n + 1) 0 < length s
  child_inside = child.inside

  pub child_new : NewChild s (get_or s (get_or branch (n + 1) 0) 0) (get_or branch n 0)
  child_new = new_child_at s _ n _ f.in_form.is_tree (f.in_form.is_tree.pairs _ child_inside) node child.depth

  level_of : {x y : ℕ} → AtLevel s (get_or branch n 0) x y → (c : ℕ) → OnBranch s n c → AtLevel s c x y
  level_of l c o = rw (branch_unique o node) l

  module _ {heaviest equal : List ℕ} {most : ℕ} (m : LimitOf s most) (v : LevelsTo s n heaviest equal) where
    below_16 : n < 16
    below_16 = omega (arith, (f.in_form.is_tree.pairs _ node.inside).depth_to_15, node.depth)

    -- its last child's pair may follow
    pub levels_child : {y : ℕ} → get_or s (get_or branch (n + 1) 0) 0 ≤ most → (y ≡ children s (get_or branch n 0) (get_or s (get_or branch (n + 1) 0) 0 % 1000)) × (y ≤ length s)
        → LevelsTo s (n + 1) (set heaviest n (get_or s (get_or branch (n + 1) 0) 0)) (set equal n y)
    levels_child {y} l z = levels_more v below_16 (omega (arith, m.small)) (omega (arith, z.1, f.few)) (level_of (rw z.0 (level_child f.in_form (rw node.depth child) (omega arith) m.all l)))

    -- it may not: what the neighbours allow is lighter
    pub levels_limited : most < get_or s (get_or branch (n + 1) 0) 0 → LevelsTo s (n + 1) (set heaviest n most) (set equal n 0)
    levels_limited l = levels_more v below_16 m.small (omega arith) (level_of (level_limited f.in_form (rw node.depth child) (omega arith) m.all l))

-- THE LAST NODE
pub levels_last : {s heaviest equal : List ℕ} {k most x : ℕ} → FormInput s → LimitOf s most → LevelsTo s k heaviest equal → depthAt s (last_of s) ≤ k → x ≡ min ((depthAt s (last_of s) + 2) * 1000 - 1) most
    → LevelsOf s (set heaviest (depthAt s (last_of s)) x) (set equal (depthAt s (last_of s)) 0)
levels_last {s} {heaviest} {equal} {k} {most} {x} f m v h z = record {
  all_heaviest = w.all_heaviest;
  all_equal = w.all_equal;
  small = λ e l. w.small e (omega arith);
  few = λ e l. w.few e (omega arith);
  each = λ e b o. w.each e b (omega (arith, o.no_deeper)) o;
}
  where
    before : LevelsTo s (depthAt s (last_of s)) heaviest equal
    before = record { all_heaviest = v.all_heaviest; all_equal = v.all_equal; small = λ e l. v.small e (omega arith); few = λ e l. v.few e (omega arith); each = λ e b l o. v.each e b (omega arith) o }

    at : (b : ℕ) → OnBranch s (depthAt s (last_of s)) b → AtLevel s b x 0
    at b o = level_last f.in_form (branch_unique o (branch_last s f.in_form.is_tree)) (omega arith) m.all (omega arith) (λ y a c. omega (arith, o.depth))

    w : LevelsTo s (depthAt s (last_of s) + 1) (set heaviest (depthAt s (last_of s)) x) (set equal (depthAt s (last_of s)) 0)
    w = levels_more before (last_small (pattern_input f)) (omega (arith, m.small)) (omega arith) at
