-- LAWS for `repeats`, `allowed` and `limit`: one for each way round a loop and each way out.
use mathlib.Core.Path.{◌≡◌, sym, ap, ◌∙◌}
use mathlib.Core.List.{List, ◌++◌}
use mathlib.Core.Bool.{Bool, true, true≢false}
use Prim.Native.Nat.{ℕ, zero, suc, min, ◌+◌, ◌-◌, ◌≤◌, ◌<◌}
use native.Mathlib.Omega.{arith}
use native.Mathlib.Numerals.{add-one}
use lib.Dec.{eqb}
use lib.ListN.{length, get_or, drop}
use Rattle.std.specs.List.{between, starts_with}
use Rattle.std.proofs.lemmas.Bool.Decides.{Decides-eqb}
use Rattle.std.proofs.lemmas.List.Edits.{length-between, get_or-between}
use Rattle.std.proofs.lemmas.List.Prefix.{front_reads, front_from_reads}
use Rattle.std.proofs.lemmas.Slice.Eq.{starts_is}
use Rattle.terms.specs.Tells.{Tells}
use Rattle.fleet.proofs.TellsLaws.{tells_if}
use Rattle.terms.specs.Tree.{depthAt, IsTree, SubtreeEnd}
use Rattle.rightmost.specs.Ends.{last_of, OnBranch}
use Rattle.rightmost.specs.NextPair.{LastNeighbours, Repeats, LimitTo}
use Rattle.rightmost.proofs.BranchLaws.{branch_deeper}
use Rattle.rightmost.proofs.NextPairLaws.{neighbour_unique, no_neighbour}
use Rattle.rightmost.proofs.TestLaws.{repeats_of}
use Rattle.rightmost.proofs.LimitLaws.{limit_start, limit_same, limit_more}
use Rattle.branch.specs.Branch.{PatternInput, BranchOf}
use Rattle.branch.specs.Limit.{AllowInput, Allowed}
use Rattle.branch.proofs.BranchLaws.{last_small}

-- REPEATS: the nodes from i on start with those from j on
abbrev from : ℕ → List ℕ → List ℕ
from i s = between i (length s) s

pub repeats_told : {s : List ℕ} {i j : ℕ} {told : Bool} → LastNeighbours s i j → told ≡ starts_with eqb (from i s) (from j s) → Tells told (Repeats s i j)
repeats_told {s} {i} {j} {told} l e = tells_if told (λ q. repeats_of l (λ k h. same q k h)) (λ q r. true≢false (sym (starts.1 _ (front r)) ∙ q))
  where
    starts : (told ≡ true → from i s ≡ from j s ++ drop (length (from j s)) (from i s)) × ((rest : List ℕ) → from i s ≡ from j s ++ rest → told ≡ true)
    starts = starts_is Decides-eqb (from i s) (from j s) told e

    before : i < j
    before = l.ends.after

    long : (k : ℕ) → length (from k s) ≡ length s - k
    long k = length-between s k (length s) (omega arith)

    at : (m k : ℕ) → m + k < length s → get_or (from m s) k 0 ≡ get_or s (m + k) 0
    at m k h = get_or-between s m (length s) k 0 h

    same : told ≡ true → (k : ℕ) → j + k < length s → get_or s (i + k) 0 ≡ get_or s (j + k) 0
    same q k h = sym (at i k (omega arith)) ∙ front_reads 0 (from i s) (from j s) _ (starts.0 q) k (omega (arith, long j)) ∙ at j k h

    front : Repeats s i j → from i s ≡ from j s ++ drop (length (from j s)) (from i s)
    front r = front_from_reads 0 (from i s) (from j s) (omega (arith, long i, long j)) (λ k h. at i k (omega (arith, long j)) ∙ (r k (omega (arith, long j))).1 ∙ sym (at j k (omega (arith, long j))))

-- ALLOWED: one node of the branch
pub left_neighbour : {s : List ℕ} {i j most : ℕ} → AllowInput s j most → SubtreeEnd s i j × (depthAt s i ≡ depthAt s j) → LastNeighbours s i j
left_neighbour {s} {i} {j} a z = record {
  ends = z.0;
  level = sym z.1;
  last = record { after = a.on_branch.inside; within = omega arith; deeper = λ k b l. branch_deeper a.is_tree a.on_branch k b l; stop = λ l. absurd (omega arith) };
}

pub allowed_alone : {s : List ℕ} {j most : ℕ} → AllowInput s j most → depthAt s (j - 1) < depthAt s j → Allowed s j most most
allowed_alone {s} {j} {most} a h = record { all = limit_same a.on_branch a.above (λ i l _. none j i a.below_root h l); no_more = omega arith }
  where
    none : (j i : ℕ) → 1 ≤ j → depthAt s (j - 1) < depthAt s j → ¬ LastNeighbours s i j
    none zero i b h l = omega arith
    none (suc j) i b h l = let e : suc j - 1 ≡ j = omega arith in no_neighbour (omega (arith, h, ap (depthAt s) e)) l

pub allowed_other : {s : List ℕ} {i j most : ℕ} → AllowInput s j most → LastNeighbours s i j → ¬ Repeats s i j → Allowed s j most most
allowed_other {s} {i} {j} a l n = record { all = limit_same a.on_branch a.above (λ k m r. n (rw (neighbour_unique m l) at r)); no_more = omega arith }

pub allowed_more : {s : List ℕ} {i j most : ℕ} → AllowInput s j most → LastNeighbours s i j → Repeats s i j → Allowed s j most (min (get_or s (i + (length s - j)) 0) most)
allowed_more a l z = record { all = limit_more a.on_branch a.above l z (omega arith) (omega arith) (λ x b c. omega arith); no_more = omega arith }

-- LIMIT: the branch, depth by depth
pub record LimitBefore (s : List ℕ) (t most : ℕ) : Type 0 where
  pub from_1 : 1 ≤ t
  pub to_last : t ≤ suc (depthAt s (last_of s))
  pub above : LimitTo s t most
  pub small : most < 16000

pub limit_begun : {s : List ℕ} → IsTree s → LimitBefore s 1 15999
limit_begun {s} t = record { from_1 = omega arith; to_last = omega arith; above = limit_start s t; small = omega arith }

allow_at : {s : List ℕ} {t j most : ℕ} → IsTree s → OnBranch s t j → 1 ≤ t → LimitTo s t most → AllowInput s j most
allow_at {s} {t} {j} {most} tree o h m = record { is_tree = tree; on_branch = rw o.depth o; below_root = later j o.depth; above = rw o.depth m }
  where
    later : (j : ℕ) → depthAt s j ≡ t → 1 ≤ j
    later zero e = absurd (omega (arith, tree.root_depth))
    later (suc j) e = omega arith

-- the nodes of the branch below the root
abbrev below_root : (s branch : List ℕ) → List ℕ
below_root s branch = between 1 (depthAt s (last_of s) + 1) branch

not_past : {s branch : List ℕ} {i : ℕ} → PatternInput s → BranchOf s branch → i < length (below_root s branch) → 1 + i ≤ depthAt s (last_of s)
not_past {s} {branch} p b h = omega (arith, b.all, last_small p, length-between branch 1 (depthAt s (last_of s) + 1))

at_depth : {s branch : List ℕ} {i : ℕ} → PatternInput s → BranchOf s branch → i < length (below_root s branch) → get_or (below_root s branch) i 0 ≡ get_or branch (1 + i) 0
at_depth {s} {branch} {i} p b h = get_or-between branch 1 (depthAt s (last_of s) + 1) i 0 (omega (arith, not_past p b h))

pub allow_input : {s branch : List ℕ} {i most : ℕ} → PatternInput s → BranchOf s branch → LimitBefore s (1 + i) most → i < length (below_root s branch) → AllowInput s (get_or (below_root s branch) i 0) most
allow_input {s} {branch} {i} p b v h = rw (at_depth p b h) (allow_at p.is_tree (b.each (1 + i) (not_past p b h)) v.from_1 v.above)

one_deeper : {s : List ℕ} {t j most r : ℕ} → OnBranch s t j → Allowed s j most r → LimitTo s (t + 1) r
one_deeper {s} {t} {j} {most} {r} o a = rw (add-one t) (rw o.depth at a.all)

pub limit_next : {s branch : List ℕ} {i most r : ℕ} → PatternInput s → BranchOf s branch → LimitBefore s (1 + i) most → i < length (below_root s branch) → Allowed s (get_or (below_root s branch) i 0) most r → LimitBefore s (1 + (i + 1)) r
limit_next {s} {branch} {i} {most} {r} p b v h a =
    let e : 1 + (i + 1) ≡ 1 + i + 1 = omega arith in
    rw e (record { from_1 = omega arith; to_last = omega (arith, not_past p b h); above = one_deeper (b.each (1 + i) (not_past p b h)) (rw (at_depth p b h) at a); small = omega (arith, a.no_more, v.small) })
