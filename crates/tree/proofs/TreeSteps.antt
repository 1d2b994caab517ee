-- LAWS for `is_tree`: one for each way out, and one for the loop.
use mathlib.Core.Logic.{◌≢◌}
use mathlib.Core.Path.{◌≡◌, refl}
use mathlib.Core.Bool.{true, false}
use mathlib.Core.List.{List}
use Prim.Native.Nat.{ℕ, zero, suc, ◌+◌, ◌/◌, ◌%◌, ◌≤◌, ◌<◌}
use native.Mathlib.Omega.{arith}
use native.Mathlib.Decide.{dec_lt}
use lib.ListN.{length, get_or}
use Rattle.terms.specs.Tree.{depthAt, IsPair}
use Rattle.terms.specs.Tells.{decided}
use Rattle.terms.proofs.DecidedLaws.{says_yes, says_no}
use Rattle.terms.proofs.TreeLaws.{tree?}

pub empty_no : (s : List ℕ) → length s ≡ 0 → false ≡ decided (tree? s)
empty_no s h = says_no (tree? s) (λ t. omega (arith, t.has_root))

pub label_no : (s : List ℕ) (i : ℕ) → i < length s → get_or s i 0 % 1000 ≡ 0 → false ≡ decided (tree? s)
label_no s i b h = says_no (tree? s) (λ t. omega (arith, (t.pairs i b).label_from_1))

pub zero_no : (s : List ℕ) → ¬ (length s ≡ 0) → get_or s 0 0 ≡ 0 → false ≡ decided (tree? s)
zero_no s n e = label_no s 0 (omega arith) (omega arith)

pub deep_no : (s : List ℕ) (i : ℕ) → i < length s → 15 < get_or s i 0 / 1000 → false ≡ decided (tree? s)
deep_no s i b h = says_no (tree? s) (λ t. omega (arith, (t.pairs i b).depth_to_15))

pub root_no : (s : List ℕ) → 1000 ≤ get_or s 0 0 → false ≡ decided (tree? s)
root_no s h = says_no (tree? s) (λ t. omega (arith, t.root_depth))

pub second_root_no : (s : List ℕ) (i : ℕ) → 1 ≤ i → i < length s → get_or s i 0 / 1000 ≡ 0 → false ≡ decided (tree? s)
second_root_no s zero e b h = absurd (omega arith)
second_root_no s (suc i) e b h = says_no (tree? s) (λ t. omega (arith, t.later_from_1 i b))

-- the first i pairs are a tree, and the last of them has this depth
pub record TreeTo (s : List ℕ) (i above : ℕ) : Type 0 where
  pub some : 1 ≤ i
  pub within : i ≤ length s
  pub above_to_15 : above ≤ 15
  pub pairs : (k : ℕ) → k < i → IsPair (get_or s k 0)
  pub root : depthAt s 0 ≡ 0
  pub from_1 : (k : ℕ) → suc k < i → 1 ≤ depthAt s (suc k)
  pub to_next : (k : ℕ) → suc k < i → depthAt s (suc k) ≤ suc (depthAt s k)
  pub last : (k : ℕ) → suc k ≡ i → above ≡ depthAt s k

pub root_alone : (s : List ℕ) → ¬ (length s ≡ 0) → get_or s 0 0 ≢ 0 → get_or s 0 0 < 1000 → TreeTo s 1 0
root_alone s l n h = record {
  some = omega arith;
  within = omega arith;
  above_to_15 = omega arith;
  pairs = λ k b. let e : k ≡ 0 = omega arith in rw e (record { depth_to_15 = omega arith; label_from_1 = omega arith });
  root = omega arith;
  from_1 = λ k b. absurd (omega arith);
  to_next = λ k b. absurd (omega arith);
  last = λ k b. let e : k ≡ 0 = omega arith in rw e (omega arith);
}

pub jump_no : (s : List ℕ) (i above : ℕ) → i < length s → TreeTo s i above → above + 1 < get_or s i 0 / 1000 → false ≡ decided (tree? s)
jump_no s zero above b r h = absurd (omega (arith, r.some))
jump_no s (suc i) above b r h = says_no (tree? s) (λ t. omega (arith, t.later_to_next i b, r.last i refl))

pub one_more : (s : List ℕ) (i above : ℕ) → TreeTo s i above → i < length s → get_or s i 0 % 1000 ≢ 0 → get_or s i 0 / 1000 ≢ 0 → get_or s i 0 / 1000 ≤ 15 → get_or s i 0 / 1000 ≤ above + 1
    → TreeTo s (i + 1) (get_or s i 0 / 1000)
one_more s i above r b l z d n = record {
  some = omega arith;
  within = omega arith;
  above_to_15 = d;
  pairs = λ k h. pr k (dec_lt k i) (omega arith);
  root = r.root;
  from_1 = λ k h. fr k (dec_lt (suc k) i) (omega arith);
  to_next = λ k h. tn k (dec_lt (suc k) i) (omega arith);
  last = λ k h. let e : k ≡ i = omega arith in rw e;
}
  where
    pr : (k : ℕ) → Dec (k < i) → k ≤ i → IsPair (get_or s k 0)
    pr k (yes b) h = r.pairs k b
    pr k (no b) h = let e : k ≡ i = omega arith in rw e (record { depth_to_15 = d; label_from_1 = omega arith })

    fr : (k : ℕ) → Dec (suc k < i) → suc k ≤ i → 1 ≤ depthAt s (suc k)
    fr k (yes b) h = r.from_1 k b
    fr k (no b) h = let e : suc k ≡ i = omega arith in rw e (omega arith)

    tn : (k : ℕ) → Dec (suc k < i) → suc k ≤ i → depthAt s (suc k) ≤ suc (depthAt s k)
    tn k (yes b) h = r.to_next k b
    tn k (no b) h = let e : suc k ≡ i = omega arith in let q = r.last k e in rw e (omega arith)

pub all_yes : (s : List ℕ) (i above : ℕ) → length s ≤ i → TreeTo s i above → true ≡ decided (tree? s)
all_yes s i above b r = says_yes (tree? s) (record {
  has_root = omega (arith, r.some, r.within);
  pairs = λ k q. r.pairs k (omega arith);
  root_depth = r.root;
  later_from_1 = λ k q. r.from_1 k (omega arith);
  later_to_next = λ k q. r.to_next k (omega arith);
})
