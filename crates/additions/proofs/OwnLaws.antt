-- LAWS. The children of the branch's nodes, counted by their pairs (`count_held`).
use mathlib.Core.Path.{◌≡◌, refl, sym, ap, ◌∙◌}
use mathlib.Core.Logic.{◌⊎◌, ⊎_elim}
use mathlib.Core.List.{List}
use Prim.Native.Nat.{ℕ, zero, suc, ◌+◌, ◌-◌, ◌%◌, ◌≤◌, ◌<◌}
use native.Mathlib.Omega.{arith}
use native.Mathlib.Numerals.{add-one}
use native.Mathlib.Decide.{ℕ_discrete}
use lib.ListN.{length, get_or, set, length-set}
use lib.Seq.{get_or-set_same, get_or-set_other}
use Rattle.terms.specs.Tree.{depthAt}
use Rattle.occurrence.proofs.SupportLaws.{counted_yes, counted_no}
use Rattle.rightmost.specs.Ends.{last_of, OnBranch, NewChild, child?, count_below, children}
use Rattle.rightmost.specs.Counts.{top_of}
use Rattle.rightmost.proofs.BranchLaws.{branch_unique}
use Rattle.rightmost.proofs.LastPlaceLaws.{child_is_pair}
use Rattle.branch.specs.Branch.{PatternInput, BranchOf}
use Rattle.additions.specs.Additions.{Own, OwnNone}

-- the first n nodes are done
pub record OwnTo (p own₀ own : List ℕ) (n : ℕ) : Type 0 where
  pub as_long : length own ≡ length own₀
  pub room : top_of p ≤ length own
  pub from_1 : 1 ≤ n
  pub within : n ≤ length p
  pub counted : (x b : ℕ) → NewChild p x b → get_or own x 0 ≡ count_below (child? p b (x % 1000)) n
  pub few : (x : ℕ) → get_or own x 0 ≤ n

pub own_start : {p own : List ℕ} → PatternInput p → OwnNone p own → OwnTo p own own 1
unfolding count_below
own_start {p} {own} t z = record {
  as_long = refl;
  room = z.room;
  from_1 = omega arith;
  within = t.is_tree.has_root;
  counted = λ x b e. z.none x ∙ sym (let q = counted_no (λ c. omega (arith, c.0.before)) (child? p b (x % 1000) 0) in omega (arith, q));
  few = λ x. omega (arith, z.none x);
}

module _ {p own₀ own branch : List ℕ} {i : ℕ} (t : PatternInput p) (b : BranchOf p branch) (w : OwnTo p own₀ own i) (h : i < length p) where
  pub deep : 1 ≤ depthAt p i
  deep = go i w.from_1 h
    where
      go : (j : ℕ) → 1 ≤ j → j < length p → 1 ≤ depthAt p j
      go zero a l = absurd (omega arith)
      go (suc j) a l = t.is_tree.later_from_1 j l

  -- the branch's node of the parent's depth stands before it
  module _ (k : depthAt p i ≤ depthAt p (last_of p) + 1) (l : get_or branch (depthAt p i - 1) 0 < i) where
    pub in_own : get_or p i 0 < length own
    in_own = omega (arith, w.room)

    pub own_more : OwnTo p own₀ (set own (get_or p i 0) (get_or own (get_or p i 0) 0 + 1)) (i + 1)
    unfolding count_below
    own_more = rw (add-one i) (record {
      as_long = length-set own (get_or p i 0) (get_or own (get_or p i 0) 0 + 1) ∙ w.as_long;
      room = omega (arith, length-set own (get_or p i 0) (get_or own (get_or p i 0) 0 + 1), w.room);
      from_1 = omega arith;
      within = h;
      counted = λ x c e. counted x c e (ℕ_discrete (get_or p i 0) x);
      few = λ x. few x (ℕ_discrete x (get_or p i 0));
    })
      where
        now : List ℕ
        now = set own (get_or p i 0) (get_or own (get_or p i 0) 0 + 1)

        same : get_or now (get_or p i 0) 0 ≡ get_or own (get_or p i 0) 0 + 1
        same = get_or-set_same own (get_or p i 0) (get_or own (get_or p i 0) 0 + 1) 0 in_own

        other : (x : ℕ) → ¬ (x ≡ get_or p i 0) → get_or now x 0 ≡ get_or own x 0
        other x n = get_or-set_other own (get_or p i 0) x (get_or own (get_or p i 0) 0 + 1) 0 n

        counted : (x c : ℕ) → NewChild p x c → Dec (get_or p i 0 ≡ x) → get_or now x 0 ≡ count_below (child? p c (x % 1000)) (suc i)
        counted x c e (yes q) =
            let on : OnBranch p (depthAt p i - 1) (get_or branch (depthAt p i - 1) 0) = b.each (depthAt p i - 1) (omega arith) in
            let level : depthAt p c ≡ depthAt p i - 1 = omega (arith, e.one_deeper, q) in
            let is_c : get_or branch (depthAt p i - 1) 0 ≡ c = branch_unique on (rw level at e.on_branch) in
            let child = (child_is_pair e i h).1 (omega arith, q) in
            let own_x : get_or own x 0 ≡ get_or own (get_or p i 0) 0 = ap (λ (y : ℕ). get_or own y 0) (sym q) in
            omega (arith, ap (λ (y : ℕ). get_or now y 0) q, same, own_x, w.counted x c e, counted_yes child (child? p c (x % 1000) i))
        counted x c e (no q) = omega (arith, other x (λ z. q (sym z)), w.counted x c e, counted_no (λ z. q ((child_is_pair e i h).0 z).1) (child? p c (x % 1000) i))

        few : (x : ℕ) → Dec (x ≡ get_or p i 0) → get_or now x 0 ≤ suc i
        few x (yes q) = omega (arith, ap (λ (y : ℕ). get_or now y 0) q, same, w.few (get_or p i 0))
        few x (no q) = omega (arith, other x q, w.few x)

  -- it is no child of the branch
  pub own_same : (depthAt p (last_of p) + 1 < depthAt p i) ⊎ (i ≤ get_or branch (depthAt p i - 1) 0) → OwnTo p own₀ own (i + 1)
  unfolding count_below
  own_same n = rw (add-one i) (record {
    as_long = w.as_long;
    room = w.room;
    from_1 = omega arith;
    within = h;
    counted = λ x c e. omega (arith, w.counted x c e, counted_no (λ z. none x c e ((child_is_pair e i h).0 z)) (child? p c (x % 1000) i));
    few = λ x. omega (arith, w.few x);
  })
    where
      none : (x c : ℕ) → NewChild p x c → (c < i) × (get_or p i 0 ≡ x) → ⊥
      none x c e (before, q) =
          let deeper : depthAt p i ≤ depthAt p (last_of p) + 1 = omega (arith, e.one_deeper, e.on_branch.no_deeper, q) in
          let on : OnBranch p (depthAt p i - 1) (get_or branch (depthAt p i - 1) 0) = b.each (depthAt p i - 1) (omega (arith, deep)) in
          let level : depthAt p c ≡ depthAt p i - 1 = omega (arith, e.one_deeper, q) in
          let is_c : get_or branch (depthAt p i - 1) 0 ≡ c = branch_unique on (rw level at e.on_branch) in
          ⊎_elim (λ (l : depthAt p (last_of p) + 1 < depthAt p i). omega arith) (λ (l : i ≤ get_or branch (depthAt p i - 1) 0). omega arith) n

pub own_end : {p own₀ own : List ℕ} {i : ℕ} → OwnTo p own₀ own i → length p ≤ i → Own p own
unfolding children
own_end {p} {i = i} w h = let q : i ≡ length p = omega (arith, w.within) in record { room = w.room; counted = λ x b e. rw q at (w.counted x b e) }
