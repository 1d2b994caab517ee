-- LAWS. The loop of `occurs`: the pattern occurs exactly if it does at some node.
use mathlib.Core.Path.{◌≡◌}
use mathlib.Core.List.{List}
use Prim.Native.Nat.{ℕ, ◌+◌, ◌-◌, ◌≤◌, ◌<◌}
use native.Mathlib.Omega.{arith}
use native.Mathlib.Decide.{ℕ_discrete}
use lib.ListN.{length, get_or}
use Rattle.terms.specs.Tree.{IsTree}
use Rattle.terms.specs.Placing.{Occurs, OccursAt}

-- `occurs`: the nodes below d were tried in vain
pub record NoneBelow (p q : List ℕ) (d : ℕ) : Type 0 where
  pub away : (v : ℕ) → v < d → ¬ OccursAt p q v

pub none_yet : (p q : List ℕ) → NoneBelow p q 0
none_yet p q = record { away = λ v h. absurd (omega arith) }

pub one_further : (p q : List ℕ) (d : ℕ) → NoneBelow p q d → ¬ OccursAt p q d → NoneBelow p q (d + 1)
one_further p q d n s = record { away = λ v h z. go v h z (ℕ_discrete v d) }
  where
    go : (v : ℕ) → v < d + 1 → OccursAt p q v → Dec (v ≡ d) → ⊥
    go v h z (yes e) = s (rw e at z)
    go v h z (no e) = n.away v (omega arith) z

pub occurs_here : (p q : List ℕ) (d : ℕ) → OccursAt p q d → Occurs p q
occurs_here p q d s = record { tuple = s.tuple; placing = s.placing }

pub occurs_not : (p q : List ℕ) (d : ℕ) → IsTree p → length q ≤ d → NoneBelow p q d → ¬ Occurs p q
occurs_not p q d t h n o =
    let a = o.placing.from_1 0 t.has_root in
    let b = o.placing.to_last 0 t.has_root in
    n.away (get_or o.tuple 0 0 - 1) (omega arith) (record { tuple = o.tuple; placing = o.placing; root = omega arith })
