-- LAWS. Numbers of nodes that fit, and one more number at the end of a list.
use mathlib.Core.Path.{refl, sym, ap, ◌∙◌}
use mathlib.Core.List.{List, [], ◌∷◌, ◌++◌, append_assoc, append-nil}
use Prim.Native.Nat.{ℕ, ◌+◌, ◌*◌, ◌<◌}
use native.Mathlib.Omega.{arith}
use native.Mathlib.Numerals.{add-one}
use lib.ListN.{length, take, set, length-set, length-append}
use lib.Seq.{take-suc-set}
use mir.Syntax.{w64}
use mir.Val.{Fits}
use Rattle.terms.specs.Fleet.{most_nodes}
use Rattle.groups.specs.Putting.{PutBehind}

-- NUMBERS that fit: those of nodes, and what is reckoned with them
pub doubled : {n : ℕ} → n < most_nodes → Fits w64 (n * 2)
doubled h = omega arith

pub one_more : {n : ℕ} → n < most_nodes → Fits w64 (n + 1)
one_more h = omega arith

-- ONE MORE behind those that were put
pub behind_none : (list : List ℕ) (len : ℕ) → PutBehind list len [] list len
behind_none list len = record { same_length = refl; as_many = omega arith; put = sym (append-nil (take len list)) }

pub behind_more : {list list' others : List ℕ} {len end : ℕ} (v : ℕ) → end < length list → PutBehind list len others list' end → PutBehind list len (others ++ v ∷ []) (set list' end v) (end + 1)
behind_more {list} {list'} {others} {len} {end} v h p = record {
  same_length = length-set list' end v ∙ p.same_length;
  as_many = omega (arith, p.as_many, length-append others (v ∷ []));
  put = ap (λ (n : ℕ). take n (set list' end v)) (add-one end) ∙ take-suc-set list' end v (omega (arith, p.same_length)) ∙ ap (λ (l : List ℕ). l ++ v ∷ []) p.put ∙ append_assoc (take len list) others (v ∷ []);
}
