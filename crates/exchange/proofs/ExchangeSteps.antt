-- LAWS for `exchange`: three reversals, and nothing to do.
use mathlib.Core.Path.{◌≡◌, refl, ◌∙◌}
use mathlib.Core.List.{List}
use Prim.Native.Nat.{ℕ, ◌+◌, ◌-◌, ◌≤◌}
use native.Mathlib.Omega.{arith}
use Rattle.exchange.specs.Exchange.{Reversed, Exchanged}

-- three reversals exchange two runs
pub reversals : {s u v t : List ℕ} {a b c : ℕ} → a ≤ b → b ≤ c → Reversed s u a b → Reversed u v b c → Reversed v t a c → Exchanged s t a b c
reversals {s} {u} {v} {t} {a} {b} {c} ab bc p q r = record {
  same_length = r.same_length ∙ q.same_length ∙ p.same_length;
  before = λ k h. r.before k h ∙ q.before k (omega arith) ∙ p.before k h;
  to_back = λ k m h l e. r.mirrored m (a + b - 1 - k) (omega arith) (omega arith) (omega arith) ∙ q.before (a + b - 1 - k) (omega arith) ∙ p.mirrored (a + b - 1 - k) k (omega arith) (omega arith) (omega arith);
  to_front = λ k m h l e. r.mirrored m (b + c - 1 - k) (omega arith) (omega arith) (omega arith) ∙ q.mirrored (b + c - 1 - k) k (omega arith) (omega arith) (omega arith) ∙ p.behind k h;
  behind = λ k h. r.behind k h ∙ q.behind k h ∙ p.behind k (omega arith);
}

-- nothing to exchange
pub none_exchanged : {s : List ℕ} {a b c : ℕ} → b ≡ c → Exchanged s s a b c
none_exchanged {s} e = record {
  same_length = refl;
  before = λ k h. refl;
  to_back = λ k m h l q. let z : m ≡ k = omega arith in rw z;
  to_front = λ k m h l q. absurd (omega arith);
  behind = λ k h. refl;
}
