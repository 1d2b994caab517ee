use mathlib.Core.Path.{sym}
use native.Mathlib.Omega.{arith}
use Prim.Native.Nat.{◌≤◌}
use lib.ListN.{length, get_or-eq_default}
use Rattle.crossing.proofs.field.Goals as goal

pub returns : goal.returns
returns c = let a = c.args in let past : length a.fields.now ≤ a.i = omega arith in sym (get_or-eq_default a.fields.now 0 past)
