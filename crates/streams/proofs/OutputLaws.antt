-- LAWS. For whoever writes: a call that did not answer an error met what its contract says of `Ok`.
use Rattle.std.proofs.Common.{◌≡◌, Bool, false}
use Rattle.std.specs.Prelude.{Result, Ok, Err, OnOk, is_err}

pub ok_unless : {T E P : Type 0} (r : Result T E) {failed : Bool} → failed ≡ is_err r → failed ≡ false → OnOk r P → P
ok_unless (Ok x) t e h = h
ok_unless (Err x) t e h = absurd cc
