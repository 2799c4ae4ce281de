-- What is known of a call that answered, or did not.
use Rattle.std.proofs.Common.{◌≡◌, false, sym}
use Rattle.std.specs.Prelude.{Result, Ok, Err, OnErr, OnOk, is_err}
use Rattle.std.proofs.lemmas.Bool.{false≢true}

pub ok_of : {X E : Type 0} (r : Result X E) (P : Type 0) → is_err r ≡ false → OnOk r P → P
ok_of (Ok x) P none p = p
ok_of (Err e) P none p = absurd (false≢true (sym none))
