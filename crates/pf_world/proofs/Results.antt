-- What calls come to, by their results.
use Rattle.std.proofs.Common.{◌≡◌, List, ◌++◌, Result, Ok, Err, IsErr, IsOk, OnOk, is_ok, if◌then◌else◌}
use Rattle.std.proofs.lemmas.Bool.{false≢true}

-- a push that succeeded
pub pushed : {X E Y : Type 0} (r : Result X E) (old more now : List Y) → IsOk r → now ≡ (if is_ok r then old ++ more else old) → now ≡ old ++ more
pushed (Ok x) old more now is items = items
pushed (Err e) old more now is items = absurd (false≢true is)

pub on_ok : {X E : Type 0} (r : Result X E) (P Q : Type 0) → (P → Q) → OnOk r P → OnOk r Q
on_ok (Ok x) P Q more is = more is
on_ok (Err e) P Q more is = tt

-- there is no value
pub none_ok : {X E : Type 0} (r : Result X E) (P : Type 0) → IsErr r → OnOk r P
none_ok (Ok x) P is = absurd (false≢true is)
none_ok (Err e) P is = tt
