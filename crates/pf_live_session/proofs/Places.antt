-- What is taken out of a list, and put back at its place.
use Rattle.std.proofs.Common.{◌≡◌, ℕ, zero, suc, ◌<◌, List, [], ◌∷◌, Some, Result, Ok, Err, length, arith, refl, ap, slice_get, slice_set}
use Rattle.std.specs.List.{insert, remove}
use Rattle.std.specs.Prelude.{IfOk, OnErr}
use Rattle.pf_chunk.specs.Views.{ChunkIs}
use Rattle.pf_live_session.specs.Steps.{BecameAt}

pub put_back : {X : Type 0} (xs : List X) (i : ℕ) (x : X) → i < length xs → insert (remove xs i) i x ≡ slice_set xs i x
put_back [] i x low = absurd (omega (arith, low))
put_back (y ∷ ys) zero x low = refl
put_back (y ∷ ys) (suc i) x low = ap (λ rest. y ∷ rest) (put_back ys i x (omega (arith, low)))

module _ (at : ℕ) (old new : List ChunkIs) (was is : ChunkIs) (there : slice_get old at ≡ Some was) (put : new ≡ slice_set old at is) where
  pub at_ok : {L E : Type 0} (r : Result L E) (P : L → ChunkIs → ChunkIs → Type 0) → IfOk r (λ told. P told was is) → IfOk r (λ told. BecameAt at old new (P told))
  at_ok (Ok told) P p = record { was = was; is = is; there = there; put = put; became = p }
  at_ok (Err e) P p = tt

  pub at_err : {L E : Type 0} (r : Result L E) (P : ChunkIs → ChunkIs → Type 0) → OnErr r (P was is) → OnErr r (BecameAt at old new P)
  at_err (Ok told) P p = tt
  at_err (Err e) P p = record { was = was; is = is; there = there; put = put; became = p }
