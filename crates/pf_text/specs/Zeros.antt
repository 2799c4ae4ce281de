-- Bytes before zeros.
use Rattle.std.specs.Prelude.{◌≡◌, ◌≢◌, ℕ, ◌-◌, ◌<◌, ◌≤◌, List, length, drop, replicate, slice_index}

-- the last byte, where there is one, is no zero
abbrev pub EndsApart : List ℕ → Type 0
EndsApart bytes = 0 < length bytes → slice_index bytes (length bytes - 1) ≢ 0

-- from this place on all bytes are zeros, and the one before it is none
pub record IsBeforeZeros (bytes : List ℕ) (end : ℕ) : Type 0 where
  pub within : end ≤ length bytes
  pub zeros : drop end bytes ≡ replicate (length bytes - end) 0
  pub apart : 0 < end → slice_index bytes (end - 1) ≢ 0
