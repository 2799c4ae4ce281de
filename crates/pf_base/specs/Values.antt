-- Values of at most 400 bytes.
use Rattle.std.specs.Prelude.{◌≡◌, ℕ, ◌-◌, ◌≤◌, List, ◌++◌, length, replicate, take}

-- with zeros up to so many bytes
abbrev pub zero_filled : ℕ → List ℕ → List ℕ
zero_filled most bytes = bytes ++ replicate (most - length bytes) 0

abbrev pub value_padded : List ℕ → List ℕ
value_padded bytes = zero_filled 400 bytes

-- a field of 400 bytes is zero past the bytes of the value
pub record IsPadded (field : List ℕ) (len : ℕ) : Type 0 where
  pub few : len ≤ 400
  pub there : length (take len field) ≡ len
  pub zeros : value_padded (take len field) ≡ field
