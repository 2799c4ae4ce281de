-- What is found among values by number.
use Rattle.std.specs.Prelude.{◌≡◌, ℕ, ◌<◌, ◌≤◌, Bool, true, false, List, length, get_or}

-- no value from a number on passes a test
abbrev pub IsNoneFrom : {T : Type 0} → (T → Bool) → List T → ℕ → Type 0
IsNoneFrom {T} test values first = (k : ℕ) (d : T) → first ≤ k → k < length values → test (get_or values k d) ≡ false

-- the least number from another on whose value passes a test
pub record IsLeastFrom {T : Type 0} (test : T → Bool) (values : List T) (first number : ℕ) : Type 0 where
  pub low : first ≤ number
  pub within : number < length values
  pub passes : (d : T) → test (get_or values number d) ≡ true
  pub before : (k : ℕ) (d : T) → first ≤ k → k < number → test (get_or values k d) ≡ false
