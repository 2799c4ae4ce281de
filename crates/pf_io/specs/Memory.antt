-- Ends in memory: which of their calls fail.
use Rattle.std.specs.Prelude.{ℕ, ◌+◌, ◌-◌, ◌^◌, ◌==◌, ◌&&◌, min, nat_lt, nat_le, Bool, List, length}
use Rattle.std.specs.List.{list_any}

-- whether the call of this number is one of those that are to fail
abbrev pub is_listed : List ℕ → ℕ → Bool
is_listed failing call = list_any (λ n. n == call) failing

-- the number of the call after this one. The last number of its type stands still.
abbrev pub next_call : ℕ → ℕ
next_call call = min (call + 1) (2 ^ 64 - 1)

-- whether a sink with so much room has none left for a piece that is not empty
abbrev pub is_past : ℕ → List ℕ → List ℕ → Bool
is_past room taken piece = nat_lt 0 (length piece) && nat_le room (length taken)
