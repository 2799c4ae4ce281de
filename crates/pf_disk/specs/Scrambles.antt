-- What a crash of a disk in memory leaves, by the seed of its generator.
use Rattle.std.specs.Prelude.{ℕ, suc, ◌+◌, ◌*◌, ◌/◌, ◌%◌, ◌^◌, List, [], ◌∷◌, if◌then◌else◌}
use Rattle.pf_disk.specs.Recorded.{State, is_touched}

-- the generator's next number, and the byte that a number gives: its top one
abbrev pub next_number : ℕ → ℕ
next_number number = (number * 6364136223846793005 + 1442695040888963407) % 2 ^ 64

abbrev pub top_byte : ℕ → ℕ
top_byte number = number / 2 ^ 56

-- Bytes of which the first stands at this place: each that a range holds becomes that of the generator's next number, in order, and
-- the others stay.
abbrev pub scrambled : List (ℕ × ℕ) → (place number : ℕ) → List ℕ → List ℕ
scrambled ranges place number [] = []
scrambled ranges place number (b ∷ bytes) =
    if is_touched ranges place then top_byte (next_number number) ∷ scrambled ranges (suc place) (next_number number) bytes
    else b ∷ scrambled ranges (suc place) number bytes

-- the file after a crash
abbrev pub crashed : State → (seed : ℕ) → List ℕ
crashed state seed = scrambled state.touched 0 seed state.file
