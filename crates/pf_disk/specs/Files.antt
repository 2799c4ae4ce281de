-- What the calls of a disk read and write, on the bytes of its file.
use Rattle.std.specs.Prelude.{ℕ, ◌+◌, ◌-◌, ◌≤◌, ◌≡◌, ◌==◌, min, List, ◌++◌, length, take, drop, if◌then◌else◌}
use Rattle.std.proofs.Math.ListN.{replicate}

-- the file, with zeros up to a length
abbrev pub file_grown : List ℕ → ℕ → List ℕ
file_grown file len = file ++ replicate (len - length file) 0

-- the bytes of a file from an offset on are these
abbrev pub bytes_replaced : List ℕ → ℕ → List ℕ → List ℕ
bytes_replaced file at bytes = take at file ++ bytes ++ drop (at + length bytes) file

-- where a write of so many bytes ends. A write of none reaches nothing.
abbrev pub end_of_write : ℕ → ℕ → ℕ
end_of_write at count = if count == 0 then 0 else at + count

-- after a write: zeros stand between the old end and a write that begins past it
abbrev pub overwritten : List ℕ → ℕ → List ℕ → List ℕ
overwritten file at bytes = bytes_replaced (file_grown file (end_of_write at (length bytes))) at bytes

-- after a cut: a file that it lengthens goes on with zeros
abbrev pub file_resized : List ℕ → ℕ → List ℕ
file_resized file len = take len (file_grown file len)

-- A read gives some of the bytes from its offset on, as far as the buffer and the file go: at least one where there is one.
pub record FileIsRead (file : List ℕ) (at room count : ℕ) (buf : List ℕ) : Type 0 where
  pub fits : count ≤ room
  pub within : count ≤ length file - at
  pub moves : min 1 (min room (length file - at)) ≤ count
  pub bytes : take count buf ≡ take count (drop at file)
