-- Names in the order of their bytes, and paths of names. A path lists its names from the last to the first, so the rest of a path is
-- that of its directory.
use Rattle.std.specs.Prelude.{AllPairs, IsTrue, ℕ, Bool, List}
use Rattle.std.specs.Cmp.Lexicographic.{slice_cmp}
use Rattle.std.specs.Ordering.{is_lt, nat_cmp}

abbrev pub Name : Type 0
Name = List ℕ

abbrev pub Path : Type 0
Path = List Name

-- at the first byte in which they differ its own is less, or it ends there
abbrev pub is_name_before : (name other : Name) → Bool
is_name_before name other = is_lt (slice_cmp nat_cmp name other)

-- each name comes before all later ones
abbrev pub NamesAreInOrder : List Name → Type 0
NamesAreInOrder names = AllPairs (λ name later. IsTrue (is_name_before name later)) names
