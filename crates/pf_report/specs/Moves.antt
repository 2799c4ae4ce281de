-- The texts of moves.
use Rattle.std.specs.Prelude.{ℕ, List, ◌++◌, codes}
use Rattle.std.specs.Fmt.{decimal}

-- a chunk begins to move to this group
abbrev pub moving_text : (group : ℕ) → List ℕ
moving_text group = codes "moving " ++ decimal group

-- the chunk has moved
abbrev pub moved_text : (chunk : ℕ) → List ℕ
moved_text chunk = codes "move " ++ decimal chunk ++ codes " ok"
