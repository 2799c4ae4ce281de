-- What calls leave in files, at worked calls.
use Rattle.std.specs.Prelude.{◌≡◌, List, [], ◌∷◌}
use Rattle.pf_tree_tables.specs.Names.{Name, Path}
use Rattle.pf_tree.specs.Calls.{FileCall}
use Rattle.pf_base.specs.declared.calls.Call.TheVariants.{Mkdir, Create, Write, Truncate, Rename}
use Rattle.pf_law_contents.specs.Contents.{bytes_between, contents_after}

-- the names a, b and c
abbrev pub a : Name
a = 97 ∷ []

abbrev pub b : Name
b = 98 ∷ []

abbrev pub c : Name
c = 99 ∷ []

-- /a
abbrev pub file : Path
file = a ∷ []

abbrev pub LeavesAGap : Type 0
LeavesAGap = bytes_between (contents_after (Create file ∷ Write file 1 7 2 ∷ Write file 5 8 2 ∷ [])) file 0 7 ≡ 0 ∷ 7 ∷ 7 ∷ 0 ∷ 0 ∷ 8 ∷ 8 ∷ []

abbrev pub CutsAndGrows : Type 0
CutsAndGrows = bytes_between (contents_after (Create file ∷ Write file 0 7 4 ∷ Truncate file 2 ∷ Truncate file 5 ∷ Write file 4 8 1 ∷ [])) file 1 5
    ≡ 7 ∷ 0 ∷ 0 ∷ 8 ∷ []

-- /b/a becomes /c/a, and then there is a new /b/a
abbrev pub renamed : List FileCall
renamed = Mkdir (b ∷ []) ∷ Create (a ∷ b ∷ []) ∷ Write (a ∷ b ∷ []) 0 7 2 ∷ Rename (b ∷ []) (c ∷ []) ∷ Mkdir (b ∷ []) ∷ Create (a ∷ b ∷ []) ∷ Write (a ∷ b ∷ [])
    1 8 1 ∷ []

abbrev pub MovesWithItsDirectory : Type 0
MovesWithItsDirectory = (bytes_between (contents_after renamed) (a ∷ c ∷ []) 0 2 ≡ 7 ∷ 7 ∷ [])
    × (bytes_between (contents_after renamed) (a ∷ b ∷ []) 0 2 ≡ 0 ∷ 8 ∷ [])
