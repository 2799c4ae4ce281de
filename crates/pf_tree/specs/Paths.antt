-- Paths that are the same, paths that go on below another, and paths as bytes.
use Rattle.std.specs.Prelude.{ℕ, ◌++◌, List, Bool, cond, [], ◌∷◌, Option, Some, None}
use Rattle.std.specs.Option.{option_map}
use Rattle.std.specs.Str.{bytes_eq}
use Rattle.std.specs.Cmp.Lexicographic.{pointwise}
use Rattle.pf_tree_tables.specs.Names.{Path}

abbrev pub is_same : Path → Path → Bool
is_same p q = pointwise bytes_eq p q

-- the names by which a path goes on below another, if it does: none for the path itself
abbrev pub below : Path → Path → Option Path
below top [] = cond (is_same [] top) (Some []) None
below top (n ∷ p) = cond (is_same (n ∷ p) top) (Some []) (option_map (λ x. n ∷ x) (below top p))

-- each name after one `/`
abbrev pub names_bytes : Path → List ℕ
names_bytes [] = []
names_bytes (name ∷ path) = names_bytes path ++ 47 ∷ name

-- the root is `/` alone
abbrev pub path_bytes : Path → List ℕ
path_bytes [] = 47 ∷ []
path_bytes (name ∷ path) = names_bytes (name ∷ path)
