-- Two counts as text.
use Rattle.std.specs.Prelude.{ℕ, List, [], ◌∷◌, ◌++◌}
use Rattle.std.specs.Fmt.{decimal}

-- with a space between them, and a line feed
abbrev pub counts_text : (counts : ℕ × ℕ) → List ℕ
counts_text counts = decimal counts.0 ++ 32 ∷ decimal counts.1 ++ 10 ∷ []
