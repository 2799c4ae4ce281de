-- What stays of a text that is written on.
use Rattle.std.specs.Prelude.{◌≡◌, ℕ, List, length, take}

-- what stood there is the begin of what stands there now
abbrev pub KeepsText : (before now : List ℕ) → Type 0
KeepsText before now = take (length before) now ≡ before
