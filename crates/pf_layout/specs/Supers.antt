-- The superblock of a volume.
use Rattle.std.specs.Prelude.{◌≡◌, ◌≢◌, ℕ, Bool, true, false, List, ◌∷◌, ◌++◌, replicate, Result, Ok, Err}
use Rattle.std.specs.Int.{w16, to_be_bytes}
use Rattle.pf_layout.specs.declared.supers.BadSuper.{BadSuper}

-- PFSB, the format, the count of chunks, the count of sectors of a chunk, and zeros
abbrev pub super_block : (chunks sectors : ℕ) → List ℕ
super_block chunks sectors = 80 ∷ 70 ∷ 83 ∷ 66 ∷ 1 ∷ chunks ∷ to_be_bytes w16 sectors ++ replicate 504 0

-- true for the superblock, false for zeros, refused exactly otherwise
abbrev pub ReadsSuper : (chunks sectors : ℕ) → List ℕ → Result Bool BadSuper → Type 0
ReadsSuper chunks sectors sector (Ok true) = sector ≡ super_block chunks sectors
ReadsSuper chunks sectors sector (Ok false) = sector ≡ replicate 512 0
ReadsSuper chunks sectors sector (Err fault) = (sector ≢ super_block chunks sectors) × (sector ≢ replicate 512 0)
