-- Where the sectors of a write are.
use Rattle.std.specs.Prelude.{ℕ, ◌+◌, ◌*◌, ◌≤◌, List, length, drop}
use Rattle.std.specs.Simd.{first_chunks}
use Rattle.pf_base.specs.declared.payload.PayloadPlace.{PayloadPlace}
use Rattle.pf_base.specs.declared.payload.PayloadPlace.TheVariants.{Own, Among}

abbrev pub sectors_there : PayloadPlace → List (List ℕ)
sectors_there (Own sectors) = sectors
sectors_there (Among bytes from count) = first_chunks 512 count (drop from bytes)

-- 1 to 8 of them, where they are
abbrev pub AreThere : PayloadPlace → Type 0
AreThere (Own sectors) = (1 ≤ length sectors) × (length sectors ≤ 8)
AreThere (Among bytes from count) = (1 ≤ count) × (count ≤ 8) × (from + 512 * count ≤ length bytes)
