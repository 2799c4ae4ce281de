-- A volume's sectors, numbered through its chunks.
use Rattle.std.specs.Prelude.{◌≡◌, ℕ, ◌+◌, ◌*◌, ◌/◌, ◌%◌, ◌<◌, ◌≤◌}
use Rattle.pf_volume.specs.declared.places.Place.{Place}

pub record Extent : Type 0 where
  pub chunks : ℕ
  pub sectors : ℕ  -- of each chunk

-- 1 to 8 chunks of 16 to 4,096 sectors, whole blocks of 8
pub record IsVolume (v : Extent) : Type 0 where
  pub some_chunks : 1 ≤ v.chunks
  pub few_chunks : v.chunks ≤ 8
  pub some_sectors : 16 ≤ v.sectors
  pub few_sectors : v.sectors ≤ 4096
  pub blocks : (k : ℕ) × (v.sectors ≡ 8 * k)

-- how many sectors it has
abbrev pub size_of : Extent → ℕ
size_of v = v.chunks * v.sectors

-- where sector x of the volume lies
abbrev pub place_of : Extent → ℕ → Place
place_of v x = record { chunk = x / v.sectors; sector = x % v.sectors }

-- some sector of a run lies past the last one
abbrev pub IsPastEnd : Extent → (first count : ℕ) → Type 0
IsPastEnd v first count = (k : ℕ) × (k < count) × (size_of v ≤ first + k)
