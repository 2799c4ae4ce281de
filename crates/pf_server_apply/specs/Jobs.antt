-- Jobs that come back.
use Rattle.std.specs.Prelude.{◌≡◌, ℕ, length, Option, Some, true}
use Rattle.std.specs.FinMap
use Rattle.pf_base.specs.Span.{fits_in, IsWritable}
use Rattle.pf_base.specs.declared.filled.Filled.{Filled}
use Rattle.pf_entry.specs.declared.ops.Op.{Op}
use Rattle.pf_entry.specs.declared.ops.Op.TheVariants.{Write, Noop, Mark}
use Rattle.pf_server_memory.specs.declared.running.Running.{Running}

-- a write comes back with its sectors
abbrev pub IsFilledFor : Op → Filled → Type 0
IsFilledFor (Write range payload) filled = filled.sectors ≡ payload
IsFilledFor Noop filled = Unit {0}
IsFilledFor Mark filled = Unit {0}

-- the op of the job is in hand
pub record IsJobOf (me : Running) (filled : Filled) : Type 0 where
  pub op : Op
  pub held : FinMap.get me.in_hand filled.slot ≡ Some op
  pub brought : IsFilledFor op filled

-- a write lies in a chunk of so many sectors
abbrev pub OpIsInside : ℕ → Op → Type 0
OpIsInside chunk (Write range payload) = IsWritable range.first range.count × (length payload ≡ range.count) × (fits_in range chunk ≡ true)
OpIsInside chunk Noop = Unit {0}
OpIsInside chunk Mark = Unit {0}

-- there is memory for the snapshot of a mark
abbrev pub HasRoomForMark : Op → Option ℕ → ℕ → Type 0
HasRoomForMark Mark room chunk = room ≡ Some chunk
HasRoomForMark Noop room chunk = Unit {0}
HasRoomForMark (Write range payload) room chunk = Unit {0}
