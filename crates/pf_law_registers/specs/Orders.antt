-- The writes of a sector of a group, in the order of their slots.
use Rattle.std.specs.Prelude.{◌≡◌, ℕ, ◌<◌, cond, List, map, length, Option, Some, None, slice_get}
use Rattle.pf_entry.specs.Ops.{Sector, writes}
use Rattle.pf_entry.specs.declared.ops.Op.{Op}
use Rattle.pf_protocol.specs.LastWriters.{bytes_for}
use Rattle.pf_protocol.specs.Servers.{Setup}
use Rattle.pf_protocol.specs.Histories.{History, IsChosen}

-- a write of a sector: its slot, and its bytes for the sector
pub record Member : Type 0 where
  pub slot : ℕ
  pub bytes : Sector

-- the bytes that the op gives the sector, if it writes it
unfoldable pub given : Op → ℕ → Option Sector
given op x = cond (writes op x) (bytes_for op x) None

-- at some moment of the history an op is chosen in the slot that gives the sector these bytes
pub record IsWriteMember (setup : Setup) (history : History) (x : ℕ) (m : Member) : Type 0 where
  pub term : ℕ
  pub op : Op
  pub chosen : IsChosen setup history m.slot term op
  pub gives : given op x ≡ Some m.bytes

-- all of them, in the order of their slots
pub record IsOrder (setup : Setup) (history : History) (x : ℕ) (order : List Member) : Type 0 where
  pub ascends : (j k : ℕ) (a b : Member) → slice_get order j ≡ Some a → slice_get order k ≡ Some b → j < k → a.slot < b.slot
  pub each : (place : ℕ) (m : Member) → slice_get order place ≡ Some m → IsWriteMember setup history x m
  pub all : (m : Member) → IsWriteMember setup history x m → (place : ℕ) × (slice_get order place ≡ Some m)

abbrev pub values_of : List Member → List Sector
values_of order = map (λ m. m.bytes) order

-- the op gives the sector 512 bytes
pub record IsWholeSector (op : Op) (x : ℕ) : Type 0 where
  pub bytes : Sector
  pub gives : given op x ≡ Some bytes
  pub full : length bytes ≡ 512
