-- What a sector holds.
use Rattle.std.specs.Prelude.{◌≡◌, ℕ, ◌-◌, ◌<◌, Bool, true, false, List, Option, Some, None, slice_get}
use Rattle.pf_entry.specs.declared.ops.Op.{Op}
use Rattle.pf_entry.specs.declared.ops.Op.TheVariants.{Write, Noop, Mark}
use Rattle.pf_entry.specs.Ops.{Sector, writes, zero_sector}
use Rattle.pf_protocol.specs.Servers.{Setup}
use Rattle.pf_protocol.specs.Histories.{History, IsChosen}

-- the bytes that the op has for the sector
unfoldable pub bytes_for : Op → ℕ → Option Sector
bytes_for (Write range payload) x = slice_get payload (x - range.first)
bytes_for Noop x = None
bytes_for Mark x = None

-- the slot is the greatest applied one that writes the sector
pub record IsLastWriter (setup : Setup) (history : History) (done : ℕ → Bool) (x slot : ℕ) (op : Op) : Type 0 where
  pub above : 0 < slot
  pub applied : done slot ≡ true
  pub chosen : (t : ℕ) × IsChosen setup history slot t op
  pub writes_it : writes op x ≡ true
  pub is_last : (other t : ℕ) (its : Op) → slot < other → done other ≡ true → IsChosen setup history other t its → writes its x ≡ false

-- no applied slot writes the sector
abbrev pub NobodyWrites : Setup → History → (ℕ → Bool) → ℕ → Type 0
NobodyWrites setup history done x = (slot t : ℕ) (op : Op) → 0 < slot → done slot ≡ true → IsChosen setup history slot t op → writes op x ≡ false

-- each sector holds what the greatest applied slot that writes it wrote, and zeros where none does
pub record HoldLastWrites (setup : Setup) (history : History) (done : ℕ → Bool) (sectors : List Sector) : Type 0 where
  pub written : (x slot : ℕ) (op : Op) (bytes its : Sector) → slice_get sectors x ≡ Some bytes → IsLastWriter setup history done x slot op
      → bytes_for op x ≡ Some its → bytes ≡ its
  pub untouched : (x : ℕ) (bytes : Sector) → slice_get sectors x ≡ Some bytes → NobodyWrites setup history done x → bytes ≡ zero_sector
