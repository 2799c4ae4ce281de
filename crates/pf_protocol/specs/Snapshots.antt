-- What the snapshot of a mark is.
use Rattle.std.specs.Prelude.{ℕ, List, nat_le}
use Rattle.pf_entry.specs.Ops.{Sector}
use Rattle.pf_entry.specs.declared.ops.Op.TheVariants.{Mark}
use Rattle.pf_protocol.specs.Servers.{Setup}
use Rattle.pf_protocol.specs.Histories.{History, IsChosen}
use Rattle.pf_protocol.specs.LastWriters.{HoldLastWrites}

-- a chosen mark, and the sectors hold the last writes of all slots up to it
pub record IsSnapshot (setup : Setup) (history : History) (mark : ℕ) (sectors : List Sector) : Type 0 where
  pub is_mark : (t : ℕ) × IsChosen setup history mark t Mark
  pub holds : HoldLastWrites setup history (λ slot. nat_le slot mark) sectors
