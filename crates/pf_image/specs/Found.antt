-- What was found in a half.
use Rattle.std.specs.Prelude.{ℕ, ◌+◌, ◌<◌, ◌^◌, ◌≡◌, List, Option, IfSome, length, slice_index}
use Rattle.std.specs.List.{AllZip}
use Rattle.pf_disk.specs.Crashes.{Images}
use Rattle.pf_chunklog.specs.Records.{blocks}
use Rattle.pf_chunklog.specs.Logs.{LogIsAtRest}
use Rattle.pf_chunklog.specs.declared.records.Opened.{Opened}
use Rattle.pf_image.specs.Recovery.{AreRecoverable, IsHead, SpellsRecord}
use Rattle.pf_image.specs.declared.halves.Half.{Half}
use Rattle.pf_image.specs.declared.recovery.FoundRecords.{FoundRecords}

-- its records are those of a recoverable half in the format of its head
abbrev pub IsUsable : Opened → Type 0
IsUsable opened = AreRecoverable (slice_index opened.head 4) opened.records

-- and this is what they spell
pub record FoundIsSound (found : FoundRecords) : Type 0 where
  pub usable : IsUsable found.opened
  pub spelled : AllZip (SpellsRecord (slice_index found.opened.head 4)) found.opened.records found.records.items

-- What was found in a recoverable half: its log is at rest on its disk, as that is now, with what it was seen to hold.
pub record HalfIsFound {D : Type 0} (seen : D → Option (List ℕ)) (may_leave : D → Images) (head : List ℕ) (half : Half) (was now : D)
    (found : FoundRecords) : Type 0 where
  pub listed : IsHead head found.opened.head half
  pub size : found.opened.used ≡ 9 + length (blocks found.opened.records)
  pub word : found.opened.used < 2 ^ 64
  pub sound : FoundIsSound found
  pub rest : IfSome (seen was) (LogIsAtRest found.opened.head found.opened.used (may_leave now) found.opened.records)
