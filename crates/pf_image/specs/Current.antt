-- What the log of a current half, and that of the spare one, promise of their disks.
use Rattle.std.specs.Prelude.{ℕ, ◌≡◌, ◌⊎◌, true, List, [], Option, Some, IfSome, is_some, slice_index}
use Rattle.pf_disk.specs.Crashes.{Images}
use Rattle.pf_chunklog.specs.Records.{Raw}
use Rattle.pf_chunklog.specs.Logs.{BeforeOrAfter, LogIsAtRest, IsCleared}
use Rattle.pf_chunklog.specs.declared.log.ChunkLog.{ChunkLog}
use Rattle.pf_image.specs.Halves.{half_head, other}
use Rattle.pf_image.specs.Recovery.{AreRecoverable, IsFormat, IsOlder, generation}
use Rattle.pf_image.specs.declared.halves.Half.{Half}

-- The current half holds these records, which each crash leaves, and whatever a crash leaves of the spare half is older.
pub record IsCurrent {D : Type 0} (seen : D → Option (List ℕ)) (may_leave : D → Images) (head : List ℕ) (half : Half) (current spare : ChunkLog D)
    (records : List Raw) : Type 0 where
  pub file : List ℕ
  pub is_seen : seen current.disk ≡ Some file
  pub rest : LogIsAtRest current.head current.used (may_leave current.disk) records file
  pub head_is : current.head ≡ half_head head (slice_index current.head 4) half
  pub known : IsFormat (slice_index current.head 4)
  pub recoverable : AreRecoverable (slice_index current.head 4) records
  pub told : is_some (seen spare.disk) ≡ true
  pub older : (c : List ℕ) → may_leave spare.disk c → IsOlder head (other half) c (generation records)

-- more can be appended to a log
abbrev pub LogIsReady : {D : Type 0} → (D → Option (List ℕ)) → (D → Images) → ChunkLog D → Type 0
LogIsReady seen may_leave log = IfSome (seen log.disk) (λ file. (records : List Raw) × LogIsAtRest log.head log.used (may_leave log.disk) records file)

-- what a crash leaves of a half that is begun with a record
abbrev pub IsBegun : Images → List ℕ → Raw → Images
IsBegun old head raw file = IsCleared old file ⊎ BeforeOrAfter head [] raw file
