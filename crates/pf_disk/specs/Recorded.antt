-- The disk model, over a list of recorded calls.
use Rattle.std.specs.Prelude.{ℕ, ◌+◌, ◌-◌, ◌^◌, ◌≤◌, ◌<◌, ◌≡◌, ◌==◌, ◌&&◌, min, max, nat_le, nat_lt, Bool, false, List, [], ◌∷◌, ◌++◌, length, take, drop, slice_index}
use Rattle.std.specs.List.{list_any}
use Rattle.pf_disk.specs.Crashes.{Images}
use Rattle.pf_disk.specs.Files.{overwritten, file_resized, end_of_write}
use Rattle.pf_disk.specs.declared.tape.TapeRecord.{TapeRecord}
use Rattle.pf_disk.specs.declared.tape.TapeRecord.TheVariants.{Write, Cut, Sync, FailedWrite, FailedCut}

-- What a disk reads, the bytes at the last sync that succeeded, the least and the greatest end since, and the ranges written since.
pub record State : Type 0 where
  pub file : List ℕ
  pub synced : List ℕ
  pub least : ℕ
  pub greatest : ℕ
  pub touched : List (ℕ × ℕ)

abbrev pub is_touched : List (ℕ × ℕ) → ℕ → Bool
is_touched ranges k = list_any (λ (range : ℕ × ℕ). nat_le range.0 k && nat_lt k range.1) ranges

-- a disk whose file is durable
abbrev pub settled : List ℕ → State
settled file = record { file = file; synced = file; least = length file; greatest = length file; touched = [] }

-- A write or a cut has begun: it counts as made, whether it fails or not. The end goes down to `least` at most, and up to `to`.
abbrev pub loosened : State → ℕ → ℕ → ℕ → State
loosened state least from to = record {
  file = state.file;
  synced = state.synced;
  least = min state.least least;
  greatest = max state.greatest to;
  touched = state.touched ++ (from, to) ∷ [];
}

-- a write that failed, and one that did not. A write that begins past the end counts as written from the old end on.
abbrev pub after_failed_write : State → ℕ → ℕ → State
after_failed_write state at count = loosened state state.least (min (length state.file) at) (end_of_write at count)

abbrev pub after_write : State → ℕ → List ℕ → State
after_write state at bytes = record (after_failed_write state at (length bytes)) { file = overwritten state.file at bytes }

-- a cut that failed, and one that did not. A cut that lengthens counts as written from the old end on.
abbrev pub after_failed_cut : State → ℕ → State
after_failed_cut state len = loosened state len (length state.file) len

abbrev pub after_cut : State → ℕ → State
after_cut state len = record (after_failed_cut state len) { file = file_resized state.file len }

-- The state after these calls. The second list holds the bytes of the writes that succeeded, one after another.
abbrev pub replayed : State → List TapeRecord → List ℕ → State
replayed state [] written = state
replayed state (Write at count ∷ records) written = replayed (after_write state at (take count written)) records (drop count written)
replayed state (Cut len ∷ records) written = replayed (after_cut state len) records written
replayed state (Sync ∷ records) written = replayed (settled state.file) records written
replayed state (FailedWrite at count ∷ records) written = replayed (after_failed_write state at count) records written
replayed state (FailedCut len ∷ records) written = replayed (after_failed_cut state len) records written

-- how many bytes the recorded calls wrote
abbrev pub count_written : List TapeRecord → ℕ
count_written [] = 0
count_written (Write at count ∷ records) = count + count_written records
count_written (Cut len ∷ records) = count_written records
count_written (Sync ∷ records) = count_written records
count_written (FailedWrite at count ∷ records) = count_written records
count_written (FailedCut len ∷ records) = count_written records

-- What a crash may leave: an end between the least and the greatest, and the synced bytes where nothing was written.
pub record IsCrashImage (state : State) (image : List ℕ) : Type 0 where
  pub no_shorter : state.least ≤ length image
  pub no_longer : length image ≤ state.greatest
  pub same : (k : ℕ) → k < length image → k < length state.synced → is_touched state.touched k ≡ false → slice_index image k ≡ slice_index state.synced k

-- what a crash may have left after so many of the calls, or more
abbrev pub LeftSince : List ℕ → List TapeRecord → List ℕ → ℕ → Images
LeftSince base records written t image = (k : ℕ) × (t ≤ k) × (k ≤ length records) × IsCrashImage (replayed (settled base) (take k records) written) image
