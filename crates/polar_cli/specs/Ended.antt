-- How the process ends.
use Rattle.std.specs.Prelude.{◌≡◌, ◌⊎◌, ℕ, List, [], length, Option, Some, IfSome, IsNone}
use Rattle.std.specs.List.{All}
use Rattle.std.specs.declared.fs.options.OpenOptions.{OpenOptions}
use Rattle.pf_io.specs.Causes.{Rose}
use Rattle.pf_disk.specs.declared.disk.Disk.{Ghosts}
use Rattle.pf_disk.specs.declared.ram.RamDisk.{RamDisk}
use Rattle.pf_disk_file.specs.declared.file.FileDisk.{FileDisk}
use Rattle.pf_disk_file.specs.Files.{AreFilesOf}
use Rattle.pf_run_words.specs.Tasks.{dir_of, task_of}
use Rattle.pf_run_words.specs.declared.words.Task.{Task}
use Rattle.pf_run_lines.specs.Statuses.{code_of}
use Rattle.pf_run_lines.specs.declared.status.Status.{Status}
use Rattle.pf_run_lines.specs.declared.status.Status.TheVariants as statuses
use Rattle.pf_run.specs.Outcomes.{Outcome}

-- a status by which all was written that was to be
abbrev pub StatusIsWritten : Status → Type 0
StatusIsWritten statuses.Ok = Unit {0}
StatusIsWritten statuses.Usage = Unit {0}
StatusIsWritten statuses.Script = Unit {0}
StatusIsWritten status = ⊥

-- what becomes of the status of a run as the rest of its report is written: it stays, or that could not be written
abbrev pub Flushes : (run ended : Status) → Type 0
Flushes run ended = (ended ≡ run) ⊎ ((ended ≡ statuses.WriteFault) × StatusIsWritten run)

-- the exit code tells that there was no memory to begin with
abbrev pub HasNotBegun : (code : ℕ) → Type 0
HasNotBegun code = code ≡ code_of statuses.NoMemory

module _ {D : Type 0} (disk : Ghosts D) where
  -- The task was run over these disks, from a source and to a sink that the program made, neither of which had failed before: what they had and
  -- have then, and how often they failed. The rest of the report was written, or could not be, and the exit code is that of the status.
  pub record HasExited (task : Option Task) (before : List D) (code : ℕ) : Type 0 where
    pub left : Option (List ℕ)
    pub rest : Option (List ℕ)
    pub source_faults : ℕ
    pub taken : Option (List ℕ)
    pub now : Option (List ℕ)
    pub sink_faults : ℕ
    pub after : List D
    pub status : Status
    pub outcome : Outcome disk.seen disk.may_leave disk.faults disk.moment disk.left_since disk.tells disk.tells_moments status task left rest
        (Rose 0 source_faults) taken now (Rose 0 sink_faults) before after
    pub ended : Status
    pub flushes : Flushes status ended
    pub code_is : code ≡ code_of ended

  -- it was run over these disks, or there was no memory to begin with
  abbrev pub ExitsOver : Option Task → (disks : List D) → (code : ℕ) → Type 0
  ExitsOver task disks code = HasNotBegun code ⊎ HasExited task disks code

  -- it was run over some disks of which this holds, or there was no memory to begin with
  abbrev pub ExitsOverSome : (Those : List D → Type 0) → Option Task → (code : ℕ) → Type 0
  ExitsOverSome Those task code = HasNotBegun code ⊎ ((disks : List D) × Those disks × HasExited task disks code)

-- the 48 disks of a folder, none of which has failed: each is over what opening its own file gave, or over none
pub record AreOfFolder {F : Type 0} (disk : Ghosts (FileDisk F)) (opens : OpenOptions → List ℕ → F → Type 0) (folder : List ℕ)
    (disks : List (FileDisk F)) : Type 0 where
  pub count : length disks ≡ 48
  pub sound : All (λ d. disk.faults d ≡ 0) disks
  pub files : AreFilesOf opens folder disks

-- 48 empty disks in memory with room for so many bytes each, none of which has failed
pub record AreEmpty (disk : Ghosts RamDisk) (room : ℕ) (disks : List RamDisk) : Type 0 where
  pub count : length disks ≡ 48
  pub sound : All (λ d. disk.faults d ≡ 0) disks
  pub empty : All (λ d. disk.seen d ≡ Some []) disks
  pub roomy : All (λ d. d.room ≡ room) disks

-- what the words ask for was run over the disks of the folder that they name, and else over empty ones
pub record ExitsAsAsked {F : Type 0} (file : Ghosts (FileDisk F)) (opens : OpenOptions → List ℕ → F → Type 0) (ram : Ghosts RamDisk) (room : ℕ)
    (words : List (List ℕ)) (code : ℕ) : Type 0 where
  pub in_folder : IfSome (dir_of words) (λ folder. ExitsOverSome file (AreOfFolder file opens folder) (task_of words) code)
  pub in_memory : IsNone (dir_of words) → ExitsOverSome ram (AreEmpty ram room) (task_of words) code
