-- Which file a disk is over.
use Rattle.std.specs.Prelude.{ℕ, List, Option, IfSome}
use Rattle.std.specs.declared.fs.options.OpenOptions.{OpenOptions}
use Rattle.pf_disk_file.specs.Options.{disk_options}
use Rattle.pf_disk_file.specs.declared.file.FileDisk.{FileDisk}

-- the open file of a disk, if it could be opened
abbrev pub open_file : {F : Type 0} → FileDisk F → Option F
open_file disk = disk.file

-- the disk is over what opening the file of this path gave, or over none
abbrev pub IsDiskOf : {F : Type 0} → (opens : OpenOptions → List ℕ → F → Type 0) → (path : List ℕ) → FileDisk F → Type 0
IsDiskOf opens path disk = IfSome (open_file disk) (opens disk_options path)
