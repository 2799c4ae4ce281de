-- The files of a folder.
use Rattle.std.specs.Prelude.{ℕ, ◌≡◌, ◌/◌, ◌%◌, List, ◌++◌, Some, codes, slice_get}
use Rattle.std.specs.Fmt.{decimal}
use Rattle.std.specs.Path.{path_join}
use Rattle.std.specs.declared.fs.options.OpenOptions.{OpenOptions}
use Rattle.pf_disk_file.specs.Opened.{IsDiskOf}
use Rattle.pf_disk_file.specs.declared.file.FileDisk.{FileDisk}

-- half H of server I of group G is disk 6G + 2I + H, and the file `gGsIhH`
abbrev pub file_name : (disk : ℕ) → List ℕ
file_name disk = codes "g" ++ decimal (disk / 6) ++ codes "s" ++ decimal (disk % 6 / 2) ++ codes "h" ++ decimal (disk % 2)

module _ {F : Type 0} (opens : OpenOptions → List ℕ → F → Type 0) (folder : List ℕ) where
  -- each of the disks is over what opening its own file of the folder gave, or over none
  abbrev pub AreFilesOf : List (FileDisk F) → Type 0
  AreFilesOf disks = (place : ℕ) (disk : FileDisk F) → slice_get disks place ≡ Some disk → IsDiskOf opens (path_join folder (file_name place)) disk
