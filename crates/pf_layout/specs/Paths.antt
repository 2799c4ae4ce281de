-- Paths as words. A path lists its names from the last to the first.
use Rattle.std.specs.Prelude.{◌≡◌, ◌≢◌, ℕ, ◌≤◌, Bool, ◌&&◌, ◌||◌, ◌==◌, nat_le, IsTrue, List, length, codes, Result, Ok, Err}
use Rattle.std.specs.List.{AllByRecursion}
use Rattle.pf_tree_tables.specs.Names.{Name, Path}
use Rattle.pf_tree.specs.Paths.{path_bytes}
use Rattle.pf_tree.specs.Trees.{Tree}
use Rattle.pf_layout.specs.declared.faults.PathFault.{PathFault}
use Rattle.pf_layout.specs.declared.faults.PathFault.TheVariants.{NoMemory, BadName}

-- a byte of a name: `a` to `z`, `0` to `9`, `.`, `_` or `-`
abbrev pub is_name_byte : ℕ → Bool
is_name_byte b = (nat_le 97 b && nat_le b 122) || (nat_le 48 b && nat_le b 57) || b == 46 || b == 95 || b == 45

-- a name has 1 to 24 such bytes, and is neither `.` nor `..`
pub record IsName (name : Name) : Type 0 where
  pub some : 1 ≤ length name
  pub few : length name ≤ 24
  pub bytes : AllByRecursion (λ b. IsTrue (is_name_byte b)) name
  pub not_here : name ≢ codes "."
  pub not_above : name ≢ codes ".."

-- at most 16 names, and 255 bytes
pub record IsPath (path : Path) : Type 0 where
  pub few : length path ≤ 16
  pub names : AllByRecursion IsName path
  pub short : length (path_bytes path) ≤ 255

-- a word is read as the path that it spells, and refused exactly where it spells none
abbrev pub ReadsPath : List ℕ → Result Path PathFault → Type 0
ReadsPath word (Ok path) = IsPath path × (path_bytes path ≡ word)
ReadsPath word (Err BadName) = (path : Path) → IsPath path → path_bytes path ≢ word
ReadsPath word (Err NoMemory) = Unit {0}

-- the paths of a tree have names that calls can make
abbrev pub HasNames : Tree → Type 0
HasNames tree = AllByRecursion (λ row. AllByRecursion IsName row.0) tree
