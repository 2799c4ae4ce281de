-- The names of a directory, and room for more.
use Rattle.std.specs.Prelude.{◌≡◌, ℕ, ◌<◌, ◌≤◌, Bool, true, false, ◌==◌, List, [], map, length, get_or, Option}
use Rattle.std.specs.List.{list_any}
use Rattle.pf_tree_tables.specs.declared.changes.Change.{Change}
use Rattle.pf_tree_tables.specs.declared.changes.Change.TheVariants.{SetInode, AddEntry, DeleteEntry, SetTag}
use Rattle.pf_tree_tables.specs.declared.tables.DirectoryEntry.{DirectoryEntry}
use Rattle.pf_tree_tables.specs.declared.tables.Inode.{Inode}
use Rattle.pf_tree_tables.specs.declared.tables.Tag.{Tag}
use Rattle.pf_tree_tables.specs.Tables.{Tables}

pub record Shelf : Type 0 where
  pub list : List DirectoryEntry
  pub room : ℕ

abbrev pub no_shelf : Shelf
no_shelf = record { list = []; room = 0 }

abbrev pub lists_of : List Shelf → List (List DirectoryEntry)
lists_of shelves = map (λ s. s.list) shelves

abbrev pub tables_of : List (Option Inode) → List Shelf → List (Option Tag) → Tables
tables_of inodes shelves tags = record { inodes = inodes; entries = lists_of shelves; tags = tags }

abbrev pub room_in : List Shelf → ℕ → ℕ
room_in shelves d = (get_or shelves d no_shelf).room

abbrev pub adds_to : ℕ → Change → Bool
adds_to d (AddEntry e i n) = d == e
adds_to d (SetInode i k z) = false
adds_to d (DeleteEntry e n) = false
adds_to d (SetTag b i k) = false

-- room for so many names in each directory in which a change adds one
abbrev pub ShelvesHaveRoom : List Shelf → List Change → ℕ → Type 0
ShelvesHaveRoom shelves cs n = (d : ℕ) → d < length shelves → list_any (adds_to d) cs ≡ true → n ≤ room_in shelves d
