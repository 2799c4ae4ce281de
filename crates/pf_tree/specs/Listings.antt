-- The listing of a tree, and the names by which it is made.
use Rattle.std.specs.Prelude.{◌≡◌, false, true, AllPairs, IsPermutation, ℕ, zero, suc, cond, ◌==◌, List, [], ◌∷◌, ◌++◌, map, replicate, set, get_or, Option, Some, None}
use Rattle.std.specs.List.{fold, insert, position_or_len}
use Rattle.std.specs.Option.{option_map}
use Rattle.pf_tree_tables.specs.declared.tables.DirectoryEntry.{DirectoryEntry}
use Rattle.pf_tree_tables.specs.declared.tables.Inode.{Inode}
use Rattle.pf_tree_tables.specs.declared.tables.Inode.TheVariants.{File as OfFile, Directory}
use Rattle.pf_tree_tables.specs.Names.{Path, is_name_before}
use Rattle.pf_tree_tables.specs.Tables.{Entries, Tables, inode_at, names_in}
use Rattle.pf_tree.specs.declared.listing.Listed.{Listed}
use Rattle.pf_tree.specs.declared.listing.Uplink.{Uplink}
use Rattle.pf_tree.specs.Paths.{path_bytes}
use Rattle.pf_tree.specs.Trees.{Node, Dir, File, Tree}

-- a path as it is listed, with what stands there; a directory has size 0
abbrev pub path_listed : Path → Node → Listed
path_listed p Dir = record { path = path_bytes p; is_dir = true; size = 0 }
path_listed p (File size blocks) = record { path = path_bytes p; is_dir = false; size = size }

-- each path of the tree, once, in the order of their bytes
pub record Lists (tree : Tree) (rows : List Listed) : Type 0 where
  pub all : IsPermutation (map (λ row. path_listed row.0 row.1) tree) rows
  pub order : AllPairs (λ row later. is_name_before later.path row.path ≡ false) rows

-- the names of a directory are noted at their inodes
abbrev pub noted : List (Option Uplink) → ℕ → List DirectoryEntry → List (Option Uplink)
noted links directory [] = links
noted links directory (row ∷ rows) = noted (set links row.inode (Some (record { directory = directory; name = row.name }))) directory rows

-- the names of so many directories
unfoldable pub uplinks : Entries → ℕ → List (Option Uplink)
uplinks entries zero = replicate 1024 None
uplinks entries (suc directory) = noted (uplinks entries directory) directory (names_in entries directory)

abbrev pub up_from : Option Uplink → (ℕ → Option (List ℕ)) → Option (List ℕ)
up_from None above = None
up_from (Some link) above = option_map (λ bytes. bytes ++ 47 ∷ link.name) (above link.directory)

-- the names from the root down to an inode, each after one `/`, if at most so many steps up lead to the root
abbrev pub bytes_up : List (Option Uplink) → (steps inode : ℕ) → Option (List ℕ)
bytes_up links zero inode = cond (inode == 0) (Some []) None
bytes_up links (suc steps) inode = cond (inode == 0) (Some []) (up_from (get_or links inode None) (bytes_up links steps))

-- the root is `/` alone
abbrev pub rooted : List ℕ → List ℕ
rooted [] = 47 ∷ []
rooted (b ∷ bytes) = b ∷ bytes

abbrev pub row_of : Option (List ℕ) → Option Inode → List Listed
row_of None inode = []
row_of (Some bytes) None = []
row_of (Some bytes) (Some Directory) = record { path = rooted bytes; is_dir = true; size = 0 } ∷ []
row_of (Some bytes) (Some (OfFile size)) = record { path = rooted bytes; is_dir = false; size = size } ∷ []

-- a row for each of so many inodes that is in use and has a path
unfoldable pub rows_upto : Tables → List (Option Uplink) → ℕ → List Listed
rows_upto tables links zero = []
rows_upto tables links (suc inode) = rows_upto tables links inode ++ row_of (bytes_up links 1024 inode) (inode_at tables inode)

-- a row more, before the first one whose path comes after its own
abbrev pub put_row : List Listed → Listed → List Listed
put_row rows row = insert rows (position_or_len (λ other. is_name_before row.path other.path) rows) row

-- the rows in the order of the bytes of their paths, those of equal bytes as they stand
abbrev pub in_order : List Listed → List Listed
in_order rows = fold put_row [] rows

-- each inode in use from which names lead up to the root, in the order of the bytes of their paths, those of equal bytes by inode
abbrev pub listing : Tables → List Listed
listing tables = in_order (rows_upto tables (uplinks tables.entries 1024) 1024)
