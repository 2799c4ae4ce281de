-- The user's tree: a finite map from paths to directories and files. For each call of the file system the refusal, or the tree
-- afterwards.
use Rattle.std.specs.Prelude.{ℕ, ◌+◌, ◌-◌, ◌/◌, Bool, true, false, cond, not, ◌==◌, nat_lt, nat_le, max, List, [], ◌∷◌, ◌++◌, map, length, take, Option, Some, None, is_some}
use Rattle.std.specs.List.{list_any}
use Rattle.pf_tree.specs.Calls.{FileCall}
use Rattle.pf_base.specs.declared.calls.Call.TheVariants.{Mkdir, Create, Write, Read, Truncate, Rename, Unlink, Rmdir, Stat, List as Lists}
use Rattle.pf_tree_tables.specs.Names.{Path}
use Rattle.pf_base.specs.Sizes.{most_file_bytes}
use Rattle.pf_tree_tables.specs.Tables.{unused}
use Rattle.pf_tree.specs.Paths.{is_same, below}

-- a directory, or a file with its size and its blocks in order
pub data Node : Type 0 where
  Dir : Node
  File : ℕ → List ℕ → Node

-- rows of the finite map: each path stands in one row at most (`IsMap`)
abbrev pub Tree : Type 0
Tree = List (Path × Node)

abbrev pub at : Tree → Path → Option Node
at [] p = None
at (row ∷ rows) p = cond (is_same p row.0) (Some row.1) (at rows p)

abbrev pub node_put : Tree → Path → Node → Tree
node_put rows p node = (p, node) ∷ rows

-- another node in the place of the one at a path
abbrev pub node_replaced : Tree → Path → Node → Tree
node_replaced [] p node = []
node_replaced (row ∷ rows) p node = (row.0, cond (is_same p row.0) node row.1) ∷ node_replaced rows p node

abbrev pub without_path : Tree → Path → Tree
without_path [] p = []
without_path (row ∷ rows) p = cond (is_same p row.0) (without_path rows p) (row ∷ without_path rows p)

-- a path under `from` comes to stand under `to`
abbrev pub path_moved_to : Path → Option Path → Path → Path
path_moved_to to None p = p
path_moved_to to (Some x) p = x ++ to

abbrev pub path_moved : (from to : Path) → Path → Path
path_moved from to p = path_moved_to to (below from p) p

abbrev pub with_moved : Tree → (from to : Path) → Tree
with_moved rows from to = map (λ row. (path_moved from to row.0, row.1)) rows

abbrev pub is_right_below : Path → Path → Bool
is_right_below p [] = false
is_right_below p (n ∷ q) = is_same q p

-- no path stands directly below
abbrev pub is_bare : Tree → Path → Bool
is_bare rows p = not (list_any (λ row. is_right_below p row.0) rows)

abbrev pub lists_block : Node → ℕ → Bool
lists_block Dir b = false
lists_block (File size blocks) b = list_any (λ c. b == c) blocks

abbrev pub is_block_listed : Tree → ℕ → Bool
is_block_listed rows b = list_any (λ row. lists_block row.1 b) rows

abbrev pub block_count : ℕ → ℕ
block_count size = (size + 4095) / 4096

-- what the refusals of a call depend on: the nodes, which of them have nothing directly below, whether no inode is free, and how
-- many blocks are free
pub record Sight : Type 0 where
  pub look : Path → Option Node
  pub is_empty : Path → Bool
  pub is_full : Bool
  pub room : ℕ

abbrev pub first_some : Option ℕ → Option ℕ → Option ℕ
first_some None b = b
first_some (Some a) b = Some a

abbrev pub when : ℕ → Bool → Option ℕ
when refusal b = cond b (Some refusal) None

-- one name further along a walk: 84 if it went on from a file, 82 if the name is missing
abbrev pub step_refusal : Option Node → Option Node → Option ℕ
step_refusal (Some (File size blocks)) next = Some 84
step_refusal (Some Dir) next = when 82 (not (is_some next))
step_refusal None next = when 82 (not (is_some next))

abbrev pub walk_refusal : (Path → Option Node) → Path → Option ℕ
walk_refusal look [] = None
walk_refusal look (n ∷ p) = first_some (walk_refusal look p) (step_refusal (look p) (look (n ∷ p)))

abbrev pub is_dir : Option Node → Bool
is_dir (Some Dir) = true
is_dir (Some (File size blocks)) = false
is_dir None = false

abbrev pub size_at : Option Node → ℕ
size_at (Some Dir) = 0
size_at (Some (File size blocks)) = size
size_at None = 0

-- the size of a file, if it is one
abbrev pub file_size : Option Node → Option ℕ
file_size (Some Dir) = None
file_size (Some (File size blocks)) = Some size
file_size None = None

abbrev pub blocks_at : Option Node → List ℕ
blocks_at (Some Dir) = []
blocks_at (Some (File size blocks)) = blocks
blocks_at None = []

-- the refusals of a place for something new: of `/`, then along the walk of its directory, then whether it is taken
abbrev pub place_refusal : (Path → Option Node) → Path → Option ℕ
place_refusal look [] = Some 83
place_refusal look (n ∷ p) =
    first_some (walk_refusal look p) (first_some (when 84 (not (is_dir (look p)))) (when 83 (is_some (look (n ∷ p)))))

abbrev pub file_refusal : (Path → Option Node) → Path → Option ℕ
file_refusal look p = first_some (walk_refusal look p) (when 85 (is_dir (look p)))

abbrev pub dir_refusal : (Path → Option Node) → Path → Option ℕ
dir_refusal look p = first_some (walk_refusal look p) (when 84 (not (is_dir (look p))))

-- the size after a write; one of no bytes leaves it
abbrev pub written_size : (old offset count : ℕ) → ℕ
written_size old offset count = cond (count == 0) old (max old (offset + count))

-- 87 where the blocks that a new size needs are wanting
abbrev pub size_refusal : Sight → Path → ℕ → Option ℕ
size_refusal s p size = when 87 (nat_lt (block_count (size_at (s.look p)) + s.room) (block_count size))

-- properly below
abbrev pub has_rest : Option Path → Bool
has_rest None = false
has_rest (Some []) = false
has_rest (Some (n ∷ x)) = true

-- the first refusal that holds
abbrev pub refusal : Sight → FileCall → Option ℕ
refusal s (Mkdir p) = first_some (place_refusal s.look p) (when 87 s.is_full)
refusal s (Create p) = first_some (place_refusal s.look p) (when 87 s.is_full)
refusal s (Write p offset byte count) =
    first_some (file_refusal s.look p)
    (first_some (when 88 (nat_lt most_file_bytes (offset + count))) (size_refusal s p (written_size (size_at (s.look p)) offset count)))
refusal s (Read p offset count) = file_refusal s.look p
refusal s (Truncate p size) = first_some (file_refusal s.look p) (first_some (when 88 (nat_lt most_file_bytes size)) (size_refusal s p size))
refusal s (Rename from to) = first_some (walk_refusal s.look from) (first_some (when 89 (has_rest (below from to))) (place_refusal s.look to))
refusal s (Unlink p) = file_refusal s.look p
refusal s (Rmdir p) = first_some (dir_refusal s.look p) (when 86 (not (s.is_empty p)))
refusal s (Stat p) = walk_refusal s.look p
refusal s (Lists p) = dir_refusal s.look p

-- the data blocks of a volume are those from the first one to the last
pub record Data : Type 0 where
  pub first : ℕ
  pub blocks : ℕ

abbrev pub unlisted : Data → Tree → List ℕ
unlisted d tree = unused d.first d.blocks (is_block_listed tree)

abbrev pub tree_sight : Data → Tree → Sight
tree_sight d tree = record {
  look = at tree;
  is_empty = is_bare tree;
  is_full = nat_le 1024 (length tree);
  room = length (unlisted d tree);
}

-- the blocks of a file of another size: the old ones as far as it goes, then the least ones that are not in use
abbrev pub sized_blocks : (old free : List ℕ) → (have want : ℕ) → List ℕ
sized_blocks old free have want = take want old ++ take (want - have) free

abbrev pub tree_resized : Data → Tree → Path → ℕ → Tree
tree_resized d tree p size =
    node_replaced tree p (File size (sized_blocks (blocks_at (at tree p)) (unlisted d tree) (block_count (size_at (at tree p))) (block_count size)))

-- None where the size stays
abbrev pub sized : Data → Tree → Path → ℕ → Option Tree
sized d tree p size = cond (size == size_at (at tree p)) None (Some (tree_resized d tree p size))

-- the tree after a call that is not refused; None where it stays
abbrev pub changed : Data → Tree → FileCall → Option Tree
changed d tree (Mkdir p) = Some (node_put tree p Dir)
changed d tree (Create p) = Some (node_put tree p (File 0 []))
changed d tree (Write p offset byte count) = sized d tree p (written_size (size_at (at tree p)) offset count)
changed d tree (Truncate p size) = sized d tree p size
changed d tree (Rename from to) = Some (with_moved tree from to)
changed d tree (Unlink p) = Some (without_path tree p)
changed d tree (Rmdir p) = Some (without_path tree p)
changed d tree (Read p offset count) = None
changed d tree (Stat p) = None
changed d tree (Lists p) = None

-- the tree of a new volume
abbrev pub new_tree : Tree
new_tree = ([], Dir) ∷ []
