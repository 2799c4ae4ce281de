-- The definitions at work: a table of refused calls, on the tree and on the tables.
use Rattle.std.proofs.Common.{◌≡◌, ℕ, [], ◌∷◌, Some, None, refl}
use Rattle.std.specs.Option.{unwrap_or}
use Rattle.pf_tree.specs.Calls.{FileCall}
use Rattle.pf_base.specs.declared.calls.Call.TheVariants.{Mkdir, Create, Write, Truncate, Rename, Rmdir}
use Rattle.pf_tree.specs.Trees.{Dir, File, Tree, at, Data, refusal, tree_sight, changed, new_tree}
use Rattle.pf_tree_tables.specs.Tables.{Tables, applied, new_tables, new_inodes, new_entries}
use Rattle.pf_tree.specs.Plans.{node_at, tables_sight, changes}
use Rattle.pf_tree_tables.specs.Names.{Path}

abbrev d : Data
d = record { first = 513; blocks = 516 }

abbrev root : Path
root = []

abbrev in_root : ℕ → Path
in_root c = (c ∷ []) ∷ []

abbrev next : Tree → FileCall → Tree
next tree call = unwrap_or (changed d tree call) tree

abbrev then : Tables → FileCall → Tables
then tables call = applied tables (changes d tables call)

abbrev t1 : Tree
t1 = next new_tree (Mkdir (in_root 100))

abbrev t2 : Tree
t2 = next t1 (Create (in_root 102))

abbrev t3 : Tree
t3 = next t2 (Mkdir ((120 ∷ []) ∷ in_root 100))

abbrev t4 : Tree
t4 = next t3 (Write (in_root 102) 5000 65 4000)

abbrev s1 : Tables
unfolding new_inodes new_entries
s1 = then (new_tables 516) (Mkdir (in_root 100))

abbrev s2 : Tables
s2 = then s1 (Create (in_root 102))

abbrev s3 : Tables
s3 = then s2 (Mkdir ((120 ∷ []) ∷ in_root 100))

abbrev s4 : Tables
s4 = then s3 (Write (in_root 102) 5000 65 4000)

row1 : refusal (tree_sight d new_tree) (Create ((98 ∷ []) ∷ in_root 97)) ≡ Some 82
row1 = refl

row2 : refusal (tree_sight d t1) (Rename (in_root 100) ((101 ∷ []) ∷ in_root 100)) ≡ Some 89
row2 = refl

row3 : refusal (tree_sight d t1) (Create (in_root 100)) ≡ Some 83
row3 = refl

row4 : refusal (tree_sight d t1) (Write (in_root 100) 0 65 1) ≡ Some 85
row4 = refl

row5 : refusal (tree_sight d t2) (Mkdir ((120 ∷ []) ∷ in_root 102)) ≡ Some 84
row5 = refl

row6 : refusal (tree_sight d t2) (Write (in_root 102) 196600 65 9) ≡ Some 88
row6 = refl

row7 : refusal (tree_sight d t3) (Rmdir (in_root 100)) ≡ Some 86
row7 = refl

row8 : refusal (tree_sight d t3) (Write (in_root 102) 0 65 12289) ≡ Some 87
row8 = refl

row9 : refusal (tree_sight d t3) (Write (in_root 102) 0 65 12288) ≡ None
row9 = refl

row10 : at t4 (in_root 102) ≡ Some (File 9000 (513 ∷ 514 ∷ 515 ∷ []))
row10 = refl

row11 : at (next t4 (Rename (in_root 100) (in_root 101))) ((120 ∷ []) ∷ in_root 101) ≡ Some Dir
row11 = refl

row12 : at (next t4 (Truncate (in_root 102) 4097)) (in_root 102) ≡ Some (File 4097 (513 ∷ 514 ∷ []))
row12 = refl

-- the same on the tables
same4 : refusal (tables_sight d s1) (Write (in_root 100) 0 65 1) ≡ Some 85
unfolding new_inodes new_entries
same4 = refl

same7 : refusal (tables_sight d s3) (Rmdir (in_root 100)) ≡ Some 86
unfolding new_inodes new_entries
same7 = refl

same8 : refusal (tables_sight d s3) (Write (in_root 102) 0 65 12289) ≡ Some 87
unfolding new_inodes new_entries
same8 = refl

same10 : node_at s4 (in_root 102) ≡ Some (File 9000 (513 ∷ 514 ∷ 515 ∷ []))
unfolding new_inodes new_entries
same10 = refl

same11 : node_at (then s4 (Rename (in_root 100) (in_root 101))) ((120 ∷ []) ∷ in_root 101) ≡ Some Dir
unfolding new_inodes new_entries
same11 = refl

same12 : node_at (then s4 (Truncate (in_root 102) 4097)) (in_root 102) ≡ Some (File 4097 (513 ∷ 514 ∷ []))
unfolding new_inodes new_entries
same12 = refl
