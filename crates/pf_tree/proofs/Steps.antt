-- Tables that stand for a tree stand, after what a call does to them, for the tree after the call.
use Rattle.std.proofs.Common.{◌≡◌, ◌≢◌, ℕ, ◌+◌, ◌<◌, ◌≤◌, inl, inr, Bool, true, false, cond, List, [], ◌∷◌, ◌++◌, length, get_or, set, Option, Some, None, is_some, refl, sym, ap, ◌∙◌, subst, arith}
use Rattle.std.specs.Option.{option_and_then}
use Rattle.std.specs.List.{count_by}
use Rattle.std.proofs.lemmas.Bool.{cond-true, cond-false, false≢true, cases_eq, cases_lt}
use Rattle.std.proofs.lemmas.Option.{none-some, same_Some}
use Rattle.std.proofs.lemmas.List.{get_or_past, get_or-set_same, get_or-set_other, length-set, length-map}
use Rattle.std.proofs.lemmas.List.Sums.{sum_by-set}
use Rattle.pf_tree_tables.specs.declared.tables.Inode.{Inode}
use Rattle.pf_tree_tables.specs.declared.tables.Inode.TheVariants.{File as OfFile, Directory}
use Rattle.pf_tree_tables.specs.declared.tables.Tag.{Tag}
use Rattle.pf_tree_tables.specs.Names.{Name, Path}
use Rattle.pf_tree.specs.Paths.{is_same, below}
use Rattle.pf_tree.specs.Trees.{Node, File, Tree, at, node_put, without_path, node_replaced, with_moved, path_moved, Data, block_count}
use Rattle.pf_tree_tables.specs.Tables.{Tables, inode_at, entry_at, unnamed, named, walk, blocks_of}
use Rattle.pf_tree.specs.Plans.{node_in, node_of, node_at}
use Rattle.pf_tree.specs.Standing.{TablesStandFor, IndexesAreTagged}
use Rattle.pf_tree_tables.proofs.Entries.{length_named, length_unnamed}
use Rattle.pf_tree.proofs.Paths.{cases_path, is_same_true, is_same_false}
use Rattle.pf_tree.proofs.Trees.{without_same, without_other, replaced_same, replaced_other, length_replaced, length_without, map_without, map_replaced}
use Rattle.pf_tree.proofs.RenamedTrees.{back, at_moved, map_moved}
use Rattle.pf_tree.proofs.Walks.{walk_on, walk_clear, walk_once, walk_in_use}
use Rattle.pf_tree.proofs.Names.{not_none, names_kept, walk_made, names_made, walk_removed, names_removed, walk_renamed, names_moved}
use Rattle.pf_tree.proofs.Tags.{Retagged, retagged, blocks_stay, blocks_are, untouched}
use Rattle.pf_tree.proofs.Sights.{node_in_some, node_from}

abbrev pub one_if : Bool → ℕ
one_if b = cond b 1 0

abbrev size_in : Inode → ℕ
size_in (OfFile size) = size
size_in Directory = 0

abbrev is_directory : Option Inode → Bool
is_directory (Some Directory) = true
is_directory (Some (OfFile size)) = false
is_directory None = false

same_node : (tags tags2 : List (Option Tag)) (j : ℕ) (o : Option Inode) → ((size : ℕ) → o ≡ Some (OfFile size) → blocks_of tags2 j (block_count size) ≡ blocks_of tags j (block_count size)) → node_in tags2 j o ≡ node_in tags j o
same_node tags tags2 j None same = refl
same_node tags tags2 j (Some Directory) same = refl
same_node tags tags2 j (Some (OfFile size)) same = ap (λ bs. Some (File size bs)) (same size refl)

node_kept : (tables tables2 : Tables) (j : ℕ) → inode_at tables2 j ≡ inode_at tables j → ((size : ℕ) → inode_at tables j ≡ Some (OfFile size) → blocks_of tables2.tags j (block_count size) ≡ blocks_of tables.tags j (block_count size)) → node_of tables2 j ≡ node_of tables j
node_kept tables tables2 j e same = ap (node_in tables2.tags j) e ∙ same_node tables.tags tables2.tags j (inode_at tables j) same

nodes_kept : (tables tables2 : Tables) (o : Option ℕ) → ((j : ℕ) → o ≡ Some j → node_of tables2 j ≡ node_of tables j) → option_and_then (node_of tables2) o ≡ option_and_then (node_of tables) o
nodes_kept tables tables2 None same = refl
nodes_kept tables tables2 (Some j) same = same j refl

pub used_within : (xs : List (Option Inode)) (i : ℕ) → is_some (get_or xs i None) ≡ true → i < length xs
used_within xs i e =
    elim (cases_lt i (length xs)) [
      | inl low ↦ low
      | inr past ↦ absurd (not_none (get_or xs i None) (get_or_past xs i None past) e)
    ]

pub count_set : (xs : List (Option Inode)) (i : ℕ) (y : Option Inode) → i < length xs → count_by is_some (set xs i y) + one_if (is_some (get_or xs i None)) ≡ count_by is_some xs + one_if (is_some y)
count_set xs i y low = sum_by-set (λ (o : Option Inode). cond (is_some o) 1 0) xs i y None low

module _ (d : Data) (tables : Tables) (tree : Tree) (s : TablesStandFor d tables tree) where
  -- something new at a path
  module _ (n : Name) (p : Path) (dir i : ℕ) (x : Inode) (node : Node) (here : walk tables.entries p ≡ Some dir) (is_dir : inode_at tables dir ≡ Some Directory) (absent : entry_at tables.entries dir n ≡ None) (low : i < length tables.inodes) (free : inode_at tables i ≡ None) (empty : (size : ℕ) → x ≡ OfFile size → size ≡ 0) (shown : node_in tables.tags i (Some x) ≡ Some node) where
    abbrev tables2 : Tables
    tables2 = record tables { inodes = set tables.inodes i (Some x); entries = named tables.entries dir i n }

    inside : dir < length tables.entries
    inside = let l = used_within tables.inodes dir (ap is_some is_dir) in let a = s.places in let b = s.dirs in omega (arith, l, a, b)

    new_inode : inode_at tables2 i ≡ Some x
    new_inode = get_or-set_same tables.inodes i (Some x) None low

    other_inodes : (j : ℕ) → j ≢ i → inode_at tables2 j ≡ inode_at tables j
    other_inodes j apart = get_or-set_other tables.inodes i j (Some x) None apart

    walks : (q : Path) → walk tables2.entries q ≡ cond (is_same q (n ∷ p)) (Some i) (walk tables.entries q)
    walks = walk_made (inode_at tables) (inode_at tables2) tables.entries s.names i dir n p here inside free is_dir absent (ap is_some new_inode) other_inodes

    was_absent : at tree (n ∷ p) ≡ None
    was_absent = s.nodes (n ∷ p) ∙ ap (option_and_then (node_of tables)) (walk_on tables.entries n p dir here ∙ absent)

    nodes_after : (q : Path) → at (node_put tree (n ∷ p) node) q ≡ node_at tables2 q
    nodes_after q =
        elim (cases_path q (n ∷ p)) [
          | inl same ↦
              cond-true (is_same q (n ∷ p)) (Some node) (at tree q) (is_same_true q (n ∷ p) same)
              ∙ sym (ap (option_and_then (node_of tables2)) (walks q ∙ cond-true (is_same q (n ∷ p)) (Some i) (walk tables.entries q) (is_same_true q (n ∷ p) same))
              ∙ ap (node_in tables.tags i) new_inode ∙ shown)
          | inr apart ↦
              cond-false (is_same q (n ∷ p)) (Some node) (at tree q) (is_same_false q (n ∷ p) apart) ∙ s.nodes q
              ∙ sym (ap (option_and_then (node_of tables2)) (walks q ∙ cond-false (is_same q (n ∷ p)) (Some i) (walk tables.entries q) (is_same_false q (n ∷ p) apart))
              ∙ nodes_kept tables tables2 (walk tables.entries q) (λ j at_j. node_kept tables tables2 j
              (other_inodes j (λ e. not_none (inode_at tables j) (ap (inode_at tables) e ∙ free) (walk_in_use (inode_at tables) tables.entries s.names q j at_j)))
              (λ size e. refl)))
        ]

    no_size : (size : ℕ) → inode_at tables2 i ≡ Some (OfFile size) → size ≡ 0
    no_size size e = empty size (same_Some x (OfFile size) (sym new_inode ∙ e))

    pub stands_made : TablesStandFor d tables2 (node_put tree (n ∷ p) node)
    stands_made = record {
      places = length-set tables.inodes i (Some x) ∙ s.places;
      dirs = length_named tables.entries dir i n ∙ s.dirs;
      blocks = s.blocks;
      names = names_made (inode_at tables) (inode_at tables2) tables.entries s.names i dir n p here inside free is_dir absent (ap is_some new_inode) other_inodes;
      tags =
          retagged (inode_at tables) (inode_at tables2) tables.tags tables.tags s.tags i []
          (untouched tables.tags i (λ b t e same. let f = s.tags.of_file b t e in none-some (OfFile f.0) (sym free ∙ ap (inode_at tables) (sym same) ∙ f.1)))
          other_inodes (λ k few. absurd (omega arith))
          (λ size e. subst (λ z. block_count z ≤ 0) (sym (no_size size e)) (omega arith));
      sizes = λ j size e. elim (cases_eq j i) [
        | inl same ↦ let z = no_size size (ap (inode_at tables2) (sym same) ∙ e) in omega (arith, z)
        | inr apart ↦ s.sizes j size (sym (other_inodes j apart) ∙ e)
      ];
      nodes = nodes_after;
      once = (was_absent, s.once);
      count =
          let c = count_set tables.inodes i (Some x) low in
          let f : one_if (is_some (get_or tables.inodes i None)) ≡ 0 = ap (λ o. one_if (is_some o)) free in
          let k = s.count in
          omega (arith, c, f, k);
    }

  -- a name removed under which nothing stands, its inode and its blocks freed
  module _ (n : Name) (p : Path) (dir i : ℕ) (tags2 : List (Option Tag)) (here : walk tables.entries p ≡ Some dir) (old : entry_at tables.entries dir n ≡ Some i) (bare : (m : Name) → entry_at tables.entries i m ≡ None) (re : Retagged tables.tags tags2 i []) (as_many : length tags2 ≡ length tables.tags) where
    abbrev tables3 : Tables
    tables3 = record { inodes = set tables.inodes i None; entries = unnamed tables.entries dir n; tags = tags2 }

    was_used : is_some (inode_at tables i) ≡ true
    was_used = s.names.in_use dir n i old

    gone_inode : inode_at tables3 i ≡ None
    gone_inode = get_or-set_same tables.inodes i None None (used_within tables.inodes i was_used)

    kept_inodes : (j : ℕ) → j ≢ i → inode_at tables3 j ≡ inode_at tables j
    kept_inodes j apart = get_or-set_other tables.inodes i j None None apart

    walks_on : (q : Path) → walk tables3.entries q ≡ cond (is_same q (n ∷ p)) None (walk tables.entries q)
    walks_on = walk_removed (inode_at tables) (inode_at tables3) tables.entries s.names i dir n p here old bare gone_inode kept_inodes

    led : walk tables.entries (n ∷ p) ≡ Some i
    led = walk_on tables.entries n p dir here ∙ old

    was_there : is_some (at tree (n ∷ p)) ≡ true
    was_there =
        let x = node_in_some tables.tags i (inode_at tables i) was_used in
        ap is_some (s.nodes (n ∷ p) ∙ node_from tables (n ∷ p) i led ∙ x.1)

    nodes_left : (q : Path) → at (without_path tree (n ∷ p)) q ≡ node_at tables3 q
    nodes_left q =
        elim (cases_path q (n ∷ p)) [
          | inl same ↦
              ap (at (without_path tree (n ∷ p))) same ∙ without_same tree (n ∷ p)
              ∙ sym (ap (option_and_then (node_of tables3)) (walks_on q ∙ cond-true (is_same q (n ∷ p)) None (walk tables.entries q) (is_same_true q (n ∷ p) same)))
          | inr apart ↦
              without_other tree (n ∷ p) q apart ∙ s.nodes q
              ∙ sym (ap (option_and_then (node_of tables3)) (walks_on q ∙ cond-false (is_same q (n ∷ p)) None (walk tables.entries q) (is_same_false q (n ∷ p) apart))
              ∙ nodes_kept tables tables3 (walk tables.entries q) (λ j at_j.
              let other : j ≢ i = λ e. apart (walk_once (inode_at tables) tables.entries s.names q (n ∷ p) i (at_j ∙ ap Some e) led) in
              node_kept tables tables3 j (kept_inodes j other)
              (λ size e. blocks_stay (inode_at tables) (inode_at tables3) tables.tags tags2 s.tags i [] re j size other e)))
        ]

    pub stands_removed : TablesStandFor d tables3 (without_path tree (n ∷ p))
    stands_removed = record {
      places = length-set tables.inodes i None ∙ s.places;
      dirs = length_unnamed tables.entries dir n ∙ s.dirs;
      blocks = as_many ∙ s.blocks;
      names = names_removed (inode_at tables) (inode_at tables3) tables.entries s.names i dir n p here old bare gone_inode kept_inodes;
      tags =
          retagged (inode_at tables) (inode_at tables3) tables.tags tags2 s.tags i [] re kept_inodes (λ k few. absurd (omega arith))
          (λ size e. absurd (none-some (OfFile size) (sym gone_inode ∙ e)));
      sizes = λ j size e. elim (cases_eq j i) [
        | inl same ↦ absurd (none-some (OfFile size) (sym gone_inode ∙ ap (inode_at tables3) (sym same) ∙ e))
        | inr apart ↦ s.sizes j size (sym (kept_inodes j apart) ∙ e)
      ];
      nodes = nodes_left;
      once = map_without tree (n ∷ p) s.once;
      count =
          let c = count_set tables.inodes i None (used_within tables.inodes i was_used) in
          let f : one_if (is_some (get_or tables.inodes i None)) ≡ 1 = ap one_if was_used in
          let k = s.count in
          let l = length_without tree (n ∷ p) s.once was_there in
          omega (arith, c, f, k, l);
    }

  -- a file of another size
  module _ (p : Path) (i z size : ℕ) (tags2 : List (Option Tag)) (blocks : List ℕ) (leads : walk tables.entries p ≡ Some i) (file : inode_at tables i ≡ Some (OfFile z)) (re : Retagged tables.tags tags2 i blocks) (as_long : length blocks ≡ block_count size) (few : size ≤ 196608) (as_many : length tags2 ≡ length tables.tags) where
    abbrev tables4 : Tables
    tables4 = record { inodes = set tables.inodes i (Some (OfFile size)); entries = tables.entries; tags = tags2 }

    sized_inode : inode_at tables4 i ≡ Some (OfFile size)
    sized_inode = get_or-set_same tables.inodes i (Some (OfFile size)) None (used_within tables.inodes i (ap is_some file))

    same_inodes : (j : ℕ) → j ≢ i → inode_at tables4 j ≡ inode_at tables j
    same_inodes j apart = get_or-set_other tables.inodes i j (Some (OfFile size)) None apart

    same_size : (other : ℕ) → inode_at tables4 i ≡ Some (OfFile other) → size ≡ other
    same_size other e = ap size_in (same_Some (OfFile size) (OfFile other) (sym sized_inode ∙ e))

    tags_after : IndexesAreTagged (inode_at tables4) tags2
    tags_after =
        retagged (inode_at tables) (inode_at tables4) tables.tags tags2 s.tags i blocks re same_inodes
        (λ k low. (size, sized_inode, subst (λ m. k < m) as_long low))
        (λ other e. subst (λ m. block_count m ≤ length blocks) (same_size other e) (omega (arith, as_long)))

    nodes_sized : (q : Path) → at (node_replaced tree p (File size blocks)) q ≡ node_at tables4 q
    nodes_sized q =
        elim (cases_path q p) [
          | inl same ↦
              let x = node_in_some tables.tags i (inode_at tables i) (ap is_some file) in
              ap (at (node_replaced tree p (File size blocks))) same
              ∙ replaced_same tree p (File size blocks) (ap is_some (s.nodes p ∙ node_from tables p i leads ∙ x.1))
              ∙ sym (ap (node_at tables4) same ∙ node_from tables4 p i leads ∙ ap (node_in tags2 i) sized_inode
              ∙ ap (λ bs. Some (File size bs)) (ap (blocks_of tags2 i) (sym as_long) ∙ blocks_are (inode_at tables) (inode_at tables4) tables.tags tags2 s.tags i blocks re))
          | inr apart ↦
              replaced_other tree p (File size blocks) q apart ∙ s.nodes q
              ∙ sym (nodes_kept tables tables4 (walk tables.entries q) (λ j at_j.
              let other : j ≢ i = λ e. apart (walk_once (inode_at tables) tables.entries s.names q p i (at_j ∙ ap Some e) leads) in
              node_kept tables tables4 j (same_inodes j other)
              (λ z2 e. blocks_stay (inode_at tables) (inode_at tables4) tables.tags tags2 s.tags i blocks re j z2 other e)))
        ]

    pub stands_resized : TablesStandFor d tables4 (node_replaced tree p (File size blocks))
    stands_resized = record {
      places = length-set tables.inodes i (Some (OfFile size)) ∙ s.places;
      dirs = s.dirs;
      blocks = as_many ∙ s.blocks;
      names =
          names_kept (inode_at tables) (inode_at tables4) tables.entries s.names
          (λ j. elim (cases_eq j i) [
            | inl same ↦ ap (λ k. is_some (inode_at tables4 k)) same ∙ ap is_some sized_inode ∙ sym (ap (λ k. is_some (inode_at tables k)) same ∙ ap is_some file)
            | inr apart ↦ ap is_some (same_inodes j apart)
          ])
          (λ j e. elim (cases_eq j i) [
            | inl same ↦ absurd (false≢true (ap is_directory (sym file ∙ ap (inode_at tables) (sym same) ∙ e)))
            | inr apart ↦ same_inodes j apart ∙ e
          ]);
      tags = tags_after;
      sizes = λ j z2 e. elim (cases_eq j i) [
        | inl same ↦ let k = same_size z2 (ap (inode_at tables4) (sym same) ∙ e) in omega (arith, k, few)
        | inr apart ↦ s.sizes j z2 (sym (same_inodes j apart) ∙ e)
      ];
      nodes = nodes_sized;
      once = map_replaced tree p (File size blocks) s.once;
      count =
          let c = count_set tables.inodes i (Some (OfFile size)) (used_within tables.inodes i (ap is_some file)) in
          let f : one_if (is_some (get_or tables.inodes i None)) ≡ 1 = ap (λ o. one_if (is_some o)) file in
          let k = s.count in
          let l = length_replaced tree p (File size blocks) in
          omega (arith, c, f, k, l);
    }

  -- another place
  module _ (n m : Name) (p q : Path) (dir to i : ℕ) (here : walk tables.entries p ≡ Some dir) (there : walk tables.entries q ≡ Some to) (is_dir : inode_at tables to ≡ Some Directory) (old : entry_at tables.entries dir n ≡ Some i) (absent : entry_at tables.entries to m ≡ None) (outside : below (n ∷ p) (m ∷ q) ≡ None) where
    abbrev tables5 : Tables
    tables5 = record tables { entries = named (unnamed tables.entries dir n) to i m }

    to_inside : to < length tables.entries
    to_inside = let l = used_within tables.inodes to (ap is_some is_dir) in let a = s.places in let b = s.dirs in omega (arith, l, a, b)

    nothing_there : walk tables.entries (m ∷ q) ≡ None
    nothing_there = walk_on tables.entries m q to there ∙ absent

    is_clear : (y : Path) → at tree (y ++ m ∷ q) ≡ None
    is_clear y = s.nodes (y ++ m ∷ q) ∙ ap (option_and_then (node_of tables)) (walk_clear tables.entries (m ∷ q) y nothing_there)

    looked_back : (a b : Option Path) (r : Path) → back (at tree) (n ∷ p) a b r ≡ option_and_then (node_of tables) (back (walk tables.entries) (n ∷ p) a b r)
    looked_back (Some x) b r = s.nodes (x ++ n ∷ p)
    looked_back None (Some y) r = refl
    looked_back None None r = s.nodes r

    pub stands_moved : TablesStandFor d tables5 (with_moved tree (n ∷ p) (m ∷ q))
    stands_moved = record {
      places = s.places;
      dirs = length_named (unnamed tables.entries dir n) to i m ∙ length_unnamed tables.entries dir n ∙ s.dirs;
      blocks = s.blocks;
      names = names_moved (inode_at tables) (inode_at tables) tables.entries s.names i dir n p here to m q to_inside old there is_dir absent outside;
      tags = s.tags;
      sizes = s.sizes;
      nodes = λ r.
          at_moved tree (n ∷ p) (m ∷ q) r is_clear
          ∙ looked_back (below (m ∷ q) r) (below (n ∷ p) r) r
          ∙ ap (option_and_then (node_of tables)) (sym (walk_renamed (inode_at tables) (inode_at tables) tables.entries s.names i dir n p here to m q to_inside old there is_dir absent outside r));
      once = map_moved tree (n ∷ p) (m ∷ q) is_clear s.once;
      count = length-map tree (λ (row : Path × Node). (path_moved (n ∷ p) (m ∷ q) row.0, row.1)) ∙ s.count;
    }
