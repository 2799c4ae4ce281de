-- Tables that stand for a tree show the same as the tree, so they refuse the same.
use Rattle.std.proofs.Common.{◌≡◌, ℕ, ◌+◌, ◌-◌, ◌<◌, ◌≤◌, inl, inr, Bool, true, false, cond, not, nat_le, List, [], ◌∷◌, length, get_or, Option, Some, None, is_some, refl, sym, ap, ◌∙◌, subst, arith}
use mathlib.Core.Path.{fun_ext}
use Rattle.std.specs.Option.{option_and_then, is_none}
use Rattle.std.specs.List.{list_any, count_by, position_or_len}
use Rattle.std.proofs.lemmas.Bool.{cases_Bool, false≢true, true≢false, leb-true, le-leb, false_from_ne_true}
use Rattle.std.proofs.lemmas.Option.{none-some, same_Some}
use Rattle.std.proofs.lemmas.List.Sums.{count_by-le-length, sum_by-cons}
use Rattle.pf_tree_tables.specs.declared.tables.Inode.{Inode}
use Rattle.pf_tree_tables.specs.declared.tables.Inode.TheVariants.{File as OfFile, Directory}
use Rattle.pf_tree_tables.specs.declared.tables.Tag.{Tag}
use Rattle.pf_tree_tables.specs.Names.{Name, Path}
use Rattle.pf_tree.specs.Calls.{FileCall}
use Rattle.pf_tree.specs.Trees.{Node, Dir, File, Tree, at, Sight, Data, block_count, is_bare, is_right_below, is_block_listed, lists_block, is_dir, size_at, blocks_at, unlisted, refusal, tree_sight}
use Rattle.pf_tree_tables.specs.Tables.{Tables, inode_at, tag_at, has_names, walk, blocks_of, least_free_inode}
use Rattle.pf_tree.specs.Plans.{node_in, node_of, node_at, has_no_names, untagged, tables_sight}
use Rattle.pf_tree.specs.Standing.{TablesStandFor}
use Rattle.pf_tree.proofs.Paths.{same_decides, is_same_true}
use Rattle.pf_tree.proofs.Trees.{any_at, row_of_any}
use Rattle.pf_tree.proofs.RenamedTrees.{cases_option}
use Rattle.pf_tree_tables.proofs.Entries.{no_names, some_name}
use Rattle.pf_tree.proofs.Walks.{walk_parts, walk_on}
use Rattle.pf_tree.proofs.Members.{has, member, has_at, same_filter}
use Rattle.pf_tree.proofs.Tags.{length_blocks, get_block, block_is, tag_in_list}

abbrev sight_of : (Path → Option Node) → (Path → Bool) → Bool → ℕ → Sight
sight_of l e f r = record { look = l; is_empty = e; is_full = f; room = r }

pub same_bool : (a b : Bool) → (a ≡ true → b ≡ true) → (b ≡ true → a ≡ true) → a ≡ b
same_bool true b f g = sym (f refl)
same_bool false b f g = sym (false_from_ne_true b (λ e. false≢true (g e)))

-- where a path leads
pub record Stands (tables : Tables) (p : Path) (node : Node) : Type 0 where
  pub inode : ℕ
  pub leads : walk tables.entries p ≡ Some inode
  pub is : node_of tables inode ≡ Some node

stands_of : (tables : Tables) (p : Path) (node : Node) (o : Option ℕ) → walk tables.entries p ≡ o → option_and_then (node_of tables) o ≡ Some node → Stands tables p node
stands_of tables p node None w e = absurd (none-some node e)
stands_of tables p node (Some i) w e = record { inode = i; leads = w; is = e }

pub stands_at : (tables : Tables) (p : Path) (node : Node) → node_at tables p ≡ Some node → Stands tables p node
stands_at tables p node e = stands_of tables p node (walk tables.entries p) refl e

pub node_from : (tables : Tables) (p : Path) (i : ℕ) → walk tables.entries p ≡ Some i → node_at tables p ≡ node_of tables i
node_from tables p i e = ap (option_and_then (node_of tables)) e

pub node_in_some : (tags : List (Option Tag)) (i : ℕ) (o : Option Inode) → is_some o ≡ true → (node : Node) × (node_in tags i o ≡ Some node)
node_in_some tags i None e = absurd (false≢true e)
node_in_some tags i (Some Directory) e = (Dir, refl)
node_in_some tags i (Some (OfFile size)) e = (File size (blocks_of tags i (block_count size)), refl)

pub file_parts : (tags : List (Option Tag)) (i : ℕ) (o : Option Inode) (size : ℕ) (bs : List ℕ) → node_in tags i o ≡ Some (File size bs) → (o ≡ Some (OfFile size)) × (bs ≡ blocks_of tags i (block_count size))
file_parts tags i None size bs e = absurd (none-some (File size bs) e)
file_parts tags i (Some Directory) size bs e = absurd (true≢false (ap is_dir e))
file_parts tags i (Some (OfFile z)) size bs e =
    let same : z ≡ size = ap size_at e in
    (ap (λ n. Some (OfFile n)) same, sym (ap blocks_at e) ∙ ap (λ n. blocks_of tags i (block_count n)) same)

pub dir_part : (tags : List (Option Tag)) (i : ℕ) (o : Option Inode) → node_in tags i o ≡ Some Dir → o ≡ Some Directory
dir_part tags i None e = absurd (none-some Dir e)
dir_part tags i (Some Directory) e = refl
dir_part tags i (Some (OfFile z)) e = absurd (false≢true (ap is_dir e))

-- no place is free exactly where there are as many as are in use
all_used : (xs : List (Option Inode)) → length xs ≤ position_or_len is_none xs → length xs ≤ count_by is_some xs
all_used [] h = omega arith
all_used (None ∷ xs) h = absurd (omega arith)
all_used (Some x ∷ xs) h = let k = all_used xs (omega arith) in let c : count_by is_some (Some x ∷ xs) ≡ 1 + count_by is_some xs = sum_by-cons (λ (o : Option Inode). cond (is_some o) 1 0) (Some x) xs in omega (arith, c, k)

none_free : (xs : List (Option Inode)) → length xs ≤ count_by is_some xs → length xs ≤ position_or_len is_none xs
none_free [] h = omega arith
none_free (None ∷ xs) h = let k = count_by-le-length is_some xs in absurd (omega arith)
none_free (Some x ∷ xs) h = let c : count_by is_some (Some x ∷ xs) ≡ 1 + count_by is_some xs = sum_by-cons (λ (o : Option Inode). cond (is_some o) 1 0) (Some x) xs in let k = none_free xs (omega (arith, c, h)) in omega arith

right_below : (p q : Path) → is_right_below p q ≡ true → (n : Name) × (q ≡ n ∷ p)
right_below p [] e = absurd (false≢true e)
right_below p (n ∷ q) e = (n, ap (λ r. n ∷ r) ((same_decides q p).0 e))

lists_parts : (node : Node) (b : ℕ) → lists_block node b ≡ true → (size : ℕ) × (bs : List ℕ) × (node ≡ File size bs) × (has bs b ≡ true)
lists_parts Dir b e = absurd (false≢true e)
lists_parts (File size bs) b e = (size, bs, refl, e)

module _ (d : Data) (tables : Tables) (tree : Tree) (s : TablesStandFor d tables tree) where
  names_below : (p : Path) → list_any (λ (row : Path × Node). is_right_below p row.0) tree ≡ true → (i : ℕ) × (walk tables.entries p ≡ Some i) × (has_names tables.entries i ≡ true)
  names_below p e =
      let r = row_of_any tree (λ (row : Path × Node). is_right_below p row.0) s.once e in
      let b = right_below p r.path r.passes in
      let at_b = stands_at tables (b.0 ∷ p) r.node (sym (s.nodes (b.0 ∷ p)) ∙ ap (at tree) (sym b.1) ∙ r.stands) in
      let w = walk_parts tables.entries b.0 p at_b.inode at_b.leads in (
        w.directory,
        w.before,
        elim (cases_Bool (has_names tables.entries w.directory)) [
          | inl is ↦ is
          | inr isnt ↦ absurd (none-some at_b.inode (sym (no_names tables.entries w.directory b.0 isnt) ∙ w.last))
        ],
      )

  below_of_names : (p : Path) (i : ℕ) → walk tables.entries p ≡ Some i → has_names tables.entries i ≡ true → list_any (λ (row : Path × Node). is_right_below p row.0) tree ≡ true
  below_of_names p i w e =
      let n = some_name tables.entries i e in
      let on = walk_on tables.entries n.name p i w ∙ n.stands in
      let node = node_in_some tables.tags n.inode (inode_at tables n.inode) (s.names.in_use i n.name n.inode n.stands) in
      any_at tree (λ (row : Path × Node). is_right_below p row.0) (n.name ∷ p) node.0
      (s.nodes (n.name ∷ p) ∙ node_from tables (n.name ∷ p) n.inode on ∙ node.1) (is_same_true p p refl)

  bare_for : (p : Path) (o : Option ℕ) → walk tables.entries p ≡ o → is_bare tree p ≡ has_no_names tables.entries o
  bare_for p None w =
      ap not (false_from_ne_true _ (λ e. let b = names_below p e in none-some b.0 (sym w ∙ b.1)))
  bare_for p (Some i) w =
      ap not (same_bool _ _
      (λ e. let b = names_below p e in ap (has_names tables.entries) (same_Some i b.0 (sym w ∙ b.1)) ∙ b.2)
      (λ e. below_of_names p i w e))

  pub bare_same : (p : Path) → has_no_names tables.entries (walk tables.entries p) ≡ is_bare tree p
  bare_same p = sym (bare_for p (walk tables.entries p) refl)

  full_same : nat_le (length tables.inodes) (least_free_inode tables) ≡ nat_le 1024 (length tree)
  full_same =
      same_bool _ _
      (λ e. let h = all_used tables.inodes (leb-true (length tables.inodes) (least_free_inode tables) e) in let c = s.count in let z = s.places in le-leb 1024 (length tree) (omega arith))
      (λ e. let h = leb-true 1024 (length tree) e in let c = s.count in let z = s.places in le-leb (length tables.inodes) (least_free_inode tables) (none_free tables.inodes (omega arith)))

  tagged_if_listed : (b : ℕ) → is_block_listed tree b ≡ true → is_some (tag_at tables.tags b) ≡ true
  tagged_if_listed b e =
      let r = row_of_any tree (λ (row : Path × Node). lists_block row.1 b) s.once e in
      let l = lists_parts r.node b r.passes in
      let at_r = stands_at tables r.path r.node (sym (s.nodes r.path) ∙ r.stands) in
      let f = file_parts tables.tags at_r.inode (inode_at tables at_r.inode) l.0 l.1 (at_r.is ∙ ap Some l.2) in
      let m = member (blocks_of tables.tags at_r.inode (block_count l.0)) b (ap (λ bs. has bs b) (sym f.1) ∙ l.3) in
      let low : m.index < block_count l.0 = subst (λ n. m.index < n) (length_blocks tables.tags at_r.inode (block_count l.0)) m.within in
      ap (λ c. is_some (tag_at tables.tags c)) (sym m.is)
      ∙ ap is_some (tag_in_list (inode_at tables) tables.tags s.tags at_r.inode l.0 m.index f.0 low)

  listed_if_tagged : (b : ℕ) → is_some (tag_at tables.tags b) ≡ true → is_block_listed tree b ≡ true
  listed_if_tagged b e =
      elim (cases_option (tag_at tables.tags b)) [
        | inr none ↦ absurd (false≢true (ap is_some (sym none) ∙ e))
        | inl (t, is) ↦
            let f = s.tags.of_file b t is in
            let r = s.names.reached t.inode (ap is_some f.1) in
            let bs : List ℕ = blocks_of tables.tags t.inode (block_count f.0) in
            let here : get_or bs t.index 0 ≡ b = get_block tables.tags t.inode (block_count f.0) t.index 0 f.2 ∙ block_is (inode_at tables) tables.tags s.tags t.inode t.index b is in
            any_at tree (λ (row : Path × Node). lists_block row.1 b) r.0 (File f.0 bs)
            (s.nodes r.0 ∙ node_from tables r.0 t.inode r.1 ∙ ap (node_in tables.tags t.inode) f.1)
            (ap (has bs) (sym here) ∙ has_at bs t.index (subst (λ n. t.index < n) (sym (length_blocks tables.tags t.inode (block_count f.0))) f.2))
      ]

  pub free_same : untagged d tables.tags ≡ unlisted d tree
  free_same =
      same_filter _ _ d.first (d.blocks - d.first)
      (λ b low. ap not (same_bool _ _ (listed_if_tagged b) (tagged_if_listed b)))

  looks : node_at tables ≡ at tree
  looks = fun_ext (λ p. sym (s.nodes p))

  pub same_sight : tables_sight d tables ≡ tree_sight d tree
  same_sight =
      ap (λ (l : Path → Option Node). sight_of l (λ p. has_no_names tables.entries (walk tables.entries p)) (nat_le (length tables.inodes) (least_free_inode tables)) (length (untagged d tables.tags))) looks
      ∙ ap (λ (e : Path → Bool). sight_of (at tree) e (nat_le (length tables.inodes) (least_free_inode tables)) (length (untagged d tables.tags))) (fun_ext bare_same)
      ∙ ap (λ (f : Bool). sight_of (at tree) (is_bare tree) f (length (untagged d tables.tags))) full_same
      ∙ ap (λ (r : ℕ). sight_of (at tree) (is_bare tree) (nat_le 1024 (length tree)) r) (ap length free_same)

  pub same_refusal : (call : FileCall) → refusal (tables_sight d tables) call ≡ refusal (tree_sight d tree) call
  same_refusal call = ap (λ (z : Sight). refusal z call) same_sight
