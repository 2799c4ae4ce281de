-- The law of the calls: tables that stand for a tree refuse as the tree does, and the planned changes give tables that stand for the
-- tree after the call.
use Rattle.std.proofs.Common.{◌≡◌, ◌≢◌, ℕ, ◌+◌, ◌-◌, ◌<◌, ◌≤◌, max, inl, inr, Bool, true, false, cond, not, ◌==◌, nat_lt, nat_le, List, [], ◌∷◌, ◌++◌, length, take, drop, set, Option, Some, None, is_some, refl, sym, ap, ◌∙◌, subst, arith}
use Rattle.std.specs.Option.{option_and_then, unwrap_or, is_none}
use Rattle.std.proofs.lemmas.Bool.{cases_Bool, cond-true, cond-false, false≢true, true≢false, lt-ltb, le-leb, ltb-false, leb-false, not-true, not-false, and_from, or_right}
use Rattle.std.proofs.lemmas.Option.{none-some}
use Rattle.std.proofs.lemmas.List.{length-set, length-take-le, append-nil}
use Rattle.std.proofs.lemmas.List.Sums.{passes_at_first}
use Rattle.pf_tree_tables.specs.declared.changes.Change.{Change}
use Rattle.pf_tree_tables.specs.declared.changes.Change.TheVariants.{SetInode, AddEntry, DeleteEntry}
use Rattle.pf_tree_tables.specs.declared.tables.Inode.{Inode}
use Rattle.pf_tree_tables.specs.declared.tables.Inode.TheVariants.{File as OfFile, Directory}
use Rattle.pf_tree_tables.specs.declared.tables.Tag.{Tag}
use Rattle.pf_tree_tables.specs.Names.{Name, Path}
use Rattle.pf_tree.specs.Paths.{below}
use Rattle.pf_tree.specs.Calls.{FileCall}
use Rattle.pf_base.specs.declared.calls.Call.TheVariants.{Mkdir, Create, Write, Read, Truncate, Rename, Unlink, Rmdir, Stat, List as Lists}
use Rattle.pf_tree.specs.Trees.{Node, Dir, File, Tree, at, node_put, without_path, with_moved, Sight, Data, block_count, first_some, when, step_refusal, walk_refusal, place_refusal, file_refusal, dir_refusal, size_refusal, is_dir, is_bare, has_rest, size_at, blocks_at, written_size, sized_blocks, tree_resized, sized, node_replaced, unlisted, refusal, tree_sight, changed}
use Rattle.pf_tree_tables.specs.Tables.{Tables, Entries, inode_at, inode_with, tag_at, entry_at, has_names, may_set, unnamed, named, walk, blocks_of, applied, least_free_inode}
use Rattle.pf_tree.specs.Plans.{has_no_names, node_in, node_of, node_at, untagged, found, blocks_freed, blocks_given, makes, resizes, sizes, changes}
use Rattle.pf_tree.specs.Standing.{TablesStandFor, PlanFollows, IsCall, PlansAs}
use Rattle.pf_tree.proofs.Paths.{below_of, below_is}
use Rattle.pf_tree.proofs.RenamedTrees.{cases_option}
use Rattle.pf_tree_tables.proofs.Entries.{no_names}
use Rattle.pf_tree.proofs.Walks.{walk_parts, walk_on, leads_nowhere}
use Rattle.pf_tree.proofs.Members.{has, Distinct, kept_of_range, distinct_range, distinct_take, has_take}
use Rattle.pf_tree_tables.proofs.Shelves.{applied_append}
use Rattle.pf_tree.proofs.Tags.{untouched, free_all, give_all, applied_freed, applied_given, length_freed, length_given}
use Rattle.pf_tree.proofs.Sights.{stands_at, node_from, node_in_some, file_parts, dir_part, bare_same, free_same, same_sight, same_refusal}
use Rattle.pf_tree.proofs.ResizedTags as sizing
use Rattle.pf_tree.proofs.Steps.{used_within, stands_made, stands_removed, stands_resized, stands_moved}

some_refusal : (n : ℕ) → ◌≡◌ {A = Option ℕ} (Some n) None → ⊥
some_refusal n e = none-some n (sym e)

pub first_none : (a b : Option ℕ) → first_some a b ≡ None → (a ≡ None) × (b ≡ None)
first_none None b e = (refl, e)
first_none (Some a) b e = absurd (some_refusal a e)

pub when_none : (n : ℕ) (b : Bool) → when n b ≡ None → b ≡ false
when_none n true e = absurd (some_refusal n e)
when_none n false e = refl

step_none : (o next : Option Node) → step_refusal o next ≡ None → is_some next ≡ true
step_none None next e = not-false _ (when_none 82 _ e)
step_none (Some Dir) next e = not-false _ (when_none 82 _ e)
step_none (Some (File size bs)) next e = absurd (some_refusal 84 e)

pub walk_reaches : (look : Path → Option Node) (p : Path) → is_some (look []) ≡ true → walk_refusal look p ≡ None → is_some (look p) ≡ true
walk_reaches look [] root e = root
walk_reaches look (n ∷ p) root e = step_none (look p) (look (n ∷ p)) (first_none _ _ e).1

is_dir_true : (o : Option Node) → is_dir o ≡ true → o ≡ Some Dir
is_dir_true None e = absurd (false≢true e)
is_dir_true (Some Dir) e = refl
is_dir_true (Some (File size bs)) e = absurd (false≢true e)

is_file : (o : Option Node) → is_some o ≡ true → is_dir o ≡ false → (size : ℕ) × (bs : List ℕ) × (o ≡ Some (File size bs))
is_file None e f = absurd (false≢true e)
is_file (Some Dir) e f = absurd (true≢false f)
is_file (Some (File size bs)) e f = (size, bs, refl)

is_some_of : {X : Type 0} → (o : Option X) → is_some o ≡ true → (x : X) × (o ≡ Some x)
is_some_of None e = absurd (false≢true e)
is_some_of (Some x) e = (x, refl)

is_none_of : {X : Type 0} → (o : Option X) → is_some o ≡ false → o ≡ None
is_none_of None e = refl
is_none_of (Some x) e = absurd (true≢false e)

cons_not_nil : (c : Change) (cs : List Change) → c ∷ cs ≢ []
cons_not_nil c cs e = cc

-- an inode other than the root may be set
may_set_at : (i kind size : ℕ) → i ≢ 0 → size ≤ 196608 → may_set i kind size ≡ true
may_set_at i kind size other few =
    and_from _ _ (le-leb size 196608 few) (or_right (nat_lt 1 kind) (nat_lt 0 i) (lt-ltb 0 i (omega (arith, other))))

pub few_blocks : (size : ℕ) → size ≤ 196608 → block_count size ≤ 48
few_blocks size h = omega arith

pub written_few : (old offset count : ℕ) → old ≤ 196608 → offset + count ≤ 196608 → written_size old offset count ≤ 196608
written_few old offset count h k =
    elim (cases_Bool (count == 0)) [
      | inl none ↦ subst (λ n. n ≤ 196608) (sym (cond-true (count == 0) old (max old (offset + count)) none)) h
      | inr some ↦ subst (λ n. n ≤ 196608) (sym (cond-false (count == 0) old (max old (offset + count)) some)) (omega arith)
    ]

module _ (d : Data) (tables : Tables) (tree : Tree) (s : TablesStandFor d tables tree) where
  follows_by : (cs cs2 : List Change) (o o2 : Option Tree) → cs ≡ cs2 → o ≡ o2 → PlanFollows d tables cs2 tree o2 → PlanFollows d tables cs tree o
  follows_by cs cs2 o o2 e f h =
      subst (λ (x : List Change). PlanFollows d tables x tree o) (sym e) (subst (λ (x : Option Tree). PlanFollows d tables cs2 tree x) (sym f) h)

  follows_change : (c : Change) (cs : List Change) (tables2 : Tables) (tree2 : Tree) → applied tables (c ∷ cs) ≡ tables2 → TablesStandFor d tables2 tree2 → PlanFollows d tables (c ∷ cs) tree (Some tree2)
  follows_change c cs tables2 tree2 e h = (cons_not_nil c cs, subst (λ (t : Tables). TablesStandFor d t tree2) (sym e) h)

  found_is : (p : Path) (i : ℕ) → walk tables.entries p ≡ Some i → found tables p ≡ i
  found_is p i e = ap (λ o. unwrap_or o 0) e

  root_dir : at tree [] ≡ Some Dir
  root_dir = s.nodes [] ∙ ap (node_in tables.tags 0) s.names.root

  reaches : (p : Path) → walk_refusal (at tree) p ≡ None → is_some (at tree p) ≡ true
  reaches p e = walk_reaches (at tree) p (ap is_some root_dir) e

  within : (i : ℕ) → is_some (inode_at tables i) ≡ true → nat_lt i (length tables.inodes) ≡ true
  within i e = lt-ltb i (length tables.inodes) (used_within tables.inodes i e)

  record DirAt (p : Path) : Type 0 where
    inode : ℕ
    leads : walk tables.entries p ≡ Some inode
    is : inode_at tables inode ≡ Some Directory

  dir_at : (p : Path) → at tree p ≡ Some Dir → DirAt p
  dir_at p e =
      let a = stands_at tables p Dir (sym (s.nodes p) ∙ e) in
      record { inode = a.inode; leads = a.leads; is = dir_part tables.tags a.inode (inode_at tables a.inode) a.is }

  record FileAt (p : Path) : Type 0 where
    inode : ℕ
    size : ℕ
    leads : walk tables.entries p ≡ Some inode
    is : inode_at tables inode ≡ Some (OfFile size)
    in_tree : at tree p ≡ Some (File size (blocks_of tables.tags inode (block_count size)))
    in_tables : node_at tables p ≡ Some (File size (blocks_of tables.tags inode (block_count size)))

  file_at : (p : Path) → file_refusal (at tree) p ≡ None → FileAt p
  file_at p e =
      let f = first_none (walk_refusal (at tree) p) _ e in
      let x = is_file (at tree p) (reaches p f.0) (when_none 85 _ f.1) in
      let a = stands_at tables p (File x.0 x.1) (sym (s.nodes p) ∙ x.2) in
      let y = file_parts tables.tags a.inode (inode_at tables a.inode) x.0 x.1 a.is in
      let z : at tree p ≡ Some (File x.0 (blocks_of tables.tags a.inode (block_count x.0))) = x.2 ∙ ap (λ bs. Some (File x.0 bs)) y.1 in
      record { inode = a.inode; size = x.0; leads = a.leads; is = y.0; in_tree = z; in_tables = sym (s.nodes p) ∙ z }

  -- a place where nothing stands yet
  record PlaceAt (n : Name) (p : Path) : Type 0 where
    dir : DirAt p
    absent : entry_at tables.entries dir.inode n ≡ None

  place_at : (n : Name) (p : Path) → place_refusal (at tree) (n ∷ p) ≡ None → PlaceAt n p
  place_at n p e =
      let f = first_none (walk_refusal (at tree) p) _ e in
      let g = first_none (when 84 (not (is_dir (at tree p)))) _ f.1 in
      let x = dir_at p (is_dir_true (at tree p) (not-false _ (when_none 84 _ g.0))) in
      let none : at tree (n ∷ p) ≡ None = is_none_of (at tree (n ∷ p)) (when_none 83 _ g.1) in
      record {
        dir = x;
        absent = elim (cases_option (entry_at tables.entries x.inode n)) [
          | inr absent ↦ absent
          | inl (i, there) ↦
              let node = node_in_some tables.tags i (inode_at tables i) (s.names.in_use x.inode n i there) in
              absurd (none-some node.0 (sym none ∙ s.nodes (n ∷ p) ∙ node_from tables (n ∷ p) i (walk_on tables.entries n p x.inode x.leads ∙ there) ∙ node.1))
        ];
      }

  not_root : (i : ℕ) → (inode_at tables i ≡ Some Directory → ⊥) → i ≢ 0
  not_root i other e = other (ap (inode_at tables) e ∙ s.names.root)

  file_not_root : (i size : ℕ) → inode_at tables i ≡ Some (OfFile size) → i ≢ 0
  file_not_root i size is = not_root i (λ root. true≢false (ap is_dir (ap (node_in tables.tags i) (sym root ∙ is))))

  -- mkdir and create
  made : (kind : ℕ) (x : Inode) (node : Node) (n : Name) (p : Path) → inode_with kind 0 ≡ Some x → ((size : ℕ) → x ≡ OfFile size → size ≡ 0) → ((i : ℕ) → node_in tables.tags i (Some x) ≡ Some node) → place_refusal (at tree) (n ∷ p) ≡ None → nat_le (length tables.inodes) (least_free_inode tables) ≡ false → PlanFollows d tables (makes tables kind (n ∷ p)) tree (Some (node_put tree (n ∷ p) node))
  made kind x node n p is empty shown placed not_full =
      let place = place_at n p placed in
      let i : ℕ = least_free_inode tables in
      let low : i < length tables.inodes = leb-false (length tables.inodes) i not_full in
      let free : inode_at tables i ≡ None = is_none_of (inode_at tables i) (not-true _ (passes_at_first is_none tables.inodes None low)) in
      let at_p : found tables p ≡ place.dir.inode = found_is p place.dir.inode place.dir.leads in
      let after : List (Option Inode) → ℕ → Bool → Tables = λ xs dir b. record { inodes = xs; entries = cond b (named tables.entries dir i n) tables.entries; tags = tables.tags } in
      let may : may_set i kind 0 ≡ true = may_set_at i kind 0 (not_root i (λ root. none-some _ (sym free ∙ root))) (omega arith) in
      let i_low : nat_lt i (length (set tables.inodes i (Some x))) ≡ true = ap (nat_lt i) (length-set tables.inodes i (Some x)) ∙ lt-ltb i (length tables.inodes) low in
      follows_change _ _ _ (node_put tree (n ∷ p) node)
      (ap (λ (b : Bool). let xs : List (Option Inode) = cond b (set tables.inodes i (inode_with kind 0)) tables.inodes in after xs (found tables p) (nat_lt i (length xs))) may
      ∙ ap (λ (o : Option Inode). after (set tables.inodes i o) (found tables p) (nat_lt i (length (set tables.inodes i o)))) is
      ∙ ap (λ (dir : ℕ). after (set tables.inodes i (Some x)) dir (nat_lt i (length (set tables.inodes i (Some x))))) at_p
      ∙ ap (λ (b : Bool). after (set tables.inodes i (Some x)) place.dir.inode b) i_low)
      (stands_made d tables tree s n p place.dir.inode i x node place.dir.leads place.dir.is place.absent low free empty (shown i))

  -- write and truncate
  resized_by : (p : Path) (size : ℕ) (f : FileAt p) → size ≤ 196608 → block_count size ≤ block_count f.size + length (untagged d tables.tags) → PlanFollows d tables (resizes d tables (found tables p) (node_at tables p) size) tree (Some (tree_resized d tree p size))
  resized_by p size f few room =
      let i : ℕ = f.inode in
      let old : List ℕ = blocks_of tables.tags i (block_count f.size) in
      let have : ℕ = block_count f.size in
      let want : ℕ = block_count size in
      let fresh : List ℕ = take (want - have) (untagged d tables.tags) in
      let as_many : length fresh ≡ want - have = length-take-le (want - have) (untagged d tables.tags) (omega (arith, room)) in
      let all : (b : ℕ) → has fresh b ≡ true → has (untagged d tables.tags) b ≡ true = λ b e. has_take (want - have) (untagged d tables.tags) b e in
      let unused : (b : ℕ) → has fresh b ≡ true → tag_at tables.tags b ≡ None =
      λ b e. let u = kept_of_range _ d.first (d.blocks - d.first) b (all b e) in is_none_of (tag_at tables.tags b) (not-true _ u.passes) in
      let inside : (b : ℕ) → has fresh b ≡ true → b < length tables.tags =
      λ b e. let u = kept_of_range _ d.first (d.blocks - d.first) b (all b e) in let l = u.low in let h = u.high in let z = s.blocks in omega (arith, l, h, z) in
      let apart : Distinct fresh = distinct_take (want - have) (untagged d tables.tags) (distinct_range _ d.first (d.blocks - d.first)) in
      let tags2 : List (Option Tag) = give_all (free_all tables.tags (drop want old)) i have fresh in
      let i_low : i < 1024 = (let l = used_within tables.inodes i (ap is_some f.is) in let z = s.places in omega (arith, l, z)) in
      let short : have + length fresh ≤ 48 =
      (let a = few_blocks size few in let b = few_blocks f.size (s.sizes i f.size f.is) in omega (arith, a, b, as_many)) in
      let set_first : Tables = record tables { inodes = set tables.inodes i (Some (OfFile size)) } in
      let done : applied tables (resizes d tables i (Some (File f.size old)) size) ≡ record { inodes = set tables.inodes i (Some (OfFile size)); entries = tables.entries; tags = tags2 } =
      ap (λ (b : Bool). applied (record tables { inodes = cond b (set tables.inodes i (Some (OfFile size))) tables.inodes }) (blocks_freed (drop want old) ++ blocks_given i have fresh)) (may_set_at i 1 size (file_not_root i f.size f.is) few)
      ∙ applied_append set_first (blocks_freed (drop want old)) (blocks_given i have fresh)
      ∙ ap (λ (t : Tables). applied t (blocks_given i have fresh)) (applied_freed set_first (drop want old))
      ∙ applied_given (record set_first { tags = free_all tables.tags (drop want old) }) i have fresh (length-set tables.inodes i (Some (OfFile size)) ∙ s.places) i_low short in
      follows_by _ (resizes d tables i (Some (File f.size old)) size) _ (Some (node_replaced tree p (File size (take want old ++ fresh))))
      (ap (λ (j : ℕ). resizes d tables j (node_at tables p) size) (found_is p i f.leads) ∙ ap (λ (o : Option Node). resizes d tables i o size) f.in_tables)
      (ap (λ (o : Option Node). Some (node_replaced tree p (File size (sized_blocks (blocks_at o) (unlisted d tree) (block_count (size_at o)) (block_count size))))) f.in_tree
      ∙ ap (λ (free : List ℕ). Some (node_replaced tree p (File size (take want old ++ take (want - have) free)))) (sym (free_same d tables tree s)))
      (follows_change _ _ _ _ done
      (stands_resized d tables tree s p i f.size size tags2 (take want old ++ fresh) f.leads f.is
      (sizing.resized (inode_at tables) tables.tags s.tags i f.size f.is want fresh as_many apart inside unused)
      (sizing.length_sized (inode_at tables) tables.tags s.tags i f.size f.is want fresh as_many apart inside unused)
      few
      (length_given (free_all tables.tags (drop want old)) i have fresh ∙ length_freed tables.tags (drop want old))))

  sized_by : (p : Path) (size : ℕ) (f : FileAt p) → size ≤ 196608 → size_refusal (tree_sight d tree) p size ≡ None → PlanFollows d tables (sizes d tables p size) tree (sized d tree p size)
  sized_by p size f few fits =
      let low = ltb-false _ _ (when_none 87 _ fits) in
      let in_tree : size_at (at tree p) ≡ f.size = ap size_at f.in_tree in
      let in_tables : size_at (node_at tables p) ≡ f.size = ap size_at f.in_tables in
      let room : block_count size ≤ block_count f.size + length (untagged d tables.tags) =
      subst (λ n. block_count size ≤ n) (ap (λ n. block_count n + length (unlisted d tree)) in_tree ∙ ap (λ (bs : List ℕ). block_count f.size + length bs) (sym (free_same d tables tree s))) low in
      elim (cases_Bool (size == f.size)) [
        | inl same ↦
            follows_by _ [] _ None
            (cond-true _ _ _ (ap (λ n. size == n) in_tables ∙ same)) (cond-true _ _ _ (ap (λ n. size == n) in_tree ∙ same)) refl
        | inr other ↦
            follows_by _ (resizes d tables (found tables p) (node_at tables p) size) _ (Some (tree_resized d tree p size))
            (cond-false _ _ _ (ap (λ n. size == n) in_tables ∙ other)) (cond-false _ _ _ (ap (λ n. size == n) in_tree ∙ other))
            (resized_by p size f few room)
      ]

  -- unlink
  unlinked : (n : Name) (p : Path) → file_refusal (at tree) (n ∷ p) ≡ None → PlanFollows d tables (changes d tables (Unlink (n ∷ p))) tree (Some (without_path tree (n ∷ p)))
  unlinked n p e =
      let f = file_at (n ∷ p) e in
      let i : ℕ = f.inode in
      let w = walk_parts tables.entries n p i f.leads in
      let old : List ℕ = blocks_of tables.tags i (block_count f.size) in
      let named_off : Tables = record tables { entries = unnamed tables.entries w.directory n } in
      let done : applied tables (DeleteEntry w.directory n ∷ (blocks_freed old ++ SetInode i 0 0 ∷ [])) ≡ record { inodes = set tables.inodes i None; entries = unnamed tables.entries w.directory n; tags = free_all tables.tags old } =
      applied_append named_off (blocks_freed old) (SetInode i 0 0 ∷ [])
      ∙ ap (λ (t : Tables). applied t (SetInode i 0 0 ∷ [])) (applied_freed named_off old)
      ∙ ap (λ (b : Bool). record { inodes = cond b (set tables.inodes i None) tables.inodes; entries = unnamed tables.entries w.directory n; tags = free_all tables.tags old }) (may_set_at i 0 0 (file_not_root i f.size f.is) (omega arith)) in
      let none : (b : ℕ) → has [] b ≡ true → ⊥ = λ b h. false≢true h in
      follows_by _ (DeleteEntry w.directory n ∷ (blocks_freed old ++ SetInode i 0 0 ∷ [])) _ (Some (without_path tree (n ∷ p)))
      (ap (λ (dir : ℕ). DeleteEntry dir n ∷ (blocks_freed (blocks_at (node_at tables (n ∷ p))) ++ SetInode (found tables (n ∷ p)) 0 0 ∷ [])) (found_is p w.directory w.before)
      ∙ ap (λ (o : Option Node). DeleteEntry w.directory n ∷ (blocks_freed (blocks_at o) ++ SetInode (found tables (n ∷ p)) 0 0 ∷ [])) f.in_tables
      ∙ ap (λ (j : ℕ). DeleteEntry w.directory n ∷ (blocks_freed old ++ SetInode j 0 0 ∷ [])) (found_is (n ∷ p) i f.leads))
      refl
      (follows_change _ _ _ _ done
      (stands_removed d tables tree s n p w.directory i (free_all tables.tags old) w.before w.last
      (λ m. leads_nowhere (inode_at tables) tables.entries s.names i m (λ h. true≢false (ap is_dir (ap (node_in tables.tags i) (sym h ∙ f.is)))))
      (sizing.resized (inode_at tables) tables.tags s.tags i f.size f.is 0 [] (omega arith) tt (λ b h. absurd (none b h)) (λ b h. absurd (none b h)))
      (length_freed tables.tags old)))

  -- rmdir
  removed : (n : Name) (p : Path) → dir_refusal (at tree) (n ∷ p) ≡ None → is_bare tree (n ∷ p) ≡ true → PlanFollows d tables (changes d tables (Rmdir (n ∷ p))) tree (Some (without_path tree (n ∷ p)))
  removed n p e bare =
      let r = first_none (walk_refusal (at tree) (n ∷ p)) _ e in
      let a = dir_at (n ∷ p) (is_dir_true (at tree (n ∷ p)) (not-false _ (when_none 84 _ r.1))) in
      let i : ℕ = a.inode in
      let w = walk_parts tables.entries n p i a.leads in
      let empty : has_names tables.entries i ≡ false = not-true _ (sym (ap (has_no_names tables.entries) a.leads) ∙ bare_same d tables tree s (n ∷ p) ∙ bare) in
      follows_by _ (DeleteEntry w.directory n ∷ SetInode i 0 0 ∷ []) _ (Some (without_path tree (n ∷ p)))
      (ap (λ (dir : ℕ). DeleteEntry dir n ∷ SetInode (found tables (n ∷ p)) 0 0 ∷ []) (found_is p w.directory w.before)
      ∙ ap (λ (j : ℕ). DeleteEntry w.directory n ∷ SetInode j 0 0 ∷ []) (found_is (n ∷ p) i a.leads))
      refl
      (follows_change _ _ _ _
      (ap (λ (b : Bool). record { inodes = cond b (set tables.inodes i None) tables.inodes; entries = unnamed tables.entries w.directory n; tags = tables.tags }) (may_set_at i 0 0 (s.names.no_root w.directory n i w.last) (omega arith)))
      (stands_removed d tables tree s n p w.directory i tables.tags w.before w.last (λ m. no_names tables.entries i m empty)
      (untouched tables.tags i (λ b t there same.
      let f = s.tags.of_file b t there in
      false≢true (ap is_dir (ap (node_in tables.tags i) (sym f.1 ∙ ap (inode_at tables) same ∙ a.is)))))
      refl))

  -- rename
  outside_of : (from to : Path) → has_rest (below from to) ≡ false → at tree to ≡ None → is_some (at tree from) ≡ true → below from to ≡ None
  outside_of from to not_into absent there = go (below from to) refl
    where
      go : (o : Option Path) → below from to ≡ o → below from to ≡ None
      go None e = e
      go (Some []) e = absurd (false≢true (ap is_some (sym absent ∙ ap (at tree) (below_is from to [] e)) ∙ there))
      go (Some (n ∷ x)) e = absurd (true≢false (ap has_rest (sym e) ∙ not_into))

  moved : (n m : Name) (p q : Path) → walk_refusal (at tree) (n ∷ p) ≡ None → has_rest (below (n ∷ p) (m ∷ q)) ≡ false → place_refusal (at tree) (m ∷ q) ≡ None → PlanFollows d tables (changes d tables (Rename (n ∷ p) (m ∷ q))) tree (Some (with_moved tree (n ∷ p) (m ∷ q)))
  moved n m p q e not_into placed =
      let there = reaches (n ∷ p) e in
      let x = is_some_of (at tree (n ∷ p)) there in
      let a = stands_at tables (n ∷ p) x.0 (sym (s.nodes (n ∷ p)) ∙ x.1) in
      let i : ℕ = a.inode in
      let w = walk_parts tables.entries n p i a.leads in
      let place = place_at m q placed in
      let to : ℕ = place.dir.inode in
      let absent : at tree (m ∷ q) ≡ None = s.nodes (m ∷ q) ∙ ap (option_and_then (node_of tables)) (walk_on tables.entries m q to place.dir.leads ∙ place.absent) in
      let tests : nat_lt i (length tables.inodes) ≡ true = within i (s.names.in_use w.directory n i w.last) in
      follows_by _ (DeleteEntry w.directory n ∷ AddEntry to i m ∷ []) _ (Some (with_moved tree (n ∷ p) (m ∷ q)))
      (ap (λ (dir : ℕ). DeleteEntry dir n ∷ AddEntry (found tables q) (found tables (n ∷ p)) m ∷ []) (found_is p w.directory w.before)
      ∙ ap (λ (dir : ℕ). DeleteEntry w.directory n ∷ AddEntry dir (found tables (n ∷ p)) m ∷ []) (found_is q to place.dir.leads)
      ∙ ap (λ (j : ℕ). DeleteEntry w.directory n ∷ AddEntry to j m ∷ []) (found_is (n ∷ p) i a.leads))
      refl
      (follows_change _ _ _ _
      (ap (λ (b : Bool). after (unnamed tables.entries w.directory n) (cond b (named (unnamed tables.entries w.directory n) to i m) (unnamed tables.entries w.directory n))) tests)
      (stands_moved d tables tree s n m p q w.directory to i w.before place.dir.leads place.dir.is w.last place.absent
      (outside_of (n ∷ p) (m ∷ q) not_into absent there)))
    where
      after : Entries → Entries → Tables
      after before rows = record tables { entries = rows }

  into_root : (to : Path) → first_some (when 89 (has_rest (below [] to))) (place_refusal (at tree) to) ≡ None → ⊥
  into_root [] e = some_refusal 83 (first_none (when 89 (has_rest (below [] []))) _ e).1
  into_root (m ∷ q) e =
      let b : below [] (m ∷ q) ≡ Some (m ∷ q) = ap (below []) (sym (append-nil (m ∷ q))) ∙ below_of [] (m ∷ q) in
      true≢false (ap has_rest (sym b) ∙ when_none 89 _ (first_none (when 89 (has_rest (below [] (m ∷ q)))) _ e).0)

  full_is : (r : Option ℕ) → first_some r (when 87 (nat_le 1024 (length tree))) ≡ None → (r ≡ None) × (nat_le (length tables.inodes) (least_free_inode tables) ≡ false)
  full_is r e =
      let f = first_none r _ e in
      (f.0, sym (ap (λ (z : Sight). z.is_full) (sym (same_sight d tables tree s))) ∙ when_none 87 _ f.1)

  pub follows : (call : FileCall) → IsCall call → refusal (tree_sight d tree) call ≡ None → PlanFollows d tables (changes d tables call) tree (changed d tree call)
  follows (Mkdir []) is e = absurd (some_refusal 83 e)
  follows (Mkdir (n ∷ p)) is e =
      let f = full_is _ e in
      made 2 Directory Dir n p refl (λ size h. absurd (true≢false (ap (λ x. is_dir (node_in [] 0 (Some x))) h))) (λ i. refl) f.0 f.1
  follows (Create []) is e = absurd (some_refusal 83 e)
  follows (Create (n ∷ p)) is e =
      let f = full_is _ e in
      made 1 (OfFile 0) (File 0 []) n p refl (λ size h. sym (ap sizing.size_of h)) (λ i. refl) f.0 f.1
  follows (Write p offset byte count) is e =
      let f = first_none (file_refusal (at tree) p) _ e in
      let g = first_none (when 88 (nat_lt 196608 (offset + count))) _ f.1 in
      let a = file_at p f.0 in
      let size : ℕ = written_size (size_at (at tree p)) offset count in
      let few : size ≤ 196608 = written_few (size_at (at tree p)) offset count (subst (λ z. z ≤ 196608) (sym (ap size_at a.in_tree)) (s.sizes a.inode a.size a.is)) (ltb-false _ _ (when_none 88 _ g.0)) in
      follows_by _ (sizes d tables p size) _ _ (ap (λ (o : Option Node). sizes d tables p (written_size (size_at o) offset count)) (sym (s.nodes p))) refl
      (sized_by p size a few g.1)
  follows (Truncate p size) is e =
      let f = first_none (file_refusal (at tree) p) _ e in
      let g = first_none (when 88 (nat_lt 196608 size)) _ f.1 in
      sized_by p size (file_at p f.0) (ltb-false _ _ (when_none 88 _ g.0)) g.1
  follows (Rename [] to) is e = absurd (into_root to e)
  follows (Rename (n ∷ p) []) is e =
      absurd (some_refusal 83 (first_none (when 89 (has_rest (below (n ∷ p) []))) _ (first_none (walk_refusal (at tree) (n ∷ p)) _ e).1).1)
  follows (Rename (n ∷ p) (m ∷ q)) is e =
      let f = first_none (walk_refusal (at tree) (n ∷ p)) _ e in
      let g = first_none (when 89 (has_rest (below (n ∷ p) (m ∷ q)))) _ f.1 in
      moved n m p q f.0 (when_none 89 _ g.0) g.1
  follows (Unlink []) is e =
      let f = first_none (walk_refusal (at tree) []) _ e in
      absurd (true≢false (sym (ap is_dir root_dir) ∙ when_none 85 _ f.1))
  follows (Unlink (n ∷ p)) is e = unlinked n p e
  follows (Rmdir []) is e = absurd is
  follows (Rmdir (n ∷ p)) is e =
      let f = first_none (dir_refusal (at tree) (n ∷ p)) _ e in
      removed n p f.0 (not-false _ (when_none 86 _ f.1))
  follows (Read p offset count) is e = refl
  follows (Stat p) is e = refl
  follows (Lists p) is e = refl

  -- the law
  pub plans_as_the_tree : (call : FileCall) → IsCall call → PlansAs d tables tree call
  plans_as_the_tree call is = record { refuses = same_refusal d tables tree s call; follows = follows call is }
