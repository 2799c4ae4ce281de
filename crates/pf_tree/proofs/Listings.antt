-- The rows of a listing are those of the tree for which the tables stand.
use Rattle.std.proofs.Common.{◌≡◌, ◌≢◌, ℕ, zero, suc, ◌+◌, ◌-◌, ◌<◌, ◌≤◌, inl, inr, Bool, true, false, cond, ◌==◌, List, [], ◌∷◌, ◌++◌, length, map, take, drop, replicate, get_or, set, Option, Some, None, is_some, refl, sym, ap, ◌∙◌, subst, arith}
use Rattle.std.specs.Prelude.{AllPairs, Contains, IsPermutation, count_by}
use Rattle.std.specs.Cmp.{IsStrictWeakOrder}
use Rattle.std.specs.List.{list_any, remove}
use Rattle.std.specs.Option.{option_and_then, option_map, unwrap_or}
use Rattle.std.specs.Str.{bytes_eq}
use Rattle.std.proofs.lemmas.Bool.{cases_Bool, cases_eq, cases_lt, cond-true, cond-false, ne_eqb, false≢true}
use Rattle.std.proofs.lemmas.Cmp.{nat_list_cmp_total}
use Rattle.std.proofs.lemmas.Option.{none-some, same_Some}
use Rattle.std.proofs.lemmas.List.{get_or_past, get_or_default, get_or-replicate, get_or-set_same, get_or-set_other, set_past, length-set, length-replicate, length-append, length-drop, map-append, take_all, take_more}
use Rattle.std.proofs.lemmas.List.Edits.{length-remove}
use Rattle.std.proofs.lemmas.List.Elements.{Contains-append_left, Contains-append_right}
use Rattle.std.proofs.lemmas.List.Sums.{sum_by-append}
use Rattle.std.proofs.lemmas.List.Sorted.{ranks_by, IsPermutation-refl, IsPermutation-sym, IsPermutation-cons, IsPermutation-trans, IsPermutation-remove, IsPermutation-map, Contains-permutation}
use Rattle.std.proofs.lemmas.Map.Made.{IsDistinct-from_AllPairs}
use Rattle.std.proofs.lemmas.Map.Steps.{length-le_from_distinct_below}
use Rattle.std.proofs.lemmas.Bool.Decides.{Decides-eqb}
use Rattle.pf_tree_tables.specs.declared.tables.DirectoryEntry.{DirectoryEntry}
use Rattle.pf_tree_tables.specs.declared.tables.Inode.{Inode}
use Rattle.pf_tree_tables.specs.declared.tables.Inode.TheVariants.{File as OfFile, Directory}
use Rattle.pf_tree_tables.specs.declared.tables.Tag.{Tag}
use Rattle.pf_tree_tables.specs.Names.{Name, Path, is_name_before}
use Rattle.pf_tree_tables.specs.Tables.{Entries, Tables, IsAscending, inode_at, names_in, entry_found, entry_at, walk, blocks_of}
use Rattle.pf_tree_tables.proofs.Entries.{here, past}
use Rattle.pf_tree_tables.proofs.AscendingNames.{found_here}
use Rattle.pf_tree.specs.declared.listing.Listed.{Listed}
use Rattle.pf_tree.specs.declared.listing.Uplink.{Uplink}
use Rattle.pf_tree.specs.Paths.{is_same, names_bytes, path_bytes}
use Rattle.pf_tree.specs.Trees.{Node, Dir, File, Tree, Data, at, block_count}
use Rattle.pf_tree.specs.Plans.{node_in, node_of, found}
use Rattle.pf_tree.specs.Standing.{IsMap, TablesStandFor}
use Rattle.pf_tree.specs.Listings.{Lists, path_listed, noted, uplinks, up_from, bytes_up, rooted, row_of, rows_upto, listing}
use Rattle.pf_tree.proofs.Members.{member}
use Rattle.pf_tree.proofs.RenamedTrees.{cases_option}
use Rattle.pf_tree.proofs.Paths.{is_same_true, is_same_false}
use Rattle.pf_tree.proofs.Sorts.{put_all, put_in_order}
use Rattle.pf_tree.proofs.Steps.{used_within}
use Rattle.pf_tree.proofs.Walks.{walk_parts, walk_once, walk_in_use}

suc_is : (i : ℕ) → suc i ≡ i + 1
suc_is i = omega arith

abbrev pub link : ℕ → Name → Uplink
link d n = record { directory = d; name = n }

pub noted_append : (links : List (Option Uplink)) (d : ℕ) (rows more : List DirectoryEntry) → noted links d (rows ++ more) ≡ noted (noted links d rows) d more
noted_append links d [] more = refl
noted_append links d (row ∷ rows) more = noted_append (set links row.inode (Some (link d row.name))) d rows more

-- one name more
pub noted_more : (links : List (Option Uplink)) (d : ℕ) (rows : List DirectoryEntry) (k : ℕ) (x : DirectoryEntry) → k < length rows → noted links d (take (k + 1) rows) ≡ set (noted links d (take k rows)) (get_or rows k x).inode (Some (link d (get_or rows k x).name))
noted_more links d rows k x low = ap (noted links d) (take_more rows k x low) ∙ noted_append links d (take k rows) (get_or rows k x ∷ [])

pub uplinks_none : (es : Entries) → uplinks es 0 ≡ replicate 1024 None
unfolding uplinks
uplinks_none es = refl

pub uplinks_more : (es : Entries) (d : ℕ) → uplinks es (d + 1) ≡ noted (uplinks es d) d (names_in es d)
unfolding uplinks
uplinks_more es d = ap (uplinks es) (sym (suc_is d))

pub rows_none : (tables : Tables) (links : List (Option Uplink)) → rows_upto tables links 0 ≡ []
unfolding rows_upto
rows_none tables links = refl

pub rows_more : (tables : Tables) (links : List (Option Uplink)) (i : ℕ) → rows_upto tables links (i + 1) ≡ rows_upto tables links i ++ row_of (bytes_up links 1024 i) (inode_at tables i)
unfolding rows_upto
rows_more tables links i = ap (rows_upto tables links) (sym (suc_is i))

pub up_more : (links : List (Option Uplink)) (steps i : ℕ) → i ≢ 0 → steps ≢ 0 → bytes_up links steps i ≡ up_from (get_or links i None) (bytes_up links (steps - 1))
up_more links zero i apart some = absurd (some refl)
up_more links (suc k) i apart some =
    cond-false (i == 0) (Some []) (up_from (get_or links i None) (bytes_up links k)) (ne_eqb i 0 apart)
    ∙ ap (λ (m : ℕ). up_from (get_or links i None) (bytes_up links m)) (omega arith)

length_noted : (links : List (Option Uplink)) (d : ℕ) (rows : List DirectoryEntry) → length (noted links d rows) ≡ length links
length_noted links d [] = refl
length_noted links d (row ∷ rows) = length_noted (set links row.inode (Some (link d row.name))) d rows ∙ length-set links row.inode (Some (link d row.name))

length_uplinks : (es : Entries) (n : ℕ) → length (uplinks es n) ≡ 1024
unfolding uplinks
length_uplinks es zero = length-replicate {A = Option Uplink} 1024 None
length_uplinks es (suc n) = length_noted (uplinks es n) n (names_in es n) ∙ length_uplinks es n

set_some : (links : List (Option Uplink)) (k i : ℕ) (q : Uplink) → is_some (get_or links i None) ≡ true → is_some (get_or (set links k (Some q)) i None) ≡ true
set_some links k i q e =
    elim (cases_eq i k) [
      | inl same ↦
          elim (cases_lt k (length links)) [
            | inl low ↦ ap (λ j. is_some (get_or (set links k (Some q)) j None)) same ∙ ap is_some (get_or-set_same links k (Some q) None low)
            | inr far ↦ ap (λ (ls : List (Option Uplink)). is_some (get_or ls i None)) (set_past links k (Some q) far) ∙ e
          ]
      | inr apart ↦ ap is_some (get_or-set_other links k i (Some q) None apart) ∙ e
    ]

kept_some : (links : List (Option Uplink)) (d : ℕ) (rows : List DirectoryEntry) (i : ℕ) → is_some (get_or links i None) ≡ true → is_some (get_or (noted links d rows) i None) ≡ true
kept_some links d [] i e = e
kept_some links d (row ∷ rows) i e = kept_some (set links row.inode (Some (link d row.name))) d rows i (set_some links row.inode i (link d row.name) e)

-- each name of a directory is noted
noted_some : (links : List (Option Uplink)) (d : ℕ) (rows : List DirectoryEntry) (n : Name) (i : ℕ) → entry_found rows n ≡ Some i → i < length links → is_some (get_or (noted links d rows) i None) ≡ true
noted_some links d [] n i e low = absurd (none-some i e)
noted_some links d (row ∷ rows) n i e low =
    let links2 : List (Option Uplink) = set links row.inode (Some (link d row.name)) in
    elim (cases_Bool (bytes_eq row.name n)) [
      | inl is ↦
          let same : row.inode ≡ i = same_Some row.inode i (sym (here n row rows is) ∙ e) in
          kept_some links2 d rows i
          (ap (λ j. is_some (get_or links2 j None)) (sym same)
          ∙ ap is_some (get_or-set_same links row.inode (Some (link d row.name)) None (omega (arith, same, low))))
      | inr isnt ↦
          let l = length-set links row.inode (Some (link d row.name)) in
          noted_some links2 d rows n i (sym (past n row rows isnt) ∙ e) (omega (arith, l, low))
    ]

-- what is noted stands in the entries
abbrev Tells : Entries → List (Option Uplink) → Type 0
Tells es links = (i : ℕ) (q : Uplink) → get_or links i None ≡ Some q → entry_at es q.directory q.name ≡ Some i

noted_tells : (es : Entries) (links : List (Option Uplink)) (d : ℕ) (rows : List DirectoryEntry) → Tells es links → ((k : ℕ) (x : DirectoryEntry) → k < length rows → entry_at es d (get_or rows k x).name ≡ Some (get_or rows k x).inode) → Tells es (noted links d rows)
noted_tells es links d [] t h = t
noted_tells es links d (row ∷ rows) t h =
    noted_tells es (set links row.inode (Some (link d row.name))) d rows
    (λ i q e. elim (cases_eq i row.inode) [
      | inl same ↦
          elim (cases_lt row.inode (length links)) [
            | inl low ↦
                let is : link d row.name ≡ q =
                same_Some (link d row.name) q
                (sym (get_or-set_same links row.inode (Some (link d row.name)) None low)
                ∙ ap (λ j. get_or (set links row.inode (Some (link d row.name))) j None) (sym same) ∙ e) in
                ap (λ (u : Uplink). entry_at es u.directory u.name) (sym is) ∙ h 0 row (omega arith) ∙ ap Some (sym same)
            | inr far ↦ t i q (ap (λ (ls : List (Option Uplink)). get_or ls i None) (sym (set_past links row.inode (Some (link d row.name)) far)) ∙ e)
          ]
      | inr apart ↦ t i q (sym (get_or-set_other links row.inode i (Some (link d row.name)) None apart) ∙ e)
    ])
    (λ k x low. h (suc k) x (omega (arith, low)))

nothing_noted : (i : ℕ) → ◌≡◌ {A = Option Uplink} (get_or (replicate 1024 None) i None) None
nothing_noted i =
    elim (cases_lt i 1024) [
      | inl low ↦ get_or-replicate 1024 i None None low
      | inr far ↦ get_or_past (replicate 1024 None) i None (let l = length-replicate {A = Option Uplink} 1024 None in omega (arith, l, far))
    ]

uplinks_tell : (es : Entries) (n : ℕ) → ((d : ℕ) → d < n → IsAscending (names_in es d)) → Tells es (uplinks es n)
unfolding uplinks
uplinks_tell es zero up = λ i q e. absurd (none-some q (sym (nothing_noted i) ∙ e))
uplinks_tell es (suc n) up =
    noted_tells es (uplinks es n) n (names_in es n) (uplinks_tell es n (λ d low. up d (omega (arith, low))))
    (λ k x low. found_here (names_in es n) (get_or (names_in es n) k x).name k x (up n (omega arith))
    (low, λ d. ap (λ (row : DirectoryEntry). row.name) (get_or_default (names_in es n) k d x low)))

uplinks_some : (es : Entries) (n d : ℕ) (m : Name) (i : ℕ) → d < n → entry_at es d m ≡ Some i → i < 1024 → is_some (get_or (uplinks es n) i None) ≡ true
unfolding uplinks
uplinks_some es zero d m i low e few = absurd (omega (arith, low))
uplinks_some es (suc n) d m i low e few =
    elim (cases_eq d n) [
      | inl same ↦ noted_some (uplinks es n) n (names_in es n) m i (ap (λ k. entry_at es k m) (sym same) ∙ e) (let l = length_uplinks es n in omega (arith, l, few))
      | inr apart ↦ kept_some (uplinks es n) n (names_in es n) i (uplinks_some es n d m i (omega (arith, low, apart)) e few)
    ]

rooted_under : (xs n : List ℕ) → rooted (xs ++ 47 ∷ n) ≡ xs ++ 47 ∷ n
rooted_under [] n = refl
rooted_under (x ∷ xs) n = refl

rooted_path : (p : Path) → rooted (names_bytes p) ≡ path_bytes p
rooted_path [] = refl
rooted_path (n ∷ p) = rooted_under (names_bytes p) n

-- the order of the rows of a listing
abbrev pub before : Listed → Listed → Bool
before row other = is_name_before row.path other.path

pub before_ranks : IsStrictWeakOrder before
before_ranks = ranks_by nat_list_cmp_total (λ (row : Listed). row.path)

-- a list with all rows of a map, and as many, has them in another order
other_than_head : {X : Type 0} → (y x : X) (xs : List X) → Contains (y ∷ xs) x → y ≢ x → Contains xs x
other_than_head y x xs (zero, low, e) apart = absurd (apart e)
other_than_head y x xs (suc k, low, e) apart = (k, omega (arith, low), e)

none_left : (ys : List (Path × Node)) → length ys ≡ 0 → IsPermutation [] ys
none_left [] e = IsPermutation-refl []
none_left (y ∷ ys) e = absurd (omega (arith, e))

permuted : (rows : Tree) (ys : List (Path × Node)) → IsMap rows → ((p : Path) (node : Node) → at rows p ≡ Some node → Contains ys (p, node)) → length ys ≡ length rows → IsPermutation rows ys
permuted [] ys m all count = none_left ys count
permuted (row ∷ rows) ys m all count =
    let c : Contains ys row = all row.0 row.1 (cond-true (is_same row.0 row.0) (Some row.1) (at rows row.0) (is_same_true row.0 row.0 refl)) in
    let split : IsPermutation ys (row ∷ remove ys c.0) = IsPermutation-remove ys c.0 row c.1 (sym c.2) in
    let shorter = length-remove ys c.0 c.1 in
    let rest : IsPermutation rows (remove ys c.0) =
    permuted rows (remove ys c.0) m.1
    (λ p node e.
    let apart : p ≢ row.0 = λ same. none-some node (sym m.0 ∙ ap (at rows) (sym same) ∙ e) in
    let whole : Contains ys (p, node) = all p node (cond-false (is_same p row.0) (Some row.1) (at rows p) (is_same_false p row.0 apart) ∙ e) in
    other_than_head row (p, node) (remove ys c.0) (Contains-permutation ys (row ∷ remove ys c.0) (p, node) split whole)
    (λ same. apart (ap (λ (r : Path × Node). r.0) (sym same))))
    (omega (arith, shorter, count)) in
    IsPermutation-trans (row ∷ rows) (row ∷ remove ys c.0) ys (IsPermutation-cons row rows (remove ys c.0) rest) (IsPermutation-sym ys (row ∷ remove ys c.0) split)

abbrev node_for : List (Option Tag) → ℕ → Inode → Node
node_for tags i Directory = Dir
node_for tags i (OfFile size) = File size (blocks_of tags i (block_count size))

node_for_is : (tags : List (Option Tag)) (i : ℕ) (x : Inode) → node_in tags i (Some x) ≡ Some (node_for tags i x)
node_for_is tags i Directory = refl
node_for_is tags i (OfFile size) = refl

abbrev listed_row : List ℕ → Bool → ℕ → Listed
listed_row bytes is_dir size = record { path = bytes; is_dir = is_dir; size = size }

row_node : (tags : List (Option Tag)) (i : ℕ) (p : Path) (x : Inode) → row_of (Some (names_bytes p)) (Some x) ≡ path_listed p (node_for tags i x) ∷ []
row_node tags i p Directory = ap (λ (bytes : List ℕ). listed_row bytes true 0 ∷ []) (rooted_path p)
row_node tags i p (OfFile size) = ap (λ (bytes : List ℕ). listed_row bytes false size ∷ []) (rooted_path p)

no_row : (o : Option (List ℕ)) → row_of o None ≡ []
no_row None = refl
no_row (Some bytes) = refl

same_pair : (p q : Path) (x y : Node) → p ≡ q → x ≡ y → ◌≡◌ {A = Path × Node} (p, x) (q, y)
same_pair p q x y e f = ap (λ (r : Path). (r, x)) e ∙ ap (λ (z : Node). (q, z)) f

up_root : (links : List (Option Uplink)) (steps : ℕ) → bytes_up links steps 0 ≡ Some []
up_root links zero = refl
up_root links (suc steps) = refl

module _ (d : Data) (tables : Tables) (tree : Tree) (s : TablesStandFor d tables tree) (rising : (k : ℕ) → k < 1024 → IsAscending (names_in tables.entries k)) where
  links : List (Option Uplink)
  links = uplinks tables.entries 1024

  in_range : (i : ℕ) → is_some (inode_at tables i) ≡ true → i < 1024
  in_range i e = let l = used_within tables.inodes i e in let a = s.places in omega (arith, l, a)

  link_is : (i k : ℕ) (n : Name) → entry_at tables.entries k n ≡ Some i → get_or (uplinks tables.entries 1024) i None ≡ Some (link k n)
  link_is i k n e =
      let low = in_range i (s.names.in_use k n i e) in
      let inside = in_range k (ap is_some (s.names.from_dir k n i e)) in
      elim (cases_option (get_or (uplinks tables.entries 1024) i None)) [
        | inl (q, is) ↦
            let o = s.names.once q.directory k q.name n i (uplinks_tell tables.entries 1024 rising i q is) e in
            is ∙ ap (λ (x : ℕ). Some (link x q.name)) o.0 ∙ ap (λ (x : Name). Some (link k x)) o.1
        | inr none ↦ absurd (false≢true (sym (ap is_some none) ∙ uplinks_some tables.entries 1024 k n i inside e low))
      ]

  up_is : (p : Path) (i steps : ℕ) → walk tables.entries p ≡ Some i → length p ≤ steps → bytes_up (uplinks tables.entries 1024) steps i ≡ Some (names_bytes p)
  up_is [] i steps w low =
      ap (bytes_up (uplinks tables.entries 1024) steps) (sym (same_Some 0 i w)) ∙ up_root (uplinks tables.entries 1024) steps
  up_is (n ∷ p) i zero w low = absurd (omega (arith, low))
  up_is (n ∷ p) i (suc steps) w low =
      let t = walk_parts tables.entries n p i w in
      cond-false (i == 0) (Some []) (up_from (get_or (uplinks tables.entries 1024) i None) (bytes_up (uplinks tables.entries 1024) steps)) (ne_eqb i 0 (s.names.no_root t.directory n i t.last))
      ∙ ap (λ (o : Option Uplink). up_from o (bytes_up (uplinks tables.entries 1024) steps)) (link_is i t.directory n t.last)
      ∙ ap (option_map (λ bytes. bytes ++ 47 ∷ n)) (up_is p t.directory steps t.before (omega (arith, low)))

  -- the inodes along a walk
  along : Path → List ℕ
  along [] = 0 ∷ []
  along (n ∷ p) = found tables (n ∷ p) ∷ along p

  length_along : (p : Path) → length (along p) ≡ length p + 1
  unfolding along
  length_along [] = omega arith
  length_along (n ∷ p) = let e = length_along p in omega (arith, e)

  along_at : (p : Path) (i : ℕ) → walk tables.entries p ≡ Some i → (k e : ℕ) → k ≤ length p → walk tables.entries (drop k p) ≡ Some (get_or (along p) k e)
  unfolding along
  along_at [] i w zero e low = refl
  along_at [] i w (suc k) e low = absurd (omega (arith, low))
  along_at (n ∷ p) i w zero e low = w ∙ ap Some (sym (ap (λ o. unwrap_or o 0) w))
  along_at (n ∷ p) i w (suc k) e low = let t = walk_parts tables.entries n p i w in along_at p t.directory t.before k e (omega (arith, low))

  -- a walk has fewer names than there are inodes
  depth : (p : Path) (i : ℕ) → walk tables.entries p ≡ Some i → length p ≤ 1024
  depth p i w =
      let n = length_along p in
      let apart : AllPairs (λ (x y : ℕ). x ≢ y) (along p) =
      λ j k e low within same.
      let w1 = along_at p i w j e (omega (arith, low, within, n)) in
      let w2 = along_at p i w k e (omega (arith, within, n)) in
      let one = walk_once (inode_at tables) tables.entries s.names (drop j p) (drop k p) (get_or (along p) k e) (w1 ∙ ap Some same) w2 in
      let l = ap length one in
      let l1 = length-drop j p in
      let l2 = length-drop k p in
      absurd (omega (arith, l, l1, l2, low, within, n)) in
      let few : (q : ℕ) → list_any (λ c. q == c) (along p) ≡ true → q < 1024 =
      λ q e.
      let m = member (along p) q e in
      let inside = m.within in
      in_range q (walk_in_use (inode_at tables) tables.entries s.names (drop m.index p) q (along_at p i w m.index 0 (omega (arith, inside, n)) ∙ ap Some m.is)) in
      let count = length-le_from_distinct_below (along p) 1024 (IsDistinct-from_AllPairs Decides-eqb (along p) apart) few in
      omega (arith, count, n)

  -- the path and the node of an inode in use
  pair_by : (i : ℕ) (x : Option Inode) → inode_at tables i ≡ x → List (Path × Node)
  pair_by i None e = []
  pair_by i (Some x) e = ((s.names.reached i (ap is_some e)).0, node_for tables.tags i x) ∷ []

  pairs : ℕ → List (Path × Node)
  pairs zero = []
  pairs (suc i) = pairs i ++ pair_by i (inode_at tables i) refl

  row_by : (i : ℕ) (x : Option Inode) (e : inode_at tables i ≡ x) → row_of (bytes_up (uplinks tables.entries 1024) 1024 i) (inode_at tables i) ≡ map (λ row. path_listed row.0 row.1) (pair_by i x e)
  unfolding pair_by
  row_by i None e = ap (row_of (bytes_up (uplinks tables.entries 1024) 1024 i)) e ∙ no_row (bytes_up (uplinks tables.entries 1024) 1024 i)
  row_by i (Some x) e =
      let r = s.names.reached i (ap is_some e) in
      ap (row_of (bytes_up (uplinks tables.entries 1024) 1024 i)) e
      ∙ ap (λ (o : Option (List ℕ)). row_of o (Some x)) (up_is r.0 i 1024 r.1 (depth r.0 i r.1))
      ∙ row_node tables.tags i r.0 x

  rows_are : (n : ℕ) → rows_upto tables (uplinks tables.entries 1024) n ≡ map (λ row. path_listed row.0 row.1) (pairs n)
  unfolding pairs rows_upto
  rows_are zero = refl
  rows_are (suc i) =
      ap (λ (rows : List Listed). rows ++ row_of (bytes_up (uplinks tables.entries 1024) 1024 i) (inode_at tables i)) (rows_are i)
      ∙ ap (λ (rows : List Listed). map (λ row. path_listed row.0 row.1) (pairs i) ++ rows) (row_by i (inode_at tables i) refl)
      ∙ sym (map-append (λ (row : Path × Node). path_listed row.0 row.1) (pairs i) (pair_by i (inode_at tables i) refl))

  length_pair : (i : ℕ) (x : Option Inode) (e : inode_at tables i ≡ x) → length (pair_by i x e) ≡ count_by is_some (x ∷ [])
  unfolding pair_by
  length_pair i None e = refl
  length_pair i (Some x) e = refl

  length_pairs : (n : ℕ) → n ≤ length tables.inodes → length (pairs n) ≡ count_by is_some (take n tables.inodes)
  unfolding pairs
  length_pairs zero low = refl
  length_pairs (suc i) low =
      let rest = length_pairs i (omega (arith, low)) in
      let one = length_pair i (inode_at tables i) refl in
      let l = length-append (pairs i) (pair_by i (inode_at tables i) refl) in
      let more : count_by is_some (take (suc i) tables.inodes) ≡ count_by is_some (take i tables.inodes) + count_by is_some (inode_at tables i ∷ []) =
      ap (λ (k : ℕ). count_by is_some (take k tables.inodes)) (suc_is i) ∙ ap (count_by is_some) (take_more tables.inodes i None (omega (arith, low)))
      ∙ sum_by-append (λ (x : Option Inode). cond (is_some x) 1 0) (take i tables.inodes) (inode_at tables i ∷ []) in
      omega (arith, rest, one, l, more)

  in_pair : (i : ℕ) (x : Option Inode) (e : inode_at tables i ≡ x) (p : Path) (node : Node) → walk tables.entries p ≡ Some i → node_of tables i ≡ Some node → Contains (pair_by i x e) (p, node)
  unfolding pair_by
  in_pair i None e p node w is = absurd (none-some node (sym (ap (node_in tables.tags i) e) ∙ is))
  in_pair i (Some x) e p node w is =
      let r = s.names.reached i (ap is_some e) in
      let kind : node_for tables.tags i x ≡ node = same_Some (node_for tables.tags i x) node (sym (ap (node_in tables.tags i) e ∙ node_for_is tables.tags i x) ∙ is) in
      (0, omega arith, same_pair r.0 p (node_for tables.tags i x) node (walk_once (inode_at tables) tables.entries s.names r.0 p i r.1 w) kind)

  in_pairs : (n i : ℕ) (p : Path) (node : Node) → i < n → walk tables.entries p ≡ Some i → node_of tables i ≡ Some node → Contains (pairs n) (p, node)
  unfolding pairs
  in_pairs zero i p node low w is = absurd (omega (arith, low))
  in_pairs (suc n) i p node low w is =
      elim (cases_eq i n) [
        | inl same ↦
            Contains-append_right (pairs n) (pair_by n (inode_at tables n) refl) (p, node)
            (in_pair n (inode_at tables n) refl p node (w ∙ ap Some same) (sym (ap (node_of tables) same) ∙ is))
        | inr apart ↦ Contains-append_left (pairs n) (pair_by n (inode_at tables n) refl) (p, node) (in_pairs n i p node (omega (arith, low, apart)) w is)
      ]

  led_to : (p : Path) (node : Node) (o : Option ℕ) → walk tables.entries p ≡ o → option_and_then (node_of tables) o ≡ Some node → Contains (pairs 1024) (p, node)
  led_to p node None w is = absurd (none-some node is)
  led_to p node (Some i) w is = in_pairs 1024 i p node (in_range i (walk_in_use (inode_at tables) tables.entries s.names p i w)) w is

  listed_all : (rows : List Listed) → IsPermutation (rows_upto tables (uplinks tables.entries 1024) 1024) rows → IsPermutation (map (λ row. path_listed row.0 row.1) tree) rows
  listed_all rows sorted =
      let count = length_pairs 1024 (let a = s.places in omega (arith, a)) in
      let whole : count_by is_some (take 1024 tables.inodes) ≡ length tree =
      ap (count_by is_some) (take_all 1024 tables.inodes (let a = s.places in omega (arith, a))) ∙ sym s.count in
      let moved : IsPermutation tree (pairs 1024) =
      permuted tree (pairs 1024) s.once (λ p node e. led_to p node (walk tables.entries p) refl (sym (s.nodes p) ∙ e)) (count ∙ whole) in
      let spelled : IsPermutation (map (λ row. path_listed row.0 row.1) (pairs 1024)) rows =
      subst (λ (xs : List Listed). IsPermutation xs rows) (rows_are 1024) sorted in
      IsPermutation-trans (map (λ row. path_listed row.0 row.1) tree) (map (λ row. path_listed row.0 row.1) (pairs 1024)) rows
      (IsPermutation-map (λ (row : Path × Node). path_listed row.0 row.1) tree (pairs 1024) moved) spelled

  -- the listing of tables that stand for a tree is one of the tree
  pub listing_lists : Lists tree (listing tables)
  listing_lists = record {
    all = listed_all (listing tables) (put_all before (rows_upto tables (uplinks tables.entries 1024) 1024));
    order = put_in_order before before_ranks (rows_upto tables (uplinks tables.entries 1024) 1024);
  }
