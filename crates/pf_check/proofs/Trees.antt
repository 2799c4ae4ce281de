-- The tree for which tables stand whose names and tags are right.
use Rattle.std.proofs.Common.{◌≡◌, ℕ, zero, suc, ◌+◌, ◌<◌, ◌≤◌, inl, inr, true, cond, List, [], ◌∷◌, length, take, Option, Some, None, is_some, refl, sym, ap, ◌∙◌, arith}
use Rattle.std.specs.List.{count_by}
use Rattle.std.specs.Option.{option_and_then}
use Rattle.std.proofs.lemmas.Bool.{cases_eq, cond-true, cond-false}
use Rattle.std.proofs.lemmas.Option.{none-some, same_Some}
use Rattle.std.proofs.lemmas.List.{take_all, take_more}
use Rattle.std.proofs.lemmas.List.Sums.{sum_by-append}
use Rattle.pf_tree_tables.specs.declared.tables.Inode.{Inode}
use Rattle.pf_tree_tables.specs.declared.tables.Inode.TheVariants.{File as OfFile, Directory}
use Rattle.pf_tree_tables.specs.declared.tables.Tag.{Tag}
use Rattle.pf_tree_tables.specs.Names.{Path}
use Rattle.pf_tree_tables.specs.Tables.{Tables, inode_at, walk, blocks_of}
use Rattle.pf_tree.specs.Paths.{is_same}
use Rattle.pf_tree.specs.Trees.{Node, Dir, File, Tree, at, block_count}
use Rattle.pf_tree.specs.Plans.{node_in, node_of, node_at}
use Rattle.pf_tree.specs.Standing.{IsMap, InodesAreNamed}
use Rattle.pf_tree.proofs.RenamedTrees.{cases_option}
use Rattle.pf_tree.proofs.Paths.{is_same_true, is_same_false}
use Rattle.pf_tree.proofs.Steps.{used_within}
use Rattle.pf_tree.proofs.Walks.{walk_once, walk_in_use}

node_for : List (Option Tag) → ℕ → Inode → Node
node_for tags i Directory = Dir
node_for tags i (OfFile size) = File size (blocks_of tags i (block_count size))

node_is : (tags : List (Option Tag)) (i : ℕ) (x : Inode) → node_in tags i (Some x) ≡ Some (node_for tags i x)
unfolding node_for
node_is tags i Directory = refl
node_is tags i (OfFile size) = refl

module _ (tables : Tables) (names : InodesAreNamed (inode_at tables) tables.entries) where
  -- the path of an inode in use
  path_of : (i : ℕ) → is_some (inode_at tables i) ≡ true → Path
  path_of i used = (names.reached i used).0

  leads : (i : ℕ) (used : is_some (inode_at tables i) ≡ true) → walk tables.entries (path_of i used) ≡ Some i
  unfolding path_of
  leads i used = (names.reached i used).1

  with_row : (i : ℕ) (x : Option Inode) → inode_at tables i ≡ x → Tree → Tree
  with_row i None e rows = rows
  with_row i (Some x) e rows = (path_of i (ap is_some e), node_for tables.tags i x) ∷ rows

  pub tree_upto : ℕ → Tree
  tree_upto zero = []
  tree_upto (suc i) = with_row i (inode_at tables i) refl (tree_upto i)

  -- no row of a path that leads to none of the inodes
  out_with : (i : ℕ) (x : Option Inode) (e : inode_at tables i ≡ x) (rows : Tree) (p : Path) → (walk tables.entries p ≡ Some i → ⊥) → at rows p ≡ None → at (with_row i x e rows) p ≡ None
  unfolding with_row
  out_with i None e rows p apart none = none
  out_with i (Some x) e rows p apart none =
      let q = path_of i (ap is_some e) in
      cond-false (is_same p q) (Some (node_for tables.tags i x)) (at rows p)
      (is_same_false p q (λ same. apart (ap (walk tables.entries) same ∙ leads i (ap is_some e)))) ∙ none

  at_out : (n : ℕ) (p : Path) → ((i : ℕ) → i < n → walk tables.entries p ≡ Some i → ⊥) → at (tree_upto n) p ≡ None
  unfolding tree_upto
  at_out zero p apart = refl
  at_out (suc n) p apart = out_with n (inode_at tables n) refl (tree_upto n) p (apart n (omega arith)) (at_out n p (λ i low. apart i (omega (arith, low))))

  -- the row of a path that leads to an inode
  here_with : (i : ℕ) (x : Option Inode) (e : inode_at tables i ≡ x) (rows : Tree) (p : Path) (y : Inode) → x ≡ Some y → walk tables.entries p ≡ Some i → at (with_row i x e rows) p ≡ Some (node_for tables.tags i y)
  unfolding with_row
  here_with i None e rows p y is w = absurd (none-some y is)
  here_with i (Some x) e rows p y is w =
      let q = path_of i (ap is_some e) in
      cond-true (is_same p q) (Some (node_for tables.tags i x)) (at rows p) (is_same_true p q (walk_once (inode_at tables) tables.entries names p q i w (leads i (ap is_some e))))
      ∙ ap (λ (z : Inode). Some (node_for tables.tags i z)) (same_Some x y is)

  past_with : (i : ℕ) (x : Option Inode) (e : inode_at tables i ≡ x) (rows : Tree) (p : Path) (o : Option Node) → (walk tables.entries p ≡ Some i → ⊥) → at rows p ≡ o → at (with_row i x e rows) p ≡ o
  unfolding with_row
  past_with i None e rows p o apart is = is
  past_with i (Some x) e rows p o apart is =
      let q = path_of i (ap is_some e) in
      cond-false (is_same p q) (Some (node_for tables.tags i x)) (at rows p)
      (is_same_false p q (λ same. apart (ap (walk tables.entries) same ∙ leads i (ap is_some e)))) ∙ is

  at_in : (n i : ℕ) (p : Path) (y : Inode) → i < n → walk tables.entries p ≡ Some i → inode_at tables i ≡ Some y → at (tree_upto n) p ≡ Some (node_for tables.tags i y)
  unfolding tree_upto
  at_in zero i p y low w is = absurd (omega (arith, low))
  at_in (suc n) i p y low w is =
      elim (cases_eq i n) [
        | inl same ↦
            here_with n (inode_at tables n) refl (tree_upto n) p y (sym (ap (inode_at tables) same) ∙ is) (w ∙ ap Some same)
            ∙ ap (λ (k : ℕ). Some (node_for tables.tags k y)) (sym same)
        | inr apart ↦
            past_with n (inode_at tables n) refl (tree_upto n) p (Some (node_for tables.tags i y))
            (λ w2. apart (same_Some i n (sym w ∙ w2))) (at_in n i p y (omega (arith, low, apart)) w is)
      ]

  map_with : (i : ℕ) (x : Option Inode) (e : inode_at tables i ≡ x) (rows : Tree) → ((p : Path) → walk tables.entries p ≡ Some i → at rows p ≡ None) → IsMap rows → IsMap (with_row i x e rows)
  unfolding with_row
  map_with i None e rows absent is_map = is_map
  map_with i (Some x) e rows absent is_map = (absent (path_of i (ap is_some e)) (leads i (ap is_some e)), is_map)

  pub tree_map : (n : ℕ) → IsMap (tree_upto n)
  unfolding tree_upto
  tree_map zero = tt
  tree_map (suc n) =
      map_with n (inode_at tables n) refl (tree_upto n)
      (λ p w. at_out n p (λ i low w2. let same = same_Some i n (sym w2 ∙ w) in omega (arith, low, same))) (tree_map n)

  length_with : (i : ℕ) (x : Option Inode) (e : inode_at tables i ≡ x) (rows : Tree) → length (with_row i x e rows) ≡ length rows + count_by is_some (x ∷ [])
  unfolding with_row
  length_with i None e rows = omega arith
  length_with i (Some x) e rows = omega arith

  length_upto : (n : ℕ) → n ≤ length tables.inodes → length (tree_upto n) ≡ count_by is_some (take n tables.inodes)
  unfolding tree_upto
  length_upto zero low = refl
  length_upto (suc i) low =
      let rest = length_upto i (omega (arith, low)) in
      let one = length_with i (inode_at tables i) refl (tree_upto i) in
      let next : suc i ≡ i + 1 = omega arith in
      let more : count_by is_some (take (suc i) tables.inodes) ≡ count_by is_some (take i tables.inodes) + count_by is_some (inode_at tables i ∷ []) =
      ap (λ (k : ℕ). count_by is_some (take k tables.inodes)) next ∙ ap (count_by is_some) (take_more tables.inodes i None (omega (arith, low)))
      ∙ sum_by-append (λ (x : Option Inode). cond (is_some x) 1 0) (take i tables.inodes) (inode_at tables i ∷ []) in
      omega (arith, rest, one, more)

  pub tree_count : (n : ℕ) → length tables.inodes ≡ n → length (tree_upto n) ≡ count_by is_some tables.inodes
  tree_count n e = length_upto n (omega (arith, e)) ∙ ap (count_by is_some) (take_all n tables.inodes (omega (arith, e)))

  nodes_by : (n : ℕ) (p : Path) (i : ℕ) (o : Option Inode) → length tables.inodes ≡ n → walk tables.entries p ≡ Some i → inode_at tables i ≡ o → at (tree_upto n) p ≡ node_in tables.tags i o
  nodes_by n p i None e w is = absurd (used (sym (ap is_some is) ∙ walk_in_use (inode_at tables) tables.entries names p i w))
    where
      used : is_some {T = Inode} None ≡ true → ⊥
      used h = cc
  nodes_by n p i (Some y) e w is =
      at_in n i p y (let l = used_within tables.inodes i (ap is_some is) in omega (arith, l, e)) w is ∙ sym (node_is tables.tags i y)

  pub tree_nodes : (n : ℕ) → length tables.inodes ≡ n → (p : Path) → at (tree_upto n) p ≡ node_at tables p
  tree_nodes n e p =
      elim (cases_option (walk tables.entries p)) [
        | inl (i, w) ↦ nodes_by n p i (inode_at tables i) e w refl ∙ sym (ap (option_and_then (node_of tables)) w)
        | inr none ↦ at_out n p (λ i low w. none-some i (sym none ∙ w)) ∙ sym (ap (option_and_then (node_of tables)) none)
      ]
