-- The tables of a new volume stand for the tree of the root alone.
use Rattle.std.proofs.Common.{◌≡◌, ◌≢◌, ℕ, zero, suc, inl, inr, List, [], ◌∷◌, length, replicate, get_or, Option, Some, None, is_some, refl, sym, ap, ◌∙◌, arith}
use Rattle.std.specs.Option.{option_and_then}
use Rattle.std.specs.List.{count_by}
use Rattle.std.proofs.lemmas.Bool.{cases_eq, cases_lt, false≢true}
use Rattle.std.proofs.lemmas.Option.{none-some}
use Rattle.std.proofs.lemmas.List.{get_or-replicate, get_or_past, get_or-set_same, get_or-set_other, length-set, length-replicate}
use Rattle.pf_tree_tables.specs.declared.tables.Inode.{Inode}
use Rattle.pf_tree_tables.specs.declared.tables.Inode.TheVariants.{File as OfFile, Directory}
use Rattle.pf_tree_tables.specs.declared.tables.Tag.{Tag}
use Rattle.pf_tree_tables.specs.declared.tables.DirectoryEntry.{DirectoryEntry}
use Rattle.pf_tree_tables.specs.Names.{Name, Path}
use Rattle.pf_tree.specs.Trees.{at, new_tree}
use Rattle.pf_tree_tables.specs.Tables.{entry_found, entry_at, walk, new_inodes, new_entries, new_tables}
use Rattle.pf_tree.specs.Plans.{node_in, node_of, node_at}
use Rattle.pf_tree.specs.Standing.{TablesStandFor}
use Rattle.pf_tree.proofs.Steps.{one_if, count_set}

abbrev free : Option Inode
free = None

abbrev untagged : Option Tag
untagged = None

abbrev nothing : List DirectoryEntry
nothing = []

all_same : {X : Type 0} → (n i : ℕ) (x : X) → get_or (replicate n x) i x ≡ x
all_same n i x =
    elim (cases_lt i n) [
      | inl low ↦ get_or-replicate n i x x low
      | inr past ↦ get_or_past (replicate n x) i x (let l = length-replicate n x in omega (arith, l, past))
    ]

no_names : (d : ℕ) (n : Name) → entry_at new_entries d n ≡ None
unfolding new_entries
no_names d n = ap (λ (rows : List DirectoryEntry). entry_found rows n) (all_same 1024 d [])

no_walk : (n : Name) (p : Path) → walk new_entries (n ∷ p) ≡ None
no_walk n p = go (walk new_entries p)
  where
    go : (o : Option ℕ) → option_and_then (λ i. entry_at new_entries i n) o ≡ None
    go None = refl
    go (Some i) = no_names i n

root_inode : get_or new_inodes 0 None ≡ Some Directory
unfolding new_inodes
root_inode = get_or-set_same (replicate 1024 None) 0 (Some Directory) None (let l = length-replicate 1024 free in omega (arith, l))

other_inode : (i : ℕ) → i ≢ 0 → get_or new_inodes i None ≡ None
unfolding new_inodes
other_inode i apart = get_or-set_other (replicate 1024 None) 0 i (Some Directory) None apart ∙ all_same 1024 i None

no_file : (i size : ℕ) → get_or new_inodes i None ≢ Some (OfFile size)
no_file i size e =
    elim (cases_eq i 0) [
      | inl root ↦ absurd (differ (sym root_inode ∙ ap (λ k. get_or new_inodes k None) (sym root) ∙ e))
      | inr apart ↦ none-some (OfFile size) (sym (other_inode i apart) ∙ e)
    ]
  where
    differ : ◌≡◌ {A = Option Inode} (Some Directory) (Some (OfFile size)) → ⊥
    differ h = cc

no_count : (n : ℕ) → count_by is_some (replicate n free) ≡ 0
no_count zero = refl
no_count (suc n) = no_count n

places : length new_inodes ≡ 1024
unfolding new_inodes
places = length-set (replicate 1024 None) 0 (Some Directory) ∙ length-replicate 1024 free

dirs : length new_entries ≡ 1024
unfolding new_entries
dirs = length-replicate 1024 nothing

nodes_new : (blocks : ℕ) (p : Path) → at new_tree p ≡ node_at (new_tables blocks) p
nodes_new blocks [] = sym (ap (node_in (replicate blocks None) 0) root_inode)
nodes_new blocks (n ∷ p) = sym (ap (option_and_then (node_of (new_tables blocks))) (no_walk n p))

count_new : ◌≡◌ {A = ℕ} 1 (count_by is_some new_inodes)
unfolding new_inodes
count_new =
    let c = count_set (replicate 1024 None) 0 (Some Directory) (let l = length-replicate 1024 free in omega (arith, l)) in
    let z = no_count 1024 in
    let f : one_if (is_some (get_or (replicate 1024 free) 0 None)) ≡ 0 = ap (λ (o : Option Inode). one_if (is_some o)) (all_same 1024 0 free) in
    omega (arith, c, z, f)

pub new_stands : (first blocks : ℕ) → TablesStandFor (record { first = first; blocks = blocks }) (new_tables blocks) new_tree
new_stands first blocks = record {
  places = places;
  dirs = dirs;
  blocks = length-replicate blocks untagged;
  names = record {
    root = root_inode;
    from_dir = λ d n i e. absurd (none-some i (sym (no_names d n) ∙ e));
    in_use = λ d n i e. absurd (none-some i (sym (no_names d n) ∙ e));
    no_root = λ d n i e. absurd (none-some i (sym (no_names d n) ∙ e));
    once = λ d e n m i f g. absurd (none-some i (sym (no_names d n) ∙ f));
    reached = λ i e. elim (cases_eq i 0) [
      | inl root ↦ ([], ap Some (sym root))
      | inr apart ↦ absurd (false≢true (ap is_some (sym (other_inode i apart)) ∙ e))
    ];
  };
  tags = record {
    of_file = λ b t e. absurd (none-some t (sym (all_same blocks b None) ∙ e));
    once = λ b c t e f. absurd (none-some t (sym (all_same blocks b None) ∙ e));
    there = λ i size k e low. absurd (no_file i size e);
  };
  sizes = λ i size e. absurd (no_file i size e);
  nodes = nodes_new blocks;
  once = (refl, tt);
  count = count_new;
}
