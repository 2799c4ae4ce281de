-- The blocks of files in tables that stand for a tree.
use Rattle.std.proofs.Common.{◌≡◌, ℕ, ◌<◌, List, length, get_or, unwrap_or, Some, arith, sym, ap, ◌∙◌}
use Rattle.std.proofs.lemmas.Option.{same_Some}
use Rattle.pf_tree_tables.specs.Names.{Path}
use Rattle.pf_tree_tables.specs.Tables.{Tables, block_of, blocks_of, inode_at, tag_at, walk}
use Rattle.pf_tree_tables.specs.declared.tables.Inode.TheVariants.{File as OfFile}
use Rattle.pf_tree_tables.specs.declared.tables.Tag.{Tag}
use Rattle.pf_tree.specs.Plans.{found}
use Rattle.pf_tree.specs.Standing.{TablesStandFor}
use Rattle.pf_tree.specs.Trees.{Data, File, Tree, at, block_count}
use Rattle.pf_tree.proofs.Sights.{file_parts, stands_at}
use Rattle.pf_tree.proofs.Tags.{get_block, length_blocks, tag, tag_of_block, tagged_within}
use Rattle.pf_tree.proofs.Walks.{walk_once}
use Rattle.pf_file_calls.specs.Moving.{block_at}

-- a file of the tree has an inode
pub record IsFile (t : Tables) (p : Path) (size : ℕ) (blocks : List ℕ) : Type 0 where
  pub leads : walk t.entries p ≡ Some (found t p)
  pub file : inode_at t (found t p) ≡ Some (OfFile size)
  pub are : blocks ≡ blocks_of t.tags (found t p) (block_count size)

module _ (d : Data) (t : Tables) (tree : Tree) (stands : TablesStandFor d t tree) where
  pub file_there : (p : Path) (size : ℕ) (blocks : List ℕ) → at tree p ≡ Some (File size blocks) → IsFile t p size blocks
  file_there p size blocks is =
      let a = stands_at t p (File size blocks) (sym (stands.nodes p) ∙ is) in
      let parts = file_parts t.tags a.inode (inode_at t a.inode) size blocks a.is in
      let same : a.inode ≡ found t p = sym (ap (λ o. unwrap_or o 0) a.leads) in
      record {
        leads = a.leads ∙ ap Some same;
        file = ap (inode_at t) (sym same) ∙ parts.0;
        are = parts.1 ∙ ap (λ i. blocks_of t.tags i (block_count size)) same;
      }

  module _ (p : Path) (size : ℕ) (blocks : List ℕ) (f : IsFile t p size blocks) (k : ℕ) (low : k < block_count size) where
    tag_of : tag_at t.tags (block_of t.tags (found t p) k) ≡ Some (tag (found t p) k)
    tag_of = tag_of_block (inode_at t) t.tags stands.tags (found t p) size k f.file low

    block_is : block_at t (found t p) k ≡ block_of t.tags (found t p) k
    block_is = let within = tagged_within t.tags (block_of t.tags (found t p) k) (tag (found t p) k) tag_of in omega (arith, within)

    -- the block of an index, and its tag
    pub its_block : get_or blocks k 0 ≡ block_at t (found t p) k
    its_block = ap (λ bs. get_or bs k 0) f.are ∙ get_block t.tags (found t p) (block_count size) k 0 low ∙ sym block_is

    pub its_tag : tag_at t.tags (block_at t (found t p) k) ≡ Some (tag (found t p) k)
    its_tag = ap (tag_at t.tags) block_is ∙ tag_of

  pub blocks_length : (p : Path) (size : ℕ) (blocks : List ℕ) → IsFile t p size blocks → length blocks ≡ block_count size
  blocks_length p size blocks f = ap length f.are ∙ length_blocks t.tags (found t p) (block_count size)

  -- one block is of one index of one file
  pub one_index : (p q : Path) (size other : ℕ) (blocks its : List ℕ) (k j : ℕ) → IsFile t p size blocks → IsFile t q other its → k < block_count size → j < block_count other → block_at t (found t p) k ≡ block_at t (found t q) j → (p ≡ q) × (k ≡ j)
  one_index p q size other blocks its k j f g low below same =
      let tags : tag (found t p) k ≡ tag (found t q) j = same_Some _ _ (sym (its_tag p size blocks f k low) ∙ ap (tag_at t.tags) same ∙ its_tag q other its g j below) in
      let inode = ap (λ (x : Tag). x.inode) tags in (
        walk_once (inode_at t) t.entries stands.names p q (found t p) f.leads (g.leads ∙ ap Some (sym inode)),
        ap (λ (x : Tag). x.index) tags,
      )
