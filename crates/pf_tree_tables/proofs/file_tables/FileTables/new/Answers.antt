use Rattle.std.proofs.Common.{◌≡◌, sym, subst, ap, ◌∙◌, List, [], ℕ, Option, None, Some, set, replicate}
use Rattle.pf_tree_tables.specs.declared.tables.Inode.{Inode}
use Rattle.pf_tree_tables.specs.declared.tables.Inode.TheVariants.{Directory}
use Rattle.pf_tree_tables.specs.declared.tables.Tag.{Tag}
use Rattle.pf_tree_tables.specs.Tables.{Entries, Tables, TablesAreHeld, new_inodes, new_entries, new_tables}
use Rattle.pf_tree_tables.specs.Shelves.{Shelf, lists_of, tables_of}
use Rattle.pf_tree_tables.proofs.Whole.{new_held}
use Rattle.pf_tree_tables.proofs.file_tables.FileTables.new.Goals as goal

unfoldable tables : List (Option Inode) → Entries → List (Option Tag) → Tables
tables inodes entries tags = record { inodes = inodes; entries = entries; tags = tags }

made : (blocks : ℕ) (xs inodes : List (Option Inode)) (shelves : List Shelf) (tags : List (Option Tag)) → inodes ≡ set xs 0 (Some Directory) → xs ≡ replicate 1024 None → lists_of shelves ≡ replicate 1024 [] → tags ≡ replicate blocks None → tables_of inodes shelves tags ≡ new_tables blocks
unfolding new_inodes new_entries tables
made blocks xs inodes shelves tags root none no_names free =
    ap (λ (x : List (Option Inode)). tables x (lists_of shelves) tags) (root ∙ ap (λ (x : List (Option Inode)). set x 0 (Some Directory)) none)
    ∙ ap (λ (x : Entries). tables new_inodes x tags) no_names
    ∙ ap (λ (x : List (Option Tag)). tables new_inodes new_entries x) free

pub invariant_of-result : goal.invariant_of-result
invariant_of-result c =
    subst TablesAreHeld (sym (made c.args.blocks c.in_ok-inodes.inodes c.set.new.self c.in_ok-directories.directories.items c.in_ok-tags.tags c.set.ensures c.in_ok-inodes.ensures c.in_ok-directories.ensures c.in_ok-tags.ensures))
    (new_held c.args.blocks c.requires)

pub returns : goal.returns
returns c = made c.args.blocks c.in_ok-inodes.inodes c.set.new.self c.in_ok-directories.directories.items c.in_ok-tags.tags c.set.ensures c.in_ok-inodes.ensures c.in_ok-directories.ensures c.in_ok-tags.ensures
