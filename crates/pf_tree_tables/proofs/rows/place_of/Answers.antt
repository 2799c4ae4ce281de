use Rattle.std.proofs.Common.{rules}
use Rattle.std.proofs.lemmas.Fn.{always_returns_same}
use Rattle.std.specs.Ordering.{nat_cmp}
use Rattle.std.specs.Cmp.Lexicographic.{slice_cmp}
use Rattle.pf_tree_tables.specs.declared.tables.DirectoryEntry.{DirectoryEntry}
use Rattle.pf_tree_tables.proofs.AscendingNames.{searched}
use Rattle.pf_tree_tables.proofs.rows.place_of.Goals as goal

pub returns : goal.returns
returns c =
    let facts = c.binary_search_by.ensures in
    let by_name = facts.position (λ (row : DirectoryEntry). slice_cmp nat_cmp row.name c.args.name.now) (always_returns_same _ _ _ (λ a r g called. search rules)) in
    searched c.args.rows.now c.args.name.now c.binary_search_by.result c.requires facts.bound by_name
