use Rattle.std.proofs.Common.{◌<◌, length, ◌∙◌, sym, ap, List, arith}
use Rattle.pf_tree_tables.specs.declared.tables.DirectoryEntry.{DirectoryEntry}
use Rattle.pf_tree_tables.specs.Names.{Name}
use Rattle.pf_tree_tables.specs.Tables.{other_entries}
use Rattle.pf_tree_tables.proofs.Shelves.{written, list_at}
use Rattle.pf_tree_tables.proofs.edits.delete_entry.Goals as goal

pub returns-then-place-len-clause-lists : goal.returns-then-place-len-clause-lists
returns-then-place-len-clause-lists c =
    let low : c.args.directory < length c.args.directories.now.items = grind arith in
    written c.args.directories.now.items c.args.directory c.forget.new.self _
    (c.forget.ensures.list
    ∙ ap (λ (n : Name). other_entries c.index_mut-rows.result.now.list n) c.as_slice.ensures
    ∙ ap (λ (rs : List DirectoryEntry). other_entries rs c.args.name.now) (sym (list_at c.args.directories.now.items c.args.directory c.index_mut-rows.result.now low c.index_mut-rows.ensures.value)))
