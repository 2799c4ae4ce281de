use Rattle.std.proofs.Common.{◌<◌, length, ◌∙◌, sym, ap, List, arith}
use Rattle.pf_tree_tables.specs.declared.tables.DirectoryEntry.{DirectoryEntry}
use Rattle.pf_tree_tables.specs.Names.{Name}
use Rattle.pf_tree_tables.specs.Tables.{entry_found, other_entries, put_entry}
use Rattle.pf_tree_tables.proofs.Entries.{others_same}
use Rattle.pf_tree_tables.proofs.Shelves.{written, list_at}
use Rattle.pf_tree_tables.proofs.edits.add_entry.Goals as goal

pub add-requires-clause-fresh : goal.add-requires-clause-fresh
add-requires-clause-fresh c =
    ap (λ (rs : List DirectoryEntry). entry_found rs c.args.name) (c.forget.ensures.list
    ∙ ap (λ (n : Name). other_entries c.index_mut-rows.result.now.list n) c.as_slice.ensures)
    ∙ others_same c.index_mut-rows.result.now.list c.args.name

pub returns-then-place-len-clause-lists : goal.returns-then-place-len-clause-lists
returns-then-place-len-clause-lists c =
    let low : c.args.directory < length c.args.directories.now.items = grind arith in
    let row : DirectoryEntry = record { inode = c.args.inode; name = c.args.name } in
    written c.args.directories.now.items c.args.directory c.add.new.self _
    (c.add.ensures.list ∙ ap (λ (rs : List DirectoryEntry). put_entry rs row) (c.forget.ensures.list
    ∙ ap (λ (n : Name). other_entries c.index_mut-rows.result.now.list n) c.as_slice.ensures
    ∙ ap (λ (rs : List DirectoryEntry). other_entries rs c.args.name) (sym (list_at c.args.directories.now.items c.args.directory c.index_mut-rows.result.now low c.index_mut-rows.ensures.value))))
