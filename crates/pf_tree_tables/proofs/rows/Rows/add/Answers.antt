use Rattle.std.proofs.Common.{◌≡◌, rules, sym, ap, subst, ◌∙◌, List, []}
use Rattle.std.proofs.lemmas.Option.{none-some}
use Rattle.std.specs.List.{insert}
use Rattle.pf_tree_tables.specs.declared.tables.DirectoryEntry.{DirectoryEntry}
use Rattle.pf_tree_tables.specs.Names.{Name}
use Rattle.pf_tree_tables.specs.Shelves.{Shelf}
use Rattle.pf_tree_tables.specs.Tables.{IsAscending, entry_found}
use Rattle.pf_tree_tables.proofs.AscendingNames.{found_here, put_is}
use Rattle.pf_tree_tables.proofs.rows.Rows.add.Goals as goal

pub unreachable-requires : goal.unreachable-requires
unreachable-requires c =
    let rows = c.deref.ensures.value in
    let row : DirectoryEntry = record { inode = 0; name = [] } in
    let found = found_here c.deref.result.now c.as_slice.result.now c.in-Ok.field-0 row (subst IsAscending (sym rows) c.self.invariant) c.in-Ok.ensures in
    none-some _
    (sym c.requires.fresh
    ∙ ap (λ (s : Shelf). entry_found s.list c.args.entry.name) (sym c.self.view_is)
    ∙ ap (λ (rs : List DirectoryEntry). entry_found rs c.args.entry.name) (sym rows)
    ∙ ap (λ (n : Name). entry_found c.deref.result.now n) (sym c.as_slice.ensures)
    ∙ found)

pub returns-clause-list : goal.returns-clause-list
returns-clause-list c =
    let rows = c.deref.ensures.value in
    let list = ap (λ (s : Shelf). s.list) c.self.view_is in
    let items : c.insert.new.self.items ≡ insert c.self.inside.rows.items c.in-Err.place c.args.entry = search rules in
    items
    ∙ ap (λ (rs : List DirectoryEntry). insert rs c.in-Err.place c.args.entry) (sym rows)
    ∙ put_is c.deref.result.now c.args.self.now.list c.args.entry c.as_slice.result.now c.in-Err.place (rows ∙ list) c.as_slice.ensures c.in-Err.ensures
