use Rattle.std.proofs.Common.{sym, ap, subst}
use Rattle.pf_tree_tables.specs.Shelves.{Shelf}
use Rattle.pf_tree_tables.specs.Tables.{IsAscending}
use Rattle.pf_tree_tables.proofs.AscendingNames.{found_here, found_gap}
use Rattle.pf_tree_tables.proofs.rows.Rows.find.Goals as goal

pub returns-in-Ok : goal.returns-in-Ok
returns-in-Ok c =
    let rows = c.deref.ensures.value in
    let list = ap (λ (s : Shelf). s.list) c.self.view_is in
    let found = found_here c.deref.result.now c.args.name.now c.in-Ok.place c.index.result.now (subst IsAscending (sym rows) c.self.invariant) c.in-Ok.ensures in
    let at = c.index.ensures in
    cc

pub returns-in-Err : goal.returns-in-Err
returns-in-Err c =
    let rows = c.deref.ensures.value in
    let list = ap (λ (s : Shelf). s.list) c.self.view_is in
    let found = found_gap c.deref.result.now c.args.name.now c.in-Err.field-0 c.in-Err.ensures in
    cc
