use Rattle.std.proofs.Common.{sym, ap, subst}
use Rattle.pf_tree_tables.specs.Shelves.{Shelf}
use Rattle.pf_tree_tables.specs.Tables.{IsAscending}
use Rattle.pf_tree_tables.proofs.AscendingNames.{others_here, others_gap}
use Rattle.pf_tree_tables.proofs.rows.Rows.forget.Goals as goal

pub returns-in-Ok-clause-list : goal.returns-in-Ok-clause-list
returns-in-Ok-clause-list c =
    let rows = c.deref.ensures.value in
    let list = ap (λ (s : Shelf). s.list) c.self.view_is in
    let left = others_here c.deref.result.now c.args.name.now c.in-Ok.place (subst IsAscending (sym rows) c.self.invariant) c.in-Ok.ensures in
    let items = c.remove.ensures.items in
    cc

pub returns-in-Err-clause-list : goal.returns-in-Err-clause-list
returns-in-Err-clause-list c =
    let rows = c.deref.ensures.value in
    let list = ap (λ (s : Shelf). s.list) c.self.view_is in
    let left = others_gap c.deref.result.now c.args.name.now c.in-Err.field-0 c.in-Err.ensures in
    cc
