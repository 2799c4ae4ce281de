use Rattle.std.proofs.Common.{◌∙◌, ap, sym, take}
use Rattle.pf_tree_tables.specs.declared.changes.Change.{Change}
use Rattle.pf_check.specs.Raw.{RawTables, after_change, tables_made}
use Rattle.pf_check.proofs.MadeTables.{made_more}
use Rattle.pf_check.proofs.tables.Tables.put.Goals as goal

pub loop-change-preserved : goal.loop-change-preserved
loop-change-preserved c =
    let change = c.change-item.result in
    let items = c.as_slice-change-items.result.now in
    let k = c.loop-change.change-index in
    c.in_ok-change.ensures.ok
    ∙ ap (λ (t : RawTables). after_change t change) c.loop-change.invariant
    ∙ ap (λ (x : Change). after_change (tables_made c.args.self.now (take k items)) x) c.change-item.is
    ∙ sym (made_more c.args.self.now items k change c.loop-change-test.true)
