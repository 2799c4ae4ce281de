use Rattle.std.proofs.Common.{◌∙◌, ap, sym, take, List, ℕ}
use Rattle.pf_tree_tables.specs.declared.tables.DirectoryEntry.{DirectoryEntry}
use Rattle.pf_check.specs.Walks.{count_more, counted}
use Rattle.pf_check.proofs.Namings.{counted_more}
use Rattle.pf_check.proofs.naming.count_rows.Goals as goal

pub loop-row-preserved : goal.loop-row-preserved
loop-row-preserved c =
    let row = c.row-item.result in
    let k = c.loop-row.row-index in
    record {
      counts =
          c.count_one.ensures.counts
          ∙ ap (λ (xs : List ℕ). count_more xs row.inode) c.loop-row.invariant.counts
          ∙ ap (λ (x : DirectoryEntry). count_more (counted c.args.counts.now.items (take k c.args.rows.now)) x.inode) c.row-item.is
          ∙ sym (counted_more c.args.counts.now.items c.args.rows.now k row c.loop-row-test.true);
      places = c.count_one.ensures.places;
    }
