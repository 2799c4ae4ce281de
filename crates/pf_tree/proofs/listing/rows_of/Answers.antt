use Rattle.std.proofs.Common.{◌∙◌, ◌++◌, ap, sym, List, arith}
use Rattle.pf_tree_tables.specs.Tables.{inode_at}
use Rattle.pf_tree.specs.declared.listing.Listed.{Listed}
use Rattle.pf_tree.specs.Listings.{bytes_up, row_of, rows_upto}
use Rattle.pf_tree.proofs.Listings.{rows_none, rows_more}
use Rattle.pf_tree.proofs.listing.rows_of.Goals as goal

pub loop-inode-init : goal.loop-inode-init
loop-inode-init c = c.new-rows.ensures.items ∙ sym (rows_none c.args.tables.now c.args.links.now)

pub loop-inode-preserved : goal.loop-inode-preserved
loop-inode-preserved c =
    c.in_ok-push_row.ensures
    ∙ ap (λ (rows : List Listed). rows ++ row_of (bytes_up c.args.links.now 1024 c.loop-inode.inode) (inode_at c.args.tables.now c.loop-inode.inode)) c.loop-inode.invariant
    ∙ sym (rows_more c.args.tables.now c.args.links.now c.loop-inode.inode)

pub returns : goal.returns
returns c = c.loop-inode.invariant ∙ ap (rows_upto c.args.tables.now c.args.links.now) (omega arith)
