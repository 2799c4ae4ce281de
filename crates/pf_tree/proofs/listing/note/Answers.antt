use Rattle.std.proofs.Common.{◌∙◌, ap, sym, take, set, Option, Some, List}
use Rattle.pf_tree_tables.specs.declared.tables.DirectoryEntry.{DirectoryEntry}
use Rattle.pf_tree_tables.specs.Names.{Name}
use Rattle.pf_tree.specs.declared.listing.Uplink.{Uplink}
use Rattle.pf_tree.specs.Listings.{noted}
use Rattle.pf_tree.proofs.Listings.{link, noted_more}
use Rattle.pf_tree.proofs.listing.note.Goals as goal

pub loop-row-preserved : goal.loop-row-preserved
loop-row-preserved c =
    let row = c.row-item.result in
    let d = c.args.directory in
    let done = noted c.args.links.now.items d (take c.loop-row.row-index c.args.rows.now) in
    c.set_uplink.ensures
    ∙ ap (λ (n : Name). set c.loop-row.links.items row.inode (Some (link d n))) c.in_ok-name.ensures
    ∙ ap (λ (ls : List (Option Uplink)). set ls row.inode (Some (link d row.name))) c.loop-row.invariant
    ∙ ap (λ (x : DirectoryEntry). set done x.inode (Some (link d x.name))) c.row-item.is
    ∙ sym (noted_more c.args.links.now.items d c.args.rows.now c.loop-row.row-index row c.loop-row-test.true)
