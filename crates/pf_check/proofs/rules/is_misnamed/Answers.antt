use Rattle.std.proofs.Common.{◌∙◌, ap, is_some, get_or}
use Rattle.pf_check.proofs.KindRules.{root_named, often_named, right_named}
use Rattle.pf_check.proofs.rules.is_misnamed.Goals as goal

pub returns-then-inode-eq0 : goal.returns-then-inode-eq0
returns-then-inode-eq0 c =
    root_named c.args.tables.now c.requires.raw c.args.inode (get_or c.args.names.now c.args.inode 0) (c.requires.names.each c.args.inode c.ranges.inode.fits) c.if-inode-eq0.true

pub returns-then-count-ne1 : goal.returns-then-count-ne1
returns-then-count-ne1 c =
    often_named c.args.tables.now c.requires.raw c.args.inode (get_or c.args.names.now c.args.inode 0) c.is_some.result (c.requires.names.each c.args.inode c.ranges.inode.fits) c.if-inode-eq0.false
    c.if-count-ne1.true (c.is_some.ensures ∙ ap is_some c.inode.ensures)

pub returns-else-count-ne1 : goal.returns-else-count-ne1
returns-else-count-ne1 c =
    right_named c.args.tables.now c.requires.raw c.args.inode (get_or c.args.names.now c.args.inode 0) (c.requires.names.each c.args.inode c.ranges.inode.fits) c.if-inode-eq0.false c.if-count-ne1.false
