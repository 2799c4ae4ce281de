use Rattle.std.proofs.Common.{◌≡◌, replicate, None}
use Rattle.pf_tree.proofs.listing.no_uplinks.Given as goal

abbrev pub invariant-loop-inode : goal.invariant-loop-inode
invariant-loop-inode l = l.links.items ≡ replicate l.inode None
