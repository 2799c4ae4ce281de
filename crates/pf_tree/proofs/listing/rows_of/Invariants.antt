use Rattle.std.proofs.Common.{◌≡◌}
use Rattle.pf_tree.specs.Listings.{rows_upto}
use Rattle.pf_tree.proofs.listing.rows_of.Given as goal

abbrev pub invariant-loop-inode : goal.invariant-loop-inode
invariant-loop-inode l = l.rows.items ≡ rows_upto l.tables l.links l.inode
