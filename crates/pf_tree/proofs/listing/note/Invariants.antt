use Rattle.std.proofs.Common.{◌≡◌, take}
use Rattle.pf_tree.specs.Listings.{noted}
use Rattle.pf_tree.proofs.listing.note.Given as goal

abbrev pub invariant-loop-row : goal.invariant-loop-row
invariant-loop-row l = l.links.items ≡ noted l.fn.links.items l.directory (take l.row-index l.rows)
