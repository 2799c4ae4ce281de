use Rattle.pf_tree.proofs.listing.+bytes_up.Given as goal

abbrev pub decreases-bytes_up : goal.decreases-bytes_up
decreases-bytes_up l = l.steps
