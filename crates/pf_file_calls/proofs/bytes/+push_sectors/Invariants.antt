use Rattle.pf_file_calls.proofs.bytes.+push_sectors.Given as goal

abbrev pub decreases-push_sectors : goal.decreases-push_sectors
decreases-push_sectors l = l.count
