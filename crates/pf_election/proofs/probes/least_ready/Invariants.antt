use Rattle.pf_entry.specs.Sets as set
use Rattle.pf_election.specs.Reads.{IsLeastPlace, is_read_ready}
use Rattle.pf_election.proofs.probes.least_ready.Given as goal

abbrev pub invariant-loop-place : goal.invariant-loop-place
invariant-loop-place l = IsLeastPlace (is_read_ready (set.contains l.applied.slots)) l.reads.items l.place l.least
