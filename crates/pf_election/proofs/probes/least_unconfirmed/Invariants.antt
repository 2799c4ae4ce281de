use Rattle.pf_election.specs.Reads.{IsLeastPlace, is_unconfirmed}
use Rattle.pf_election.proofs.probes.least_unconfirmed.Given as goal

abbrev pub invariant-loop-place : goal.invariant-loop-place
invariant-loop-place l = IsLeastPlace (is_unconfirmed l.after) l.reads.items l.place l.least
