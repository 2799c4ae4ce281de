use Rattle.std.proofs.Common.{◌≡◌}
use Rattle.pf_server_candidate.proofs.LeaderMemory.{with_entries}
use Rattle.pf_server_candidate.proofs.leads.put_all.Given as goal

abbrev pub invariant-loop-entry : goal.invariant-loop-entry
invariant-loop-entry l = record {
  put : l.log ≡ with_entries l.initial.log l.yielded;
}
