use Rattle.std.proofs.Common.{take}
use Rattle.pf_server_memory.proofs.SentPackets.{Sent}
use Rattle.pf_server_candidate.specs.Merging.{accepts}
use Rattle.pf_server_candidate.proofs.sends.send_entries.Given as goal

abbrev pub invariant-loop-entry : goal.invariant-loop-entry
invariant-loop-entry l = record {
  sent : Sent l.initial.out l.out (accepts l.me l.term (take l.entry-index l.entries));
}
