use Rattle.std.proofs.Common.{take}
use Rattle.pf_server_leader.specs.Resending.{probes}
use Rattle.pf_server_memory.proofs.SentPackets.{Sent}
use Rattle.pf_server_leader.proofs.resends.send_probes.Given as goal

abbrev pub invariant-loop-place : goal.invariant-loop-place
invariant-loop-place l = record {
  sent : Sent l.initial.out l.out (probes l.me l.to (take l.place l.me.reads));
}
