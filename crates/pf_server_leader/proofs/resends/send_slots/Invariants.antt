use Rattle.pf_server_leader.specs.Resending.{slot_packets}
use Rattle.pf_server_memory.proofs.SentPackets.{Sent}
use Rattle.pf_server_leader.proofs.ResentPackets.{up_to}
use Rattle.pf_server_leader.proofs.resends.send_slots.Given as goal

abbrev pub invariant-loop-slot : goal.invariant-loop-slot
invariant-loop-slot l = record {
  sent : Sent l.initial.out l.out (up_to (slot_packets l.me l.leader l.to) l.base l.slot);
}
