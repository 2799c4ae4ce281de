use Rattle.std.proofs.Common.{subst}
use Rattle.pf_server_memory.specs.Outgoing.{Sends}
use Rattle.pf_server_memory.proofs.SentPackets.{Sent, sent_none}
use Rattle.pf_server_leader.proofs.ResentPackets.{slot_empty, slot_full}
use Rattle.pf_server_leader.proofs.resends.send_slot.Goals as goal

pub send_entry-requires-clause-canonical : goal.send_entry-requires-clause-canonical
send_entry-requires-clause-canonical c = c.requires.can.own c.args.slot c.in-Some.entry.now c.requires.above c.requires.below c.in-Some.ensures.entry

pub returns-in-Some : goal.returns-in-Some
returns-in-Some c =
    subst (λ ps. Sends c.args.out.now c.send_entry.new.out ps c.send_entry.result)
    (slot_full c.args.me.now c.args.leader.now c.args.to c.args.slot c.in-Some.entry.now c.in-Some.ensures.entry c.in-Some.ensures.own_slot) c.send_entry.ensures

pub returns-in-None : goal.returns-in-None
returns-in-None c = subst (λ ps. Sent c.args.out.now c.args.out.now ps) (slot_empty c.args.me.now c.args.leader.now c.args.to c.args.slot c.in-None.ensures.entry) (sent_none c.args.out.now)
