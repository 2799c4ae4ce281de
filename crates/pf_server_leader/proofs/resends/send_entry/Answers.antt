use Rattle.std.proofs.Common.{sym, subst, ◌∙◌, ◌≤◌, ◌<◌}
use Rattle.pf_server_memory.specs.Outgoing.{Sends}
use Rattle.pf_server_memory.proofs.SentPackets.{Sent, sent_none}
use Rattle.pf_server_leader.proofs.ResentPackets.{entry_unacked, entry_unknown, entry_known}
use Rattle.pf_server_leader.proofs.resends.send_entry.Goals as goal

pub returns-then-not-has : goal.returns-then-not-has
returns-then-not-has c =
    subst (λ ps. Sends c.args.out.now c.push_accept.new.self ps c.push_accept.result)
    (entry_unacked c.args.me.now c.args.leader.now c.args.to c.args.entry.now (sym c.has.ensures ∙ c.if-not-has.true)) c.push_accept.ensures

pub returns-then-get-slot : goal.returns-then-get-slot
returns-then-get-slot c =
    subst (λ ps. Sends c.args.out.now c.send.new.out ps c.send.result)
    (entry_unknown c.args.me.now c.args.leader.now c.args.to c.args.entry.now (sym c.has.ensures ∙ c.if-not-has.false) (subst (λ k. k < c.args.entry.now.slot) c.get.ensures c.if-get-slot.true)) c.send.ensures

pub returns : goal.returns
returns c =
    subst (λ ps. Sent c.args.out.now c.args.out.now ps)
    (entry_known c.args.me.now c.args.leader.now c.args.to c.args.entry.now (sym c.has.ensures ∙ c.if-not-has.false) (subst (λ k. c.args.entry.now.slot ≤ k) c.get.ensures c.if-get-slot.false)) (sent_none c.args.out.now)
