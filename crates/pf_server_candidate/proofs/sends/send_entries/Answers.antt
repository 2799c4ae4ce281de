use Rattle.std.proofs.Common.{◌+◌, take, drop, sym, subst}
use Rattle.std.proofs.lemmas.List.{take_all}
use Rattle.std.proofs.lemmas.Result.{err_from_is_err_and}
use Rattle.pf_entry.specs.declared.packets.Body.TheVariants.{Accept}
use Rattle.pf_server_memory.specs.Outgoing.{Sends}
use Rattle.pf_server_memory.specs.Packets.{packets_to}
use Rattle.pf_server_memory.proofs.SentPackets.{Sent, sent_none, sent_on, sent_off}
use Rattle.pf_server_candidate.specs.Merging.{accepts}
use Rattle.pf_server_candidate.proofs.Accepts.{accepts_more, accepts_all, next_canonical}
use Rattle.pf_server_candidate.proofs.sends.send_entries.Goals as goal

pub loop-entry-init : goal.loop-entry-init
loop-entry-init c = record { sent = sent_none c.args.out.now }

pub send_accept_to_others-requires-clause-canonical : goal.send_accept_to_others-requires-clause-canonical
send_accept_to_others-requires-clause-canonical c =
    next_canonical c.args.me c.args.term c.args.entries.now c.loop-entry.entry-index c.entry-item.result c.loop-entry-test.true c.entry-item.is c.requires.canonical

pub loop-entry-preserved : goal.loop-entry-preserved
loop-entry-preserved c =
    let out = c.args.out.now in
    let before = accepts c.args.me c.args.term (take c.loop-entry.entry-index c.args.entries.now) in
    let here = packets_to c.args.me c.args.term (Accept c.entry-item.result) in
    record {
      sent = subst (Sent out c.send_accept_to_others.new.out) (sym (accepts_more c.args.me c.args.term c.args.entries.now c.loop-entry.entry-index c.entry-item.result c.loop-entry-test.true c.entry-item.is))
          (sent_on out c.loop-entry.out c.send_accept_to_others.new.out before here c.loop-entry.invariant.sent
          c.in_ok-send_accept_to_others.ensures);
    }

pub returns-in_err-send_accept_to_others : goal.returns-in_err-send_accept_to_others
returns-in_err-send_accept_to_others c =
    let out = c.args.out.now in
    let entries = c.args.entries.now in
    let n = c.loop-entry.entry-index in
    let before = accepts c.args.me c.args.term (take n entries) in
    let here = packets_to c.args.me c.args.term (Accept c.entry-item.result) in
    let rest = accepts c.args.me c.args.term (drop (n + 1) entries) in
    let r = c.from_residual in
    subst (λ ps. Sends out c.send_accept_to_others.new.out ps r.result) (accepts_all c.args.me c.args.term entries n c.entry-item.result c.loop-entry-test.true c.entry-item.is)
    (sent_off out c.loop-entry.out c.send_accept_to_others.new.out before here rest c.send_accept_to_others.result r.result c.in_err-send_accept_to_others.field-0.0 c.loop-entry.invariant.sent
    c.send_accept_to_others.ensures
    c.in_err-send_accept_to_others.was (err_from_is_err_and r.result r.ensures.1))

pub returns : goal.returns
returns c = subst (λ es. Sent c.args.out.now c.loop-entry.out (accepts c.args.me c.args.term es)) (take_all c.loop-entry.entry-index c.args.entries.now c.loop-entry-test.false) c.loop-entry.invariant.sent
