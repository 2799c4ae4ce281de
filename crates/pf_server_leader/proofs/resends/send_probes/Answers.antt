use Rattle.std.proofs.Common.{◌+◌, ◌<◌, ◌++◌, [], ◌∷◌, arith, length, take, drop, sym, ap, subst, ◌∙◌}
use Rattle.std.proofs.lemmas.Result.{err_from_is_err_and}
use Rattle.pf_entry.specs.declared.packets.Body.TheVariants.{Probe}
use Rattle.pf_server_memory.specs.Outgoing.{Sends}
use Rattle.pf_server_memory.specs.Packets.{packet}
use Rattle.pf_server_leader.specs.Resending.{probes}
use Rattle.pf_server_memory.proofs.SentPackets.{Sent, sent_none, sent_on, sent_off}
use Rattle.pf_server_leader.proofs.ResentPackets.{probes_more, probes_same_far, probes_all, take_whole}
use Rattle.pf_server_leader.proofs.resends.send_probes.Goals as goal
use Rattle.pf_server_leader.proofs.resends.send_probes.Goals.{then-not-read+in_ok-send, else-not-read}

pub loop-place-init : goal.loop-place-init
loop-place-init c = record { sent = sent_none c.args.out.now }

pub loop-place-preserved : goal.loop-place-preserved
loop-place-preserved c =
    let me = c.args.me.now in
    let to = c.args.to in
    let reads = c.args.me.now.reads in
    let i = c.loop-place.place in
    let r = c.at-read.result.now in
    let at = sym c.at-read.ensures in
    let lt : i < length reads = omega (arith, c.loop-place-test.true, c.len-place-end.ensures) in
    let out = c.args.out.now in
    record {
      sent = elim c.if-not-read.branch [
        | then-not-read+in_ok-send w ↦
            let ps = packet me.number to me.term (Probe r.number) ∷ [] in
            subst (λ qs. Sent out c.if-not-read.out qs) (sym (probes_more me to reads i r at lt w.if-not-read.true))
            (subst (λ o. Sent out o (probes me to (take i reads) ++ ps)) (sym w.out-is) (sent_on out c.loop-place.out w.send.new.out (probes me to (take i reads)) ps c.loop-place.invariant.sent w.in_ok-send.ensures))
        | else-not-read w ↦
            subst (λ qs. Sent out c.if-not-read.out qs) (sym (probes_same_far me to reads i r at lt w.if-not-read.false))
            (subst (λ o. Sent out o (probes me to (take i reads))) (sym w.out-is) c.loop-place.invariant.sent)
      ];
    }

pub returns-in_err-send : goal.returns-in_err-send
returns-in_err-send c =
    let me = c.args.me.now in
    let to = c.args.to in
    let reads = c.args.me.now.reads in
    let i = c.loop-place.place in
    let r = c.at-read.result.now in
    let at = sym c.at-read.ensures in
    let lt : i < length reads = omega (arith, c.loop-place-test.true, c.len-place-end.ensures) in
    let out = c.args.out.now in
    let ps = packet me.number to me.term (Probe r.number) ∷ [] in
    let rest = probes me to (drop (i + 1) reads) in
    subst (λ qs. Sends out c.send.new.out qs c.from_residual.result)
    (ap (λ qs. qs ++ rest) (sym (probes_more me to reads i r at lt c.if-not-read.true)) ∙ sym (probes_all me to reads i r at lt))
    (sent_off out c.loop-place.out c.send.new.out (probes me to (take i reads)) ps rest c.send.result c.from_residual.result c.in_err-send.field-0.0 c.loop-place.invariant.sent c.send.ensures c.in_err-send.was
    (err_from_is_err_and c.from_residual.result c.from_residual.ensures.1))

pub returns : goal.returns
returns c =
    subst (λ rs. Sent c.args.out.now c.loop-place.out (probes c.args.me.now c.args.to rs)) (take_whole c.loop-place.place c.args.me.now.reads (omega (arith, c.loop-place-test.false, c.len-place-end.ensures))) c.loop-place.invariant.sent
