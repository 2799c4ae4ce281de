use Rattle.std.proofs.Common.{◌++◌, append_assoc, Ok, refl, sym, subst, ◌∙◌}
use Rattle.std.proofs.lemmas.Result.{err_from_is_err_and}
use Rattle.pf_server_memory.specs.Outgoing.{Sends}
use Rattle.pf_server_memory.proofs.SentPackets.{sends_less, sends_more}
use Rattle.pf_server_leader.specs.Resending.{probes}
use Rattle.pf_server_memory.proofs.SentPackets.{sent_on, sent_off}
use Rattle.pf_server_leader.proofs.ResentPackets.{image_packets, all_slots, resent_is}
use Rattle.pf_server_leader.proofs.resends.resend_to.Goals as goal

pub returns-in_err-send_image : goal.returns-in_err-send_image
returns-in_err-send_image c =
    let me = c.args.me.now in
    let l = c.args.leader.now in
    subst (λ ps. Sends c.args.out.now c.send_image.new.out ps c.from_residual.result)
    (sym (append_assoc (image_packets me l c.args.to) (all_slots me l c.args.to) (probes me c.args.to me.reads)) ∙ resent_is me l c.args.to)
    (sends_less c.args.out.now c.send_image.new.out c.send_image.new.out (image_packets me l c.args.to) (all_slots me l c.args.to ++ probes me c.args.to me.reads) c.send_image.result c.from_residual.result c.in_err-send_image.field-0.0
    c.send_image.ensures c.in_err-send_image.was (err_from_is_err_and c.from_residual.result c.from_residual.ensures.1))

pub returns-in_err-send_slots : goal.returns-in_err-send_slots
returns-in_err-send_slots c =
    let me = c.args.me.now in
    let l = c.args.leader.now in
    subst (λ ps. Sends c.args.out.now c.send_slots.new.out ps c.from_residual-in_err-send_slots.result) (resent_is me l c.args.to)
    (sent_off c.args.out.now c.send_image.new.out c.send_slots.new.out (image_packets me l c.args.to) (all_slots me l c.args.to) (probes me c.args.to me.reads) c.send_slots.result c.from_residual-in_err-send_slots.result c.in_err-send_slots.field-0.0
    c.in_ok-send_image.ensures c.send_slots.ensures c.in_err-send_slots.was (err_from_is_err_and c.from_residual-in_err-send_slots.result c.from_residual-in_err-send_slots.ensures.1))

pub returns : goal.returns
returns c =
    let me = c.args.me.now in
    let l = c.args.leader.now in
    let out = c.args.out.now in
    let to = c.args.to in
    subst (λ ps. Sends out c.send_probes.new.out ps c.send_probes.result) (resent_is me l to)
    (sends_more {X = Unit {0}} out c.send_slots.new.out c.send_probes.new.out (image_packets me l to ++ all_slots me l to) (probes me to me.reads) (Ok tt) c.send_probes.result tt
    (sent_on out c.send_image.new.out c.send_slots.new.out (image_packets me l to) (all_slots me l to) c.in_ok-send_image.ensures c.in_ok-send_slots.ensures) refl c.send_probes.ensures)
