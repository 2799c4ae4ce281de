use Rattle.std.proofs.Common.{◌+◌, ◌-◌, ◌++◌, ◌≤◌, ◌<◌, suc, sym, ap, subst, ◌∙◌, arith}
use Rattle.std.specs.List.{flat_map, range_with_len}
use Rattle.std.proofs.lemmas.Result.{err_from_is_err_and}
use Rattle.pf_server_memory.specs.Outgoing.{Sends}
use Rattle.pf_server_leader.specs.Resending.{slot_packets}
use Rattle.pf_server_memory.proofs.SentPackets.{Sent, sent_none, sent_on, sent_off}
use Rattle.pf_server_leader.proofs.ResentPackets.{up_to, up_to_none, up_to_more, up_to_all, up_to_end}
use Rattle.pf_server_leader.proofs.resends.send_slots.Goals as goal

pub loop-slot-init : goal.loop-slot-init
loop-slot-init c =
    let f = slot_packets c.args.me.now c.args.leader.now c.args.to in
    record { sent = subst (λ ps. Sent c.args.out.now c.args.out.now ps) (sym (up_to_none f c.base-base.result)) (sent_none c.args.out.now) }

pub loop-slot-preserved : goal.loop-slot-preserved
loop-slot-preserved c =
    let f = slot_packets c.args.me.now c.args.leader.now c.args.to in
    record {
      sent = subst (λ ps. Sent c.args.out.now c.send_slot.new.out ps) (sym (up_to_more f c.base-base.result c.loop-slot.slot c.loop-slot.auto.slot))
          (sent_on c.args.out.now c.loop-slot.out c.send_slot.new.out (up_to f c.base-base.result c.loop-slot.slot) (f (c.loop-slot.slot + 1)) c.loop-slot.invariant.sent c.in_ok-send_slot.ensures);
    }

pub returns-in_err-send_slot : goal.returns-in_err-send_slot
returns-in_err-send_slot c =
    let f = slot_packets c.args.me.now c.args.leader.now c.args.to in
    let b = c.base-base.result in
    let slot = c.loop-slot.slot in
    let next = c.args.leader.now.next in
    let rest = flat_map f (range_with_len (suc b + (slot + 1 - b)) (next - 1 - (slot + 1))) in
    let high : slot + 1 < next = omega (arith, c.loop-slot-test.true) in
    subst (λ ps. Sends c.args.out.now c.send_slot.new.out ps c.from_residual.result)
    (ap (λ ps. ps ++ rest) (sym (up_to_more f b slot c.loop-slot.auto.slot)) ∙ sym (up_to_all f b slot next c.loop-slot.auto.slot high) ∙ ap (λ n. flat_map f (range_with_len (suc n) (next - suc n))) c.base-base.ensures.base)
    (sent_off c.args.out.now c.loop-slot.out c.send_slot.new.out (up_to f b slot) (f (slot + 1)) rest c.send_slot.result c.from_residual.result c.in_err-send_slot.field-0.0 c.loop-slot.invariant.sent c.send_slot.ensures c.in_err-send_slot.was
    (err_from_is_err_and c.from_residual.result c.from_residual.ensures.1))

pub returns : goal.returns
returns c =
    let f = slot_packets c.args.me.now c.args.leader.now c.args.to in
    let b = c.base-base.result in
    let next = c.args.leader.now.next in
    let above : b < next = omega (arith, c.base-base.ensures.base, c.requires.above) in
    let high : c.loop-slot.slot ≤ next - 1 = c.loop-slot.auto.slot-end (omega (arith, above)) in
    subst (λ ps. Sent c.args.out.now c.loop-slot.out ps)
    (sym (up_to_end f b c.loop-slot.slot next above high c.loop-slot-test.false) ∙ ap (λ n. flat_map f (range_with_len (suc n) (next - suc n))) c.base-base.ensures.base)
    c.loop-slot.invariant.sent
