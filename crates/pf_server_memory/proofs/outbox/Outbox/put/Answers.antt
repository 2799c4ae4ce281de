use Rattle.std.proofs.Common.{◌-◌, length, refl, ap, ◌∙◌, arith}
use Rattle.std.proofs.lemmas.Result.{err_from_is_err_and}
use Rattle.pf_wire.proofs.PacketSizes.{packet_len}
use Rattle.pf_server_memory.specs.Outgoing.{Outgoing}
use Rattle.pf_server_memory.proofs.SentPackets.{no_bytes, has_place, no_memory, one_sent}
use Rattle.pf_server_memory.proofs.outbox.Outbox.put.Goals as goal

pub returns-then-self-len : goal.returns-then-self-len
returns-then-self-len c = λ p canonical is.
    let size = c.len-len.ensures ∙ ap length is ∙ packet_len p canonical in
    let room = ap (λ o. o.byte_room) c.self.view_is in
    (refl, no_bytes _ p (omega (arith, size, room, c.if-self-len.true)))

pub returns-in_err-keep : goal.returns-in_err-keep
returns-in_err-keep c = λ p canonical is. no_memory _ _ _ _ (err_from_is_err_and c.from_residual.result c.from_residual.ensures.1)

pub returns : goal.returns
returns c = λ p canonical is.
    let size = c.len-len.ensures ∙ ap length is ∙ packet_len p canonical in
    let room = ap (λ o. o.byte_room) c.self.view_is in (
      has_place _ p c.requires (omega (arith, size, room, c.if-self-len.false)),
      one_sent _ _ _ _ _ is size
          (ap (λ (o : Outgoing). record o { packet_room = o.packet_room - 1; byte_room = o.byte_room - c.len-len.result }) (c.self-2.view_is ∙ c.in_ok-keep.ensures)),
    )
