use Rattle.std.proofs.Common.{◌≡◌, ap, subst, sym, ◌∙◌}
use Rattle.std.proofs.lemmas.Result.{err_from_is_err_and}
use Rattle.pf_entry.specs.Canonical.{IsCanonicalPacket}
use Rattle.pf_entry.specs.declared.packets.Body.TheVariants.{Image}
use Rattle.pf_wire.specs.Packets.{packet_bytes}
use Rattle.pf_server_memory.specs.Packets.{packet}
use Rattle.pf_server_memory.proofs.SentPackets.{no_memory, no_place_left}
use Rattle.pf_server_memory.proofs.outbox.Outbox.push_image.Goals as goal

pub returns-in_err-check_place : goal.returns-in_err-check_place
returns-in_err-check_place c =
    let me = c.args.me.now in
    no_place_left _ _ (packet me.number c.args.to me.term (Image me.log.base c.args.applied.now me.sectors)) _ _ c.in_err-check_place.ensures.none c.in_err-check_place.ensures.full
    (err_from_is_err_and c.from_residual.result c.from_residual.ensures.1)

pub encode_image-requires : goal.encode_image-requires
encode_image-requires c =
    let me = c.args.me.now in
    let is : packet me.number c.args.to me.term (Image me.log.base c.args.applied.now me.sectors) ≡ packet me.number c.args.to me.term (Image c.base-base.result c.args.applied.now c.thin-sectors.result)
    = λ i. packet me.number c.args.to me.term (Image (sym c.base-base.ensures.base i) c.args.applied.now (sym c.thin-sectors.ensures i)) in
    subst IsCanonicalPacket is c.requires

pub returns-in_err-bytes : goal.returns-in_err-bytes
returns-in_err-bytes c = no_memory _ _ _ _ (err_from_is_err_and c.from_residual-in_err-bytes.result c.from_residual-in_err-bytes.ensures.1)

pub returns : goal.returns
returns c =
    let me = c.args.me.now in
    let is : packet me.number c.args.to me.term (Image c.base-base.result c.args.applied.now c.thin-sectors.result) ≡ packet me.number c.args.to me.term (Image me.log.base c.args.applied.now me.sectors)
    = λ i. packet me.number c.args.to me.term (Image (c.base-base.ensures.base i) c.args.applied.now (c.thin-sectors.ensures i)) in
    c.put.ensures (packet me.number c.args.to me.term (Image me.log.base c.args.applied.now me.sectors)) c.requires (c.in_ok-bytes.ensures ∙ ap packet_bytes is)
