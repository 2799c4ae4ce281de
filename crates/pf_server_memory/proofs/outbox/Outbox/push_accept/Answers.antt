use Rattle.std.proofs.lemmas.Result.{err_from_is_err_and}
use Rattle.pf_entry.specs.declared.packets.Body.TheVariants.{Accept}
use Rattle.pf_server_memory.specs.Packets.{packet}
use Rattle.pf_server_memory.proofs.SentPackets.{no_memory, no_place_left}
use Rattle.pf_server_memory.proofs.outbox.Outbox.push_accept.Goals as goal

pub returns-in_err-check_place : goal.returns-in_err-check_place
returns-in_err-check_place c =
    no_place_left _ _ (packet c.args.from c.args.to c.args.term (Accept c.args.entry.now)) _ _ c.in_err-check_place.ensures.none c.in_err-check_place.ensures.full (err_from_is_err_and c.from_residual.result c.from_residual.ensures.1)

pub returns-in_err-bytes : goal.returns-in_err-bytes
returns-in_err-bytes c = no_memory _ _ _ _ (err_from_is_err_and c.from_residual-in_err-bytes.result c.from_residual-in_err-bytes.ensures.1)

pub returns : goal.returns
returns c = c.put.ensures (packet c.args.from c.args.to c.args.term (Accept c.args.entry.now)) c.requires c.in_ok-bytes.ensures
