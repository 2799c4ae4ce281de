use Rattle.std.proofs.lemmas.Result.{err_from_is_err_and}
use Rattle.pf_server_memory.proofs.SentPackets.{no_place_left}
use Rattle.pf_server_memory.proofs.outbox.Outbox.push_again.Goals as goal

pub returns-in_err-check_place : goal.returns-in_err-check_place
returns-in_err-check_place c = λ p last canonical.
    no_place_left _ _ (record p { to = c.args.to }) _ _ c.in_err-check_place.ensures.none c.in_err-check_place.ensures.full (err_from_is_err_and c.from_residual.result c.from_residual.ensures.1)
