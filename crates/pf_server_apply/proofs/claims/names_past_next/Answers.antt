use Rattle.std.proofs.Common.{◌+◌, ◌<◌, None, Some, arith, sym}
use Rattle.std.proofs.lemmas.Bool.{ltb-true}
use Rattle.pf_server_apply.proofs.StoppedEntries.{past_option}
use Rattle.pf_server_apply.proofs.claims.names_past_next.Goals as goal

pub returns-in_default : goal.returns-in_default
returns-in_default c = λ is range. past_option (c.args.slot + 1) range None c.args.look.now (sym c.in_default.ensures.value) c.requires tt

pub returns : goal.returns
returns c = λ is range.
    let less : c.args.slot < c.saturating_sub.result = ltb-true _ _ is in
    past_option (c.args.slot + 1) range (Some c.in-Some.least.now) c.args.look.now (sym c.in-Some.ensures.value) c.requires (omega (arith, less, c.saturating_sub.ensures))
