use Rattle.std.proofs.Common.{◌∙◌, arith, ap, sym}
use Rattle.std.specs.FinMap
use Rattle.pf_server_restart.proofs.StateTests.{either_way, starts_here}
use Rattle.pf_server_restart.proofs.fitting.are_starts.Goals as goal

pub returns : goal.returns
returns c =
    either_way c.are_low.ensures
    (starts_here c.args.starts.now.starts c.as_slice.result.now (ap FinMap.entries (sym c.in_ok-rows.ensures) ∙ c.as_slice.ensures.entries) (omega (arith, c.len.ensures, c.if-len-gt-STARTS.false)))
