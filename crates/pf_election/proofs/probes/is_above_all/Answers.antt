use Rattle.std.proofs.Common.{◌-◌, arith}
use Rattle.std.proofs.lemmas.Bool.{ltb-true}
use Rattle.pf_election.proofs.ConfirmedCounts.{rising_last}
use Rattle.pf_election.proofs.probes.is_above_all.Goals as goal

pub returns-else-count-eq0 : goal.returns-else-count-eq0
returns-else-count-eq0 c above =
    rising_last c.args.reads.now.items c.args.number (c.len-count.result - 1) c.index.result.now (omega (arith, c.if-count-eq0.false, c.len-count.ensures, c.args.reads.now.ok.0)) c.index.ensures (ltb-true _ _ above)
