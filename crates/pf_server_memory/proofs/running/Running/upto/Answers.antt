use Rattle.std.proofs.Common.{nat_lt, sym, ap, ◌∙◌}
use Rattle.pf_entry.specs.Sets
use Rattle.pf_protocol.specs.Servers.{climb, upto}
use Rattle.pf_server_memory.specs.Standing.{server_of}
use Rattle.pf_server_memory.proofs.AppliedSlots.{climbs_here}
use Rattle.pf_server_memory.proofs.running.Running.upto.Goals as goal

pub returns : goal.returns
unfolding server_of upto
returns c d cached =
    let me = c.args.self.now in
    let above = Sets.retain me.applied.slots (nat_lt me.log.base) in
    sym (climbs_here me.applied.slots me.log.base c.upto.result cached.prefix c.upto.ensures.reached c.upto.ensures.ended)
    ∙ ap (climb (Sets.len above) above) cached.base
