use Rattle.std.proofs.Common.{nat_lt, ap, ◌∙◌}
use Rattle.pf_entry.specs.Sets
use Rattle.pf_entry.specs.Applying.{is_applied}
use Rattle.pf_server_memory.specs.Standing.{server_of}
use Rattle.pf_server_memory.proofs.AppliedSlots.{is_applied_here}
use Rattle.pf_server_memory.proofs.running.Running.has_applied.Goals as goal

pub returns : goal.returns
unfolding server_of
returns c d cached =
    let me = c.args.self.now in
    c.has.ensures ∙ is_applied_here me.applied.slots me.log.base c.args.slot c.requires.above cached.prefix
    ∙ ap (λ base. is_applied base (Sets.retain me.applied.slots (nat_lt me.log.base)) c.args.slot) cached.base
