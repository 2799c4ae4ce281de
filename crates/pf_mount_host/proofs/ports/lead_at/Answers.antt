use Rattle.pf_mount_host.proofs.PortGroups.{at_it, has_led, has_not_led, its_ask}
use Rattle.pf_mount_host.proofs.ports.lead_at.Goals as goal

pub lead-requires-clause-ready : goal.lead-requires-clause-ready
lead-requires-clause-ready g c κs within = (c.requires.ready c.args.group _ (at_it c.args.mount c.args.group c.args.chunks.now c.index-chunks-group.result c.requires.pending)).1

pub lead-requires-clause-pending : goal.lead-requires-clause-pending
lead-requires-clause-pending g c κs within = its_ask c.args.mount c.args.group c.args.chunks.now c.index-chunks-group.result c.requires.pending

pub returns-clause-went : goal.returns-clause-went
returns-clause-went g c =
    has_led c.args.mount c.args.group c.args.chunks.now c.index-chunks-group.result c.requires.pending c.lead.new.self c.requires.ready c.args.out.now.items c.lead.new.out.items c.lead.result
    c.lead.ensures.went c.lead.ensures.port c.lead.ensures.next

pub returns-clause-err : goal.returns-clause-err
returns-clause-err g c =
    has_not_led c.args.mount c.args.group c.args.chunks.now c.index-chunks-group.result c.requires.pending c.lead.new.self c.requires.ready c.lead.result c.lead.ensures.err
