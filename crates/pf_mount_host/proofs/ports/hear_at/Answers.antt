use Rattle.pf_mount_host.proofs.PortGroups.{all_answered, all_same, at_it, has_heard, its_ask}
use Rattle.pf_mount_host.proofs.ports.hear_at.Goals as goal

pub hear-requires-clause-ready : goal.hear-requires-clause-ready
hear-requires-clause-ready g c = (c.requires.ready c.args.group _ (at_it c.args.mount c.args.group c.args.chunks.now c.index-chunks-group.result c.requires.pending)).1

pub hear-requires-clause-pending : goal.hear-requires-clause-pending
hear-requires-clause-pending g c = its_ask c.args.mount c.args.group c.args.chunks.now c.index-chunks-group.result c.requires.pending

pub returns-clause-went : goal.returns-clause-went
returns-clause-went g c =
    has_heard c.args.mount c.args.group c.args.chunks.now c.index-chunks-group.result c.requires.pending c.hear.new.self c.requires.ready c.hear.result
    c.hear.ensures.went c.hear.ensures.port c.hear.ensures.next

pub returns-clause-answers : goal.returns-clause-answers
returns-clause-answers g c = all_answered c.args.mount c.args.group c.args.chunks.now c.index-chunks-group.result c.requires.pending c.hear.result c.hear.ensures.answers

pub returns-clause-err : goal.returns-clause-err
returns-clause-err g c = all_same c.args.mount c.args.group c.args.chunks.now c.index-chunks-group.result c.requires.pending c.hear.new.self c.hear.result c.hear.ensures.err
