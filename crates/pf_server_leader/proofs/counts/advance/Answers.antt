use Rattle.std.proofs.Common.{◌∙◌}
use Rattle.pf_server_leader.proofs.MergedAcks.{counted_serving, counted_merging}
use Rattle.pf_server_leader.proofs.counts.advance.Goals as goal

pub returns-in-Serving : goal.returns-in-Serving
returns-in-Serving c =
    let x = counted_serving c.args.me c.args.from c.args.slot c.args.upto c.args.role c.in-Serving.leader c.count.new.leader c.requires.kept c.count.ensures c.in-Serving.is in
    record { role = x.0; kept = x.1 }

pub serve-requires-clause-kept : goal.serve-requires-clause-kept
serve-requires-clause-kept c =
    (counted_merging c.args.me c.args.from c.args.slot c.args.upto c.args.role c.in-Merging.leader c.count-in-Merging.new.leader c.requires.kept c.count-in-Merging.ensures c.in-Merging.is).1

pub returns-in-Merging : goal.returns-in-Merging
returns-in-Merging c =
    let x = counted_merging c.args.me c.args.from c.args.slot c.args.upto c.args.role c.in-Merging.leader c.count-in-Merging.new.leader c.requires.kept c.count-in-Merging.ensures c.in-Merging.is in
    record { role = c.serve.ensures.role ∙ x.0; kept = c.serve.ensures.kept }
