use Rattle.pf_server_leader.proofs.MergedAcks.{serves_now, merges_still, further_kept}
use Rattle.pf_server_leader.proofs.counts.serve.Goals as goal

pub returns-then-leader : goal.returns-then-leader
returns-then-leader c = record {
  role = serves_now c.args.me c.args.leader c.requires.kept c.settled_upto.result c.settled_upto.ensures c.if-leader.true;
  kept = further_kept c.args.me c.args.leader c.requires.kept c.settled_upto.result c.settled_upto.ensures;
}

pub returns-else-leader : goal.returns-else-leader
returns-else-leader c = record {
  role = merges_still c.args.me c.args.leader c.requires.kept c.settled_upto.result c.settled_upto.ensures c.if-leader.false;
  kept = further_kept c.args.me c.args.leader c.requires.kept c.settled_upto.result c.settled_upto.ensures;
}
