use Rattle.pf_server_follower.proofs.CommitMarks.{committed_here}
use Rattle.pf_server_follower.proofs.commits.commit.Goals as goal

pub returns : goal.returns
returns g c = record {
  step = λ d out stands fresh.
      committed_here g.S.Store.model d c.args._store.now c.args.me.now out c.args.term c.args.slot c.commit.new.self c.commit.result
      c.commit.ensures.committed c.commit.ensures.log stands fresh;
}
