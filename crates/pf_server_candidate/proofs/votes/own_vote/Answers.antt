use Rattle.std.proofs.Common.{◌<◌, subst}
use Rattle.pf_server_memory.specs.Standing.{server_of}
use Rattle.pf_server_candidate.proofs.VoteRules.{not_heard, other_term, lower_base}
use Rattle.pf_server_candidate.proofs.votes.own_vote.Goals as goal
use Rattle.pf_server_candidate.proofs.votes.own_vote.Goals.{then-term-me-via-then-term-me, then-term-me-via-else-term-me+then-base-vote}

pub returns-in_default : goal.returns-in_default
returns-in_default c = λ d cached. not_heard (server_of d c.args.me.now) c.args.term c.args.vote.now c.args.me.now.role c.in_default.not-Candidate

pub returns-then-term-me : goal.returns-then-term-me
returns-then-term-me c = λ d cached.
    let me = c.args.me.now in
    elim c.then-term-me.branch [
      | then-term-me-via-then-term-me w ↦ other_term d me cached c.args.term c.args.vote.now c.in-Candidate.candidacy c.in-Candidate.is w.if-term-me.true
      | then-term-me-via-else-term-me+then-base-vote w ↦
          lower_base d me cached c.args.term c.args.vote.now c.in-Candidate.candidacy c.in-Candidate.is (subst (λ base. base < c.args.vote.now.base) w.base.ensures.base w.if-base-vote.true)
    ]
