use Rattle.std.proofs.Common.{inl, inr, subst}
use Rattle.pf_server_memory.specs.Outgoing.{Sends}
use Rattle.pf_server_memory.specs.Standing.{state_in_memory}
use Rattle.pf_server_leader.proofs.Again.{can_send, leads_above, again_follower, again_candidate, again_leader, own_ack, own_request}
use Rattle.pf_server_memory.proofs.Steps.{bare_cached}
use Rattle.pf_server_leader.proofs.resends.send_again.Goals as goal

pub send_to_others-requires-clause-canonical : goal.send_to_others-requires-clause-canonical
send_to_others-requires-clause-canonical c = own_ack c.args.me.now c.requires.bounded c.requires.cached.1.number c.base.result c.upto.result

pub send_to_others-requires-in-Candidate-clause-canonical : goal.send_to_others-requires-in-Candidate-clause-canonical
send_to_others-requires-in-Candidate-clause-canonical c = own_request c.args.me.now c.requires.bounded c.requires.cached.1.number c.base-in-Candidate.result

pub resend_to_both-requires-clause-can : goal.resend_to_both-requires-clause-can
resend_to_both-requires-clause-can c = can_send c.args.me.now c.requires.bounded c.requires.cached.1.number c.requires.own c.in-Merging.leader (inl c.in-Merging.is)

pub resend_to_both-requires-clause-above : goal.resend_to_both-requires-clause-above
resend_to_both-requires-clause-above c = leads_above c.args.me.now c.requires.bounded c.requires.cached.1.number c.requires.own c.in-Merging.leader (inl c.in-Merging.is)

pub resend_to_both-requires-in-Serving-clause-can : goal.resend_to_both-requires-in-Serving-clause-can
resend_to_both-requires-in-Serving-clause-can c = can_send c.args.me.now c.requires.bounded c.requires.cached.1.number c.requires.own c.in-Serving.leader (inr c.in-Serving.is)

pub resend_to_both-requires-in-Serving-clause-above : goal.resend_to_both-requires-in-Serving-clause-above
resend_to_both-requires-in-Serving-clause-above c = leads_above c.args.me.now c.requires.bounded c.requires.cached.1.number c.requires.own c.in-Serving.leader (inr c.in-Serving.is)

pub returns-in-Follower : goal.returns-in-Follower
returns-in-Follower c =
    subst (λ ps. Sends c.args.out.now c.send_to_others.new.out ps c.send_to_others.result)
    (again_follower c.args.me.now c.in-Follower.is c.base.result c.upto.result c.base.ensures.base (c.upto.ensures (state_in_memory c.args.me.now) (bare_cached c.requires.cached.0 c.args.me.now c.requires.cached.1))) c.send_to_others.ensures

pub returns-in-Candidate : goal.returns-in-Candidate
returns-in-Candidate c =
    subst (λ ps. Sends c.args.out.now c.send_to_others-in-Candidate.new.out ps c.send_to_others-in-Candidate.result)
    (again_candidate c.args.me.now c.in-Candidate.field-0 c.in-Candidate.is c.base-in-Candidate.result c.base-in-Candidate.ensures.base) c.send_to_others-in-Candidate.ensures

pub returns-in-Merging : goal.returns-in-Merging
returns-in-Merging c = subst (λ ps. Sends c.args.out.now c.resend_to_both.new.out ps c.resend_to_both.result) (again_leader c.args.me.now c.in-Merging.leader (inl c.in-Merging.is)) c.resend_to_both.ensures

pub returns-in-Serving : goal.returns-in-Serving
returns-in-Serving c = subst (λ ps. Sends c.args.out.now c.resend_to_both-in-Serving.new.out ps c.resend_to_both-in-Serving.result) (again_leader c.args.me.now c.in-Serving.leader (inr c.in-Serving.is)) c.resend_to_both-in-Serving.ensures
