use Rattle.std.proofs.Common.{◌++◌, [], append-nil, sym, subst}
use Rattle.std.specs.List.{flat_map}
use Rattle.std.proofs.lemmas.Result.{err_from_is_err_and}
use Rattle.pf_protocol.specs.Leading.{resent}
use Rattle.pf_server_memory.specs.Outgoing.{Sends}
use Rattle.pf_server_memory.specs.Standing.{server_of, state_in_memory, leader_in_memory}
use Rattle.pf_server_memory.proofs.SentPackets.{sends_less, sends_more}
use Rattle.pf_server_leader.proofs.resends.resend_to_both.Goals as goal

pub resend_to-requires-clause-can : goal.resend_to-requires-clause-can
resend_to-requires-clause-can c = c.requires.can c.others_of-first.result.0 c.others_of-first.ensures.first.0 (λ same. c.others_of-first.ensures.first.1 (sym same))

pub resend_to-requires-2-clause-can : goal.resend_to-requires-2-clause-can
resend_to-requires-2-clause-can c = c.requires.can c.others_of-first.result.1 c.others_of-first.ensures.second.0 (λ same. c.others_of-first.ensures.second.1 (sym same))

pub returns-in_err-resend_to : goal.returns-in_err-resend_to
returns-in_err-resend_to c =
    let me = c.args.me.now in
    let l = c.args.leader.now in
    let g = resent (server_of (state_in_memory me) me) (leader_in_memory l) in
    let pair = c.others_of-first.result in
    subst (λ ids. Sends c.args.out.now c.resend_to.new.out (flat_map g ids) c.from_residual.result) (sym c.others_of-first.ensures.both)
    (sends_less c.args.out.now c.resend_to.new.out c.resend_to.new.out (g pair.0) (g pair.1 ++ []) c.resend_to.result c.from_residual.result c.in_err-resend_to.field-0.0
    c.resend_to.ensures c.in_err-resend_to.was (err_from_is_err_and c.from_residual.result c.from_residual.ensures.1))

pub returns : goal.returns
returns c =
    let me = c.args.me.now in
    let l = c.args.leader.now in
    let g = resent (server_of (state_in_memory me) me) (leader_in_memory l) in
    let pair = c.others_of-first.result in
    subst (λ ids. Sends c.args.out.now c.resend_to-2.new.out (flat_map g ids) c.resend_to-2.result) (sym c.others_of-first.ensures.both)
    (subst (λ ps. Sends c.args.out.now c.resend_to-2.new.out (g pair.0 ++ ps) c.resend_to-2.result) (sym (append-nil (g pair.1)))
    (sends_more c.args.out.now c.resend_to.new.out c.resend_to-2.new.out (g pair.0) (g pair.1) c.resend_to.result c.resend_to-2.result c.in_ok-resend_to.field-0 c.resend_to.ensures c.in_ok-resend_to.was c.resend_to-2.ensures))
