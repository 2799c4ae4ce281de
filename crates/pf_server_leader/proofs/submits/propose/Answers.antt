use Rattle.std.proofs.Common.{◌≡◌, false, ap, subst, ◌∙◌}
use Rattle.std.proofs.lemmas.Result.{err_from_is_err_and}
use Rattle.pf_server_memory.specs.Outgoing.{exceeds, sent_by, Sends}
use Rattle.pf_server_memory.specs.Standing.{server_of, leader_in_memory}
use Rattle.pf_server_leader.specs.Submitting.{entry_proposed}
use Rattle.pf_server_memory.proofs.SentPackets.{sent_acked}
use Rattle.pf_server_memory.proofs.StepEnds.{unsent, after_sending}
use Rattle.pf_server_leader.proofs.Proposals.{sent_own}
use Rattle.pf_server_leader.proofs.submits.propose.Goals as goal

pub returns-in_err-send_accept_to_others : goal.returns-in_err-send_accept_to_others
returns-in_err-send_accept_to_others g c = λ l serves slot d stands.
    let o = entry_proposed (server_of d c.args.me.now) (leader_in_memory l) c.args.entry in
    let ps = sent_own d c.args.me.now c.args.entry stands.cached in
    unsent g.S.Store.model d c.args.store.now c.args.me.now c.args.out.now c.send_accept_to_others.new.out stands o c.in_err-send_accept_to_others.field-0.0 c.send_accept_to_others.result c.from_residual.result
    (subst (λ ps. Sends c.args.out.now c.send_accept_to_others.new.out ps c.send_accept_to_others.result) ps c.send_accept_to_others.ensures) c.in_err-send_accept_to_others.was
    (err_from_is_err_and c.from_residual.result c.from_residual.ensures.1)

pub returns : goal.returns
returns g c = λ l serves slot d stands.
    let o = entry_proposed (server_of d c.args.me.now) (leader_in_memory l) c.args.entry in
    let ps = sent_own d c.args.me.now c.args.entry stands.cached in
    let room : exceeds c.args.out.now o.packets ≡ false = subst (λ ps. exceeds c.args.out.now ps ≡ false) ps c.in_ok-send_accept_to_others.ensures.0 in
    let is : c.send_accept_to_others.new.out ≡ sent_by c.args.out.now o.packets = c.in_ok-send_accept_to_others.ensures.1 ∙ ap (sent_by c.args.out.now) ps in
    after_sending g.S.Store.model d c.args.store.now c.store_own.new.store c.args.me.now c.store_own.new.me c.args.out.now c.send_accept_to_others.new.out c.send_accept_to_others.new.out o room is c.store_own.result
    (c.store_own.ensures l serves slot d c.send_accept_to_others.new.out stands (sent_acked c.args.out.now c.send_accept_to_others.new.out o.packets is ∙ c.requires.fresh))
