use Rattle.std.proofs.Common.{◌≡◌, ◌+◌, false, arith, ap, subst, ◌∙◌}
use Rattle.std.proofs.lemmas.Result.{err_from_is_err_and}
use Rattle.pf_protocol.specs.Leading.{on_elect}
use Rattle.pf_server_memory.specs.Outgoing.{exceeds, sent_by, Sends}
use Rattle.pf_server_memory.specs.Standing.{server_of, room_refusal}
use Rattle.pf_server_leader.specs.Electing.{elected}
use Rattle.pf_server_memory.proofs.SentPackets.{sent_acked}
use Rattle.pf_server_memory.proofs.StepEnds.{unsent, after_sending, renamed}
use Rattle.pf_server_leader.proofs.Candidacies.{next_word, sent_election, election}
use Rattle.pf_server_leader.proofs.elections.elect.Goals as goal

pub overflow_add-term : goal.overflow_add-term
overflow_add-term g c = omega (arith, next_word c.args.me.now c.requires.bounded)

pub returns-in_err-send_to_others : goal.returns-in_err-send_to_others
returns-in_err-send_to_others g c = record {
  step = λ d stands.
      let s = server_of d c.args.me.now in
      let o = elected s (c.args.me.now.term + 1) in
      let same = election d c.args.me.now stands.cached in
      let ps = sent_election d c.args.me.now (c.args.me.now.term + 1) c.base.result stands.cached c.base.ensures.base in
      renamed g.S.Store.model d c.args.store.now c.args.store.now c.args.me.now c.args.me.now c.args.out.now c.send_to_others.new.out _ _ o (on_elect s) c.from_residual-in_err-send_to_others.result (ap (room_refusal c.args.out.now) same) same
      (unsent g.S.Store.model d c.args.store.now c.args.me.now c.args.out.now c.send_to_others.new.out stands o c.in_err-send_to_others.field-0.0 c.send_to_others.result c.from_residual-in_err-send_to_others.result
      (subst (λ ps. Sends c.args.out.now c.send_to_others.new.out ps c.send_to_others.result) ps c.send_to_others.ensures) c.in_err-send_to_others.was
      (err_from_is_err_and c.from_residual-in_err-send_to_others.result c.from_residual-in_err-send_to_others.ensures.1));
}

pub returns : goal.returns
returns g c = record {
  step = λ d stands.
      let s = server_of d c.args.me.now in
      let o = elected s (c.args.me.now.term + 1) in
      let same = election d c.args.me.now stands.cached in
      let ps = sent_election d c.args.me.now (c.args.me.now.term + 1) c.base.result stands.cached c.base.ensures.base in
      let room : exceeds c.args.out.now o.packets ≡ false = subst (λ ps. exceeds c.args.out.now ps ≡ false) ps c.in_ok-send_to_others.ensures.0 in
      let is : c.send_to_others.new.out ≡ sent_by c.args.out.now o.packets = c.in_ok-send_to_others.ensures.1 ∙ ap (sent_by c.args.out.now) ps in
      renamed g.S.Store.model d c.args.store.now c.stand.new.store c.args.me.now c.stand.new.me c.args.out.now c.send_to_others.new.out _ _ o (on_elect s) c.stand.result (ap (room_refusal c.args.out.now) same) same
      (after_sending g.S.Store.model d c.args.store.now c.stand.new.store c.args.me.now c.stand.new.me c.args.out.now c.send_to_others.new.out c.send_to_others.new.out o room is c.stand.result
      (c.stand.ensures d c.send_to_others.new.out stands (sent_acked c.args.out.now c.send_to_others.new.out o.packets is ∙ c.requires.fresh)));
}
