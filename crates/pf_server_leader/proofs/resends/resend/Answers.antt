use Rattle.std.proofs.Common.{◌≡◌, Ok, false, ap, subst, ◌∙◌}
use Rattle.std.proofs.lemmas.Result.{err_from_is_err_and}
use Rattle.pf_protocol.specs.Outcomes.{sends}
use Rattle.pf_protocol.specs.Leading.{on_resend}
use Rattle.pf_protocol.specs.declared.answers.Answer.TheVariants.{Done}
use Rattle.pf_server_memory.specs.Outgoing.{exceeds, sent_by, Sends}
use Rattle.pf_server_memory.specs.Standing.{server_of, room_refusal}
use Rattle.pf_server_memory.proofs.StepEnds.{sent_only, unsent, renamed}
use Rattle.pf_server_leader.proofs.Again.{same_again, only_sends}
use Rattle.pf_server_leader.proofs.resends.resend.Goals as goal

pub returns-in_err-send_again : goal.returns-in_err-send_again
returns-in_err-send_again g c = record {
  step = λ d stands.
      let s = server_of d c.args.me.now in
      let ps = (on_resend s s.role).packets in
      let same = only_sends s s.role in
      renamed g.S.Store.model d c.args._store.now c.args._store.now c.args.me.now c.args.me.now c.args.out.now c.send_again.new.out _ _ (sends s ps) (on_resend s s.role) c.from_residual.result (ap (room_refusal c.args.out.now) same) same
      (unsent g.S.Store.model d c.args._store.now c.args.me.now c.args.out.now c.send_again.new.out stands (sends s ps) c.in_err-send_again.field-0.0 c.send_again.result c.from_residual.result
      (subst (λ ps. Sends c.args.out.now c.send_again.new.out ps c.send_again.result) (same_again d c.args.me.now stands.cached) c.send_again.ensures) c.in_err-send_again.was
      (err_from_is_err_and c.from_residual.result c.from_residual.ensures.1));
}

pub returns : goal.returns
returns g c = record {
  step = λ d stands.
      let s = server_of d c.args.me.now in
      let ps = (on_resend s s.role).packets in
      let same = only_sends s s.role in
      let again = same_again d c.args.me.now stands.cached in
      let room : exceeds c.args.out.now ps ≡ false = subst (λ ps. exceeds c.args.out.now ps ≡ false) again c.in_ok-send_again.ensures.0 in
      let sent : c.send_again.new.out ≡ sent_by c.args.out.now ps = c.in_ok-send_again.ensures.1 ∙ ap (sent_by c.args.out.now) again in
      renamed g.S.Store.model d c.args._store.now c.args._store.now c.args.me.now c.args.me.now c.args.out.now c.send_again.new.out _ _ (sends s ps) (on_resend s s.role) (Ok Done) (ap (room_refusal c.args.out.now) same) same
      (sent_only g.S.Store.model d c.args._store.now c.args.me.now c.args.out.now c.send_again.new.out stands ps room sent c.requires.fresh);
}
