use Rattle.std.proofs.Common.{◌≡◌, Ok, false, sym, ap, subst}
use Rattle.std.proofs.lemmas.Result.{err_from_is_err_and}
use Rattle.pf_protocol.specs.Leading.{on_ack}
use Rattle.pf_protocol.specs.declared.answers.Answer.TheVariants.{Done}
use Rattle.pf_server_memory.specs.Outgoing.{exceeds, sent_by, Sends}
use Rattle.pf_server_memory.specs.Standing.{server_of, room_refusal}
use Rattle.pf_server_leader.specs.Acking.{commits, counted_ack}
use Rattle.pf_server_memory.proofs.StepEnds.{nothing_done, unsent, renamed}
use Rattle.pf_server_leader.proofs.CountedAcks.{ack_counts, ack_passes, commits_same, own_term, other_term, counted_done}
use Rattle.pf_server_leader.proofs.acks.ack.Goals as goal

pub returns-then-term-me : goal.returns-then-term-me
returns-then-term-me g c = record {
  step = λ d stands.
      let s = server_of d c.args.me.now in
      let same = sym (ack_passes s c.args.from c.args.term c.args.slot c.args.upto (other_term d c.args.me.now stands.cached c.args.term c.if-term-me.true)) in
      renamed g.S.Store.model d c.args._store.now c.args._store.now c.args.me.now c.args.me.now c.args.out.now c.args.out.now _ _ _ (on_ack s c.args.from c.args.term c.args.slot c.args.upto s.role) (Ok Done) (ap (room_refusal c.args.out.now) same) same
      (nothing_done g.S.Store.model d c.args._store.now c.args.me.now c.args.out.now stands c.requires.fresh);
}

pub returns-in_err-send_commit : goal.returns-in_err-send_commit
returns-in_err-send_commit g c = record {
  step = λ d stands.
      let s = server_of d c.args.me.now in
      let o = counted_ack s c.args.from c.args.slot c.args.upto s.role in
      let same = sym (ack_counts s c.args.from c.args.term c.args.slot c.args.upto (own_term d c.args.me.now stands.cached c.args.term c.if-term-me.false)) in
      let ps = commits_same d c.args.me.now stands.cached c.args.from c.args.slot in
      renamed g.S.Store.model d c.args._store.now c.args._store.now c.args.me.now c.args.me.now c.args.out.now c.send_commit.new.out _ _ o (on_ack s c.args.from c.args.term c.args.slot c.args.upto s.role) c.from_residual.result (ap (room_refusal c.args.out.now) same) same
      (unsent g.S.Store.model d c.args._store.now c.args.me.now c.args.out.now c.send_commit.new.out stands o c.in_err-send_commit.field-0.0 c.send_commit.result c.from_residual.result
      (subst (λ ps. Sends c.args.out.now c.send_commit.new.out ps c.send_commit.result) ps c.send_commit.ensures) c.in_err-send_commit.was
      (err_from_is_err_and c.from_residual.result c.from_residual.ensures.1));
}

pub returns : goal.returns
returns g c = record {
  step = λ d stands.
      let s = server_of d c.args.me.now in
      let o = counted_ack s c.args.from c.args.slot c.args.upto s.role in
      let same = sym (ack_counts s c.args.from c.args.term c.args.slot c.args.upto (own_term d c.args.me.now stands.cached c.args.term c.if-term-me.false)) in
      let ps = commits_same d c.args.me.now stands.cached c.args.from c.args.slot in
      let room : exceeds c.args.out.now (commits s s.role c.args.from c.args.slot) ≡ false = subst (λ ps. exceeds c.args.out.now ps ≡ false) ps c.in_ok-send_commit.ensures.0 in
      let sent : c.send_commit.new.out ≡ sent_by c.args.out.now (commits s s.role c.args.from c.args.slot) = subst (λ qs. c.send_commit.new.out ≡ sent_by c.args.out.now qs) ps c.in_ok-send_commit.ensures.1 in
      renamed g.S.Store.model d c.args._store.now c.args._store.now c.args.me.now c.take.new.me c.args.out.now c.announce.new.out _ _ o (on_ack s c.args.from c.args.term c.args.slot c.args.upto s.role) (Ok Done) (ap (room_refusal c.args.out.now) same) same
      (counted_done g.S.Store.model d c.args._store.now c.args.me.now c.args.out.now stands c.send_commit.new.out c.announce.new.out c.args.from c.args.slot c.args.upto c.take.new.me.role
      c.take.ensures.role c.take.ensures.kept room sent c.requires.fresh c.announce.ensures c.take.new.me c.take.ensures.others);
}
