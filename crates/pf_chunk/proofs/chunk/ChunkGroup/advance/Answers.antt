use Rattle.std.specs.Prelude.{IsTrue}
use Rattle.std.proofs.Common.{false, refl, sym, ap, subst, ◌∙◌}
use Rattle.pf_group_rounds.specs.pf_group.proofs.NextEvents.{on_err}
use Rattle.pf_group_rounds.specs.pf_group.specs.Events.{rule_event}
use Rattle.pf_chunk.specs.Driving.{Driven, run_by}
use Rattle.pf_chunk.specs.Steps.{EventHasFailed}
use Rattle.pf_chunk.specs.Views.{ChunkIs, run_of}
use Rattle.pf_chunk.proofs.PortHalfSteps.{drove, gone_on, gone_still, none_led}
use Rattle.pf_chunk.proofs.Begun.{failed_same, not_followed, nothing_failed}
use Rattle.pf_chunk.proofs.Calls.{hand}
use Rattle.pf_chunk.proofs.Driven.{has_gone, port_after, run_extends, sends}
use Rattle.pf_chunk.proofs.EventRuns.{comes, filled_up}
use Rattle.pf_chunk.proofs.chunk.ChunkGroup.advance.Goals as goal

pub returns-in_err-reply-clause-err : goal.returns-in_err-reply-clause-err
returns-in_err-reply-clause-err g c =
    let now = c.args.self.now in
    on_err c.from_residual.result _
    (subst (λ (v : ChunkIs). EventHasFailed (λ halts. (run_by c.args.step halts (run_of halts now) c.args.mount).chunk.group) now.group v.group) (sym c.in_err-reply.ensures.err)
    (nothing_failed (λ halts. (run_by c.args.step halts (run_of halts now) c.args.mount).chunk.group) now.group (λ halts. run_extends c.args.step halts (run_of halts now) c.args.mount)))

pub returns-then-happened-before-clause-went : goal.returns-then-happened-before-clause-went
returns-then-happened-before-clause-went g c =
    gone_still c.args.mount c.args.self.now c.hand_on.new.self c.in_ok-reply.reply c.requires.ready c.laws.ensures.legal c.args.step c.in_ok-reply.ensures.went
    (sym c.happened.ensures ∙ c.if-happened-before.true ∙ c.happened-before.ensures) c.args.out.now.items

pub follow-requires-clause-none : goal.follow-requires-clause-none
follow-requires-clause-none g c _ _ =
    (gone_on c.args.mount c.args.self.now c.hand_on.new.self c.in_ok-reply.reply c.requires.ready c.laws.ensures.legal c.args.step c.in_ok-reply.ensures.went
    (λ same. c.if-happened-before.false (c.happened.ensures ∙ same ∙ sym c.happened-before.ensures))).midway.none

pub follow-requires-clause-listed : goal.follow-requires-clause-listed
follow-requires-clause-listed g c _ _ =
    (gone_on c.args.mount c.args.self.now c.hand_on.new.self c.in_ok-reply.reply c.requires.ready c.laws.ensures.legal c.args.step c.in_ok-reply.ensures.went
    (λ same. c.if-happened-before.false (c.happened.ensures ∙ same ∙ sym c.happened-before.ensures))).midway.kept.listed

pub returns-in_err-follow-clause-err : goal.returns-in_err-follow-clause-err
returns-in_err-follow-clause-err g c =
    let now = c.args.self.now in
    let mid = c.hand_on.new.self in
    let e = gone_on c.args.mount now mid c.in_ok-reply.reply c.requires.ready c.laws.ensures.legal c.args.step c.in_ok-reply.ensures.went
    (λ same. c.if-happened-before.false (c.happened.ensures ∙ same ∙ sym c.happened-before.ensures)) in
    on_err c.from_residual-in_err-follow.result _
    (let failed = not_followed (sends c.args.mount e.p e.term) now mid.group c.follow.new.self.group (hand e.ask e.server) e.answer (λ k m a. refl) e.stepped c.in_err-follow.ensures.err in
    failed_same (λ halts. (filled_up (sends c.args.mount e.p e.term) (rule_event (hand e.ask e.server) false) halts (run_of halts now)).chunk.group) (λ halts. (run_by c.args.step halts (run_of halts now) c.args.mount).chunk.group) now.group c.follow.new.self.group
    (λ halts tells. ap (λ (d : Driven). d.chunk.group) (e.run (subst IsTrue failed.grown.told tells.told) halts))
    failed)

pub returns-clause-went : goal.returns-clause-went
returns-clause-went g c =
    let now = c.args.self.now in
    let mid = c.hand_on.new.self in
    let e = gone_on c.args.mount now mid c.in_ok-reply.reply c.requires.ready c.laws.ensures.legal c.args.step c.in_ok-reply.ensures.went
    (λ same. c.if-happened-before.false (c.happened.ensures ∙ same ∙ sym c.happened-before.ensures)) in
    has_gone c.args.step c.args.mount now mid c.follow.new.self c.in_ok-reply.reply e c.args.out.now.items c.follow.new.out.items
    (comes (sends c.args.mount e.p e.term) now mid c.follow.new.self (hand e.ask e.server) e.answer e.midway c.args.out.now.items c.follow.new.out.items c.in_ok-follow.ensures.went c.requires.ready)

pub returns-then-happened-before-clause-port : goal.returns-then-happened-before-clause-port
returns-then-happened-before-clause-port g c =
    drove c.args.mount c.args.self.now c.hand_on.new.self c.in_ok-reply.reply c.requires.ready c.laws.ensures.legal c.args.step c.in_ok-reply.ensures.went

pub returns-clause-port : goal.returns-clause-port
returns-clause-port g c =
    let now = c.args.self.now in
    let mid = c.hand_on.new.self in
    let e = gone_on c.args.mount now mid c.in_ok-reply.reply c.requires.ready c.laws.ensures.legal c.args.step c.in_ok-reply.ensures.went
    (λ same. c.if-happened-before.false (c.happened.ensures ∙ same ∙ sym c.happened-before.ensures)) in
    port_after c.args.mount now mid c.follow.new.self c.in_ok-reply.reply (drove c.args.mount now mid c.in_ok-reply.reply c.requires.ready c.laws.ensures.legal c.args.step c.in_ok-reply.ensures.went)
    (comes (sends c.args.mount e.p e.term) now mid c.follow.new.self (hand e.ask e.server) e.answer e.midway c.args.out.now.items c.follow.new.out.items c.in_ok-follow.ensures.went c.requires.ready).ports

pub returns-then-happened-before-clause-none : goal.returns-then-happened-before-clause-none
returns-then-happened-before-clause-none g c = none_led c.args.step c.args.mount c.args.self.now c.hand_on.new.self c.in_ok-reply.reply c.in_ok-reply.ensures.went c.requires.ready

pub returns-clause-none : goal.returns-clause-none
returns-clause-none g c = none_led c.args.step c.args.mount c.args.self.now c.hand_on.new.self c.in_ok-reply.reply c.in_ok-reply.ensures.went c.requires.ready
