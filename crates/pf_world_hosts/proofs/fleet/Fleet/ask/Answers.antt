use Rattle.std.proofs.Common.{get_or}
use Rattle.std.proofs.lemmas.Option.{slice_get-get_or}
use Rattle.pf_mount_host.specs.pf_group.proofs.NextEvents.{on_err}
use Rattle.pf_mount_host.specs.pf_chunk.specs.Asked.{asked_happened}
use Rattle.pf_mount_host.specs.pf_chunk.proofs.Begun.{asked_extend}
use Rattle.pf_world_hosts.proofs.Events.{event_answered, event_failed, event_not_answered, fleet_after, ready_after}
use Rattle.pf_world_hosts.proofs.fleet.Fleet.ask.Goals as goal

pub ask-requires-clause-ready : goal.ask-requires-clause-ready
ask-requires-clause-ready g c κs within = (c.requires.ready c.args.at _ (slice_get-get_or c.args.chunks.now c.args.at c.index-chunks-at.result c.requires.at)).1

pub returns-in_err-answer-clause-err : goal.returns-in_err-answer-clause-err
returns-in_err-answer-clause-err g c =
    let old = c.args.chunks.now in let was = get_or old c.args.at c.index-chunks-at.result in let is = c.ask.new.self in
    let there = slice_get-get_or old c.args.at c.index-chunks-at.result c.requires.at in
    on_err c.from_residual.result _ (event_failed (λ halts chunk. asked_happened halts c.args.asked chunk) c.args.at old was is c.args.self.now there c.requires.ready
    (λ halts chunk. asked_extend halts chunk c.args.asked) c.in_err-answer.ensures.err)

pub step-requires-clause-ready : goal.step-requires-clause-ready
step-requires-clause-ready g c κs within =
    let old = c.args.chunks.now in let was = get_or old c.args.at c.index-chunks-at.result in let is = c.ask.new.self in
    let there = slice_get-get_or old c.args.at c.index-chunks-at.result c.requires.at in
    ready_after (λ halts chunk. asked_happened halts c.args.asked chunk) c.args.at old was is c.args.self.now there c.requires.ready
    c.requires.fleet c.args.out.now.items c.ask.new.out.items c.in_ok-answer.answer c.in_ok-answer.ensures.went

pub step-requires-clause-fleet : goal.step-requires-clause-fleet
step-requires-clause-fleet g c κs within =
    let old = c.args.chunks.now in let was = get_or old c.args.at c.index-chunks-at.result in let is = c.ask.new.self in
    let there = slice_get-get_or old c.args.at c.index-chunks-at.result c.requires.at in
    fleet_after (λ halts chunk. asked_happened halts c.args.asked chunk) c.args.at old was is c.args.self.now there c.requires.ready
    c.requires.fleet c.args.out.now.items c.ask.new.out.items c.in_ok-answer.answer c.in_ok-answer.ensures.went

pub returns-in_err-step-clause-err : goal.returns-in_err-step-clause-err
returns-in_err-step-clause-err g c =
    let old = c.args.chunks.now in let was = get_or old c.args.at c.index-chunks-at.result in let is = c.ask.new.self in
    let there = slice_get-get_or old c.args.at c.index-chunks-at.result c.requires.at in
    on_err c.from_residual-in_err-step.result _ (event_not_answered (λ halts chunk. asked_happened halts c.args.asked chunk) c.args.at old was is c.args.self.now there c.requires.ready
    c.requires.fleet c.args.out.now.items c.ask.new.out.items c.in_ok-answer.answer c.in_ok-answer.ensures.went c.step.new.chunks c.in_err-step.ensures.err)

pub returns-clause-went : goal.returns-clause-went
returns-clause-went g c =
    let old = c.args.chunks.now in let was = get_or old c.args.at c.index-chunks-at.result in let is = c.ask.new.self in
    let there = slice_get-get_or old c.args.at c.index-chunks-at.result c.requires.at in
    event_answered (λ halts chunk. asked_happened halts c.args.asked chunk) c.args.at old was is c.args.self.now there c.requires.ready
    c.requires.fleet c.args.out.now.items c.ask.new.out.items c.in_ok-answer.answer c.in_ok-answer.ensures.went
    c.step.new.chunks c.step.new.self c.step.new.out.items c.in_ok-step.ensures.went
