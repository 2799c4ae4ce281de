use Rattle.std.proofs.Common.{false, ap, refl, subst}
use Rattle.pf_group_rounds.specs.pf_group.proofs.NextEvents.{on_err}
use Rattle.pf_group_rounds.specs.pf_group.specs.Events.{rule_event}
use Rattle.pf_group_rounds.specs.pf_group.specs.Steps.{GroupHasStepped}
use Rattle.pf_chunk.specs.Happenings.{happened}
use Rattle.pf_chunk.specs.Steps.{EventHasFailed}
use Rattle.pf_chunk.specs.Views.{ChunkIs, run_of}
use Rattle.pf_chunk.proofs.Begun.{happened_extends, left_so, not_followed}
use Rattle.pf_chunk.proofs.EventRuns.{comes, has_happened}
use Rattle.pf_chunk.proofs.Midway.{midway, plain, said}
use Rattle.pf_chunk.proofs.chunk.ChunkGroup.happen.Goals as goal

pub returns-in_err-answer-clause-err : goal.returns-in_err-answer-clause-err
returns-in_err-answer-clause-err g c =
    let event = rule_event c.args.event false in
    on_err c.from_residual.result _ (subst (λ (v : ChunkIs). EventHasFailed (λ halts. (happened halts (run_of halts v) event).chunk.group) v.group c.step.new.self) c.self.view_is
    (let was : ChunkIs = record { group = c.self.inside.group; waiting = c.self.inside.waiting.items; first_left = c.self.inside.first_left; next = c.self.inside.next; ports = c.self.inside.ports.items } in
    left_so (λ halts. (happened halts (run_of halts was) event).chunk.group) was.group c.step.new.self (λ halts. happened_extends halts (run_of halts was) event) c.args.event c.in_err-answer.ensures.err))

pub follow-requires-clause-none : goal.follow-requires-clause-none
follow-requires-clause-none g c _ _ =
    let mid : ChunkIs = record { group = c.step.new.self; waiting = c.self.inside.waiting.items; first_left = c.self.inside.first_left; next = c.self.inside.next; ports = c.self.inside.ports.items } in
    (midway c.args.self.now c.args.event c.in_ok-answer.answer mid c.requires.ready c.requires.event
    (subst (λ (v : ChunkIs). GroupHasStepped v.group c.args.event c.in_ok-answer.answer c.step.new.self) c.self.view_is c.in_ok-answer.ensures.went)
    (ap (λ (v : ChunkIs). v.first_left) c.self.view_is) (ap (λ (v : ChunkIs). v.waiting) c.self.view_is) (ap (λ (v : ChunkIs). v.ports) c.self.view_is)).none

pub follow-requires-clause-listed : goal.follow-requires-clause-listed
follow-requires-clause-listed g c _ _ =
    let mid : ChunkIs = record { group = c.step.new.self; waiting = c.self.inside.waiting.items; first_left = c.self.inside.first_left; next = c.self.inside.next; ports = c.self.inside.ports.items } in
    (midway c.args.self.now c.args.event c.in_ok-answer.answer mid c.requires.ready c.requires.event
    (subst (λ (v : ChunkIs). GroupHasStepped v.group c.args.event c.in_ok-answer.answer c.step.new.self) c.self.view_is c.in_ok-answer.ensures.went)
    (ap (λ (v : ChunkIs). v.first_left) c.self.view_is) (ap (λ (v : ChunkIs). v.waiting) c.self.view_is) (ap (λ (v : ChunkIs). v.ports) c.self.view_is)).kept.listed

pub returns-in_err-follow-clause-err : goal.returns-in_err-follow-clause-err
returns-in_err-follow-clause-err g c =
    on_err c.from_residual-in_err-follow.result _
    (not_followed plain c.args.self.now c.step.new.self c.follow.new.self.group c.args.event c.in_ok-answer.answer (λ k m a. refl)
    (subst (λ (v : ChunkIs). GroupHasStepped v.group c.args.event c.in_ok-answer.answer c.step.new.self) c.self.view_is c.in_ok-answer.ensures.went) c.in_err-follow.ensures.err)

pub returns-clause-went : goal.returns-clause-went
returns-clause-went g c =
    let mid : ChunkIs = record { group = c.step.new.self; waiting = c.self.inside.waiting.items; first_left = c.self.inside.first_left; next = c.self.inside.next; ports = c.self.inside.ports.items } in
    let stepped = subst (λ (v : ChunkIs). GroupHasStepped v.group c.args.event c.in_ok-answer.answer c.step.new.self) c.self.view_is c.in_ok-answer.ensures.went in
    has_happened plain c.args.self.now mid c.follow.new.self c.args.event c.in_ok-answer.answer c.args.out.now.items c.follow.new.out.items
    (comes plain c.args.self.now mid c.follow.new.self c.args.event c.in_ok-answer.answer
    (midway c.args.self.now c.args.event c.in_ok-answer.answer mid c.requires.ready c.requires.event stepped
    (ap (λ (v : ChunkIs). v.first_left) c.self.view_is) (ap (λ (v : ChunkIs). v.waiting) c.self.view_is) (ap (λ (v : ChunkIs). v.ports) c.self.view_is))
    c.args.out.now.items c.follow.new.out.items c.in_ok-follow.ensures.went c.requires.ready) (ap (λ (v : ChunkIs). v.ports) c.self.view_is)
    (said c.args.self.now c.args.event c.in_ok-answer.answer mid c.requires.ready c.requires.event stepped)
