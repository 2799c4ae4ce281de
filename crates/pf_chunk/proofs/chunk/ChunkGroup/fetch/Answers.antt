use Rattle.std.proofs.Common.{◌≡◌, ◌++◌, refl, sym, ap, subst, ◌∙◌}
use Rattle.std.specs.Option.{option_to_list}
use Rattle.pf_base.specs.Span.{IsWritable, Span}
use Rattle.pf_group_rounds.specs.pf_group.proofs.NextEvents.{on_err}
use Rattle.pf_group_rounds.specs.pf_group.specs.declared.event.GroupEvent.TheVariants as asked
use Rattle.pf_group_rounds.specs.pf_group.specs.Steps.{GroupHasStepped}
use Rattle.pf_chunk.specs.Asking.{fetches}
use Rattle.pf_chunk.specs.Steps.{EventHasFailed}
use Rattle.pf_chunk.specs.Views.{ChunkIs, run_of}
use Rattle.pf_chunk.proofs.Begun.{fetches_extend, left_so, not_followed, nothing_failed}
use Rattle.pf_chunk.proofs.EventRuns.{comes, has_happened}
use Rattle.pf_chunk.proofs.Midway.{midway_fetch, said_fetch, waits}
use Rattle.pf_chunk.proofs.Ranges.{fetch_failed, fetched_is}
use Rattle.pf_chunk.proofs.chunk.ChunkGroup.fetch.Goals as goal

pub returns-in_err-reserve-clause-err : goal.returns-in_err-reserve-clause-err
returns-in_err-reserve-clause-err g c =
    let now = c.args.self.now in
    on_err c.from_residual.result _ (subst (λ (v : ChunkIs). EventHasFailed (λ halts. (fetches halts c.args.server c.args.range.first c.args.range.count (run_of halts now)).chunk.group) now.group v.group) (sym c.self.view_is)
    (nothing_failed (λ halts. (fetches halts c.args.server c.args.range.first c.args.range.count (run_of halts now)).chunk.group) now.group (λ halts. fetches_extend halts (run_of halts now) c.args.server c.args.range.first c.args.range.count)))

pub returns-in_err-answer-clause-err : goal.returns-in_err-answer-clause-err
returns-in_err-answer-clause-err g c =
    let now = c.args.self.now in
    on_err c.from_residual-in_err-answer.result _
    (left_so (λ halts. (fetches halts c.args.server c.args.range.first c.args.range.count (run_of halts now)).chunk.group) now.group c.step.new.self (λ halts. fetches_extend halts (run_of halts now) c.args.server c.args.range.first c.args.range.count)
    (asked.Fetch c.args.server c.range-range.result) (subst (λ (v : ChunkIs). c.step.new.self ≡ v.group) c.self.view_is c.in_err-answer.ensures.err))

pub follow-requires-clause-none : goal.follow-requires-clause-none
follow-requires-clause-none g c _ _ =
    let now = c.args.self.now in
    let answer = c.in_ok-answer.answer in
    let mid : ChunkIs = record { group = c.step.new.self; waiting = c.keep.new.waiting.items; first_left = c.self.inside.first_left; next = c.self.inside.next; ports = c.self.inside.ports.items } in
    let stepped = subst (λ (v : ChunkIs). GroupHasStepped v.group (asked.Fetch c.args.server c.range-range.result) c.in_ok-answer.answer c.step.new.self) c.self.view_is c.in_ok-answer.ensures.went in
    let midway = midway_fetch now c.args.server c.range-range.result answer mid c.requires.ready c.requires.server stepped
    c.taken_up-read.result c.taken_up-read.ensures.of c.taken_up-read.ensures.read
    (ap (λ (v : ChunkIs). v.first_left) c.self.view_is)
    (c.keep.ensures ∙ ap (λ items. items ++ option_to_list c.taken_up-read.result) (c.reserve.ensures.items ∙ ap (λ (v : ChunkIs). v.waiting) c.self.view_is))
    (ap (λ (v : ChunkIs). v.ports) c.self.view_is) in
    midway.none

pub follow-requires-clause-listed : goal.follow-requires-clause-listed
follow-requires-clause-listed g c _ _ =
    let now = c.args.self.now in
    let answer = c.in_ok-answer.answer in
    let mid : ChunkIs = record { group = c.step.new.self; waiting = c.keep.new.waiting.items; first_left = c.self.inside.first_left; next = c.self.inside.next; ports = c.self.inside.ports.items } in
    let stepped = subst (λ (v : ChunkIs). GroupHasStepped v.group (asked.Fetch c.args.server c.range-range.result) c.in_ok-answer.answer c.step.new.self) c.self.view_is c.in_ok-answer.ensures.went in
    let midway = midway_fetch now c.args.server c.range-range.result answer mid c.requires.ready c.requires.server stepped
    c.taken_up-read.result c.taken_up-read.ensures.of c.taken_up-read.ensures.read
    (ap (λ (v : ChunkIs). v.first_left) c.self.view_is)
    (c.keep.ensures ∙ ap (λ items. items ++ option_to_list c.taken_up-read.result) (c.reserve.ensures.items ∙ ap (λ (v : ChunkIs). v.waiting) c.self.view_is))
    (ap (λ (v : ChunkIs). v.ports) c.self.view_is) in
    midway.kept.listed

pub returns-in_err-follow-clause-err : goal.returns-in_err-follow-clause-err
returns-in_err-follow-clause-err g c =
    let now = c.args.self.now in
    on_err c.from_residual-in_err-follow.result _
    (fetch_failed c.args.server c.args.range.first c.args.range.count c.range-range.result (subst (λ (span : Span). IsWritable span.first span.count) c.range-range.ensures.same c.range-range.ensures.writable) c.range-range.ensures.same now c.follow.new.self.group
    (not_followed (waits c.args.server) now c.step.new.self c.follow.new.self.group (asked.Fetch c.args.server c.range-range.result) c.in_ok-answer.answer (λ k m a. refl)
    (subst (λ (v : ChunkIs). GroupHasStepped v.group (asked.Fetch c.args.server c.range-range.result) c.in_ok-answer.answer c.step.new.self) c.self.view_is c.in_ok-answer.ensures.went) c.in_err-follow.ensures.err))

pub returns-clause-went : goal.returns-clause-went
returns-clause-went g c =
    let now = c.args.self.now in
    let answer = c.in_ok-answer.answer in
    let mid : ChunkIs = record { group = c.step.new.self; waiting = c.keep.new.waiting.items; first_left = c.self.inside.first_left; next = c.self.inside.next; ports = c.self.inside.ports.items } in
    let stepped = subst (λ (v : ChunkIs). GroupHasStepped v.group (asked.Fetch c.args.server c.range-range.result) c.in_ok-answer.answer c.step.new.self) c.self.view_is c.in_ok-answer.ensures.went in
    let midway = midway_fetch now c.args.server c.range-range.result answer mid c.requires.ready c.requires.server stepped
    c.taken_up-read.result c.taken_up-read.ensures.of c.taken_up-read.ensures.read
    (ap (λ (v : ChunkIs). v.first_left) c.self.view_is)
    (c.keep.ensures ∙ ap (λ items. items ++ option_to_list c.taken_up-read.result) (c.reserve.ensures.items ∙ ap (λ (v : ChunkIs). v.waiting) c.self.view_is))
    (ap (λ (v : ChunkIs). v.ports) c.self.view_is) in
    fetched_is c.args.server c.args.range.first c.args.range.count c.range-range.result (subst (λ (span : Span). IsWritable span.first span.count) c.range-range.ensures.same c.range-range.ensures.writable) c.range-range.ensures.same now c.args.out.now.items answer c.follow.new.out.items c.follow.new.self
    (has_happened (waits c.args.server) now mid c.follow.new.self (asked.Fetch c.args.server c.range-range.result) answer c.args.out.now.items c.follow.new.out.items
    (comes (waits c.args.server) now mid c.follow.new.self (asked.Fetch c.args.server c.range-range.result) answer midway c.args.out.now.items c.follow.new.out.items c.in_ok-follow.ensures.went c.requires.ready)
    (ap (λ (v : ChunkIs). v.ports) c.self.view_is) (said_fetch now c.args.server c.range-range.result answer mid c.requires.ready c.requires.server stepped))
