use Rattle.std.proofs.Common.{map, sym, ap, ◌∙◌}
use Rattle.pf_protocol.specs.Servers.{Server as ServerIs}
use Rattle.pf_protocol.specs.Outcomes.{Outcome}
use Rattle.pf_protocol.specs.Saving.{on_finish}
use Rattle.pf_group_network.proofs.TurnBegins.{in_order, server_there}
use Rattle.pf_server.specs.Conditions.{untaken_answers}
use Rattle.pf_group_network.specs.Readings.{is_taken}
use Rattle.pf_group_network.proofs.Readings.{none_taken}
use Rattle.pf_group_network.proofs.ReturnedJobs.{brings_back, finish_done, finish_gone, finish_refused, job_places, job_shows, job_sized, job_stores}
use Rattle.pf_group_network.proofs.network.Network.finish.Goals as goal

pub finish-answer-requires-clause-order : goal.finish-answer-requires-clause-order
finish-answer-requires-clause-order g c = in_order g.S.Store.model c.requires.job.0 c.requires.job.1.0 c.args.self.now c.requires.job.1.1.reached c.args.filled.server c.index_mut.result.now (server_there g.S.Store.model c.requires.job.0 c.requires.job.1.0 c.args.self.now c.requires.job.1.1.reached c.args.filled.server c.index_mut.result.now c.requires.server c.index_mut.ensures.value)

pub finish-answer-requires-clause-job : goal.finish-answer-requires-clause-job
finish-answer-requires-clause-job g c = brings_back g.S.Store.model c.requires.job.0 c.requires.job.1.0 c.args.self.now c.args.filled c.requires.job.1.1 c.index_mut.result.now (server_there g.S.Store.model c.requires.job.0 c.requires.job.1.0 c.args.self.now c.requires.job.1.1.reached c.args.filled.server c.index_mut.result.now c.requires.server c.index_mut.ensures.value)

pub keep_answers-requires-clause-sized : goal.keep_answers-requires-clause-sized
keep_answers-requires-clause-sized g c =
    let done = finish_done g.S.Store.model c.requires.job.0 c.requires.job.1.0 c.args.self.now c.requires.job.1.1.reached c.args.filled.server c.index_mut.result.now c.finish-answer.new.self c.requires.server (server_there g.S.Store.model c.requires.job.0 c.requires.job.1.0 c.args.self.now c.requires.job.1.1.reached c.args.filled.server c.index_mut.result.now c.requires.server c.index_mut.ensures.value) c.finish-answer.ensures.seat (ap g.S.Store.model.told c.finish-answer.ensures.store) c.args.filled.life c.args.filled.slot c.finish-answer.result c.finish-answer.ensures.step c.finish-answer.ensures.stopped c.finish-answer.ensures.unformatted (sym c.is_refused.ensures ∙ c.if-is_refused.false) in
    let rule : ServerIs → Outcome = λ s. on_finish s c.args.filled.life c.args.filled.slot in
    job_sized g.S.Store.model c.requires.job.0 c.requires.job.1.0 c.args.self.now c.requires.job.1.1.reached c.args.filled.server c.index_mut.result.now c.finish-answer.new.self c.requires.server (server_there g.S.Store.model c.requires.job.0 c.requires.job.1.0 c.args.self.now c.requires.job.1.1.reached c.args.filled.server c.index_mut.result.now c.requires.server c.index_mut.ensures.value) c.finish-answer.ensures.seat (ap g.S.Store.model.told c.finish-answer.ensures.store) rule c.finish-answer.result done c.index_mut-2.result.now c.index_mut-2.ensures.value

pub keep_answers-requires-clause-places : goal.keep_answers-requires-clause-places
keep_answers-requires-clause-places g c =
    let done = finish_done g.S.Store.model c.requires.job.0 c.requires.job.1.0 c.args.self.now c.requires.job.1.1.reached c.args.filled.server c.index_mut.result.now c.finish-answer.new.self c.requires.server (server_there g.S.Store.model c.requires.job.0 c.requires.job.1.0 c.args.self.now c.requires.job.1.1.reached c.args.filled.server c.index_mut.result.now c.requires.server c.index_mut.ensures.value) c.finish-answer.ensures.seat (ap g.S.Store.model.told c.finish-answer.ensures.store) c.args.filled.life c.args.filled.slot c.finish-answer.result c.finish-answer.ensures.step c.finish-answer.ensures.stopped c.finish-answer.ensures.unformatted (sym c.is_refused.ensures ∙ c.if-is_refused.false) in
    let rule : ServerIs → Outcome = λ s. on_finish s c.args.filled.life c.args.filled.slot in
    job_places g.S.Store.model c.requires.job.0 c.requires.job.1.0 c.args.self.now c.requires.job.1.1.reached c.args.filled.server c.index_mut.result.now c.finish-answer.new.self c.requires.server (server_there g.S.Store.model c.requires.job.0 c.requires.job.1.0 c.args.self.now c.requires.job.1.1.reached c.args.filled.server c.index_mut.result.now c.requires.server c.index_mut.ensures.value) c.finish-answer.ensures.seat (ap g.S.Store.model.told c.finish-answer.ensures.store) rule c.finish-answer.result done c.index_mut-2.result.now c.index_mut-2.ensures.value

pub returns-then-is_refused : goal.returns-then-is_refused
returns-then-is_refused g c setup past reached =
    finish_refused g.S.Store.model setup past c.args.self.now reached c.args.filled.server c.index_mut.result.now c.finish-answer.new.self c.requires.server (server_there g.S.Store.model setup past c.args.self.now reached c.args.filled.server c.index_mut.result.now c.requires.server c.index_mut.ensures.value) c.finish-answer.ensures.seat (ap g.S.Store.model.told c.finish-answer.ensures.store) c.args.filled.life c.args.filled.slot c.finish-answer.result c.finish-answer.ensures.step c.finish-answer.ensures.stopped c.finish-answer.ensures.unformatted c.finish-answer.ensures.store (sym c.is_refused.ensures ∙ c.if-is_refused.true)

pub returns : goal.returns
returns g c setup past reached =
    let done = finish_done g.S.Store.model setup past c.args.self.now reached c.args.filled.server c.index_mut.result.now c.finish-answer.new.self c.requires.server (server_there g.S.Store.model setup past c.args.self.now reached c.args.filled.server c.index_mut.result.now c.requires.server c.index_mut.ensures.value) c.finish-answer.ensures.seat (ap g.S.Store.model.told c.finish-answer.ensures.store) c.args.filled.life c.args.filled.slot c.finish-answer.result c.finish-answer.ensures.step c.finish-answer.ensures.stopped c.finish-answer.ensures.unformatted (sym c.is_refused.ensures ∙ c.if-is_refused.false) in
    let rule : ServerIs → Outcome = λ s. on_finish s c.args.filled.life c.args.filled.slot in
    let kept = c.keep_answers in
    finish_gone g.S.Store.model setup past c.args.self.now reached c.args.filled.server c.index_mut.result.now c.finish-answer.new.self c.requires.server (server_there g.S.Store.model setup past c.args.self.now reached c.args.filled.server c.index_mut.result.now c.requires.server c.index_mut.ensures.value) c.finish-answer.ensures.seat (ap g.S.Store.model.told c.finish-answer.ensures.store) c.args.filled.life c.args.filled.slot c.finish-answer.result c.finish-answer.ensures.step c.finish-answer.ensures.stopped c.finish-answer.ensures.unformatted done _
    (job_stores g.S.Store.model setup past c.args.self.now reached c.args.filled.server c.index_mut.result.now c.finish-answer.new.self c.requires.server (server_there g.S.Store.model setup past c.args.self.now reached c.args.filled.server c.index_mut.result.now c.requires.server c.index_mut.ensures.value) c.finish-answer.ensures.seat (ap g.S.Store.model.told c.finish-answer.ensures.store) rule c.finish-answer.result done c.index_mut-2.result.now c.index_mut-2.ensures.value c.finish-answer.ensures.store kept.new.server kept.new.readings kept.ensures.store)
    (ap (map is_taken) kept.ensures.readings ∙ none_taken c.args.self.now.readings.items (untaken_answers c.index_mut-2.result.now.state))
    (job_shows g.S.Store.model setup past c.args.self.now reached c.args.filled.server c.index_mut.result.now c.finish-answer.new.self c.requires.server (server_there g.S.Store.model setup past c.args.self.now reached c.args.filled.server c.index_mut.result.now c.requires.server c.index_mut.ensures.value) c.finish-answer.ensures.seat (ap g.S.Store.model.told c.finish-answer.ensures.store) rule c.finish-answer.result done c.index_mut-2.result.now c.index_mut-2.ensures.value kept.new.server kept.new.readings kept.ensures.seat kept.ensures.store kept.ensures.same kept.ensures.readings)
