use Rattle.std.proofs.Common.{map, refl, sym, ap, ◌∙◌}
use Rattle.pf_protocol.specs.declared.answers.Answer.TheVariants.{Done}
use Rattle.pf_protocol.specs.Servers.{Server as ServerIs}
use Rattle.pf_protocol.specs.Outcomes.{Outcome}
use Rattle.pf_protocol.specs.Saving.{on_give_back}
use Rattle.pf_server.specs.declared.server.Server.{Server}
use Rattle.pf_server.specs.Conditions.{untaken_answers, state_runs}
use Rattle.pf_group_network.proofs.StepResults.{read_there}
use Rattle.pf_group_network.proofs.TurnBegins.{in_order, server_there}
use Rattle.pf_group_network.specs.Readings.{is_taken}
use Rattle.pf_group_network.proofs.Readings.{none_taken}
use Rattle.pf_group_network.proofs.ReturnedJobs.{back_gone, back_idle, back_taken, job_places, job_shows, job_sized, job_stores}
use Rattle.pf_group_network.proofs.network.Network.give_back.Goals as goal

pub give_back-requires : goal.give_back-requires
give_back-requires g c = in_order g.S.Store.model c.requires.reached.0 c.requires.reached.1.0 c.args.self.now c.requires.reached.1.1 c.args.server c.index_mut.result.now (server_there g.S.Store.model c.requires.reached.0 c.requires.reached.1.0 c.args.self.now c.requires.reached.1.1 c.args.server c.index_mut.result.now c.requires.server c.index_mut.ensures.value)

pub keep_answers-requires-clause-sized : goal.keep_answers-requires-clause-sized
keep_answers-requires-clause-sized g c =
    let running = sym c.is_running.ensures ∙ c.if-not-is_running.false in
    let same = read_there c.args.self.now.servers.items c.args.server c.index.result.now c.index_mut.result.now (server_there g.S.Store.model c.requires.reached.0 c.requires.reached.1.0 c.args.self.now c.requires.reached.1.1 c.args.server c.index.result.now c.requires.server c.index.ensures) c.index_mut.ensures.value in
    let runs_here = ap (λ (x : Server g.row.S.Denot). state_runs x.state) same ∙ running in
    let done = back_taken g.S.Store.model c.requires.reached.0 c.requires.reached.1.0 c.args.self.now c.requires.reached.1.1 c.args.server c.index_mut.result.now c.give_back.new.self c.requires.server (server_there g.S.Store.model c.requires.reached.0 c.requires.reached.1.0 c.args.self.now c.requires.reached.1.1 c.args.server c.index_mut.result.now c.requires.server c.index_mut.ensures.value) c.give_back.ensures.seat (ap g.S.Store.model.told c.give_back.ensures.store) c.args.life c.args.slot runs_here c.give_back.ensures.step in
    let rule : ServerIs → Outcome = λ s. on_give_back s c.args.life c.args.slot in
    job_sized g.S.Store.model c.requires.reached.0 c.requires.reached.1.0 c.args.self.now c.requires.reached.1.1 c.args.server c.index_mut.result.now c.give_back.new.self c.requires.server (server_there g.S.Store.model c.requires.reached.0 c.requires.reached.1.0 c.args.self.now c.requires.reached.1.1 c.args.server c.index_mut.result.now c.requires.server c.index_mut.ensures.value) c.give_back.ensures.seat (ap g.S.Store.model.told c.give_back.ensures.store) rule Done done c.index_mut-2.result.now c.index_mut-2.ensures.value

pub keep_answers-requires-clause-places : goal.keep_answers-requires-clause-places
keep_answers-requires-clause-places g c =
    let running = sym c.is_running.ensures ∙ c.if-not-is_running.false in
    let same = read_there c.args.self.now.servers.items c.args.server c.index.result.now c.index_mut.result.now (server_there g.S.Store.model c.requires.reached.0 c.requires.reached.1.0 c.args.self.now c.requires.reached.1.1 c.args.server c.index.result.now c.requires.server c.index.ensures) c.index_mut.ensures.value in
    let runs_here = ap (λ (x : Server g.row.S.Denot). state_runs x.state) same ∙ running in
    let done = back_taken g.S.Store.model c.requires.reached.0 c.requires.reached.1.0 c.args.self.now c.requires.reached.1.1 c.args.server c.index_mut.result.now c.give_back.new.self c.requires.server (server_there g.S.Store.model c.requires.reached.0 c.requires.reached.1.0 c.args.self.now c.requires.reached.1.1 c.args.server c.index_mut.result.now c.requires.server c.index_mut.ensures.value) c.give_back.ensures.seat (ap g.S.Store.model.told c.give_back.ensures.store) c.args.life c.args.slot runs_here c.give_back.ensures.step in
    let rule : ServerIs → Outcome = λ s. on_give_back s c.args.life c.args.slot in
    job_places g.S.Store.model c.requires.reached.0 c.requires.reached.1.0 c.args.self.now c.requires.reached.1.1 c.args.server c.index_mut.result.now c.give_back.new.self c.requires.server (server_there g.S.Store.model c.requires.reached.0 c.requires.reached.1.0 c.args.self.now c.requires.reached.1.1 c.args.server c.index_mut.result.now c.requires.server c.index_mut.ensures.value) c.give_back.ensures.seat (ap g.S.Store.model.told c.give_back.ensures.store) rule Done done c.index_mut-2.result.now c.index_mut-2.ensures.value

pub returns-then-not-is_running : goal.returns-then-not-is_running
returns-then-not-is_running g c setup past reached =
    back_idle g.S.Store.model setup past c.args.self.now reached c.args.server c.index.result.now c.index.result.now c.requires.server (server_there g.S.Store.model setup past c.args.self.now reached c.args.server c.index.result.now c.requires.server c.index.ensures) refl refl c.args.life c.args.slot
    (sym c.is_running.ensures ∙ c.if-not-is_running.true)

pub returns : goal.returns
returns g c setup past reached =
    let running = sym c.is_running.ensures ∙ c.if-not-is_running.false in
    let same = read_there c.args.self.now.servers.items c.args.server c.index.result.now c.index_mut.result.now (server_there g.S.Store.model setup past c.args.self.now reached c.args.server c.index.result.now c.requires.server c.index.ensures) c.index_mut.ensures.value in
    let runs_here = ap (λ (x : Server g.row.S.Denot). state_runs x.state) same ∙ running in
    let done = back_taken g.S.Store.model setup past c.args.self.now reached c.args.server c.index_mut.result.now c.give_back.new.self c.requires.server (server_there g.S.Store.model setup past c.args.self.now reached c.args.server c.index_mut.result.now c.requires.server c.index_mut.ensures.value) c.give_back.ensures.seat (ap g.S.Store.model.told c.give_back.ensures.store) c.args.life c.args.slot runs_here c.give_back.ensures.step in
    let rule : ServerIs → Outcome = λ s. on_give_back s c.args.life c.args.slot in
    let kept = c.keep_answers in
    back_gone g.S.Store.model setup past c.args.self.now reached c.args.server c.index_mut.result.now c.give_back.new.self c.requires.server (server_there g.S.Store.model setup past c.args.self.now reached c.args.server c.index_mut.result.now c.requires.server c.index_mut.ensures.value) c.give_back.ensures.seat (ap g.S.Store.model.told c.give_back.ensures.store) c.args.life c.args.slot _
    (job_stores g.S.Store.model setup past c.args.self.now reached c.args.server c.index_mut.result.now c.give_back.new.self c.requires.server (server_there g.S.Store.model setup past c.args.self.now reached c.args.server c.index_mut.result.now c.requires.server c.index_mut.ensures.value) c.give_back.ensures.seat (ap g.S.Store.model.told c.give_back.ensures.store) rule Done done c.index_mut-2.result.now c.index_mut-2.ensures.value c.give_back.ensures.store kept.new.server kept.new.readings kept.ensures.store)
    (ap (map is_taken) kept.ensures.readings ∙ none_taken c.args.self.now.readings.items (untaken_answers c.index_mut-2.result.now.state))
    (job_shows g.S.Store.model setup past c.args.self.now reached c.args.server c.index_mut.result.now c.give_back.new.self c.requires.server (server_there g.S.Store.model setup past c.args.self.now reached c.args.server c.index_mut.result.now c.requires.server c.index_mut.ensures.value) c.give_back.ensures.seat (ap g.S.Store.model.told c.give_back.ensures.store) rule Done done c.index_mut-2.result.now c.index_mut-2.ensures.value kept.new.server kept.new.readings kept.ensures.seat kept.ensures.store kept.ensures.same kept.ensures.readings)
