use Rattle.std.proofs.Common.{arith}
use Rattle.pf_server.proofs.RestartOutcomes.{again, begun_in, early, halt_cause, last_low, quiet_again, somehow}
use Rattle.pf_server.proofs.server.Server.restart.Goals as goal

pub overflow_add-life : goal.overflow_add-life
overflow_add-life g c =
    let order = c.requires in
    omega (arith, last_low g.S.Store.model c.args.self.now.seat c.args.self.now.store c.in-Some.life c.in-Some.doubt c.args.self.now.state order.condition c.in-Some.ensures order.meets order.known)

pub begin-requires : goal.begin-requires
begin-requires g c =
    let order = c.requires in
    last_low g.S.Store.model c.args.self.now.seat c.args.self.now.store c.in-Some.life c.in-Some.doubt c.args.self.now.state order.condition c.in-Some.ensures order.meets order.known

pub returns-clause-step : goal.returns-clause-step
returns-clause-step g c = λ told condition meets known honest.
    let said = c.restart-begun.ensures in
    again g.S.Store.model c.args.self.now.seat c.requires.made c.args.self.now.store c.restart-begun.new.store c.in-Some.life c.in-Some.doubt c.begin.new.state c.restart-begun.result c.begin.result
    (record {
      found = said.found told;
      still = early g.S.Store.model c.args.self.now.store c.restart-begun.new.store c.restart-begun.result said.still;
      unsaved = λ r is. said.unsaved r is told;
      ours = said.ours told;
      cause = said.cause;
    })
    c.args.self.now.state condition c.in-Some.ensures meets honest c.begin.ensures

pub returns-clause-any_moment : goal.returns-clause-any_moment
returns-clause-any_moment g c = λ told condition meets.
    begun_in g.S.Store.model c.args.self.now.seat c.args.self.now.store c.restart-begun.new.store (c.restart-begun.ensures.any_moment told) c.in-Some.life c.in-Some.doubt c.args.self.now.state
    condition c.in-Some.ensures meets

pub returns-clause-answers : goal.returns-clause-answers
returns-clause-answers g c = quiet_again c.in-Some.life c.in-Some.doubt c.args.self.now.state c.begin.new.state c.restart-begun.result c.begin.result c.begin.ensures

pub returns-clause-somehow : goal.returns-clause-somehow
returns-clause-somehow g c = λ condition meets.
    let said = c.restart-begun.ensures in
    somehow g.S.Store.model c.args.self.now.seat c.args.self.now.store c.restart-begun.new.store c.in-Some.life c.in-Some.doubt c.args.self.now.state c.begin.new.state condition c.in-Some.ensures meets
    c.restart-begun.result c.begin.result (record { begun_some = said.begun; still = early g.S.Store.model c.args.self.now.store c.restart-begun.new.store c.restart-begun.result said.still; unsaved = said.unsaved_any }) c.begin.ensures

pub returns-clause-cause : goal.returns-clause-cause
returns-clause-cause g c =
    halt_cause g.S.Store.model c.args.self.now.seat c.args.self.now.store c.restart-begun.new.store c.in-Some.life c.in-Some.doubt c.args.self.now.state c.begin.new.state
    c.restart-begun.result c.begin.result c.restart-begun.ensures.cause c.begin.ensures
