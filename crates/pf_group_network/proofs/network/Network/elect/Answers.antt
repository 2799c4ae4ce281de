use Rattle.std.proofs.Common.{arith, sym, ap, ◌∙◌}
use Rattle.pf_protocol.specs.declared.events.Event.TheVariants.{Elect}
use Rattle.pf_protocol.specs.Groups.{counted_election}
use Rattle.pf_protocol.specs.Leading.{on_elect}
use Rattle.pf_protocol.specs.Answers.{elect_turn}
use Rattle.pf_group_network.specs.declared.network.Network.{Network}
use Rattle.pf_group_network.proofs.TurnBegins.{few_parcels, in_order, same_room_refusal, server_there}
use Rattle.pf_group_network.proofs.Elections.{counts_none, counts_whole, elects, elects_full, elects_none}
use Rattle.pf_group_network.proofs.Plain.{event_goes, plain_turned}
use Rattle.pf_group_network.proofs.network.Network.elect.Goals as goal

pub returns-then-not-is_running : goal.returns-then-not-is_running
returns-then-not-is_running g c setup past reached =
    elects_none g.S.Store.model setup past c.args.self.now reached c.args.server c.index.result.now (server_there g.S.Store.model setup past c.args.self.now reached c.args.server c.index.result.now c.requires.server c.index.ensures)
    (sym c.is_running.ensures ∙ c.if-not-is_running.true)

pub returns-then-self-ge-MOST_ELECTIONS : goal.returns-then-self-ge-MOST_ELECTIONS
returns-then-self-ge-MOST_ELECTIONS g c setup past reached =
    elects_full g.S.Store.model setup past c.args.self.now reached c.args.server c.index.result.now (server_there g.S.Store.model setup past c.args.self.now reached c.args.server c.index.result.now c.requires.server c.index.ensures)
    (sym c.is_running.ensures ∙ c.if-not-is_running.false) c.if-self-ge-MOST_ELECTIONS.true

pub outbox-out-requires : goal.outbox-out-requires
outbox-out-requires g c = let q = c.requires.reached in few_parcels g.S.Store.model q.0 q.1.0 c.args.self.now q.1.1

pub elect-outcome-requires-clause-order : goal.elect-outcome-requires-clause-order
elect-outcome-requires-clause-order g c =
    let q = c.requires.reached in
    in_order g.S.Store.model q.0 q.1.0 c.args.self.now q.1.1 c.args.server c.index_mut.result.now (server_there g.S.Store.model q.0 q.1.0 c.args.self.now q.1.1 c.args.server c.index_mut.result.now c.requires.server c.index_mut.ensures.value)

pub end-outcome-requires : goal.end-outcome-requires
end-outcome-requires g c =
    let q = c.requires.reached in
    let outcome = c.elect-outcome in
    let out = c.outbox-out.result in
    let room = same_room_refusal g.S.Store.model q.0 q.1.0 c.args.self.now q.1.1 out c.outbox-out.ensures in (
      q.0,
      (
        q.1.0.group,
        (
          elect_turn q.1.0.group,
          plain_turned g.S.Store.model q.0 q.1.0 c.args.self.now q.1.1 c.args.server c.index_mut.result.now outcome.new.self c.reserve.new.self out outcome.new.out _ _ outcome.result
              (record {
                low = c.requires.server;
                read = c.index_mut.ensures.value;
                seat = outcome.ensures.seat;
                told_same = outcome.ensures.told;
                items = c.reserve.ensures.same;
                place = c.in_ok-reserve.ensures.room;
                fresh = c.outbox-out.ensures;
                tells = outcome.ensures.step;
                down = outcome.ensures.down;
              }) (Elect c.args.server) (elect_turn q.1.0.group) (λ how. counted_election how q.1.0.group)
              (elects q.0 q.1.0 q.1.1.viable q.1.1.short c.args.server c.requires.server (omega (arith, c.if-self-ge-MOST_ELECTIONS.false, q.1.1.shows.traffic.elections)) out room),
        ),
      ),
    )

pub returns : goal.returns
returns g c setup past reached =
    let outcome = c.elect-outcome in
    let out = c.outbox-out.result in
    let grp = past.group in
    let room = same_room_refusal g.S.Store.model setup past c.args.self.now reached out c.outbox-out.ensures in
    let before = c.end-outcome.ensures.elections ∙ reached.shows.traffic.elections in
    event_goes g.S.Store.model setup past c.args.self.now reached c.args.server c.index_mut.result.now outcome.new.self c.reserve.new.self out outcome.new.out _ _ outcome.result
    (record {
      low = c.requires.server;
      read = c.index_mut.ensures.value;
      seat = outcome.ensures.seat;
      told_same = outcome.ensures.told;
      items = c.reserve.ensures.same;
      place = c.in_ok-reserve.ensures.room;
      fresh = c.outbox-out.ensures;
      tells = outcome.ensures.step;
      down = outcome.ensures.down;
    }) (Elect c.args.server) (elect_turn grp) (λ how. counted_election how grp)
    (elects setup past reached.viable reached.short c.args.server c.requires.server (omega (arith, c.if-self-ge-MOST_ELECTIONS.false, reached.shows.traffic.elections)) out room)
    c.end-outcome.new.self _ (λ halted. ap (λ (x : Network g.row.S.Denot). x.servers.items) (c.end-outcome.ensures.halted halted)) c.end-outcome.ensures.stores c.end-outcome.ensures.taken
    (λ answer so shows. counts_whole g.S.Store.model setup grp c.args.server on_elect c.end-outcome.new.self.elections before c.end-outcome.new.self c.count_election.new.elections c.end-outcome.result c.count_election.ensures answer (c.end-outcome.ensures.same ∙ so) shows)
    (λ e so shows. counts_none g.S.Store.model setup grp c.end-outcome.new.self.elections before c.end-outcome.new.self c.count_election.new.elections c.end-outcome.result c.count_election.ensures e (c.end-outcome.ensures.same ∙ so) shows)
    c.end-outcome.result c.end-outcome.ensures.same (c.end-outcome.ensures.step setup grp (elect_turn grp))
