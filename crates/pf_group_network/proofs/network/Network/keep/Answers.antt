use Rattle.std.proofs.Common.{◌≡◌, ℕ, ◌++◌, map, Option, Some, refl, sym, ap, subst, ◌∙◌}
use Rattle.std.specs.Option.{option_to_list}
use Rattle.std.specs.Vec.{with_item}
use Rattle.pf_protocol.specs.Servers.{Server as ServerIs, Running as RunningIs}
use Rattle.pf_protocol.specs.Rows.{settled}
use Rattle.pf_server.specs.declared.server.Server.{Server}
use Rattle.pf_server.specs.Conditions.{Meets, untaken_answers}
use Rattle.pf_group_network.specs.declared.kept.Acked.{Acked}
use Rattle.pf_group_network.specs.Keeping.{HavePlaces, with_answers}
use Rattle.pf_group_network.specs.Readings.{is_taken}
use Rattle.pf_group_network.proofs.StepResults.{has_bytes, has_place, has_readings, read_there, shows_acted, stepped_there}
use Rattle.pf_group_network.proofs.Readings.{none_taken}
use Rattle.pf_group_network.proofs.Stores.{stores_kept}
use Rattle.pf_group_network.proofs.network.Network.keep.Goals as goal

pub keep_packets-requires-clause-places : goal.keep_packets-requires-clause-places
keep_packets-requires-clause-places g c = let q = c.requires.stepped in has_place g.S.Store.model q.0 q.1.0 c.args.server q.1.1.0 c.args.self.now c.args.out.now q.1.1.1

pub keep_packets-requires-clause-bytes : goal.keep_packets-requires-clause-bytes
keep_packets-requires-clause-bytes g c = let q = c.requires.stepped in has_bytes g.S.Store.model q.0 q.1.0 c.args.server q.1.1.0 c.args.self.now c.args.out.now q.1.1.1

pub keep_answers-requires-clause-places : goal.keep_answers-requires-clause-places
keep_answers-requires-clause-places g c =
    let q = c.requires.stepped in
    let there = stepped_there g.S.Store.model q.0 q.1.0 c.args.server q.1.1.0 c.args.self.now c.args.out.now q.1.1.1 in
    subst (λ (x : Server g.row.S.Denot). HavePlaces c.args.self.now.readings.items (untaken_answers x.state)) (sym (read_there c.args.self.now.servers.items c.args.server _ c.index_mut.result.now there c.index_mut.ensures.value))
    (has_readings g.S.Store.model q.0 q.1.0 c.args.server q.1.1.0 c.args.self.now c.args.out.now q.1.1.1)

pub returns-clause-shows : goal.returns-clause-shows
returns-clause-shows g c setup grp o stepped =
    let server = c.args.server in
    let s : ServerIs = settled o.server in
    let there = stepped_there g.S.Store.model setup grp server o c.args.self.now c.args.out.now stepped in
    let read = read_there c.args.self.now.servers.items server stepped.me c.index.result.now there c.index.ensures in
    let lent = read_there c.args.self.now.servers.items server stepped.me c.index_mut.result.now there c.index_mut.ensures.value in
    let meets : (x : Server g.row.S.Denot) → x ≡ stepped.me → Meets g.S.Store.model x.seat x.store x.state (RunningIs s) =
    λ x same. subst (λ (y : Server g.row.S.Denot). Meets g.S.Store.model y.seat y.store y.state (RunningIs s)) (sym same) stepped.meets in
    shows_acted g.S.Store.model setup grp server o c.args.self.now c.args.out.now stepped _ c.keep_answers.new.server
    (record {
      servers = refl;
      seat = c.keep_answers.ensures.seat ∙ ap (λ (x : Server g.row.S.Denot). x.seat) lent;
      store = c.keep_answers.ensures.store ∙ ap (λ (x : Server g.row.S.Denot). x.store) lent;
      meets = c.keep_answers.ensures.same s (meets c.index_mut.result.now lent);
      packets = c.keep_packets.ensures.packets;
      grown = c.keep_packets.ensures.capacity;
      room = c.keep_packets.ensures.room;
      acked = c.keep_acked.ensures s (meets c.index.result.now read)
          ∙ ap (λ (slot : Option ℕ). c.args.self.now.acked.list.items ++ map (λ k. (let a : Acked = record { term = s.durable.term; slot = k } in a)) (option_to_list slot)) (c.acked.ensures ∙ c.keep_packets.ensures.acked);
      readings = c.keep_answers.ensures.readings ∙ ap (λ (x : Server g.row.S.Denot). with_answers c.args.self.now.readings.items (untaken_answers x.state)) lent;
      elections = refl;
    })

pub returns-clause-stores : goal.returns-clause-stores
returns-clause-stores g c =
    let q = c.requires.stepped in
    let there = stepped_there g.S.Store.model q.0 q.1.0 c.args.server q.1.1.0 c.args.self.now c.args.out.now q.1.1.1 in
    let lent = read_there c.args.self.now.servers.items c.args.server _ c.index_mut.result.now there c.index_mut.ensures.value in
    stores_kept c.args.self.now (record c.args.self.now { servers = with_item c.args.self.now.servers c.args.server c.keep_answers.new.server }) c.args.server c.keep_answers.new.server refl c.index_mut.result.now (there ∙ ap Some (sym lent)) c.keep_answers.ensures.store

pub returns-clause-taken : goal.returns-clause-taken
returns-clause-taken g c = ap (map is_taken) c.keep_answers.ensures.readings ∙ none_taken c.args.self.now.readings.items (untaken_answers c.index_mut.result.now.state)
