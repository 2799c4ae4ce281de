use Rattle.std.proofs.Common.{◌≡◌, ◌<◌, ◌≤◌, ◌*◌, ◌/◌, ◌+◌, ℕ, List, [], ◌∷◌, ◌++◌, length, get_or, Some, None, slice_get, slice_set, refl, sym, ap, subst, ◌∙◌, length-append, arith}
use Rattle.std.proofs.lemmas.Option.{get_or_from_slice_get, slice_get_read}
use Rattle.pf_mount_host.specs.pf_group_network.proofs.Lists.{set_length}
use Rattle.pf_base.specs.declared.asks.Ask.TheVariants as asks
use Rattle.pf_mount_host.specs.pf_group_rounds.specs.Halts.{Halt}
use Rattle.pf_move.specs.declared.mover.MoveNext.{MoveNext}
use Rattle.pf_move.specs.declared.mover.MoveNext.TheVariants.{Read}
use Rattle.pf_move.specs.Movers.{AsksFor, MoverIs, MoverStep, new_mover, piece, step}
use Rattle.pf_move.specs.Routes.{RoutesIs, home_of_chunk}
use Rattle.pf_mount_host.specs.pf_chunk.specs.Driving.{ask_at_port, port_asked}
use Rattle.pf_mount_host.specs.pf_chunk.specs.Views.{ChunkIs, ChunkIsReady, run_of}
use Rattle.pf_world_hosts.specs.Moves.{HasBegunMove}
use Rattle.pf_world_hosts.specs.Steps.{FleetIs, IsFleetOf}
use Rattle.pf_world_hosts.proofs.MoveBegins.{first_reads, has_begun, home_there, left, mid, middle_quiet, middle_ready}
use Rattle.pf_world_hosts.proofs.AskRoutes.{moving_to}
use Rattle.pf_world_hosts.proofs.MoverWishes.{none_asked, stepped_so}
use Rattle.pf_world_hosts.proofs.fleet.Fleet.begin_move.Goals as goal

-- what the new mover wants first
first_step : (chunk sectors : ℕ) (m : MoverIs) (s : MoverStep) → m ≡ new_mover chunk (sectors / 8) → 8 * m.pieces ≡ sectors → 16 ≤ sectors → s ≡ step m None → s.next ≡ Read (piece 0)
first_step chunk sectors m s is all some steps =
    let few : 0 < sectors / 8 = omega (arith, all, some, ap (λ (x : MoverIs). x.pieces) is) in
    ap (λ (x : MoverStep). x.next) (steps ∙ ap (λ (x : MoverIs). step x None) is ∙ first_reads chunk (sectors / 8) few)

pub index_mut-from-requires : goal.index_mut-from-requires
index_mut-from-requires g c =
    let v : FleetIs = record { volume = c.self.inside.volume; layout = c.self.inside.layout; hosts = c.self.inside.hosts.items; calls = c.self.inside.calls; routes = c.self.inside.routes; mover = c.self.inside.mover } in
    let low : c.home-home.result < length c.args.chunks.now.items = c.requires.fleet.are_hosts.routed.within c.args.chunk c.home-home.result (subst (λ (x : FleetIs). home_of_chunk x.routes c.args.chunk ≡ Some c.home-home.result) c.self.view_is c.home-home.ensures) in
    omega (arith, low, c.args.chunks.now.ok.0)

pub hand_ports-requires-clause-from : goal.hand_ports-requires-clause-from
hand_ports-requires-clause-from g c =
    let v : FleetIs = record { volume = c.self.inside.volume; layout = c.self.inside.layout; hosts = c.self.inside.hosts.items; calls = c.self.inside.calls; routes = c.self.inside.routes; mover = c.self.inside.mover } in
    let old = c.args.chunks.now.items in let home = c.home-home.result in let from = c.index_mut-from.result.now in
    let fleet : IsFleetOf old v = subst (IsFleetOf old) (sym c.self.view_is) c.requires.fleet in
    let low : home < length old = fleet.are_hosts.routed.within c.args.chunk home c.home-home.ensures in
    let there : slice_get old home ≡ Some from = slice_get_read old (length old) home from refl low c.index_mut-from.ensures.value in
    (c.requires.ready home from there).1

pub unreachable-requires-in_default-next : goal.unreachable-requires-in_default-next
unreachable-requires-in_default-next g c =
    c.in_default-next.not-Read _ (first_step c.args.chunk c.sectors.result c.new-mover.result (record { next = c.in-Ok.next; mover = c.next.new.self }) c.new-mover.ensures.new c.new-mover.ensures.all (omega (arith, c.requires.fleet.are_hosts.volume.some_sectors, c.sectors.ensures, ap (λ (x : FleetIs). x.volume.sectors) c.self.view_is)) c.in-Ok.ensures.step)

pub index_mut-from-requires-2 : goal.index_mut-from-requires-2
index_mut-from-requires-2 g c =
    let old = c.args.chunks.now.items in let home = c.home-home.result in
    let low : home < length old = c.requires.fleet.are_hosts.routed.within c.args.chunk home (subst (λ (x : FleetIs). home_of_chunk x.routes c.args.chunk ≡ Some home) c.self.view_is c.home-home.ensures) in
    let count : length c.push_reserved.new.self.items ≡ length old + 1 =
    ap (λ (xs : List ChunkIs). length xs) c.push_reserved.ensures.items ∙ length-append (slice_set old home c.hand_ports.new.self) (c.hand_ports.new.next ∷ []) ∙ ap (λ n. n + 1) (set_length old home c.hand_ports.new.self) in
    omega (arith, low, count, c.push_reserved.new.self.ok.0)

pub put-requires-clause-ready : goal.put-requires-clause-ready
put-requires-clause-ready g c =
    let v : FleetIs = record { volume = c.self.inside.volume; layout = c.self.inside.layout; hosts = c.self.inside.hosts.items; calls = c.self.inside.calls; routes = c.self.inside.routes; mover = c.self.inside.mover } in
    let old = c.args.chunks.now.items in let home = c.home-home.result in let from = c.index_mut-from.result.now in
    let fleet : IsFleetOf old v = subst (IsFleetOf old) (sym c.self.view_is) c.requires.fleet in
    let low : home < length old = fleet.are_hosts.routed.within c.args.chunk home c.home-home.ensures in
    let there : slice_get old home ≡ Some from = slice_get_read old (length old) home from refl low c.index_mut-from.ensures.value in
    let chunk = c.args.chunk in let group = c.args.group in
    let none : v.routes.moving ≡ None = ap (λ (x : FleetIs). x.routes.moving) c.self.view_is ∙ c.requires.none in
    let chunk_low : chunk < length v.routes.routes = subst (λ (x : FleetIs). chunk < length x.routes.routes) (sym c.self.view_is) c.requires.chunk in
    let left_ready = subst ChunkIsReady c.hand_ports.ensures.from c.hand_ports.ensures.ready.0 in
    let taken_ready = subst ChunkIsReady c.hand_ports.ensures.to c.hand_ports.ensures.ready.1 in
    let items : c.push_reserved.new.self.items ≡ mid old home from group there =
    c.push_reserved.ensures.items
    ∙ ap (λ (x : ChunkIs). slice_set old home x ++ c.hand_ports.new.next ∷ []) c.hand_ports.ensures.from
    ∙ ap (λ (x : ChunkIs). slice_set old home (left old home from group there) ++ x ∷ []) c.hand_ports.ensures.to in
    let at : slice_get (mid old home from group there) home ≡ Some (left old home from group there) = home_there old v fleet c.requires.ready none c.requires.few chunk chunk_low home c.home-home.ensures from group there c.requires.number left_ready taken_ready in
    let it : c.index_mut-from-2.result.now ≡ left old home from group there = c.index_mut-from-2.ensures.value ∙ ap (λ (xs : List ChunkIs). get_or xs home c.index_mut-from-2.result.now) items ∙ get_or_from_slice_get (mid old home from group there) home (left old home from group there) c.index_mut-from-2.result.now at in
    subst ChunkIsReady (sym it) (middle_ready old v fleet c.requires.ready none c.requires.few chunk chunk_low home c.home-home.ensures from group there c.requires.number left_ready taken_ready home _ at).1

pub put-requires-clause-none : goal.put-requires-clause-none
put-requires-clause-none g c =
    let v : FleetIs = record { volume = c.self.inside.volume; layout = c.self.inside.layout; hosts = c.self.inside.hosts.items; calls = c.self.inside.calls; routes = c.self.inside.routes; mover = c.self.inside.mover } in
    let old = c.args.chunks.now.items in let home = c.home-home.result in let from = c.index_mut-from.result.now in
    let fleet : IsFleetOf old v = subst (IsFleetOf old) (sym c.self.view_is) c.requires.fleet in
    let low : home < length old = fleet.are_hosts.routed.within c.args.chunk home c.home-home.ensures in
    let there : slice_get old home ≡ Some from = slice_get_read old (length old) home from refl low c.index_mut-from.ensures.value in
    let chunk = c.args.chunk in let group = c.args.group in
    let none : v.routes.moving ≡ None = ap (λ (x : FleetIs). x.routes.moving) c.self.view_is ∙ c.requires.none in
    let chunk_low : chunk < length v.routes.routes = subst (λ (x : FleetIs). chunk < length x.routes.routes) (sym c.self.view_is) c.requires.chunk in
    let left_ready = subst ChunkIsReady c.hand_ports.ensures.from c.hand_ports.ensures.ready.0 in
    let taken_ready = subst ChunkIsReady c.hand_ports.ensures.to c.hand_ports.ensures.ready.1 in
    let items : c.push_reserved.new.self.items ≡ mid old home from group there =
    c.push_reserved.ensures.items
    ∙ ap (λ (x : ChunkIs). slice_set old home x ++ c.hand_ports.new.next ∷ []) c.hand_ports.ensures.from
    ∙ ap (λ (x : ChunkIs). slice_set old home (left old home from group there) ++ x ∷ []) c.hand_ports.ensures.to in
    let at : slice_get (mid old home from group there) home ≡ Some (left old home from group there) = home_there old v fleet c.requires.ready none c.requires.few chunk chunk_low home c.home-home.ensures from group there c.requires.number left_ready taken_ready in
    let it : c.index_mut-from-2.result.now ≡ left old home from group there = c.index_mut-from-2.ensures.value ∙ ap (λ (xs : List ChunkIs). get_or xs home c.index_mut-from-2.result.now) items ∙ get_or_from_slice_get (mid old home from group there) home (left old home from group there) c.index_mut-from-2.result.now at in
    subst (λ (x : ChunkIs). ask_at_port x.ports 16 ≡ None) (sym it) (none_asked (mid old home from group there) (middle_quiet old v fleet c.requires.ready none c.requires.few chunk chunk_low home c.home-home.ensures from group there c.requires.number left_ready taken_ready) home _ at)

pub returns : goal.returns
returns g c =
    let v : FleetIs = record { volume = c.self.inside.volume; layout = c.self.inside.layout; hosts = c.self.inside.hosts.items; calls = c.self.inside.calls; routes = c.self.inside.routes; mover = c.self.inside.mover } in
    let old = c.args.chunks.now.items in let home = c.home-home.result in let from = c.index_mut-from.result.now in
    let fleet : IsFleetOf old v = subst (IsFleetOf old) (sym c.self.view_is) c.requires.fleet in
    let low : home < length old = fleet.are_hosts.routed.within c.args.chunk home c.home-home.ensures in
    let there : slice_get old home ≡ Some from = slice_get_read old (length old) home from refl low c.index_mut-from.ensures.value in
    let chunk = c.args.chunk in let group = c.args.group in
    let none : v.routes.moving ≡ None = ap (λ (x : FleetIs). x.routes.moving) c.self.view_is ∙ c.requires.none in
    let chunk_low : chunk < length v.routes.routes = subst (λ (x : FleetIs). chunk < length x.routes.routes) (sym c.self.view_is) c.requires.chunk in
    let left_ready = subst ChunkIsReady c.hand_ports.ensures.from c.hand_ports.ensures.ready.0 in
    let taken_ready = subst ChunkIsReady c.hand_ports.ensures.to c.hand_ports.ensures.ready.1 in
    let items : c.push_reserved.new.self.items ≡ mid old home from group there =
    c.push_reserved.ensures.items
    ∙ ap (λ (x : ChunkIs). slice_set old home x ++ c.hand_ports.new.next ∷ []) c.hand_ports.ensures.from
    ∙ ap (λ (x : ChunkIs). slice_set old home (left old home from group there) ++ x ∷ []) c.hand_ports.ensures.to in
    let at : slice_get (mid old home from group there) home ≡ Some (left old home from group there) = home_there old v fleet c.requires.ready none c.requires.few chunk chunk_low home c.home-home.ensures from group there c.requires.number left_ready taken_ready in
    let it : c.index_mut-from-2.result.now ≡ left old home from group there = c.index_mut-from-2.ensures.value ∙ ap (λ (xs : List ChunkIs). get_or xs home c.index_mut-from-2.result.now) items ∙ get_or_from_slice_get (mid old home from group there) home (left old home from group there) c.index_mut-from-2.result.now at in
    let m : MoverIs = c.next.new.self in let span = c.in-Read.range in let is = c.put.new.self in
    let next_is = c.in-Read.is in
    let sectors : c.sectors.result ≡ v.volume.sectors = c.sectors.ensures in
    let last : c.len-to.result ≡ length old = omega (arith, c.len-to.ensures, c.args.chunks.now.ok.0) in
    let wants = subst (λ (n : MoveNext). AsksFor n m) next_is c.in-Ok.ensures.asks in
    let steps : record { next = Read span; mover = m } ≡ step (new_mover chunk (v.volume.sectors / 8)) None =
    ap (λ (n : MoveNext). record { next = n; mover = m }) (sym next_is) ∙ c.in-Ok.ensures.step
    ∙ ap (λ (x : MoverIs). step x None) (c.new-mover.ensures.new ∙ ap (λ n. new_mover chunk (n / 8)) sectors) in
    let pieces : 8 * m.pieces ≡ v.volume.sectors = ap (λ n. 8 * n) (stepped_so c.new-mover.result None c.in-Ok.next m c.in-Ok.ensures.step).2 ∙ c.new-mover.ensures.all ∙ sectors in
    let begun = has_begun old v fleet c.requires.ready none c.requires.few chunk chunk_low home c.home-home.ensures from group there c.requires.number left_ready taken_ready
    m span steps wants.1 wants.2 pieces
    is (λ (halts : List Halt). c.put.ensures.put halts ∙ ap (λ (x : ChunkIs). port_asked (run_of halts x) 16 (asks.Read chunk span)) it) (c.put.ensures.same ∙ ap (λ (x : ChunkIs). record x { ports = is.ports }) it) c.put.ensures.ready in
    subst (λ (x : FleetIs). HasBegunMove chunk group old x (slice_set c.push_reserved.new.self.items home is) (record v { routes = c.begin.new.self; mover = Some m })) c.self.view_is
    (subst (λ (r : RoutesIs). HasBegunMove chunk group old v (slice_set c.push_reserved.new.self.items home is) (record v { routes = r; mover = Some m })) (sym (c.begin.ensures ∙ ap (moving_to v.routes chunk) last))
    (subst (λ (xs : List ChunkIs). HasBegunMove chunk group old v (slice_set xs home is) (record v { routes = moving_to v.routes chunk (length old); mover = Some m })) (sym items) begun))
