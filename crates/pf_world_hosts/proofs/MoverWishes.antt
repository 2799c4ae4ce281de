-- What a mover wants is taken up, and a chunk begins to move.
use Rattle.std.proofs.Common.{◌≡◌, ◌==◌, IfSome, IsSome, ℕ, ◌+◌, ◌*◌, ◌<◌, Bool, true, false, cond, List, [], ◌∷◌, ◌++◌, length, Option, Some, None, slice_get, slice_set, refl, sym, ap, subst, ◌∙◌, append-nil, arith}
use Rattle.std.specs.Option.{option_and_then, option_map}
use Rattle.std.proofs.lemmas.Bool.{false≢true}
use Rattle.std.proofs.lemmas.Option.{none-some, same_Some}
use Rattle.pf_base.specs.Span.{IsWritable, Span}
use Rattle.pf_base.specs.declared.asks.Ask.{Ask}
use Rattle.pf_base.specs.declared.asks.Ask.TheVariants as asks
use Rattle.pf_base.specs.declared.asks.Reply.{Reply}
use Rattle.pf_base.specs.declared.asks.Reply.TheVariants.{Written, Bytes}
use Rattle.pf_entry.proofs.Lists.{set_there}
use Rattle.pf_mount_host.specs.pf_group_network.proofs.Lists.{set_elsewhere, set_length, set_mapped, something_there}
use Rattle.pf_asks.specs.Ports.{PortIs}
use Rattle.pf_mount_host.specs.pf_group_rounds.specs.Halts.{Halt}
use Rattle.pf_move.specs.declared.mover.MoverAsk.{MoverAsk}
use Rattle.pf_move.specs.declared.mover.MoverAsk.TheVariants.{Reading, Writing}
use Rattle.pf_move.specs.declared.mover.MoveNext.{MoveNext}
use Rattle.pf_move.specs.declared.mover.MoveNext.TheVariants.{Read, Write, Switch}
use Rattle.pf_move.specs.declared.routes.Moving.{Moving}
use Rattle.pf_move.specs.Movers.{AsksFor, MoverIs, MoverStep, is_zero, piece, reads_on, step}
use Rattle.pf_move.specs.declared.routes.Route.{Route}
use Rattle.pf_move.specs.Routes.{AreRouted, Between, RoutesIs, between, between_in, routes_switched}
use Rattle.pf_report.specs.Moves.{moved_text}
use Rattle.pf_report.specs.Texts.{event_line}
use Rattle.pf_mount_host.specs.pf_chunk.specs.Driving.{ask_at_port, port_asked, asked_at}
use Rattle.pf_mount_host.specs.pf_chunk.specs.Runs.{ChunkRun, mover_port}
use Rattle.pf_mount_host.specs.pf_chunk.specs.Views.{ChunkIs, ChunkIsReady, run_of}
use Rattle.pf_mount_host.specs.pf_world_moments.specs.Hosts.{put_at, run_after, with_run}
use Rattle.pf_mount_host.specs.pf_world_moments.specs.Moments.{Carries, Heard, Writes}
use Rattle.pf_mount_host.specs.pf_world_moments.specs.Parts.{ArePut, AreQuiet, IsPut}
use Rattle.pf_mount_host.specs.pf_world_moments.specs.Steps.{AreReady, chunk_runs}
use Rattle.pf_mount_host.specs.pf_world_moments.proofs.PortDrives.{one_by_one, ready_one}
use Rattle.pf_mount_host.specs.pf_world_moments.proofs.Groups.{run_there}
use Rattle.pf_mount_host.specs.pf_world_moments.proofs.PortSteps.{put_gone}
use Rattle.pf_mount_host.specs.Hosts.{HostIs}
use Rattle.pf_mount_host.specs.Steps.{IsAnchoredHostOf}
use Rattle.pf_world_hosts.specs.Moves.{HasTakenUp, IsOfPiece, on_reply, mover_wants}
use Rattle.pf_world_hosts.specs.Steps.{AreHostsOf, AwaitsAt, FleetIs, HasMover, IsMoverAsk, IsFleetOf, IsMoverOf, volume_stands_at}
use Rattle.pf_world_hosts.specs.Volumes.{VolumeRun, asked_group, asks_in, carries, carries_on}
use Rattle.pf_world_hosts.proofs.MoverParts.{hosts_after}
use Rattle.pf_world_hosts.proofs.AskRoutes.{home_of_moving, home_switched, length_switched, none_moving, routed_switched}

-- What a step of the mover wants is of its next piece, and of its own chunk
abbrev IsStepOf : MoverIs → MoverStep → Type 0
IsStepOf m s = IsOfPiece s.next s.mover × (s.mover.chunk ≡ m.chunk) × (s.mover.pieces ≡ m.pieces)

reads_so : (m : MoverIs) → IsStepOf m (reads_on m)
reads_so m = by (m.done == m.pieces) where
  by : (b : Bool) → IsStepOf m (cond b (record { next = Switch; mover = record m { asked = None } }) (record { next = Read (piece m.done); mover = record m { asked = Some Reading } }))
  by true = (tt, refl, refl)
  by false = (refl, refl, refl)

steps_so : (m : MoverIs) (reply : Option Reply) → IsStepOf m (step m reply)
steps_so m None = reads_so m
steps_so m (Some Written) = reads_so (record m { done = m.done + 1 })
steps_so m (Some (Bytes sectors)) = by (is_zero sectors) where
  by : (b : Bool) → IsStepOf m (cond b (reads_on (record m { done = m.done + 1 })) (record { next = Write (piece m.done) sectors; mover = record m { asked = Some Writing } }))
  by true = reads_so (record m { done = m.done + 1 })
  by false = (refl, refl, refl)

pub stepped_so : (m : MoverIs) (reply : Option Reply) (next : MoveNext) (then : MoverIs) → record { next = next; mover = then } ≡ step m reply → IsOfPiece next then × (then.chunk ≡ m.chunk) × (then.pieces ≡ m.pieces)
stepped_so m reply next then is = subst (IsStepOf m) (sym is) (steps_so m reply)

-- An ask was put into the mover's port into group k
module _ (old : List ChunkIs) (k : ℕ) (was is : ChunkIs) (there : slice_get old k ≡ Some was) (ask : Ask) (ready : AreReady old) (quiet : AreQuiet mover_port old)
    (run : (halts : List Halt) → run_of halts is ≡ port_asked (run_of halts was) mover_port ask) (same : is ≡ record was { ports = is.ports }) (is_ready : ChunkIsReady is) where
  abbrev new_ones : List ChunkIs
  new_ones = slice_set old k is

  had : (port : PortIs) × (slice_get was.ports mover_port ≡ Some port)
  had = something_there was.ports mover_port (omega (arith, (ready k was there).1.kept.ports_fit.count))

  abbrev port_now : PortIs
  port_now = record had.0 { ask = Some ask; sent = None }

  ports_are : is.ports ≡ slice_set was.ports mover_port port_now
  ports_are = ap (λ (c : ChunkRun). c.ports) (run []) ∙ ap (λ (o : Option PortIs). (asked_at (run_of [] was) mover_port ask o).ports) had.1

  its_now : slice_get is.ports mover_port ≡ Some port_now
  its_now = ap (λ (ports : List PortIs). slice_get ports mover_port) ports_are ∙ set_there was.ports mover_port had.0 port_now had.1

  there_now : slice_get new_ones k ≡ Some is
  there_now = set_there old k was is there

  put_refl : (c : ChunkIs) → IsPut mover_port c c
  put_refl c = record { same = refl; others = λ m other. refl }

  pub are_put : ArePut mover_port old new_ones
  are_put = record {
    count = set_length old k is;
    each = one_by_one mover_port k old was is there (IsPut mover_port) (record {
      same = same;
      others = λ m other. ap (λ (ports : List PortIs). slice_get ports m) ports_are ∙ set_elsewhere was.ports mover_port m port_now other;
    }) put_refl;
  }

  pub ready_put : AreReady new_ones
  ready_put = ready_one mover_port k old was is there ready (ap (λ (c : ChunkIs). c.group.number) same) is_ready

  pub hosts_put : (f : FleetIs) → AreHostsOf old f → AreHostsOf new_ones f
  hosts_put f hosts = hosts_after old new_ones f (put_gone mover_port old new_ones are_put) hosts

  pub run_put : (halts : List Halt) → put_at (chunk_runs halts old) (Some k) mover_port ask ≡ chunk_runs halts new_ones
  run_put halts =
      ap (λ (x : Option ChunkRun). with_run (chunk_runs halts old) k (run_after x (λ y. port_asked y mover_port ask))) (run_there halts old k was there)
      ∙ ap (λ (x : ChunkRun). slice_set (chunk_runs halts old) k x) (sym (run halts))
      ∙ set_mapped (run_of halts) old k is

  pub mover_put : (sectors : ℕ) (moving : Moving) (b : Between) (m : MoverIs) (what : MoverAsk) → k ≡ asked_group b what → IsMoverAsk m what ask → m.chunk ≡ moving.chunk → 8 * m.pieces ≡ sectors → m.done < m.pieces → m.asked ≡ Some what
      → IsMoverOf new_ones sectors moving b m
  mover_put sectors moving b m what group of_kind chunk pieces going awaits = record {
    chunk = chunk;
    pieces = pieces;
    going = going;
    asked = what;
    asks = awaits;
    awaits = subst (λ n. AwaitsAt new_ones m what n) group (record { pends = record { chunk = is; there = there_now; port = port_now; its = its_now; ask = ask; pending = refl }; of_kind = of_kind });
    quiet = λ j c other at. quiet j c (sym (set_elsewhere old k j is (λ e. other (e ∙ group))) ∙ at);
  }

  pub unsent_put : (j : ℕ) → j ≡ k → (c : ChunkIs) (port : PortIs) → slice_get new_ones j ≡ Some c → slice_get c.ports mover_port ≡ Some port → port.sent ≡ None
  unsent_put j here c port at its =
      let c_is : is ≡ c = same_Some is c (sym there_now ∙ ap (slice_get new_ones) (sym here) ∙ at) in
      let port_is = same_Some port_now port (sym its_now ∙ ap (λ (x : ChunkIs). slice_get x.ports mover_port) c_is ∙ its) in
      sym (ap (λ (p : PortIs). p.sent) port_is)

-- the fleet of a volume whose chunk is moving so, with this mover
pub fleet_moving : (chunks : List ChunkIs) (f : FleetIs) (moving : Moving) (b : Between) (m : MoverIs) → f.routes.moving ≡ Some moving → between f.routes ≡ Some b → f.mover ≡ Some m
    → AreHostsOf chunks f → IsMoverOf chunks f.volume.sectors moving b m → IsFleetOf chunks f
fleet_moving chunks f moving b m at between_is is hosts its = record {
  are_hosts = hosts;
  mover = subst (λ (it : Option Moving). HasMover chunks f.volume.sectors it (between f.routes) f.mover) (sym at)
      (subst (λ (it : Option Between). HasMover chunks f.volume.sectors (Some moving) it f.mover) (sym between_is)
      (subst (λ (it : Option MoverIs). HasMover chunks f.volume.sectors (Some moving) (Some b) it) (sym is) its));
}

-- The mover asks
module _ (old : List ChunkIs) (f : FleetIs) (moving : Moving) (b : Between) (m : MoverIs) (at : f.routes.moving ≡ Some moving) (between_is : between f.routes ≡ Some b) (mover_is : f.mover ≡ Some m)
    (hosts : AreHostsOf old f) (ready : AreReady old) (quiet : AreQuiet mover_port old) (chunk : m.chunk ≡ moving.chunk) (pieces : 8 * m.pieces ≡ f.volume.sectors) where
  module _ (what : MoverAsk) (going : m.done < m.pieces) (awaits : m.asked ≡ Some what) (was is : ChunkIs) (there : slice_get old (asked_group b what) ≡ Some was) (ask : Ask)
      (run : (halts : List Halt) → run_of halts is ≡ port_asked (run_of halts was) mover_port ask) (same : is ≡ record was { ports = is.ports }) (is_ready : ChunkIsReady is) (of_kind : IsMoverAsk m what ask) where
    abbrev k : ℕ
    k = asked_group b what

    next_is : asks_in (between f.routes) (option_and_then (λ (x : MoverIs). x.asked) f.mover) ≡ Some k
    next_is =
        ap (λ (it : Option Between). asks_in it (option_and_then (λ (x : MoverIs). x.asked) f.mover)) between_is
        ∙ ap (λ (it : Option MoverIs). asks_in (Some b) (option_and_then (λ (x : MoverIs). x.asked) it)) mover_is
        ∙ ap (asks_in (Some b)) awaits

    taken_so : (next : MoveNext) (out : List ℕ) → ((heard : Option Heard) (v : VolumeRun) → v.routes ≡ f.routes → carries v m heard next ≡ record { volume = record v { chunks = put_at v.chunks (Some k) mover_port ask; mover = Some m }; told = Carries m.chunk heard next ∷ [] })
        → HasTakenUp (mover_wants m next) old f out (slice_set old k is) f out
    taken_so next out carried = record {
      ready = ready_put old k was is there ask ready quiet run same is_ready;
      is_fleet = fleet_moving (slice_set old k is) f moving b m at between_is mover_is (hosts_put old k was is there ask ready quiet run same is_ready f hosts)
          (mover_put old k was is there ask ready quiet run same is_ready f.volume.sectors moving b m what refl of_kind chunk pieces going awaits);
      same = record { volume = refl; layout = refl; count = refl; calls = refl };
      ports = are_put old k was is there ask ready quiet run same is_ready;
      unsent = λ j it. unsent_put old k was is there ask ready quiet run same is_ready j (same_Some j k (sym it ∙ next_is));
      told = λ heard. Carries m.chunk heard next ∷ [];
      put = λ heard. sym (append-nil out);
      run = λ halts heard.
          let v : VolumeRun = volume_stands_at halts old f in
          carried heard v refl
          ∙ ap (λ (chunks : List ChunkRun). record { volume = record v { chunks = chunks; mover = Some m }; told = Carries m.chunk heard next ∷ [] }) (run_put old k was is there ask ready quiet run same is_ready halts)
          ∙ ap (λ (mover : Option MoverIs). record { volume = record (volume_stands_at halts (slice_set old k is) f) { mover = mover }; told = Carries m.chunk heard next ∷ [] }) (sym mover_is);
    }

  pub read_taken : (going : m.done < m.pieces) → m.asked ≡ Some Reading → (was is : ChunkIs) → slice_get old b.from ≡ Some was → (span : Span)
      → ((halts : List Halt) → run_of halts is ≡ port_asked (run_of halts was) mover_port (asks.Read m.chunk span)) → is ≡ record was { ports = is.ports } → ChunkIsReady is → span ≡ piece m.done
      → (out : List ℕ) → HasTakenUp (mover_wants m (Read span)) old f out (slice_set old b.from is) f out
  read_taken going awaits was is there span run same is_ready of_piece out =
      taken_so Reading going awaits was is there (asks.Read m.chunk span) run same is_ready (refl, of_piece) (Read span) out
      (λ heard v routes.
      ap (λ (group : Option ℕ). record { volume = record v { chunks = put_at v.chunks group mover_port (asks.Read m.chunk span); mover = Some m }; told = Carries m.chunk heard (Read span) ∷ [] })
      (ap (λ (r : RoutesIs). option_map (λ (x : Between). x.from) (between r)) routes ∙ ap (option_map (λ (x : Between). x.from)) between_is))

  pub write_taken : (going : m.done < m.pieces) → m.asked ≡ Some Writing → (was is : ChunkIs) → slice_get old b.to ≡ Some was → (span : Span) (sectors : List (List ℕ))
      → ((halts : List Halt) → run_of halts is ≡ port_asked (run_of halts was) mover_port (asks.Write m.chunk span sectors)) → is ≡ record was { ports = is.ports } → ChunkIsReady is → span ≡ piece m.done
      → (out : List ℕ) → HasTakenUp (mover_wants m (Write span sectors)) old f out (slice_set old b.to is) f out
  write_taken going awaits was is there span sectors run same is_ready of_piece out =
      taken_so Writing going awaits was is there (asks.Write m.chunk span sectors) run same is_ready (refl, of_piece) (Write span sectors) out
      (λ heard v routes.
      ap (λ (group : Option ℕ). record { volume = record v { chunks = put_at v.chunks group mover_port (asks.Write m.chunk span sectors); mover = Some m }; told = Carries m.chunk heard (Write span sectors) ∷ [] })
      (ap (λ (r : RoutesIs). option_map (λ (x : Between). x.to) (between r)) routes ∙ ap (option_map (λ (x : Between). x.to)) between_is))

-- what a mover asks is valid
pub read_valid : (mover : Option MoverIs) (span : Span) → IsSome mover → IfSome mover (AsksFor (Read span)) → IsWritable span.first span.count
read_valid None span some asks = absurd (false≢true some)
read_valid (Some m) span some asks = asks.0

pub write_valid : (mover : Option MoverIs) (span : Span) (sectors : List (List ℕ)) → IsSome mover → IfSome mover (AsksFor (Write span sectors)) → IsWritable span.first span.count × (length sectors ≡ span.count)
write_valid None span sectors some asks = absurd (false≢true some)
write_valid (Some m) span sectors some asks = (asks.0, asks.1)

-- The groups between which the chunk goes
pub between_these : (r : RoutesIs) (moving : Moving) (route : Route) → r.moving ≡ Some moving → slice_get r.routes moving.chunk ≡ Some route → between r ≡ Some (record { from = route.group; to = moving.to })
between_these r moving route at found =
    ap (λ (it : Option Moving). between_in r.routes it) at
    ∙ ap (λ (it : Option Route). option_map (λ group. record { from = group; to = moving.to }) (option_map (λ (x : Route). x.group) it)) found

-- they are there
module _ (old : List ChunkIs) (f : FleetIs) (hosts : AreHostsOf old f) (moving : Moving) (at : f.routes.moving ≡ Some moving) where
  pub from_there : (route : Route) → slice_get f.routes.routes moving.chunk ≡ Some route → route.group < length old
  from_there route found = (subst (λ (b : Option Between). IfSome b (λ b. (b.from < length old) × (b.from < b.to))) (between_these f.routes moving route at found) hosts.routed.old).0

  pub to_there : moving.to < length old
  to_there = hosts.routed.within moving.chunk moving.to (home_of_moving f.routes moving at)

  pub route_there : (route : Route) × (slice_get f.routes.routes moving.chunk ≡ Some route)
  route_there = something_there f.routes.routes moving.chunk (subst (λ (m : Option Moving). IfSome m (λ m. m.chunk < length f.routes.routes)) at hosts.routed.moving)

-- no ask is in a quiet port
pub none_asked : (chunks : List ChunkIs) → AreQuiet mover_port chunks → (k : ℕ) (c : ChunkIs) → slice_get chunks k ≡ Some c → ask_at_port c.ports mover_port ≡ None
none_asked chunks quiet k c at = by (slice_get c.ports mover_port) refl where
  by : (o : Option PortIs) → slice_get c.ports mover_port ≡ o → option_and_then (λ (p : PortIs). p.ask) o ≡ None
  by None its = refl
  by (Some port) its = quiet k c at port its

module _ (old : List ChunkIs) (f : FleetIs) (moving : Moving) (route : Route) (at : f.routes.moving ≡ Some moving) (found : slice_get f.routes.routes moving.chunk ≡ Some route)
    (hosts : AreHostsOf old f) (ready : AreReady old) (quiet : AreQuiet mover_port old) (chunk : ℕ) (of_chunk : moving.chunk ≡ chunk) (was is : ChunkIs) (same : is ≡ record was { ports = is.ports }) (is_ready : ChunkIsReady is) (out : List ℕ) where
  b_is : between f.routes ≡ Some (record { from = route.group; to = moving.to })
  b_is = between_these f.routes moving route at found

  pub reads_next : (span : Span) → slice_get old route.group ≡ Some was → ((halts : List Halt) → run_of halts is ≡ port_asked (run_of halts was) mover_port (asks.Read chunk span))
      → IfSome f.mover (AsksFor (Read span)) → IfSome f.mover (IsOfPiece (Read span)) → IfSome f.mover (λ m. (m.chunk ≡ chunk) × (8 * m.pieces ≡ f.volume.sectors))
      → IfSome f.mover (λ m. HasTakenUp (mover_wants m (Read span)) old f out (slice_set old route.group is) f out)
  reads_next span there run = by f.mover refl where
    by : (o : Option MoverIs) → f.mover ≡ o → IfSome o (AsksFor (Read span)) → IfSome o (IsOfPiece (Read span)) → IfSome o (λ m. (m.chunk ≡ chunk) × (8 * m.pieces ≡ f.volume.sectors))
        → IfSome o (λ m. HasTakenUp (mover_wants m (Read span)) old f out (slice_set old route.group is) f out)
    by None none a p n = tt
    by (Some m) some a p n = read_taken old f moving (record { from = route.group; to = moving.to }) m at b_is some hosts ready quiet (n.0 ∙ sym of_chunk) n.1 a.1 a.2 was is there span
        (λ halts. run halts ∙ ap (λ k. port_asked (run_of halts was) mover_port (asks.Read k span)) (sym n.0)) same is_ready p out

  pub writes_next : (span : Span) (sectors : List (List ℕ)) → slice_get old moving.to ≡ Some was → ((halts : List Halt) → run_of halts is ≡ port_asked (run_of halts was) mover_port (asks.Write chunk span sectors))
      → IfSome f.mover (AsksFor (Write span sectors)) → IfSome f.mover (IsOfPiece (Write span sectors)) → IfSome f.mover (λ m. (m.chunk ≡ chunk) × (8 * m.pieces ≡ f.volume.sectors))
      → IfSome f.mover (λ m. HasTakenUp (mover_wants m (Write span sectors)) old f out (slice_set old moving.to is) f out)
  writes_next span sectors there run = by f.mover refl where
    by : (o : Option MoverIs) → f.mover ≡ o → IfSome o (AsksFor (Write span sectors)) → IfSome o (IsOfPiece (Write span sectors)) → IfSome o (λ m. (m.chunk ≡ chunk) × (8 * m.pieces ≡ f.volume.sectors))
        → IfSome o (λ m. HasTakenUp (mover_wants m (Write span sectors)) old f out (slice_set old moving.to is) f out)
    by None none a p n = tt
    by (Some m) some a p n = write_taken old f moving (record { from = route.group; to = moving.to }) m at b_is some hosts ready quiet (n.0 ∙ sym of_chunk) n.1 a.2 a.3 was is there span sectors
        (λ halts. run halts ∙ ap (λ k. port_asked (run_of halts was) mover_port (asks.Write k span sectors)) (sym n.0)) same is_ready p out

-- The chunk has moved: the hosts ask where they asked
host_switched : (r : RoutesIs) (groups : ℕ) (chunks : List ChunkIs) (host : HostIs) → AreRouted groups r → IsAnchoredHostOf r chunks host → IsAnchoredHostOf (routes_switched r) chunks host
host_switched r groups chunks host routed is = record {
  volume = is.volume ∙ sym (length_switched r);
  ports = is.ports;
  asking = λ port chunk at.
      let it = is.asking port chunk at in record {
        k = it.k;
        home = home_switched r routed.moving chunk ∙ it.home;
        c = it.c;
        there = it.there;
        its = it.its;
        its_there = it.its_there;
        ask = it.ask;
        pending = it.pending;
        of_chunk = it.of_chunk;
        awaits = it.awaits;
      };
  apart = is.apart;
  quiet = λ k c other. is.quiet k c (λ port chunk at e. other port chunk at (home_switched r routed.moving chunk ∙ e));
}

abbrev pub with_switched : FleetIs → FleetIs
with_switched f = record f { routes = routes_switched f.routes; mover = None }

hosts_switched : (chunks : List ChunkIs) (f : FleetIs) → AreHostsOf chunks f → AreHostsOf chunks (with_switched f)
hosts_switched chunks f is = record {
  volume = is.volume;
  groups = is.groups;
  count = is.count ∙ sym (length_switched f.routes);
  routed = routed_switched (length chunks) f.routes is.routed;
  few = is.few;
  anchors = is.anchors;
  room = is.room;
  each = λ m host at. let it = is.each m host at in record { number = it.number; volume = it.volume; is_host = host_switched f.routes (length chunks) chunks host is.routed it.is_host; calls = it.calls };
  free = is.free;
}

asks_nothing : (b : Option Between) (k : ℕ) → asks_in b None ≡ Some k → ⊥
asks_nothing None k is = none-some k is
asks_nothing (Some b) k is = none-some k is

pub switch_taken : (chunks : List ChunkIs) (f : FleetIs) (m : MoverIs) → AreHostsOf chunks f → AreReady chunks → AreQuiet mover_port chunks → (before after : List ℕ) → after ≡ before ++ event_line (moved_text m.chunk)
    → HasTakenUp (mover_wants m Switch) chunks f before chunks (with_switched f) after
switch_taken chunks f m hosts ready quiet before after put = record {
  ready = ready;
  is_fleet = record {
    are_hosts = hosts_switched chunks f hosts;
    mover = subst (λ (moving : Option Moving). HasMover chunks f.volume.sectors moving (between (routes_switched f.routes)) None) (sym (none_moving f.routes)) (none_has (between (routes_switched f.routes)));
  };
  same = record { volume = refl; layout = refl; count = refl; calls = refl };
  ports = record { count = refl; each = λ k was is at to. subst (IsPut mover_port was) (same_Some was is (sym at ∙ to)) (record { same = refl; others = λ n other. refl }) };
  unsent = λ k it. absurd (asks_nothing (between (routes_switched f.routes)) k it);
  told = λ heard. Carries m.chunk heard Switch ∷ Writes (event_line (moved_text m.chunk)) ∷ [];
  put = λ heard. put ∙ ap (λ text. before ++ text) (sym (append-nil (event_line (moved_text m.chunk))));
  run = λ halts heard. refl;
} where
  none_has : (b : Option Between) → HasMover chunks f.volume.sectors None b None
  none_has None = quiet
  none_has (Some b) = quiet

pub switches_next : (chunks : List ChunkIs) (f : FleetIs) (chunk : ℕ) → AreHostsOf chunks f → AreReady chunks → AreQuiet mover_port chunks → (before after : List ℕ) → after ≡ before ++ event_line (moved_text chunk)
    → IfSome f.mover (λ m. (m.chunk ≡ chunk) × (8 * m.pieces ≡ f.volume.sectors)) → IfSome f.mover (λ m. HasTakenUp (mover_wants m Switch) chunks f before chunks (with_switched f) after)
switches_next chunks f chunk hosts ready quiet before after put = by f.mover where
  by : (o : Option MoverIs) → IfSome o (λ m. (m.chunk ≡ chunk) × (8 * m.pieces ≡ f.volume.sectors)) → IfSome o (λ m. HasTakenUp (mover_wants m Switch) chunks f before chunks (with_switched f) after)
  by None n = tt
  by (Some m) n = switch_taken chunks f m hosts ready quiet before after (put ∙ ap (λ k. before ++ event_line (moved_text k)) (sym n.0))

-- the mover heard, and what it wants was taken up
pub heard_taken : (old new : List ChunkIs) (f g : FleetIs) (m then : MoverIs) (reply : Reply) (next : MoveNext) (before after : List ℕ) → record { next = next; mover = then } ≡ step m (Some reply)
    → HasTakenUp (mover_wants then next) old (record f { mover = Some then }) before new g after → HasTakenUp (on_reply m reply) old f before new g after
heard_taken old new f g m then reply next before after stepped t = record {
  ready = t.ready;
  is_fleet = t.is_fleet;
  same = record { volume = t.same.volume; layout = t.same.layout; count = t.same.count; calls = t.same.calls };
  ports = t.ports;
  unsent = t.unsent;
  told = t.told;
  put = t.put;
  run = λ halts heard. sym (ap (carries_on (volume_stands_at halts old f) heard) stepped) ∙ carried (volume_stands_at halts old f) heard next ∙ t.run halts heard;
} where
  carried : (v : VolumeRun) (heard : Option Heard) (what : MoveNext) → carries v then heard what ≡ carries (record v { mover = Some then }) then heard what
  carried v heard (Read span) = refl
  carried v heard (Write span sectors) = refl
  carried v heard Switch = refl
