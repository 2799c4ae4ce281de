-- The hosts of a volume stay those of its groups.
use Rattle.std.proofs.Common.{◌≡◌, ◌≢◌, ℕ, ◌<◌, ◌≤◌, List, length, Option, Some, None, slice_get, slice_set, inl, inr, refl, sym, ap, subst, ◌∙◌, arith}
use Rattle.std.proofs.lemmas.Bool.{cases_eq}
use Rattle.std.proofs.lemmas.Option.{same_Some, slice_get_within}
use Rattle.pf_mount_host.specs.pf_group_network.proofs.Lists.{set_length}
use Rattle.pf_volume.specs.Volumes.{Extent, IsVolume}
use Rattle.pf_move.specs.declared.mover.MoverAsk.{MoverAsk}
use Rattle.pf_move.specs.declared.routes.Moving.{Moving}
use Rattle.pf_move.specs.Movers.{MoverIs}
use Rattle.pf_move.specs.Routes.{AreRouted, Between, RoutesIs, between}
use Rattle.pf_mount_host.specs.pf_chunk.specs.Runs.{mover_port}
use Rattle.pf_mount_host.specs.pf_chunk.specs.Views.{ChunkIs}
use Rattle.pf_mount_host.specs.pf_world_moments.specs.Parts.{AreQuiet}
use Rattle.pf_mount_host.specs.pf_world_moments.specs.Steps.{HaveGone}
use Rattle.pf_journal.specs.declared.layouts.Layout.{Layout}
use Rattle.pf_journal.specs.Layouts.{HasAnchors, VolumeHasRoom}
use Rattle.pf_mount_host.specs.Hosts.{HostIs, mount_number}
use Rattle.pf_mount_host.specs.Steps.{IsAnchoredHostOf, IsAskingAt}
use Rattle.pf_world_hosts.specs.Steps.{AreHostsOf, AwaitsAt, FleetIs, HasMover, IsFleetOf, IsHostAt}
use Rattle.pf_world_hosts.specs.Volumes.{Hosts, asked_group, host_at}
use Rattle.pf_world_hosts.proofs.HostPlaces.{host_put, others_put, place_is_low, place_there}
use Rattle.pf_world_hosts.proofs.Ports.{HasPorts, after, before, gone_ports, one_ports, quiet_stays, same_ports}

module _ (n : ℕ) (old new : List ChunkIs) (stay : HasPorts n old new) where
  module _ (routes : RoutesIs) (host : HostIs) (number : mount_number host.mount ≡ n) where
    port_stays : (k : ℕ) (was is : ChunkIs) → slice_get old k ≡ Some was → slice_get new k ≡ Some is → slice_get is.ports (mount_number host.mount) ≡ slice_get was.ports (mount_number host.mount)
    port_stays k was is at to = subst (λ m. slice_get is.ports m ≡ slice_get was.ports m) (sym number) (stay.each k was is at to)

    asking_stays : (port chunk : ℕ) → IsAskingAt routes old host.mount port chunk → IsAskingAt routes new host.mount port chunk
    asking_stays port chunk at =
        let is = after n old new stay at.k at.c at.there in record {
          k = at.k;
          home = at.home;
          c = is.0;
          there = is.1;
          its = at.its;
          its_there = port_stays at.k at.c is.0 at.there is.1 ∙ at.its_there;
          ask = at.ask;
          pending = at.pending;
          of_chunk = at.of_chunk;
          awaits = at.awaits;
        }

    pub host_stays : IsAnchoredHostOf routes old host → IsAnchoredHostOf routes new host
    host_stays is = record {
      volume = is.volume;
      ports = is.ports;
      asking = λ port chunk at. asking_stays port chunk (is.asking port chunk at);
      apart = is.apart;
      quiet = λ k c other at port its.
          let was = before n old new stay k c at in
          is.quiet k was.0 other was.1 port (sym (port_stays k was.0 c was.1 at) ∙ its);
    }

  awaits_stay : n ≡ mover_port → (mover : MoverIs) (asked : MoverAsk) (k : ℕ) → AwaitsAt old mover asked k → AwaitsAt new mover asked k
  awaits_stay number mover asked k at =
      let was = at.pends in
      let is = after n old new stay k was.chunk was.there in record {
        pends = record {
          chunk = is.0;
          there = is.1;
          port = was.port;
          its = subst (λ m. slice_get is.0.ports m ≡ slice_get was.chunk.ports m) number (stay.each k was.chunk is.0 was.there is.1) ∙ was.its;
          ask = was.ask;
          pending = was.pending;
        };
        of_kind = at.of_kind;
      }

-- a mover whose ports are as they were
pub mover_stays : (old new : List ChunkIs) → HasPorts mover_port old new → (sectors : ℕ) (moving : Option Moving) (b : Option Between) (mover : Option MoverIs) → HasMover old sectors moving b mover → HasMover new sectors moving b mover
mover_stays old new stay sectors (Some moving) (Some b) (Some mover) is = record {
  chunk = is.chunk;
  pieces = is.pieces;
  going = is.going;
  asked = is.asked;
  asks = is.asks;
  awaits = awaits_stay mover_port old new stay refl mover is.asked (asked_group b is.asked) is.awaits;
  quiet = λ k c other at port its.
      let was = before mover_port old new stay k c at in
      is.quiet k was.0 other was.1 port (sym (stay.each k was.0 c was.1 at) ∙ its);
}
mover_stays old new stay sectors (Some moving) (Some b) None is = absurd is
mover_stays old new stay sectors (Some moving) None (Some mover) is = absurd is
mover_stays old new stay sectors (Some moving) None None is = absurd is
mover_stays old new stay sectors None (Some b) (Some mover) is = absurd is
mover_stays old new stay sectors None (Some b) None quiet = quiet_stays mover_port old new stay quiet
mover_stays old new stay sectors None None (Some mover) is = absurd is
mover_stays old new stay sectors None None None quiet = quiet_stays mover_port old new stay quiet

-- a host whose ports are as they were
pub at_stays : (old new : List ChunkIs) (f g : FleetIs) (m : ℕ) (host : HostIs) → HasPorts m old new → g.volume ≡ f.volume → g.routes ≡ f.routes → f.calls ≤ g.calls → IsHostAt old f m host → IsHostAt new g m host
at_stays old new f g m host stay volume routes calls is = record {
  number = is.number;
  volume = is.volume ∙ sym volume;
  is_host = subst (λ (r : RoutesIs). IsAnchoredHostOf r new host) (sym routes) (host_stays m old new stay f.routes host is.number is.is_host);
  calls = omega (arith, is.calls, calls);
}

-- room for the same layout in the same volume
room_same : (l k : Layout) (v w : Extent) → k ≡ l → w ≡ v → VolumeHasRoom l v → VolumeHasRoom k w
room_same l k v w layout volume room = subst (λ (x : Extent). VolumeHasRoom k x) (sym volume) (subst (λ (x : Layout). VolumeHasRoom x v) (sym layout) room)

-- the same hosts, where all ports of theirs are as they were
pub hosts_stay : (old new : List ChunkIs) (f g : FleetIs) → length new ≡ length old → ((n : ℕ) → n < mover_port → HasPorts n old new) → (g.hosts ≡ f.hosts) × (g.layout ≡ f.layout) × (g.calls ≡ f.calls) × (g.volume ≡ f.volume) × (g.routes ≡ f.routes) → AreHostsOf old f → AreHostsOf new g
hosts_stay old new f g count stay (hosts, layout, calls, volume, routes) is = record {
  volume = subst IsVolume (sym volume) is.volume;
  groups = subst (λ n. n ≤ 8) (sym count) is.groups;
  count = ap (λ (v : Extent). v.chunks) volume ∙ is.count ∙ ap (λ (r : RoutesIs). length r.routes) (sym routes);
  routed = subst (AreRouted (length new)) (sym routes) (subst (λ n. AreRouted n f.routes) (sym count) is.routed);
  few = subst (λ (hs : Hosts). length hs ≤ 16) (sym hosts) is.few;
  anchors = λ three. subst HasAnchors (sym volume) (is.anchors (sym layout ∙ three));
  room = λ some. room_same f.layout g.layout f.volume g.volume layout volume (is.room (λ none. some (ap (λ (hs : Hosts). length hs) hosts ∙ none)));
  each = λ m host at.
      let at_old : host_at f.hosts m ≡ Some host = ap (λ (hs : Hosts). host_at hs m) (sym hosts) ∙ at in
      at_stays old new f g m host (stay m (place_is_low f.hosts m host at_old is.few)) volume routes (omega (arith, calls)) (is.each m host at_old);
  free = λ m high low. quiet_stays m old new (stay m low) (is.free m (subst (λ (hs : Hosts). length hs ≤ m) hosts high) low);
}

-- they know nothing of the mover
pub hosts_of : (chunks : List ChunkIs) (f : FleetIs) (mover : Option MoverIs) → AreHostsOf chunks f → AreHostsOf chunks (record f { mover = mover })
hosts_of chunks f mover is = hosts_stay chunks chunks f (record f { mover = mover }) refl (λ n low. same_ports n chunks) (refl, refl, refl, refl, refl) is

pub fleet_stays : (old new : List ChunkIs) (f : FleetIs) → length new ≡ length old → ((n : ℕ) → HasPorts n old new) → IsFleetOf old f → IsFleetOf new f
fleet_stays old new f count stay is = record {
  are_hosts = hosts_stay old new f f count (λ n low. stay n) (refl, refl, refl, refl, refl) is.are_hosts;
  mover = mover_stays old new (stay mover_port) f.volume.sectors f.routes.moving (between f.routes) f.mover is.mover;
}

-- An event of one chunk
pub fleet_after_event : (k : ℕ) (old : List ChunkIs) (was is : ChunkIs) (f : FleetIs) → slice_get old k ≡ Some was → is.ports ≡ was.ports → IsFleetOf old f → IsFleetOf (slice_set old k is) f
fleet_after_event k old was is f at ports = fleet_stays old (slice_set old k is) f (set_length old k is) (λ n. one_ports n k old was is at ports)

-- the same mover, where its ports are as they were
mover_keeps : (old new : List ChunkIs) (f g : FleetIs) → HasPorts mover_port old new → g.volume ≡ f.volume → (g.routes ≡ f.routes) × (g.mover ≡ f.mover) → IsFleetOf old f → HasMover new g.volume.sectors g.routes.moving (between g.routes) g.mover
mover_keeps old new f g stay volume (routes, mover) is =
    let stays = mover_stays old new stay f.volume.sectors f.routes.moving (between f.routes) f.mover is.mover in
    subst (λ (v : Extent). HasMover new v.sectors g.routes.moving (between g.routes) g.mover) (sym volume)
    (subst (λ (r : RoutesIs). HasMover new f.volume.sectors r.moving (between r) g.mover) (sym routes)
    (subst (λ (it : Option MoverIs). HasMover new f.volume.sectors f.routes.moving (between f.routes) it) (sym mover) stays))

-- Hosts that differ at mount m alone, whose ports alone may be others
pub record DifferAt (m : ℕ) (old new : List ChunkIs) (f g : FleetIs) : Type 0 where
  pub count : length new ≡ length old
  pub stay : (n : ℕ) → n ≢ m → HasPorts n old new
  pub mover_stay : HasPorts mover_port old new
  pub volume : g.volume ≡ f.volume
  pub layout : g.layout ≡ f.layout
  pub routes : (g.routes ≡ f.routes) × (g.mover ≡ f.mover)
  pub calls : f.calls ≤ g.calls
  pub few : length g.hosts ≤ 16
  pub room : length g.hosts ≢ 0 → VolumeHasRoom f.layout f.volume
  pub others : (n : ℕ) → n ≢ m → host_at g.hosts n ≡ host_at f.hosts n
  pub past : (n : ℕ) → n ≢ m → length g.hosts ≤ n → length f.hosts ≤ n
  pub its : (host : HostIs) → host_at g.hosts m ≡ Some host → IsHostAt new g m host
  pub quiet : length g.hosts ≤ m → m < mover_port → AreQuiet m new

module _ (m : ℕ) (old new : List ChunkIs) (f g : FleetIs) (d : DifferAt m old new f g) where
  hosts_keep : AreHostsOf old f → AreHostsOf new g
  hosts_keep is = record {
    volume = subst IsVolume (sym d.volume) is.volume;
    groups = subst (λ n. n ≤ 8) (sym d.count) is.groups;
    count = ap (λ (v : Extent). v.chunks) d.volume ∙ is.count ∙ ap (λ (r : RoutesIs). length r.routes) (sym d.routes.0);
    routed = subst (AreRouted (length new)) (sym d.routes.0) (subst (λ n. AreRouted n f.routes) (sym d.count) is.routed);
    few = d.few;
    anchors = λ three. subst HasAnchors (sym d.volume) (is.anchors (sym d.layout ∙ three));
    room = λ some. room_same f.layout g.layout f.volume g.volume d.layout d.volume (d.room some);
    each = each;
    free = free;
  } where
    each : (n : ℕ) (host : HostIs) → host_at g.hosts n ≡ Some host → IsHostAt new g n host
    each n host at = elim (cases_eq n m) [
      | inl same ↦ subst (λ k. IsHostAt new g k host) (sym same) (d.its host (subst (λ k. host_at g.hosts k ≡ Some host) same at))
      | inr other ↦ at_stays old new f g n host (d.stay n other) d.volume d.routes.0 d.calls (is.each n host (sym (d.others n other) ∙ at))
    ]

    free : (n : ℕ) → length g.hosts ≤ n → n < mover_port → AreQuiet n new
    free n high low = elim (cases_eq n m) [
      | inl same ↦ subst (λ k. AreQuiet k new) (sym same) (d.quiet (subst (λ k. length g.hosts ≤ k) same high) (subst (λ k. k < mover_port) same low))
      | inr other ↦ quiet_stays n old new (d.stay n other) (is.free n (d.past n other high) low)
    ]

  pub fleet_keeps : IsFleetOf old f → IsFleetOf new g
  fleet_keeps is = record { are_hosts = hosts_keep is.are_hosts; mover = mover_keeps old new f g d.mover_stay d.volume d.routes is }

-- a host goes on, and so do the chunks
pub fleet_with_host : (m : ℕ) (old new : List ChunkIs) (f : FleetIs) (host next : HostIs) (calls : ℕ) → IsFleetOf old f → host_at f.hosts m ≡ Some host → HaveGone m old new → IsAnchoredHostOf f.routes new next
    → mount_number next.mount ≡ m → next.mount.files.volume ≡ f.volume → next.mount.files.calls ≤ calls → f.calls ≤ calls
    → IsFleetOf new (record f { hosts = slice_set f.hosts m (Some next); calls = calls })
fleet_with_host m old new f host next calls is at gone is_host number volume few more =
    let g : FleetIs = record f { hosts = slice_set f.hosts m (Some next); calls = calls } in
    let length_is : length g.hosts ≡ length f.hosts = set_length f.hosts m (Some next) in
    let low : m < length f.hosts = slice_get_within f.hosts m (Some host) (place_there f.hosts m host at) in
    fleet_keeps m old new f g (record {
      count = gone.count;
      stay = λ n other. gone_ports m n old new gone other;
      mover_stay = gone_ports m mover_port old new gone (λ e. let under = place_is_low f.hosts m host at is.are_hosts.few in absurd (omega (arith, e, under)));
      volume = refl;
      layout = refl;
      routes = (refl, refl);
      calls = more;
      few = subst (λ n. n ≤ 16) (sym length_is) is.are_hosts.few;
      room = λ some. is.are_hosts.room (λ none. some (length_is ∙ none));
      others = λ n other. others_put f.hosts m n (Some next) other;
      past = λ n other high. subst (λ c. c ≤ n) length_is high;
      its = λ x at_x. subst (λ (h : HostIs). IsHostAt new g m h) (same_Some next x (sym (host_put f.hosts m host next at) ∙ at_x))
          (record { number = number; volume = volume; is_host = is_host; calls = few });
      quiet = λ high under. absurd (omega (arith, high, length_is, low));
    }) is
