-- A step of a host keeps what is known of the run.
use Rattle.std.proofs.Common.{◌≡◌, ℕ, zero, suc, ◌<◌, ◌≤◌, List, ◌++◌, length, Some, arith, sym, ap, subst, append-nil}
use Rattle.std.proofs.lemmas.List.{append_assoc}
use Rattle.std.proofs.lemmas.Option.{slice_get_within}
use Rattle.pf_volume.specs.Volumes.{IsVolume}
use Rattle.pf_mount.specs.Nexts.{ports_of}
use Rattle.pf_law_runs.specs.pf_world.specs.pf_group_rounds.specs.Halts.{Halt}
use Rattle.pf_law_runs.specs.pf_world.specs.pf_chunk.specs.Runs.{ChunkRun}
use Rattle.pf_law_runs.specs.pf_world.specs.pf_world_moments.specs.Moments.{Moment}
use Rattle.pf_law_runs.specs.pf_world.specs.pf_mount_host.specs.Hosts.{HostIs, Stepped, asks, asks_all, asks_on, host_followed, hands_ask, hears, hears_all, in_turn, stepped}
use Rattle.pf_law_runs.specs.pf_world.specs.pf_world_hosts.specs.Volumes.{VolumeRun, host_at, with_host}
use Rattle.pf_law_runs.specs.pf_law_movers.proofs.ToldRoutes.{AreRoutes}
use Rattle.pf_law_mounts.proofs.HostAsks.{asks_middle}
use Rattle.pf_law_mounts.proofs.HostHands.{hands_middle}
use Rattle.pf_law_mounts.proofs.HostReplies.{hears_middle}
use Rattle.pf_law_mounts.proofs.AnchorClients.{anchors_are}
use Rattle.pf_law_mounts.proofs.Middle.{AreAnswers, AreSpelled, Middle}
use Rattle.pf_law_mounts.proofs.Nexts.{its_host}
use Rattle.pf_law_mounts.proofs.Known.{IsKnown, ports_in}
use Rattle.pf_law_mounts.proofs.Places.{host_there, known_with}

-- What else holds of the groups and the host in the middle of a step, beside what is known there, where each part of the step keeps it
pub record IsKeptBeside (halts : List Halt) (calls : ℕ) (v : VolumeRun) (m : ℕ) (inside : m < length v.hosts) (E : List ChunkRun → HostIs → Type 0) : Type 0 where
  pub hearing : (chunks : List ChunkRun) (host : HostIs) (told : List Moment) (port : ℕ) → port < ports_in v.layout → Middle calls v m inside chunks host told 0 port → E chunks host → let s = hears v.routes port chunks host in E s.chunks s.host
  pub asking : (chunks : List ChunkRun) (host : HostIs) (told : List Moment) (port : ℕ) → port < ports_in v.layout → Middle calls v m inside chunks host told port (ports_in v.layout) → E chunks host → let s = asks v.routes port chunks host in E s.chunks s.host
  pub handing : (chunks : List ChunkRun) (host : HostIs) (told : List Moment) (port : ℕ) → port < ports_in v.layout → Middle calls v m inside chunks host told port (ports_in v.layout) → E chunks host → let s = hands_ask halts v.routes port chunks host in E s.chunks s.host

module _ (laws : AreAnswers) (spelled : AreSpelled) (halts : List Halt) (calls : ℕ) (v : VolumeRun) (volume : IsVolume v.extent) (m : ℕ) (inside : m < length v.hosts) (E : List ChunkRun → HostIs → Type 0) (beside : IsKeptBeside halts calls v m inside E) where
  abbrev Mid : List ChunkRun → HostIs → List Moment → (low high : ℕ) → Type 0
  Mid chunks host told low high = Middle calls v m inside chunks host told low high × E chunks host

  abbrev CameTo : List Moment → Stepped → (low high : ℕ) → Type 0
  CameTo told s low high = Mid s.chunks s.host (told ++ s.told) low high

  follow : (told : List Moment) (s : Stepped) (next : List ChunkRun → HostIs → Stepped) (low high below above : ℕ) → CameTo told s low high
      → ((chunks : List ChunkRun) (host : HostIs) (told : List Moment) → Mid chunks host told low high → CameTo told (next chunks host) below above) → CameTo told (host_followed s next) below above
  follow told s next low high below above is onward =
      let after : Stepped = next s.chunks s.host in subst (λ (all : List Moment). Mid after.chunks after.host all below above) (append_assoc told s.told after.told) (onward s.chunks s.host (told ++ s.told) is)

  abbrev ports : ℕ
  ports = ports_in v.layout

  -- it hears
  hears_at_port : (port : ℕ) → port < ports → (chunks : List ChunkRun) (host : HostIs) (told : List Moment) → Mid chunks host told 0 port → CameTo told (hears v.routes port chunks host) 0 (suc port)
  hears_at_port port low chunks host told mid = (hears_middle calls v m inside laws chunks host told port low mid.0, beside.hearing chunks host told port low mid.0 mid.1)

  hears_turns : (count : ℕ) → count ≤ ports → (chunks : List ChunkRun) (host : HostIs) (told : List Moment) → Mid chunks host told 0 0 → CameTo told (in_turn count (hears v.routes) chunks host) 0 count
  hears_turns zero low chunks host told mid = subst (λ (all : List Moment). Mid chunks host all 0 0) (sym (append-nil told)) mid
  hears_turns (suc port) low chunks host told mid =
      follow told (in_turn port (hears v.routes) chunks host) (hears v.routes port) 0 port 0 (suc port) (hears_turns port (omega (arith, low)) chunks host told mid) (hears_at_port port (omega (arith, low)))

  -- it has so many ports
  as_many : (chunks : List ChunkRun) (host : HostIs) (told : List Moment) (low high : ℕ) → Mid chunks host told low high → ports_of host.mount ≡ ports
  as_many chunks host told low high mid = ap suc (anchors_are v.layout host.mount (its_host calls v m inside chunks host told mid.0.known).laid.lies)

  hears_so : (chunks : List ChunkRun) (host : HostIs) (told : List Moment) → Mid chunks host told 0 0 → CameTo told (hears_all v.routes chunks host) 0 ports
  hears_so chunks host told mid =
      subst (λ count. CameTo told (in_turn count (hears v.routes) chunks host) 0 ports) (sym (as_many chunks host told 0 0 mid)) (hears_turns ports (omega arith) chunks host told mid)

  -- it asks and hands on
  asks_at_port : (port : ℕ) → port < ports → (chunks : List ChunkRun) (host : HostIs) (told : List Moment) → Mid chunks host told port ports → CameTo told (asks_on halts v.routes port chunks host) (suc port) ports
  asks_at_port port low chunks host told mid =
      follow told (asks v.routes port chunks host) (hands_ask halts v.routes port) port ports (suc port) ports
      (asks_middle calls v m inside volume spelled chunks host told port low port ports mid.0, beside.asking chunks host told port low mid.0 mid.1)
      (λ cs h so_far its. (hands_middle calls v m inside halts cs h so_far port low ports low its.0, beside.handing cs h so_far port low its.0 its.1))

  asks_turns : (count : ℕ) → count ≤ ports → (chunks : List ChunkRun) (host : HostIs) (told : List Moment) → Mid chunks host told 0 ports → CameTo told (in_turn count (asks_on halts v.routes) chunks host) count ports
  asks_turns zero low chunks host told mid = subst (λ (all : List Moment). Mid chunks host all 0 ports) (sym (append-nil told)) mid
  asks_turns (suc port) low chunks host told mid =
      follow told (in_turn port (asks_on halts v.routes) chunks host) (asks_on halts v.routes port) port ports (suc port) ports (asks_turns port (omega (arith, low)) chunks host told mid) (asks_at_port port (omega (arith, low)))

  asks_so : (chunks : List ChunkRun) (host : HostIs) (told : List Moment) → Mid chunks host told 0 ports → CameTo told (asks_all halts v.routes chunks host) ports ports
  asks_so chunks host told mid =
      subst (λ count. CameTo told (in_turn count (asks_on halts v.routes) chunks host) ports ports) (sym (as_many chunks host told 0 ports mid)) (asks_turns ports (omega arith) chunks host told mid)

  steps_so : (host : HostIs) (told : List Moment) → Mid v.chunks host told 0 0 → CameTo told (stepped halts v.routes v.chunks host) ports ports
  unfolding stepped
  steps_so host told mid = follow told (hears_all v.routes v.chunks host) (asks_all halts v.routes) 0 ports ports ports (hears_so v.chunks host told mid) asks_so

-- the hosts are what they are, and so it is with what else is kept
pub stepping_beside : {calls : ℕ} (laws : AreAnswers) (spelled : AreSpelled) (halts : List Halt) (v : VolumeRun) (told : List Moment) (m : ℕ) (host : HostIs) → IsVolume v.extent → host_at v.hosts m ≡ Some host → AreRoutes v.extent.chunks (length v.chunks) v.routes told → IsKnown calls v told
    → (E : List ChunkRun → HostIs → Type 0) → ((inside : m < length v.hosts) → IsKeptBeside halts calls v m inside E) → E v.chunks host
    → let s : Stepped = stepped halts v.routes v.chunks host in IsKnown calls (with_host v m s).volume (told ++ (with_host v m s).told) × E s.chunks s.host
stepping_beside {calls} laws spelled halts v told m host volume at routes known E beside holds =
    let place = host_there v.hosts m host at in
    let inside = slice_get_within v.hosts m (Some host) place in
    let so = steps_so laws spelled halts calls v volume m inside E (beside inside) host told (record { known = known_with v m host told place known; routes = routes; silent = λ port chunk k c p low high. absurd (omega (arith, high)) }, holds) in
    (so.0.known, so.1)

pub known_stepping : {calls : ℕ} (laws : AreAnswers) (spelled : AreSpelled) (halts : List Halt) (v : VolumeRun) (told : List Moment) (m : ℕ) (host : HostIs) → IsVolume v.extent → host_at v.hosts m ≡ Some host → AreRoutes v.extent.chunks (length v.chunks) v.routes told → IsKnown calls v told
    → let s : Stepped = stepped halts v.routes v.chunks host in IsKnown calls (with_host v m s).volume (told ++ (with_host v m s).told)
known_stepping laws spelled halts v told m host volume at routes known =
    (stepping_beside laws spelled halts v told m host volume at routes known (λ chunks h. Unit {0}) (λ inside. record { hearing = λ chunks h so_far port low mid is. tt; asking = λ chunks h so_far port low mid is. tt; handing = λ chunks h so_far port low mid is. tt }) tt).0
