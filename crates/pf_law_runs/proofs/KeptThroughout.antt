-- What is kept by the steps of ports and of the mover, and where a chunk begins to move, holds of the run of every script.
use Rattle.std.proofs.Common.{◌≡◌, ◌≢◌, ℕ, ◌<◌, nat_le, false, inl, inr, List, [], ◌∷◌, ◌++◌, length, Option, Some, None, slice_get, slice_set, arith, refl, sym, ap, subst}
use Rattle.std.specs.Option.{is_some}
use Rattle.std.proofs.lemmas.Bool.{leb-false}
use Rattle.std.proofs.lemmas.Option.{none-some, same_Some}
use Rattle.pf_entry.proofs.Lists.{set_cases}
use Rattle.pf_protocol.specs.declared.events.Event.TheVariants.{Submit}
use Rattle.pf_law_movers.specs.pf_group_network.proofs.Lists.{end_cases}
use Rattle.pf_volume.specs.Volumes.{Extent}
use Rattle.pf_move.specs.Movers.{MoverIs}
use Rattle.pf_move.specs.Routes.{RoutesIs}
use Rattle.pf_world.specs.pf_group_rounds.specs.Halts.{Halt}
use Rattle.pf_world.specs.pf_chunk.specs.Asking.{fetched}
use Rattle.pf_world.specs.pf_chunk.specs.Happenings.{happened}
use Rattle.pf_world.specs.pf_chunk.specs.Lending.{all_happened}
use Rattle.pf_world.specs.pf_chunk.specs.Runs.{ChunkRun, mover_port}
use Rattle.pf_world.specs.pf_world_moments.specs.Moments.{Moment, Writes}
use Rattle.pf_world.specs.pf_mount_host.specs.Hosts.{HostIs, Stepped, call_begun, made_host, mount_number, stepped}
use Rattle.pf_world.specs.pf_world_hosts.specs.Volumes.{Hosts, VolumeRun, host_at, mover_steps, chunk_moves, there, with_chunk}
use Rattle.pf_world.specs.Worlds.{volume_made}
use Rattle.pf_world.specs.Reports.{world_run}
use Rattle.pf_world.specs.declared.kind.Kind.{Kind}
use Rattle.pf_world.specs.declared.kind.Kind.TheVariants.{Mounted, Raw}
use Rattle.pf_world.specs.pf_live_session.specs.Sessions.{Session}
use Rattle.pf_world.specs.declared.line.Line.{Line}
use Rattle.pf_law_runs.specs.Scripts.{IsScript}
use Rattle.pf_law_movers.proofs.HistoryGrowth.{Grows, all_grow, all_ports, fetched_grows, happened_grows}
use Rattle.pf_law_runs.proofs.MoverStepParts.{HasSameHosts, mover_same, moves_same}
use Rattle.pf_law_runs.proofs.KeptByPorts.{IsKeptByPorts, all_said, begun_kept, stepped_kept}
use Rattle.pf_law_movers.proofs.Ports.{fetched_ports, happened_ports}
use Rattle.pf_law_runs.proofs.ScriptRuns.{IsKeptThrough, new_group, running_through}
use Rattle.pf_law_movers.proofs.WriteEvents.{AddsNoWrite, fetched_adds, happened_adds}

-- a property of a volume's extent, routes, mover and groups, and of what was told, of this volume
abbrev pub HoldsOf : (P : Extent → RoutesIs → Option MoverIs → List ChunkRun → List Moment → Type 0) → VolumeRun → List Moment → Type 0
HoldsOf P v told = P v.extent v.routes v.mover v.chunks told

-- it is kept where the kind of the run is decided, by the steps of ports, by those of the mover, and where a chunk begins to move
pub record IsKeptByParts (halts : List Halt) (P : Option Kind → Extent → RoutesIs → Option MoverIs → List ChunkRun → List Moment → Type 0) : Type 0 where
  pub deciding : (kind : Kind) (e : Extent) (r : RoutesIs) (mover : Option MoverIs) (chunks : List ChunkRun) (told : List Moment) → P None e r mover chunks told → P (Some kind) e r mover chunks told
  pub ports : (kind : Option Kind) (e : Extent) (r : RoutesIs) (mover : Option MoverIs) → IsKeptByPorts kind (P kind e r mover)
  pub carrying : (kind : Option Kind) (v : VolumeRun) (told : List Moment) → HoldsOf (P kind) v told → HoldsOf (P kind) (mover_steps halts v).volume (told ++ (mover_steps halts v).told)
  pub moving : (v : VolumeRun) (told : List Moment) (names format chunk : ℕ) → is_some v.routes.moving ≡ false → HoldsOf (P (Some Mounted)) v told
      → HoldsOf (P (Some Mounted)) (chunk_moves chunk (new_group halts v names format) v).volume (told ++ (chunk_moves chunk (new_group halts v names format) v).told)

-- Hosts whose ports are none of the mover's

fewer : (n : ℕ) → nat_le 16 n ≡ false → n < mover_port
fewer n few = omega (arith, leb-false 16 n few)

some_there : (o : Option (Option HostIs)) (host : HostIs) → there o ≡ Some host → o ≡ Some (Some host)
some_there None host is = absurd (none-some host is)
some_there (Some o) host is = ap (λ x. Some x) is

abbrev pub of_host : HostIs → ℕ
of_host host = mount_number host.mount

abbrev pub IsLow : HostIs → Type 0
IsLow host = of_host host < mover_port

abbrev pub AreEachHost : (HostIs → Type 0) → Hosts → Type 0
AreEachHost P hosts = (m : ℕ) (host : HostIs) → host_at hosts m ≡ Some host → P host

abbrev pub AreLow : Hosts → Type 0
AreLow hosts = AreEachHost IsLow hosts

-- what holds of each host
module _ (P : HostIs → Type 0) where
  pub no_hosts : AreEachHost P []
  no_hosts m host at = absurd (none-some host at)

  pub set_host : (hosts : Hosts) (m : ℕ) (its : HostIs) → AreEachHost P hosts → P its → AreEachHost P (slice_set hosts m (Some its))
  set_host hosts m its are new n host at = elim (set_cases hosts m (Some its) n (Some host) (some_there (slice_get (slice_set hosts m (Some its)) n) host at)) [
    | inl here ↦ subst P (same_Some its host here.1) new
    | inr away ↦ are n host (ap there away.1)
  ]

  pub gone_host : (hosts : Hosts) (m : ℕ) → AreEachHost P hosts → AreEachHost P (slice_set hosts m None)
  gone_host hosts m are n host at = elim (set_cases hosts m None n (Some host) (some_there (slice_get (slice_set hosts m None) n) host at)) [
    | inl here ↦ absurd (none-some host here.1)
    | inr away ↦ are n host (ap there away.1)
  ]

  pub more_host : (hosts : Hosts) (its : HostIs) → AreEachHost P hosts → P its → AreEachHost P (hosts ++ Some its ∷ [])
  more_host hosts its are new n host at = elim (end_cases hosts (Some its) n (Some host) (some_there (slice_get (hosts ++ Some its ∷ []) n) host at)) [
    | inl before ↦ are n host (ap there before)
    | inr last ↦ subst P (same_Some its host last.1) new
  ]

-- the property holds, and the ports of hosts are none of the mover's
pub record IsThrough (P : Option Kind → Extent → RoutesIs → Option MoverIs → List ChunkRun → List Moment → Type 0) (kind : Option Kind) (v : VolumeRun) (told : List Moment) : Type 0 where
  pub holds : HoldsOf (P kind) v told
  pub low : AreLow v.hosts

module _ (halts : List Halt) (P : Option Kind → Extent → RoutesIs → Option MoverIs → List ChunkRun → List Moment → Type 0) (parts : IsKeptByParts halts P) where
  abbrev pub Through : Option Kind → VolumeRun → List Moment → Type 0
  Through kind v told = IsThrough P kind v told

  abbrev ports_of : (kind : Option Kind) (v : VolumeRun) → IsKeptByPorts kind (P kind v.extent v.routes v.mover)
  ports_of kind v = parts.ports kind v.extent v.routes v.mover

  -- something happened to a group
  with_group : (kind : Option Kind) (v : VolumeRun) (told : List Moment) (k : ℕ) (c d : ChunkRun) → slice_get v.chunks k ≡ Some c → d.ports ≡ c.ports → Grows c.group d.group → (kind ≢ Some Raw → AddsNoWrite c.group.history d.group.history)
      → IsThrough P kind v told → IsThrough P kind (with_chunk v d) told
  with_group kind v told k c d at ports grows adds is = record { holds = (ports_of kind v).growing v.chunks told k c d at ports grows adds is.holds; low = is.low }

  -- the hosts are the same
  same_hosts : (kind : Option Kind) (v w : VolumeRun) (told all : List Moment) → HasSameHosts v w → HoldsOf (P kind) w all → IsThrough P kind v told → IsThrough P kind w all
  same_hosts kind v w told all same holds is = record { holds = holds; low = subst AreLow (sym same.1) is.low }

  pub kept : IsKeptThrough halts Through
  kept = record {
    deciding = λ kind v told is. record { holds = parts.deciding kind v.extent v.routes v.mover v.chunks told is.holds; low = is.low };
    writing = λ kind v told text is. record { holds = (ports_of kind v).telling v.chunks told (Writes text) tt is.holds; low = is.low };
    happening = λ kind v told k c event at never is. with_group kind v told k c (happened halts c event).chunk at (happened_ports halts c event) (happened_grows halts c event) (λ own. happened_adds halts c event never) is;
    submitting = λ v told k c server op at is.
        with_group (Some Raw) v told k c (happened halts c (Submit server op)).chunk at (happened_ports halts c (Submit server op)) (happened_grows halts c (Submit server op)) (λ own. absurd (own refl)) is;
    threading = λ v told k c its at is. with_group (Some Raw) v told k c (all_happened halts its c).chunk at (all_ports halts c its) (all_grow halts c its) (λ own. absurd (own refl)) is;
    reading = λ kind v told k c server range at is.
        with_group kind v told k c (fetched halts server range c).chunk at (fetched_ports halts server range c) (fetched_grows halts c server range) (λ own. fetched_adds halts c server range) is;
    stepping = λ kind v told m host at is.
        let s : Stepped = stepped halts v.routes v.chunks host in
        let so = stepped_kept kind (P kind v.extent v.routes v.mover) (ports_of kind v) v.routes halts v.chunks told host (is.low m host at) is.holds in
        record { holds = so.0; low = set_host IsLow v.hosts m s.host is.low so.1 };
    carrying = λ kind v told is. same_hosts kind v (mover_steps halts v).volume told (told ++ (mover_steps halts v).told) (mover_same halts v) (parts.carrying kind v told is.holds) is;
    moving = λ v told names format chunk free few is.
        let t = chunk_moves chunk (new_group halts v names format) v in
        same_hosts (Some Mounted) v t.volume told (told ++ t.told) (moves_same chunk (new_group halts v names format) v) (parts.moving v told names format chunk free is.holds) is;
    mounting = λ v told large few is.
        let its : HostIs = made_host v.layout (length v.hosts) v.extent in record {
          holds = all_said (Some Mounted) (P (Some Mounted) v.extent v.routes v.mover) (ports_of (Some Mounted) v) v.chunks told [] tt is.holds;
          low = more_host IsLow v.hosts its is.low (fewer (length v.hosts) few);
        };
    beginning = λ kind v told m host words call at rest said is.
        let s : Stepped = call_begun v.chunks host call in
        let so = begun_kept kind (P kind v.extent v.routes v.mover) (ports_of kind v) v.chunks told host call (is.low m host at) is.holds in
        record { holds = so.0; low = set_host IsLow v.hosts m s.host is.low so.1 };
    killing = λ kind v told m host at is. record { holds = is.holds; low = gone_host IsLow v.hosts m is.low };
    anchoring = λ kind v told plain none room is. record { holds = is.holds; low = is.low };
  }

  -- it holds after each script, where it holds of a new volume
  pub throughout : ((sessions : List Session) (chunks sectors names format : ℕ) → HoldsOf (P None) (volume_made halts sessions chunks sectors names format).volume []) → (sessions : List Session) (lines : List Line) → IsScript lines
      → HoldsOf (P (world_run halts sessions lines).world.kind) (world_run halts sessions lines).world.volume (world_run halts sessions lines).told
  throughout new sessions lines script =
      (running_through halts Through kept (λ its chunks sectors names format. record {
        holds = new its chunks sectors names format;
        low = no_hosts IsLow;
      }) sessions lines script).holds
