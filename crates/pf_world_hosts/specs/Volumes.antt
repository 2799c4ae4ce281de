-- A volume in a run: its groups, its hosts and its mover, and what happens to them.
use Rattle.std.specs.Prelude.{ℕ, ◌/◌, ◌++◌, List, [], ◌∷◌, length, Option, Some, None, slice_get, slice_set}
use Rattle.std.specs.List.{range_with_len}
use Rattle.std.specs.Option.{option_and_then, option_map}
use Rattle.pf_base.specs.declared.asks.Ask.{Ask}
use Rattle.pf_base.specs.declared.asks.Ask.TheVariants as asks
use Rattle.pf_base.specs.declared.asks.Reply.{Reply}
use Rattle.pf_volume.specs.Volumes.{Extent}
use Rattle.pf_move.specs.declared.mover.MoverAsk.{MoverAsk}
use Rattle.pf_move.specs.declared.mover.MoverAsk.TheVariants.{Reading, Writing}
use Rattle.pf_move.specs.declared.mover.MoveNext.{MoveNext}
use Rattle.pf_move.specs.declared.mover.MoveNext.TheVariants.{Read, Write, Switch}
use Rattle.pf_move.specs.Movers.{MoverIs, MoverStep, new_mover, step}
use Rattle.pf_move.specs.Routes.{Between, RoutesIs, between, home_of_chunk, routes_switched}
use Rattle.pf_report.specs.Moves.{moved_text}
use Rattle.pf_report.specs.Texts.{event_line}
use Rattle.pf_tree.specs.Calls.{FileCall}
use Rattle.pf_mount_host.specs.pf_group_rounds.specs.Halts.{Halt}
use Rattle.pf_mount_host.specs.pf_chunk.specs.Happenings.{Happened}
use Rattle.pf_mount_host.specs.pf_chunk.specs.Runs.{ChunkRun, left_by_ports, mover_port, taking_ports}
use Rattle.pf_mount_host.specs.pf_world_moments.specs.Hosts.{Drove, drove, event_count, put_at}
use Rattle.pf_journal.specs.declared.layouts.Layout.{Layout}
use Rattle.pf_journal.specs.declared.layouts.Layout.TheVariants.{Three}
use Rattle.pf_mount_host.specs.Hosts.{HostIs, Stepped, call_begun, made_host, stepped}
use Rattle.pf_mount_host.specs.pf_world_moments.specs.Moments.{Carries, Heard, Moment, Moves, Writes}

-- hosts by the numbers of their mounts: none where one was killed
abbrev pub Hosts : Type 0
Hosts = List (Option HostIs)

abbrev pub there : {Host : Type 0} → Option (Option Host) → Option Host
there None = None
there (Some host) = host

-- the host of mount m, if there is one
abbrev pub host_at : Hosts → (m : ℕ) → Option HostIs
host_at hosts m = there (slice_get hosts m)

-- its groups, in the order in which they were made; where its journal lies, and its hosts; which group serves each chunk; and the mover of the
-- chunk that is moving
pub record VolumeRun : Type 0 where
  pub extent : Extent
  pub chunks : List ChunkRun
  pub layout : Layout
  pub hosts : Hosts
  pub routes : RoutesIs
  pub mover : Option MoverIs

-- a volume afterwards, and what was told
pub record VolumeTold : Type 0 where
  pub volume : VolumeRun
  pub told : List Moment

abbrev pub volume_quietly : VolumeRun → VolumeTold
volume_quietly v = record { volume = v; told = [] }

abbrev pub saying : (text : List ℕ) → VolumeRun → VolumeTold
saying text v = record { volume = v; told = Writes text ∷ [] }

abbrev pub after_telling : List Moment → VolumeTold → VolumeTold
after_telling told t = record t { told = told ++ t.told }

-- and then this
abbrev pub volume_followed : VolumeTold → (VolumeRun → VolumeTold) → VolumeTold
volume_followed t next = after_telling t.told (next t.volume)

-- Steps of hosts

-- host m and the chunks after what it did
abbrev pub with_host : VolumeRun → (m : ℕ) → Stepped → VolumeTold
with_host v m s = record { volume = record v { chunks = s.chunks; hosts = slice_set v.hosts m (Some s.host) }; told = s.told }

abbrev pub host_step_of : List Halt → (m : ℕ) → VolumeRun → Option HostIs → VolumeTold
host_step_of halts m v None = volume_quietly v
host_step_of halts m v (Some host) = with_host v m (stepped halts v.routes v.chunks host)

-- a step of host m, if there is one
abbrev pub host_steps : List Halt → (m : ℕ) → VolumeRun → VolumeTold
host_steps halts m v = host_step_of halts m v (host_at v.hosts m)

abbrev pub these_step : List Halt → (mounts : List ℕ) → VolumeRun → VolumeTold
these_step halts [] v = volume_quietly v
these_step halts (m ∷ mounts) v = volume_followed (host_steps halts m v) (these_step halts mounts)

-- each host takes one step, in the order of their numbers
unfoldable pub hosts_step : List Halt → VolumeRun → VolumeTold
hosts_step halts v = these_step halts (range_with_len 0 (length v.hosts)) v

-- Steps of the mover

-- where it reads the one group, and writes the other
abbrev pub asked_group : Between → MoverAsk → ℕ
asked_group b Reading = b.from
asked_group b Writing = b.to

abbrev pub asks_in : Option Between → Option MoverAsk → Option ℕ
asks_in (Some b) (Some asked) = Some (asked_group b asked)
asks_in b asked = None

-- the group to which the mover's pending ask goes
abbrev pub mover_group : VolumeRun → Option ℕ
mover_group v = asks_in (between v.routes) (option_and_then (λ (m : MoverIs). m.asked) v.mover)

-- an ask of the mover goes into its port into a group
abbrev pub mover_puts : VolumeRun → (group : Option ℕ) → Ask → List ChunkRun
mover_puts v group ask = put_at v.chunks group mover_port ask

-- what comes of what the mover wants done, when it heard this: it asks, or its chunk is served by the new group from here on
abbrev pub carries : VolumeRun → MoverIs → Option Heard → MoveNext → VolumeTold
carries v mover heard (Read span) = record {
  volume = record v { chunks = mover_puts v (option_map (λ (b : Between). b.from) (between v.routes)) (asks.Read mover.chunk span); mover = Some mover };
  told = Carries mover.chunk heard (Read span) ∷ [];
}
carries v mover heard (Write span sectors) = record {
  volume = record v { chunks = mover_puts v (option_map (λ (b : Between). b.to) (between v.routes)) (asks.Write mover.chunk span sectors); mover = Some mover };
  told = Carries mover.chunk heard (Write span sectors) ∷ [];
}
carries v mover heard Switch = record {
  volume = record v { routes = routes_switched v.routes; mover = None };
  told = Carries mover.chunk heard Switch ∷ Writes (event_line (moved_text mover.chunk)) ∷ [];
}

abbrev pub carries_on : VolumeRun → Option Heard → MoverStep → VolumeTold
carries_on v heard s = carries v s.mover heard s.next

abbrev pub mover_hears_in : VolumeRun → Heard → Option MoverIs → VolumeTold
mover_hears_in v heard None = volume_quietly v
mover_hears_in v heard (Some mover) = carries_on v (Some heard) (step mover (Some heard.reply))

-- the mover's pending ask is handed on to this group
abbrev pub mover_hands_to : List Halt → (group : Option ℕ) → VolumeRun → VolumeTold
mover_hands_to halts None v = volume_quietly v
mover_hands_to halts (Some k) v = let d = drove halts v.chunks mover_port k in record { volume = record v { chunks = d.chunks }; told = d.told }

abbrev pub mover_hands : List Halt → VolumeRun → VolumeTold
mover_hands halts v = mover_hands_to halts (mover_group v) v

abbrev pub mover_replied : List Halt → VolumeRun → (k : ℕ) → Drove → Option Reply → VolumeTold
mover_replied halts v k d None = record { volume = record v { chunks = d.chunks }; told = d.told }
mover_replied halts v k d (Some reply) =
    let heard : Heard = record { reply = reply; by = event_count (slice_get d.chunks k) } in
    after_telling d.told (volume_followed (mover_hears_in (record v { chunks = d.chunks }) heard v.mover) (mover_hands halts))

abbrev pub mover_steps_at : List Halt → (group : Option ℕ) → VolumeRun → VolumeTold
mover_steps_at halts None v = volume_quietly v
mover_steps_at halts (Some k) v = let d = drove halts v.chunks mover_port k in mover_replied halts v k d d.reply

-- one step of the mover, if there is one: where its pending ask was answered, it hears the reply and wants the next thing; and then its
-- pending ask goes to the leader of the greatest term, where its port's rule says so
unfoldable pub mover_steps : List Halt → VolumeRun → VolumeTold
mover_steps halts v = mover_steps_at halts (mover_group v) v

-- each host takes its step, and then the mover
abbrev pub all_step : List Halt → VolumeRun → VolumeTold
all_step halts v = volume_followed (hosts_step halts v) (mover_steps halts)

-- A chunk begins to move

-- behind the groups stands a new one, into which the ports of this one go
abbrev pub with_new : List ChunkRun → (home : ℕ) → Option ChunkRun → ChunkRun → List ChunkRun
with_new chunks home None new = chunks
with_new chunks home (Some from) new = slice_set chunks home (left_by_ports from) ++ taking_ports from new ∷ []

-- behind the groups stands a new one for the chunk, which begins to move there
abbrev pub moved_from : VolumeRun → (chunk home : ℕ) → ChunkRun → VolumeRun
moved_from v chunk home new = record v {
  chunks = with_new v.chunks home (slice_get v.chunks home) new;
  routes = record v.routes { moving = Some (record { chunk = chunk; to = length v.chunks }) };
}

abbrev pub moves_from : (chunk : ℕ) → (home : Option ℕ) → ChunkRun → VolumeRun → VolumeTold
moves_from chunk None new v = volume_quietly v
moves_from chunk (Some home) new v =
    after_telling (Moves chunk (length v.chunks) ∷ [])
    (carries_on (moved_from v chunk home new) None (step (new_mover chunk (v.extent.sectors / 8)) None))

-- the chunk begins to move to this new group: its ports go there and wait, and the mover asks to read the first eight sectors. (No chunk, no
-- move)
abbrev pub chunk_moves : (chunk : ℕ) → ChunkRun → VolumeRun → VolumeTold
chunk_moves chunk new v = moves_from chunk (home_of_chunk v.routes chunk) new v

-- Events

abbrev pub with_chunk : VolumeRun → ChunkRun → VolumeRun
with_chunk v c = record v { chunks = slice_set v.chunks c.group.number c }

-- something happened to a group: reads of lines that it answered are told, and then each host takes its step, and the mover
abbrev pub volume_happens : List Halt → VolumeRun → Happened → VolumeTold
volume_happens halts v h = volume_followed (saying h.text (with_chunk v h.chunk)) (all_step halts)

-- Hosts come, begin calls and go

-- one more host, with the next number; it asks in its steps alone
abbrev pub mounts : VolumeRun → VolumeTold
mounts v = volume_quietly (record v { hosts = v.hosts ++ Some (made_host v.layout (length v.hosts) v.extent) ∷ [] })

-- how many mounts were made
abbrev pub mount_count : VolumeRun → ℕ
mount_count v = length v.hosts

-- the journal lies on three anchors from here on
abbrev pub anchors : VolumeRun → VolumeRun
anchors v = record v { layout = Three }

-- a call of host m begins
abbrev pub begins : (m : ℕ) → HostIs → FileCall → VolumeRun → VolumeTold
begins m host call v = with_host v m (call_begun v.chunks host call)

-- host m is no more; what it submitted goes on
abbrev pub killed : (m : ℕ) → VolumeRun → VolumeRun
killed m v = record v { hosts = slice_set v.hosts m None }
