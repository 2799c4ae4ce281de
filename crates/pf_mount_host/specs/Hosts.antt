-- A host over a layout: its mount, and its ports into the groups that serve the chunks.
use Rattle.std.specs.Prelude.{ℕ, zero, suc, List, [], ◌∷◌, ◌++◌, length, Option, Some, None, slice_get, slice_set}
use Rattle.std.specs.Option.{option_and_then}
use Rattle.pf_base.specs.declared.asks.Ask.{Ask}
use Rattle.pf_base.specs.declared.asks.Reply.{Reply}
use Rattle.pf_base.specs.Asks.{chunk_of}
use Rattle.pf_tree.specs.Calls.{FileCall}
use Rattle.pf_volume.specs.Volumes.{Extent}
use Rattle.pf_report.specs.Texts.{event_line}
use Rattle.pf_report.specs.Mounts.{ready_text}
use Rattle.pf_world_moments.specs.pf_group_rounds.specs.Halts.{Halt}
use Rattle.pf_world_moments.specs.pf_chunk.specs.Runs.{ChunkRun}
use Rattle.pf_world_moments.specs.pf_chunk.specs.Driving.{Driven, port_heard, led}
use Rattle.pf_move.specs.Routes.{RoutesIs, home_of_chunk, group_serving}
use Rattle.pf_mount.specs.declared.work.MountNext.{MountNext}
use Rattle.pf_mount.specs.declared.work.MountNext.TheVariants.{Ready, Done, Failed}
use Rattle.pf_mount.specs.Mounts.{MountIs, mount_answered, mount_opening, starting}
use Rattle.pf_mount.specs.Nexts.{having_put, next_ask, ports_of}
use Rattle.pf_journal.specs.declared.layouts.Layout.{Layout}
use Rattle.pf_world_moments.specs.Hosts.{pending_call, drove_as, ended_line, put_at}
use Rattle.pf_world_moments.specs.Moments.{Heard, Asks, Answers, Calls, Takes, Moment, Acts, Writes}

pub record HostIs : Type 0 where
  pub mount : MountIs
  pub at : List (Option ℕ)  -- of each of its ports, of which there are at most four, the chunk of the ask that is pending there

abbrev pub mount_number : MountIs → ℕ
mount_number m = m.files.mount

-- the groups of a volume and one of its hosts over a layout, and what is told
pub record Stepped : Type 0 where
  pub chunks : List ChunkRun
  pub host : HostIs
  pub told : List Moment

abbrev pub host_quietly : List ChunkRun → HostIs → Stepped
host_quietly chunks host = record { chunks = chunks; host = host; told = [] }

-- and then this
abbrev pub host_followed : Stepped → (List ChunkRun → HostIs → Stepped) → Stepped
host_followed s next =
    let after = next s.chunks s.host in
    record after { told = s.told ++ after.told }

-- one step for each of so many ports, in the order of their numbers
abbrev pub in_turn : (count : ℕ) → ((port : ℕ) → List ChunkRun → HostIs → Stepped) → List ChunkRun → HostIs → Stepped
in_turn zero step chunks host = host_quietly chunks host
in_turn (suc port) step chunks host = host_followed (in_turn port step chunks host) (step port)

-- Ports

abbrev pub same_chunk : Option ℕ → Option ℕ
same_chunk chunk = chunk

-- the chunk of the ask that is pending at a port
abbrev pub pending_at : HostIs → (port : ℕ) → Option ℕ
pending_at host port = option_and_then same_chunk (slice_get host.at port)

-- the group to which that ask goes: none where nothing is pending there, or its chunk is moving
abbrev pub group_asked_at : RoutesIs → HostIs → (port : ℕ) → Option ℕ
group_asked_at routes host port = option_and_then (group_serving routes) (pending_at host port)

-- Answers

-- what ended by a step of the mount, in which this call was pending, and its line. A mount that has failed tells nothing
abbrev pub call_ended : (mount : ℕ) → Option FileCall → Option MountNext → List Moment
call_ended mount call None = []
call_ended mount call (Some Ready) = Writes (event_line (ready_text mount)) ∷ []
call_ended mount call (Some (Done answer)) = Acts mount (Answers answer) ∷ Writes (ended_line mount call answer) ∷ []
call_ended mount call (Some Failed) = []

-- the mount takes a reply at the port, which is free then
abbrev pub mount_takes : List ChunkRun → HostIs → (port : ℕ) → Heard → Stepped
mount_takes chunks host port heard =
    let o = mount_answered host.mount port heard.reply in record {
      chunks = chunks;
      host = record { mount = o.mount; at = slice_set host.at port None };
      told = Acts (mount_number host.mount) (Takes port heard) ∷ call_ended (mount_number host.mount) (pending_call host.mount.files.pending) o.next;
    }

-- a reply that came when so many events of the group had happened
abbrev pub takes_if : List ChunkRun → HostIs → (port by : ℕ) → Option Reply → Stepped
takes_if chunks host port by None = host_quietly chunks host
takes_if chunks host port by (Some reply) = mount_takes chunks host port (record { reply = reply; by = by })

-- the port of the mount into group k is looked at
abbrev pub hears_as : List ChunkRun → HostIs → (port k : ℕ) → Driven → Stepped
hears_as chunks host port k d = takes_if (slice_set chunks k d.chunk) host port (length d.chunk.group.history) d.reply

abbrev pub hears_of : List ChunkRun → HostIs → (port k : ℕ) → Option ChunkRun → Stepped
hears_of chunks host port k None = host_quietly chunks host
hears_of chunks host port k (Some c) = hears_as chunks host port k (port_heard c (mount_number host.mount))

abbrev pub hears_at : List ChunkRun → HostIs → (port : ℕ) → (group : Option ℕ) → Stepped
hears_at chunks host port None = host_quietly chunks host
hears_at chunks host port (Some k) = hears_of chunks host port k (slice_get chunks k)

-- where the ask that is pending at the port was answered, the mount takes the reply
abbrev pub hears : RoutesIs → (port : ℕ) → List ChunkRun → HostIs → Stepped
hears routes port chunks host = hears_at chunks host port (group_asked_at routes host port)

-- each port in turn
abbrev pub hears_all : RoutesIs → List ChunkRun → HostIs → Stepped
hears_all routes chunks host = in_turn (ports_of host.mount) (hears routes) chunks host

-- Asks

-- an ask goes into the mount's port into the group that has the asks for its chunk
abbrev pub puts : RoutesIs → (port : ℕ) → List ChunkRun → HostIs → Ask → Stepped
puts routes port chunks host ask = record {
  chunks = put_at chunks (home_of_chunk routes (chunk_of ask)) (mount_number host.mount) ask;
  host = record { mount = having_put host.mount port (Some ask); at = slice_set host.at port (Some (chunk_of ask)) };
  told = Acts (mount_number host.mount) (Asks port ask) ∷ [];
}

abbrev pub puts_if : RoutesIs → (port : ℕ) → List ChunkRun → HostIs → Option Ask → Stepped
puts_if routes port chunks host None = host_quietly chunks host
puts_if routes port chunks host (Some ask) = puts routes port chunks host ask

-- what the mount asks at the port goes into its group, unless an ask for the same chunk is pending
abbrev pub asks : RoutesIs → (port : ℕ) → List ChunkRun → HostIs → Stepped
asks routes port chunks host = puts_if routes port chunks host (next_ask host.mount host.at port)

abbrev pub hands_of : List Halt → List ChunkRun → HostIs → (k : ℕ) → Option ChunkRun → Stepped
hands_of halts chunks host k None = host_quietly chunks host
hands_of halts chunks host k (Some c) =
    let d = drove_as chunks (mount_number host.mount) k (led halts c (mount_number host.mount)) in
    record { chunks = d.chunks; host = host; told = d.told }

abbrev pub hands_at : List Halt → List ChunkRun → HostIs → (group : Option ℕ) → Stepped
hands_at halts chunks host None = host_quietly chunks host
hands_at halts chunks host (Some k) = hands_of halts chunks host k (slice_get chunks k)

-- the ask that is pending at the port goes to the leader of the greatest term, where the port's rule says so
abbrev pub hands_ask : List Halt → RoutesIs → (port : ℕ) → List ChunkRun → HostIs → Stepped
hands_ask halts routes port chunks host = hands_at halts chunks host (group_asked_at routes host port)

abbrev pub asks_on : List Halt → RoutesIs → (port : ℕ) → List ChunkRun → HostIs → Stepped
asks_on halts routes port chunks host = host_followed (asks routes port chunks host) (hands_ask halts routes port)

-- each port in turn
abbrev pub asks_all : List Halt → RoutesIs → List ChunkRun → HostIs → Stepped
asks_all halts routes chunks host = in_turn (ports_of host.mount) (asks_on halts routes) chunks host

-- One step of a host over a layout: the mount takes what its ports were answered, each port in turn; and then each port has what the mount asks
-- there next, and hands it on. An ask for a chunk that is moving waits
unfoldable pub stepped : List Halt → RoutesIs → List ChunkRun → HostIs → Stepped
stepped halts routes chunks host = host_followed (hears_all routes chunks host) (asks_all halts routes)

-- Mounts come, and calls begin

abbrev pub no_asks : List (Option ℕ)
no_asks = None ∷ None ∷ None ∷ None ∷ []

-- the host of a new mount; it asks in its steps alone
abbrev pub made_host : Layout → (number : ℕ) → Extent → HostIs
made_host layout number volume = record { mount = mount_opening layout number volume; at = no_asks }

-- a call begins, and perhaps ends
abbrev pub call_begun : List ChunkRun → HostIs → FileCall → Stepped
call_begun chunks host call =
    let o = starting host.mount call in record {
      chunks = chunks;
      host = record host { mount = o.mount };
      told = Acts (mount_number host.mount) (Calls call) ∷ call_ended (mount_number host.mount) (Some call) o.next;
    }
