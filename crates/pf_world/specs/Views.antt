-- A world, as contracts see it.
use Rattle.std.specs.Prelude.{◌≡◌, ℕ, ◌+◌, ◌≤◌, min, true, List, length, Option, Some, slice_get}
use Rattle.pf_script.specs.declared.named.NamedVolume.{NamedVolume}
use Rattle.pf_script.specs.Lines.{is_volume}
use Rattle.pf_live_session.specs.pf_group.specs.Making.{setup_with}
use Rattle.pf_live_session.specs.pf_group_rounds.specs.Halts.{Halt}
use Rattle.pf_live_session.specs.pf_chunk.specs.Views.{ChunkIs, ChunkIsReady}
use Rattle.pf_world_hosts.specs.Steps.{FleetIs, IsFleetOf}
use Rattle.pf_world_hosts.specs.Steps as fleets
use Rattle.pf_live_session.specs.pf_live_line.specs.declared.opening.Passes.{Passes}
use Rattle.pf_live_session.specs.Sessions.{Session}
use Rattle.pf_world.specs.declared.kind.Kind.{Kind}
use Rattle.pf_world.specs.Worlds.{World}

-- a volume with its groups, in the order of their numbers, and its hosts; how many `move` lines it was given; the kind of the run; and the
-- passes of its last live line that was not refused
pub record WorldIs : Type 0 where
  pub sectors : ℕ  -- of each chunk
  pub names : ℕ
  pub format : ℕ
  pub chunks : List ChunkIs
  pub fleet : FleetIs
  pub moves : ℕ
  pub kind : Option Kind
  pub passes : Option Passes

-- where a run stands that came to this world, with the sessions that are still to come
abbrev pub world_stands_at : List Halt → List Session → WorldIs → World
world_stands_at halts sessions w = record {
  volume = fleets.volume_stands_at halts w.chunks w.fleet;
  names = w.names;
  format = w.format;
  kind = w.kind;
  sessions = sessions;
}

-- what the next line may name: each `move` line so far made a group or was refused
abbrev pub named_in : WorldIs → NamedVolume
named_in w = record { chunks = w.fleet.volume.chunks; groups = min (w.fleet.volume.chunks + w.moves) 8 }

-- group k between two lines is of this volume
pub record IsChunkOf (w : WorldIs) (k : ℕ) (c : ChunkIs) : Type 0 where
  pub number : c.group.number ≡ k
  pub failed : List ℕ
  pub setup : c.group.setup ≡ setup_with w.sectors w.names w.format failed
  pub ready : ChunkIsReady c

pub record IsWorld (w : WorldIs) : Type 0 where
  pub volume : is_volume w.fleet.volume.chunks w.sectors w.names w.format ≡ true
  pub each : (k : ℕ) (c : ChunkIs) → slice_get w.chunks k ≡ Some c → IsChunkOf w k c
  pub is_fleet : IsFleetOf w.chunks w.fleet
  pub sectors_are : w.fleet.volume.sectors ≡ w.sectors
  pub made : w.fleet.volume.chunks ≤ length w.chunks
  pub few : length w.chunks ≤ (named_in w).groups

-- a world with the disks that no chunk has, in their order
pub record WorldOn (D : Type 0) : Type 0 where
  pub world : WorldIs
  pub spare : List D
