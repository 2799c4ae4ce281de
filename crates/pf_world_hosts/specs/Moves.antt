-- How a chunk begins to move, and what a mover hears and wants done.
use Rattle.std.specs.Prelude.{◌≡◌, ℕ, suc, [], ◌++◌, List, length, Option, Some, None, slice_get}
use Rattle.std.specs.Option.{option_and_then}
use Rattle.pf_asks.specs.Ports.{PortIs}
use Rattle.pf_base.specs.declared.asks.Reply.{Reply}
use Rattle.pf_mount_host.specs.pf_group_rounds.specs.Halts.{Halt}
use Rattle.pf_mount_host.specs.pf_chunk.specs.Runs.{mover_port}
use Rattle.pf_mount_host.specs.pf_chunk.specs.Views.{ChunkIs, run_of}
use Rattle.pf_mount_host.specs.pf_world_moments.specs.Moments.{Heard, Moment, moments_text}
use Rattle.pf_mount_host.specs.pf_world_moments.specs.Parts.{ArePut}
use Rattle.pf_mount_host.specs.pf_world_moments.specs.Steps.{AreReady, TellsAll}
use Rattle.pf_move.specs.declared.mover.MoveNext.{MoveNext}
use Rattle.pf_move.specs.declared.mover.MoveNext.TheVariants.{Read, Write, Switch}
use Rattle.pf_move.specs.Movers.{MoverIs, piece, step}
use Rattle.pf_move.specs.Routes.{between}
use Rattle.pf_world_hosts.specs.Steps.{AreSameHosts, FleetIs, IsFleetOf, volume_stands_at}
use Rattle.pf_world_hosts.specs.Volumes.{VolumeTold, VolumeRun, asks_in, carries, carries_on, chunk_moves}

-- the chunk begins to move to the new group: nothing happens to any group, and no line is written
pub record HasBegunMove (chunk : ℕ) (group : ChunkIs) (old : List ChunkIs) (fleet : FleetIs) (new : List ChunkIs) (next : FleetIs) : Type 0 where
  pub ready : AreReady new
  pub is_fleet : IsFleetOf new next
  pub count : length new ≡ suc (length old)
  pub groups : (k : ℕ) (was is : ChunkIs) → slice_get old k ≡ Some was → slice_get new k ≡ Some is → is ≡ record was { ports = is.ports }
  pub last : (is : ChunkIs) → slice_get new (length old) ≡ Some is → is ≡ record group { ports = is.ports }
  pub hosts : (next.hosts ≡ fleet.hosts) × (next.layout ≡ fleet.layout) × (next.calls ≡ fleet.calls) × (next.volume ≡ fleet.volume)
  pub told : List Moment
  pub silent : moments_text told ≡ []
  pub run : (halts : List Halt) → TellsAll halts new → chunk_moves chunk (run_of halts group) (volume_stands_at halts old fleet)
      ≡ record { volume = volume_stands_at halts new next; told = told }

-- an ask is of the mover's next piece
abbrev pub IsOfPiece : MoveNext → MoverIs → Type 0
IsOfPiece (Read span) mover = span ≡ piece mover.done
IsOfPiece (Write span sectors) mover = span ≡ piece mover.done
IsOfPiece Switch mover = Unit {0}

-- what the mover wants done, in a volume where it heard this
abbrev pub Wants : Type 0
Wants = Option Heard → VolumeRun → VolumeTold

-- It was taken up: an ask is in the mover's port, and was not handed on, or the chunk is served by its new group. Nothing happened to any
-- group. What was heard stands in what is told alone
pub record HasTakenUp (wants : Wants) (old : List ChunkIs) (fleet : FleetIs) (before : List ℕ) (new : List ChunkIs) (next : FleetIs) (after : List ℕ) : Type 0
  where
    pub ready : AreReady new
    pub is_fleet : IsFleetOf new next
    pub same : AreSameHosts fleet next
    pub ports : ArePut mover_port old new
    pub unsent : (k : ℕ) → asks_in (between next.routes) (option_and_then (λ (m : MoverIs). m.asked) next.mover) ≡ Some k → (c : ChunkIs) (port : PortIs)
        → slice_get new k ≡ Some c → slice_get c.ports mover_port ≡ Some port → port.sent ≡ None
    pub told : Option Heard → List Moment
    pub put : (heard : Option Heard) → after ≡ before ++ moments_text (told heard)
    pub run : (halts : List Halt) (heard : Option Heard) → wants heard (volume_stands_at halts old fleet)
        ≡ record { volume = volume_stands_at halts new next; told = told heard }

-- this mover wants this
abbrev pub mover_wants : MoverIs → MoveNext → Wants
mover_wants mover next heard v = carries v mover heard next

-- this mover hears this reply
abbrev pub on_reply : MoverIs → Reply → Wants
on_reply mover reply heard v = carries_on v heard (step mover (Some reply))
