-- What the parts of a step come to.
use Rattle.std.specs.Prelude.{◌≡◌, ℕ, ◌++◌, List, [], Option, Some, None, slice_get, slice_set}
use Rattle.pf_base.specs.declared.asks.Reply.{Reply}
use Rattle.pf_base.specs.declared.calls.CallName.{CallName}
use Rattle.pf_report.specs.Texts.{event_line}
use Rattle.pf_report.specs.Mounts.{ready_text}
use Rattle.pf_world_moments.specs.pf_group_rounds.specs.Halts.{Halt}
use Rattle.pf_world_moments.specs.pf_chunk.specs.Driving.{Driven, PortDrove, port_heard, led}
use Rattle.pf_world_moments.specs.pf_chunk.specs.Runs.{ChunkRun}
use Rattle.pf_world_moments.specs.pf_chunk.specs.Views.{ChunkIs, run_of}
use Rattle.pf_mount.specs.declared.work.MountNext.{MountNext}
use Rattle.pf_mount.specs.declared.work.MountNext.TheVariants.{Ready, Done, Failed}
use Rattle.pf_world_moments.specs.Moments.{Moment, moments_text}
use Rattle.pf_world_moments.specs.Parts.{call_end_text}
use Rattle.pf_world_moments.specs.Steps.{AreReady, HaveBegun, HaveGone, HaveGrown, TellsAll, chunk_runs}
use Rattle.pf_mount_host.specs.Hosts.{HostIs, mount_takes}

-- the line of what ended, with a call of this name
abbrev pub next_text : (mount : ℕ) → Option CallName → Option MountNext → List ℕ
next_text mount name None = []
next_text mount name (Some Ready) = event_line (ready_text mount)
next_text mount name (Some (Done answer)) = call_end_text mount name answer
next_text mount name (Some Failed) = []

-- what a list of halts makes of a group
abbrev pub GroupStep : Type 0
GroupStep = List Halt → ChunkRun → Driven

-- The port of a mount into group k took this step
pub record HasMet (step : GroupStep) (mount k : ℕ) (old : List ChunkIs) (before : List ℕ) (reply : Option Reply) (after : List ℕ) (new : List ChunkIs) : Type 0
  where
    pub ready : AreReady new
    pub gone : HaveGone mount old new
    pub was : ChunkIs
    pub there : slice_get old k ≡ Some was
    pub is : ChunkIs
    pub one : new ≡ slice_set old k is
    pub port : PortDrove mount reply was is
    pub text : List ℕ
    pub place : Option ℕ
    pub put : after ≡ before ++ text
    pub run : (halts : List Halt) → TellsAll halts new → step halts (run_of halts was)
        ≡ record { chunk = run_of halts is; reply = reply; text = text; place = place }

-- it was looked at: nothing is written
abbrev pub HasHeardAt : (mount k : ℕ) (old : List ChunkIs) → Option Reply → (new : List ChunkIs) → Type 0
HasHeardAt mount k old reply new = HasMet (λ halts c. port_heard c mount) mount k old [] reply [] new

-- its ask went to the leader, where the port's rule says so
abbrev pub HasLedAt : (mount k : ℕ) (old : List ChunkIs) (before after : List ℕ) (new : List ChunkIs) → Type 0
HasLedAt mount k old before after new = HasMet (λ halts c. led halts c mount) mount k old before None after new

-- there was no memory for the whole of it
pub record HasNotLedAt (mount k : ℕ) (old new : List ChunkIs) : Type 0 where
  pub was : ChunkIs
  pub there : slice_get old k ≡ Some was
  pub grown : HaveGrown old new
  pub begun : (halts : List Halt) → TellsAll halts new → HaveBegun halts old (slice_set (chunk_runs halts old) k (led halts (run_of halts was) mount).chunk) new

-- the mount took a reply, whatever the groups are, and whenever it came
pub record MountHasTaken (port : ℕ) (reply : Reply) (before : List ℕ) (host : HostIs) (after : List ℕ) (next : HostIs) : Type 0 where
  pub told : (by : ℕ) → List Moment
  pub put : (by : ℕ) → after ≡ before ++ moments_text (told by)
  pub run : (by : ℕ) (chunks : List ChunkRun) → mount_takes chunks host port (record { reply = reply; by = by })
      ≡ record { chunks = chunks; host = next; told = told by }
