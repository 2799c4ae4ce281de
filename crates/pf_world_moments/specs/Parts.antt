-- What the parts of a step of a port come to.
use Rattle.std.specs.Prelude.{◌≡◌, ◌≢◌, ℕ, ◌++◌, [], List, length, Option, Some, None, slice_get, slice_set}
use Rattle.std.specs.Option.{option_map}
use Rattle.pf_base.specs.declared.asks.Ask.{Ask}
use Rattle.pf_base.specs.declared.asks.Reply.{Reply}
use Rattle.pf_base.specs.declared.calls.CallName.{CallName}
use Rattle.pf_base.specs.CallNames.{call_name_of}
use Rattle.pf_file_calls.specs.declared.answers.CallAnswer.{CallAnswer}
use Rattle.pf_file_calls.specs.declared.calls.Pending.{Pending}
use Rattle.pf_asks.specs.Ports.{PortIs}
use Rattle.pf_report.specs.Texts.{event_line}
use Rattle.pf_report.specs.Mounts.{call_text}
use Rattle.pf_chunk.specs.pf_group_rounds.specs.Halts.{Halt}
use Rattle.pf_chunk.specs.Driving.{PortDrove}
use Rattle.pf_chunk.specs.Views.{ChunkIs}
use Rattle.pf_world_moments.specs.Moments.{Moment, moments_text}
use Rattle.pf_world_moments.specs.Hosts.{drove}
use Rattle.pf_world_moments.specs.Steps.{AreReady, HaveBegun, HaveGone, HaveGrown, TellsAll, chunk_runs}

-- the name of a pending call
abbrev pub name_in : Option Pending → Option CallName
name_in pending = option_map (λ p. call_name_of p.call) pending

-- the mount's port of the chunk has an ask
pub record PortIsPending (mount k : ℕ) (chunks : List ChunkIs) : Type 0 where
  pub chunk : ChunkIs
  pub there : slice_get chunks k ≡ Some chunk
  pub port : PortIs
  pub its : slice_get chunk.ports mount ≡ Some port
  pub ask : Ask
  pub pending : port.ask ≡ Some ask

-- no port of mount m has one
abbrev pub AreQuiet : (m : ℕ) → List ChunkIs → Type 0
AreQuiet m chunks = (k : ℕ) (c : ChunkIs) → slice_get chunks k ≡ Some c → (port : PortIs) → slice_get c.ports m ≡ Some port → port.ask ≡ None

-- the mount's port of chunk k took a step
pub record HasDrove (mount k : ℕ) (old : List ChunkIs) (before : List ℕ) (reply : Option Reply) (after : List ℕ) (new : List ChunkIs) : Type 0 where
  pub ready : AreReady new
  pub gone : HaveGone mount old new
  pub was : ChunkIs
  pub there : slice_get old k ≡ Some was
  pub is : ChunkIs
  pub one : new ≡ slice_set old k is
  pub port : PortDrove mount reply was is
  pub told : List Moment
  pub put : after ≡ before ++ moments_text told
  pub run : (halts : List Halt) → TellsAll halts new → drove halts (chunk_runs halts old) mount k
      ≡ record { chunks = chunk_runs halts new; reply = reply; told = told }

-- there was no memory for the whole of it
pub record HasNotDrove (mount k : ℕ) (old new : List ChunkIs) : Type 0 where
  pub grown : HaveGrown old new
  pub begun : (halts : List Halt) → TellsAll halts new → HaveBegun halts old (drove halts (chunk_runs halts old) mount k).chunks new

-- nothing but ports of the mount is different
pub record IsPut (mount : ℕ) (was is : ChunkIs) : Type 0 where
  pub same : is ≡ record was { ports = is.ports }
  pub others : (m : ℕ) → m ≢ mount → slice_get is.ports m ≡ slice_get was.ports m

pub record ArePut (mount : ℕ) (old new : List ChunkIs) : Type 0 where
  pub count : length new ≡ length old
  pub each : (k : ℕ) (was is : ChunkIs) → slice_get old k ≡ Some was → slice_get new k ≡ Some is → IsPut mount was is

-- the line of a call of this name that ended, if there was one
abbrev pub call_end_text : (mount : ℕ) → Option CallName → CallAnswer → List ℕ
call_end_text mount None answer = []
call_end_text mount (Some name) answer = event_line (call_text mount name answer)
