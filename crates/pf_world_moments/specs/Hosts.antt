-- The ports of hosts into the groups of a volume.
use Rattle.std.specs.Prelude.{ℕ, List, [], ◌∷◌, ◌++◌, length, Option, Some, None, slice_get, slice_set}
use Rattle.pf_base.specs.declared.asks.Ask.{Ask}
use Rattle.pf_base.specs.declared.asks.Reply.{Reply}
use Rattle.pf_base.specs.CallNames.{call_name_of}
use Rattle.pf_tree.specs.Calls.{FileCall}
use Rattle.pf_file_calls.specs.declared.answers.CallAnswer.{CallAnswer}
use Rattle.pf_file_calls.specs.declared.calls.Pending.{Pending}
use Rattle.pf_report.specs.Texts.{event_line}
use Rattle.pf_report.specs.Mounts.{call_text}
use Rattle.pf_chunk.specs.pf_group_rounds.specs.Halts.{Halt}
use Rattle.pf_chunk.specs.Runs.{ChunkRun}
use Rattle.pf_chunk.specs.Driving.{Driven, port_asked, driven}
use Rattle.pf_world_moments.specs.Moments.{Moment, Writes, Hands}

-- group k, where there is one, after this
abbrev pub with_run : List ChunkRun → (k : ℕ) → Option ChunkRun → List ChunkRun
with_run chunks k None = chunks
with_run chunks k (Some c) = slice_set chunks k c

abbrev pub run_after : Option ChunkRun → (ChunkRun → ChunkRun) → Option ChunkRun
run_after None step = None
run_after (Some c) step = Some (step c)

-- an ask goes into the port of this number into a group
abbrev pub put_at : List ChunkRun → (group : Option ℕ) → (m : ℕ) → Ask → List ChunkRun
put_at chunks None m ask = chunks
put_at chunks (Some g) m ask = with_run chunks g (run_after (slice_get chunks g) (λ c. port_asked c m ask))

-- the line of a call that ended. (A mount whose superblock is another's ends without a call)
abbrev pub ended_line : (mount : ℕ) → Option FileCall → CallAnswer → List ℕ
ended_line mount None answer = []
ended_line mount (Some call) answer = event_line (call_text mount (call_name_of call) answer)

-- a port's step at group k
pub record Drove : Type 0 where
  pub chunks : List ChunkRun
  pub reply : Option Reply
  pub told : List Moment

abbrev pub handed_moments : (mount k : ℕ) → (place : Option ℕ) → List Moment
handed_moments mount k None = []
handed_moments mount k (Some place) = Hands mount k place ∷ []

abbrev pub drove_as : List ChunkRun → (mount k : ℕ) → Driven → Drove
drove_as chunks mount k d = record { chunks = slice_set chunks k d.chunk; reply = d.reply; told = handed_moments mount k d.place ++ Writes d.text ∷ [] }

abbrev pub drove_of : List Halt → List ChunkRun → (mount k : ℕ) → Option ChunkRun → Drove
drove_of halts chunks mount k None = record { chunks = chunks; reply = None; told = [] }
drove_of halts chunks mount k (Some c) = drove_as chunks mount k (driven halts c mount)

abbrev pub drove : List Halt → List ChunkRun → (mount k : ℕ) → Drove
drove halts chunks mount k = drove_of halts chunks mount k (slice_get chunks k)

abbrev pub event_count : Option ChunkRun → ℕ
event_count None = 0
event_count (Some c) = length c.group.history

abbrev pub pending_call : Option Pending → Option FileCall
pending_call None = None
pending_call (Some p) = Some p.call
