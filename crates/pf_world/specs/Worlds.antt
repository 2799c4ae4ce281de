-- The world of a run.
use Rattle.std.specs.Prelude.{ℕ, ◌++◌, List, [], ◌∷◌, map, Option, Some, None, slice_get, unwrap_or}
use Rattle.std.specs.List.{flat_map, range_with_len}
use Rattle.pf_protocol.specs.declared.answers.Answer.{Answer}
use Rattle.pf_live_session.specs.pf_group.specs.Making.{making_answer}
use Rattle.pf_volume.specs.Volumes.{Extent}
use Rattle.pf_report.specs.Refusals.{refusal_text}
use Rattle.pf_report.specs.Texts.{report_line}
use Rattle.pf_live_session.specs.pf_group_rounds.specs.Halts.{Halt}
use Rattle.pf_live_session.specs.pf_group_rounds.specs.Chunks.{made_chunk}
use Rattle.pf_live_session.specs.pf_chunk.specs.Happenings.{Happened}
use Rattle.pf_live_session.specs.pf_chunk.specs.Runs.{ChunkRun, new_run}
use Rattle.pf_live_session.specs.pf_chunk.specs.Saying.{said}
use Rattle.pf_world_hosts.specs.pf_world_moments.specs.Moments.{Moment, Writes}
use Rattle.pf_world_hosts.specs.Volumes.{VolumeRun, all_step, volume_happens, volume_quietly}
use Rattle.pf_world_hosts.specs.Volumes as volumes
use Rattle.pf_journal.specs.declared.layouts.Layout.TheVariants.{Plain}
use Rattle.pf_move.specs.Routes.{RoutesIs}
use Rattle.pf_live_session.specs.Sessions.{Session}
use Rattle.pf_world.specs.declared.kind.Kind.{Kind}

-- A volume with its hosts, and with what a new group of it is made; the kind of the run, once a line has decided it; and the sessions of the
-- live lines that are still to come
pub record World : Type 0 where
  pub volume : VolumeRun
  pub names : ℕ
  pub format : ℕ
  pub kind : Option Kind
  pub sessions : List Session

-- each chunk is served by the group of its own number
abbrev pub first_routes : (chunks : ℕ) → RoutesIs
first_routes chunks = record { routes = map (λ k. record { group = k; epoch = 0 }) (range_with_len 0 chunks); moving = None }

-- a volume with these groups, without hosts, whose journal lies at one place
abbrev pub new_volume : Extent → List ChunkRun → VolumeRun
new_volume extent chunks = record { extent = extent; chunks = chunks; layout = Plain; hosts = []; routes = first_routes extent.chunks; mover = None }

-- before the volume is made
abbrev pub no_world : List Session → World
no_world sessions = record { volume = new_volume (record { chunks = 0; sectors = 0 }) []; names = 0; format = 0; kind = None; sessions = sessions }

-- a world after a line, and what was told
pub record WorldTold : Type 0 where
  pub world : World
  pub told : List Moment

-- a new volume
abbrev pub volume_made : List Halt → List Session → (chunks sectors names format : ℕ) → World
volume_made halts sessions chunks sectors names format =
    let made_chunks = map (λ k. new_run (made_chunk halts sectors names format k)) (range_with_len 0 chunks) in
    record { volume = new_volume (record { chunks = chunks; sectors = sectors }) made_chunks; names = names; format = format; kind = None; sessions = sessions }

-- halted where some server could not be formatted
abbrev pub made_answer : World → Answer
made_answer w = making_answer (flat_map (λ c. c.group.setup.failed) w.volume.chunks)

-- what a line did to the volume, and then its own line of the report
abbrev pub line_ended : World → (number : ℕ) → volumes.VolumeTold → (text : List ℕ) → WorldTold
line_ended w number t text = record { world = record w { volume = t.volume }; told = t.told ++ Writes (report_line number text) ∷ [] }

-- nothing happened, and this is the line
abbrev pub said_only : World → (number : ℕ) → (text : List ℕ) → WorldTold
said_only w number text = line_ended w number (volume_quietly w.volume) text

-- the text of a refusal
abbrev pub refused_text : (fault : ℕ) → List ℕ
refused_text fault = unwrap_or (refusal_text fault) []

-- at the end of a line of a mount or of a move each host takes a step, and the mover
abbrev pub line_stepped : List Halt → World → (number : ℕ) → volumes.VolumeTold → (text : List ℕ) → WorldTold
line_stepped halts w number t text = line_ended w number (volumes.volume_followed t (all_step halts)) text

abbrev pub event_told : List Halt → World → (number : ℕ) → Option ChunkRun → (ChunkRun → Happened) → WorldTold
event_told halts w number None event = record { world = w; told = [] }
event_told halts w number (Some c) event = line_ended w number (volume_happens halts w.volume (event c)) (said (event c).answer)

-- what happens to one chunk of the volume, and how it is answered
abbrev pub at_chunk : List Halt → World → (number chunk : ℕ) → (ChunkRun → Happened) → WorldTold
at_chunk halts w number chunk event = event_told halts w number (slice_get w.volume.chunks chunk) event
