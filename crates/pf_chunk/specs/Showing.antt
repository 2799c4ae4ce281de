-- What lines show of a chunk.
use Rattle.std.specs.Prelude.{◌≡◌, ℕ, Bool, IsTrue, List, ◌++◌, map, Option, Some, None, slice_get}
use Rattle.std.specs.FinMap
use Rattle.pf_entry.specs.Ops.{Sector}
use Rattle.pf_protocol.specs.Servers.{Condition, Running, Server}
use Rattle.pf_protocol.specs.Groups.{Group}
use Rattle.pf_protocol.specs.Shown.{log_of}
use Rattle.pf_protocol.specs.declared.answers.Answer.TheVariants.{Refused}
use Rattle.pf_protocol.specs.declared.answers.Refusal.TheVariants.{Down}
use Rattle.pf_report.specs.Texts.{acked_text, applied_text, report_line, log_text, no_snapshot_text, sectors_text, snapshot_text}
use Rattle.pf_chunk.specs.Saying.{said}

-- a line of this number was put at the end: it shows this, where the disks tell their content
pub record LineIsShown (told : Bool) (number : ℕ) (shown before after : List ℕ) : Type 0 where
  pub text : List ℕ
  pub put : after ≡ before ++ report_line number text
  pub same : IsTrue told → text ≡ shown

-- a server that does not run is down
abbrev pub if_runs : Option Condition → (Server → List ℕ) → List ℕ
if_runs (Some (Running s)) text = text s
if_runs c text = said (Refused Down)

abbrev pub text_of_server : Group → (server : ℕ) → (Server → List ℕ) → List ℕ
text_of_server g server text = if_runs (slice_get g.servers server) text

abbrev pub log_shown : Server → List ℕ
log_shown s = log_text s.durable.term s.durable.base (log_of s)

abbrev pub applied_shown : Server → List ℕ
applied_shown s = applied_text s.durable.base s.applied

abbrev pub sectors_shown : Server → List ℕ
sectors_shown s = sectors_text s.sectors

abbrev pub snapshot_shown : (slot : ℕ) → Option (List Sector) → List ℕ
snapshot_shown slot None = no_snapshot_text slot
snapshot_shown slot (Some sectors) = snapshot_text slot sectors

abbrev pub mark_shown : (slot : ℕ) → Server → List ℕ
mark_shown slot s = snapshot_shown slot (FinMap.get s.snapshots slot)

abbrev pub acked_shown : Group → List ℕ
acked_shown g = acked_text (map (λ a. a.slot) g.acked)
