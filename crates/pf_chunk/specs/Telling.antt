-- Reads that wait are gone through, and those that were answered are told.
use Rattle.std.specs.Prelude.{◌≡◌, ℕ, Bool, true, false, not, ◌&&◌, ◌==◌, if◌then◌else◌, List, [], ◌∷◌, ◌++◌, Option, Some, None, slice_get, slice_set}
use Rattle.std.specs.List.{flat_map, fold}
use Rattle.pf_base.specs.Span.{Span}
use Rattle.pf_protocol.specs.declared.answers.Answer.{Answer}
use Rattle.pf_protocol.specs.declared.answers.Answer.TheVariants.{Read as ReadIs}
use Rattle.pf_protocol.specs.declared.events.Event.TheVariants.{Fetch}
use Rattle.pf_protocol.specs.Servers.{Condition, Running, Setup}
use Rattle.pf_protocol.specs.Histories.{History, IsPrefix, replay}
use Rattle.pf_protocol.specs.Groups.{Answered, Group}
use Rattle.pf_group_rounds.specs.pf_group.specs.GroupIs.{GroupIs}
use Rattle.pf_report.specs.Texts.{event_line, read_text}
use Rattle.pf_chunk_waiting.specs.declared.waiting.Waiting.{Waiting}
use Rattle.pf_chunk_waiting.specs.Waiters.{is_term}
use Rattle.pf_chunk.specs.Waiting.{answers_of_read}

abbrev pub is_some_of : List Answered → Bool
is_some_of [] = false
is_some_of (a ∷ rest) = true

abbrev pub is_answered : Group → ℕ → Bool
is_answered g n = is_some_of (answers_of_read g n)

abbrev pub read_line : (chunk : ℕ) → Answered → List ℕ
read_line chunk a = event_line (read_text chunk a.number a.bytes)

-- the lines of the answers of a read
abbrev pub lines_of : (chunk : ℕ) → Group → ℕ → List ℕ
lines_of chunk g n = flat_map (read_line chunk) (answers_of_read g n)

abbrev pub reads_told : (chunk : ℕ) → Group → List Waiting → List ℕ
reads_told chunk g waiting = flat_map (λ w. lines_of chunk g w.number) waiting

abbrev pub runs_in : Option Condition → (term : ℕ) → Bool
runs_in (Some (Running s)) term = s.durable.term == term
runs_in c term = false

-- each of these servers that runs does so in its term
abbrev pub AreTermsOf : Group → List (Option ℕ) → Type 0
AreTermsOf g terms = (server term : ℕ) → is_term (slice_get terms server) term ≡ true → runs_in (slice_get g.servers server) term ≡ true

-- not answered, and its server runs in its term still
abbrev pub may_wait : Group → Waiting → Bool
may_wait g w = not (is_answered g w.number) && runs_in (slice_get g.servers w.server) w.term

-- the read that an answer of a server tells of
abbrev pub read_taken_up : Option Condition → (server : ℕ) → Answer → Option Waiting
read_taken_up (Some (Running s)) server (ReadIs number) = Some (record { number = number; server = server; term = s.durable.term })
read_taken_up c server answer = None

-- an event of the history took the read up at its server, in its term
pub record WasTaken (setup : Setup) (history : History) (w : Waiting) : Type 0 where
  pub before : History
  pub range : Span
  pub part : IsPrefix (before ++ record { event = Fetch w.server range; answer = ReadIs w.number } ∷ []) history
  pub taken : read_taken_up (slice_get (replay setup (before ++ record { event = Fetch w.server range; answer = ReadIs w.number } ∷ [])).servers w.server)
      w.server (ReadIs w.number) ≡ Some w

-- its answer, if there is one, is handed out
abbrev pub answer_taken_with : Group → List Bool → Waiting → List Bool
answer_taken_with g taken w = if is_answered g w.number then slice_set taken w.number true else taken

-- so are those of all these reads
abbrev pub taken_all : Group → List Bool → List Waiting → List Bool
taken_all g taken waiting = fold (answer_taken_with g) taken waiting

-- nothing but what was handed out is different
abbrev pub now_taken : GroupIs → List Bool → GroupIs
now_taken g taken = record g { taken = taken }
