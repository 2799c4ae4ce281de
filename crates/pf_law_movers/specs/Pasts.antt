-- What the ports of movers into a group did, by what a run told.
use Rattle.std.specs.Prelude.{ℕ, suc, ◌&&◌, ◌==◌, Bool, false, nat_lt, if◌then◌else◌, List, [], ◌∷◌, ◌++◌, Option, Some, None, slice_get, take}
use Rattle.std.specs.List.{fold}
use Rattle.pf_protocol.specs.declared.answers.Answer.{Answer}
use Rattle.pf_protocol.specs.declared.events.Event.{Event}
use Rattle.pf_protocol.specs.declared.events.Event.TheVariants.{Fetch, Submit}
use Rattle.pf_protocol.specs.declared.events.Happening.{Happening}
use Rattle.pf_protocol.specs.Histories.{History}
use Rattle.pf_protocol.specs.Ports.{Submission}
use Rattle.pf_law_service.specs.pf_law_ports.specs.Calls.{Fetching, PortPast}
use Rattle.pf_move.specs.declared.mover.MoveNext.{MoveNext}
use Rattle.pf_move.specs.declared.mover.MoverAsk.{MoverAsk}
use Rattle.pf_move.specs.declared.mover.MoverAsk.TheVariants.{Reading, Writing}
use Rattle.pf_move.specs.declared.mover.MoveNext.TheVariants.{Read, Write}
use Rattle.pf_world_moments.specs.pf_chunk.specs.Runs.{mover_port}
use Rattle.pf_world_moments.specs.Moments.{Moment, Carries, Hands, Moves}

-- what a port into a group did
pub record PortTrace : Type 0 where
  pub asks : ℕ  -- the number of the port's last ask, 0 where it had none
  pub writes : List Submission
  pub reads : List Fetching

-- a group of a volume as it was made has the asks for the chunk of its own number, and any other those of none
abbrev pub first_chunk : (chunks group : ℕ) → Option ℕ
first_chunk chunks group = if nat_lt group chunks then Some group else None

abbrev pub no_trace : PortTrace
no_trace = record { asks = 0; writes = []; reads = [] }

abbrev pub is_some_of : Option ℕ → (chunk : ℕ) → Bool
is_some_of None chunk = false
is_some_of (Some k) chunk = k == chunk

-- after these events of the group its last ask was handed to it by this event
abbrev pub handed_by : (before : History) → Event → Answer → PortTrace → PortTrace
handed_by before (Submit server op) answer t = record t {
  writes = t.writes
      ++ record { write = t.asks; before = before; server = server; op = op; answer = answer } ∷ [];
}
handed_by before (Fetch server range) answer t = record t {
  reads = t.reads
      ++ record { ask = t.asks; before = before; server = server; range = range; answer = answer } ∷ [];
}
handed_by before event answer t = t

abbrev pub handed_at : (before : History) → Option Happening → PortTrace → PortTrace
handed_at before None t = t
handed_at before (Some h) t = handed_by before h.event h.answer t

abbrev pub past_in : History → PortTrace → PortPast
past_in history t = record { history = history; asks = t.asks; writes = t.writes; reads = t.reads }

-- The ports of movers into a group: what they did in the two moves of the group's chunk, in the one for which the group was made, when it was
-- written, and in the one away from it, when it was read
pub record MoverTrace : Type 0 where
  pub of : Option ℕ  -- the chunk for which the group has the asks
  pub chunk : ℕ  -- the chunk that is moving, or moved last
  pub role : Option MoverAsk  -- what its mover asks of this group, if the group is one of the two
  pub count : ℕ  -- of the mover's asks so far, by which they are mover_numbered
  pub read : PortTrace
  pub written : PortTrace

abbrev pub no_moves : (of : Option ℕ) → MoverTrace
no_moves of = record { of = of; chunk = 0; role = None; count = 0; read = no_trace; written = no_trace }

abbrev pub moving : (group : ℕ) → MoverTrace → (chunk to : ℕ) → MoverTrace
moving group t chunk to =
    if to == group then record t { of = Some chunk; chunk = chunk; role = Some Writing; count = 0; written = no_trace }
    else if is_some_of t.of chunk then record t { of = None; chunk = chunk; role = Some Reading; count = 0; read = no_trace }
    else record t { role = None }

abbrev pub trace_in : MoverTrace → MoverAsk → PortTrace
trace_in t Reading = t.read
trace_in t Writing = t.written

-- the port that is in use changes
abbrev pub with_trace_of_port : (PortTrace → PortTrace) → Option MoverAsk → MoverTrace → MoverTrace
with_trace_of_port change None t = t
with_trace_of_port change (Some Reading) t = record t { read = change t.read }
with_trace_of_port change (Some Writing) t = record t { written = change t.written }

-- an ask goes to the group that has its role
abbrev pub mover_numbered : (count : ℕ) → Option MoverAsk → MoveNext → MoverTrace → MoverTrace
mover_numbered count (Some Reading) (Read span) t = record t { read = (let p : PortTrace = t.read in record p { asks = count }) }
mover_numbered count (Some Writing) (Write span sectors) t = record t { written = (let p : PortTrace = t.written in record p { asks = count }) }
mover_numbered count role next t = t

abbrev pub carrying : MoverTrace → (chunk : ℕ) → MoveNext → MoverTrace
carrying t chunk next = if chunk == t.chunk then mover_numbered (suc t.count) t.role next (record t { count = suc t.count }) else t

module _ (history : History) (group : ℕ) where
  abbrev pub at_carry : MoverTrace → Moment → MoverTrace
  at_carry t (Moves chunk to) = moving group t chunk to
  at_carry t (Carries chunk heard next) = carrying t chunk next
  at_carry t (Hands mount g place) =
      if mount == mover_port && g == group then with_trace_of_port (handed_at (take place history) (slice_get history place)) t.role t else t
  at_carry t moment = t

  abbrev pub moves_into : (chunks : ℕ) → List Moment → MoverTrace
  moves_into chunks told = fold at_carry (no_moves (first_chunk chunks group)) told

  -- of the port that has this role
  abbrev pub mover_trace : MoverAsk → (chunks : ℕ) → List Moment → PortTrace
  mover_trace role chunks told = trace_in (moves_into chunks told) role
