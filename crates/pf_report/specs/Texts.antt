-- The texts of a report.
use Rattle.std.specs.Prelude.{ℕ, Bool, nat_lt, if◌then◌else◌, List, [], ◌∷◌, ◌++◌, map, Option, Some, None, codes}
use Rattle.std.specs.List.{flat_map}
use Rattle.std.specs.Fmt.{decimal}
use Rattle.std.specs.FinMap
use Rattle.pf_text.specs.Runs.{runs_text}
use Rattle.pf_entry.specs.Sets
use Rattle.pf_entry.specs.Maps.{Numbers}
use Rattle.pf_entry.specs.Ops.{Sector}
use Rattle.pf_entry.specs.declared.ops.Op.{Op}
use Rattle.pf_entry.specs.declared.ops.Op.TheVariants.{Write, Noop, Mark}
use Rattle.pf_entry.specs.declared.entries.Entry.{Entry}
use Rattle.pf_holes.specs.HoleLogs.{Holes}
use Rattle.pf_protocol.specs.Shown.{LogRow}
use Rattle.pf_protocol.specs.Numbers.{refusal_number}
use Rattle.pf_protocol.specs.declared.answers.Answer.{Answer}
use Rattle.pf_protocol.specs.declared.answers.Answer.TheVariants.{Done, Slot, Term, Read, Base, Job, Refused}
use Rattle.pf_report.specs.Refusals.{refusal_text}

-- a text with a line feed after it
abbrev pub with_line_feed : List ℕ → List ℕ
with_line_feed text = text ++ 10 ∷ []

-- the line that answers a line of the script: its number, a space and a text
abbrev pub report_line : ℕ → List ℕ → List ℕ
report_line number text = with_line_feed (decimal number ++ (32 ∷ text))

-- the line of an event
abbrev pub event_line : List ℕ → List ℕ
event_line text = with_line_feed (codes "- " ++ text)

-- a space and a number
abbrev pub spaced : ℕ → List ℕ
spaced n = 32 ∷ decimal n

-- the text of an answer, where it has one
abbrev pub answer_text : Answer → Option (List ℕ)
answer_text Done = Some (codes "ok")
answer_text (Slot s) = Some (codes "slot " ++ decimal s)
answer_text (Term t) = Some (codes "term " ++ decimal t)
answer_text (Read r) = Some (codes "read " ++ decimal r)
answer_text (Base b) = Some (codes "base " ++ decimal b)
answer_text (Job job) = None
answer_text (Refused refusal) = refusal_text (refusal_number refusal)

abbrev pub settle_text : Bool → List ℕ
settle_text stopped = if stopped then codes "stopped" else codes "quiet"

-- wFxC for a write of C sectors from sector F on, n for a no-op, m for a mark
abbrev pub op_text : Op → List ℕ
op_text (Write range payload) = codes "w" ++ decimal range.first ++ codes "x" ++ decimal range.count
op_text Noop = codes "n"
op_text Mark = codes "m"

abbrev pub sign : Bool → List ℕ
sign committed = if committed then codes "+" else codes "-"

-- a slot with its term and its op, as s:t:OP
abbrev pub slot_text : (slot term : ℕ) → Op → List ℕ
slot_text slot term op = decimal slot ++ codes ":" ++ decimal term ++ codes ":" ++ op_text op

-- one held slot, with its sign
abbrev pub held_text : LogRow → List ℕ
held_text held = codes " " ++ slot_text held.slot held.term held.op ++ sign held.committed

abbrev pub line_in : Holes → ℕ × Entry → LogRow
line_in log held = record { slot = held.0; term = held.1.term; op = held.1.op; committed = Sets.contains log.committed held.0 }

-- the slots that a log holds, in ascending order
abbrev pub slots_held : Holes → List LogRow
slots_held log = map (line_in log) (FinMap.entries log.entries)

-- a server's term, its checkpoint, and the slots that its log holds
abbrev pub log_text : ℕ → ℕ → List LogRow → List ℕ
log_text term base held = codes "log " ++ decimal term ++ spaced base ++ flat_map held_text held

-- a checkpoint and the applied slots above it, in ascending order
abbrev pub applied_text : ℕ → Numbers → List ℕ
applied_text base applied = codes "applied " ++ decimal base ++ flat_map spaced (Sets.items (Sets.retain applied (nat_lt base)))

-- acknowledged slots, in the order of their acknowledgement
abbrev pub acked_text : List ℕ → List ℕ
acked_text slots = codes "acked" ++ flat_map spaced slots

-- the bytes of sectors, one after another
abbrev pub joined_bytes : List Sector → List ℕ
joined_bytes sectors = flat_map (λ bytes. bytes) sectors

abbrev pub sectors_text : List Sector → List ℕ
sectors_text sectors = codes "sectors " ++ runs_text (joined_bytes sectors)

abbrev pub mark_text : ℕ → List ℕ → List ℕ
mark_text slot text = codes "mark " ++ decimal slot ++ (32 ∷ text)

abbrev pub snapshot_text : ℕ → List Sector → List ℕ
snapshot_text slot sectors = mark_text slot (runs_text (joined_bytes sectors))

abbrev pub no_snapshot_text : ℕ → List ℕ
no_snapshot_text slot = mark_text slot (codes "none")

-- the answer of a read: its group, its number and its bytes
abbrev pub read_text : ℕ → ℕ → List Sector → List ℕ
read_text group number sectors = codes "read " ++ decimal group ++ spaced number ++ (32 ∷ runs_text (joined_bytes sectors))
