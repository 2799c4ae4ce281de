-- Lines that write and read sectors.
use Rattle.std.specs.Prelude.{ℕ, ◌+◌, Bool, ◌++◌, ◌&&◌, nat_le, if◌then◌else◌, List, [], replicate, Option, Some, slice_get}
use Rattle.std.specs.Option.{option_to_list}
use Rattle.pf_base.specs.Span.{Span}
use Rattle.pf_entry.specs.declared.ops.Op.{Op}
use Rattle.pf_entry.specs.declared.ops.Op.TheVariants.{Write}
use Rattle.pf_protocol.specs.Servers.{Condition, Running}
use Rattle.pf_protocol.specs.declared.answers.Answer.{Answer}
use Rattle.pf_protocol.specs.declared.answers.Answer.TheVariants.{Refused}
use Rattle.pf_protocol.specs.declared.answers.Refusal.TheVariants.{BadRange, Down}
use Rattle.pf_protocol.specs.declared.events.Event.TheVariants as events
use Rattle.pf_group_rounds.specs.Halts.{Halt}
use Rattle.pf_group_rounds.specs.Chunks.{after, event_answered}
use Rattle.pf_chunk.specs.Runs.{ChunkRun}
use Rattle.pf_chunk.specs.Telling.{read_taken_up}
use Rattle.pf_chunk.specs.Happenings.{Happened, followed, happened}

-- a range that a write or a read may name
abbrev pub is_range : (first count : ℕ) → Bool
is_range first count = nat_le 1 count && nat_le count 8 && nat_le (first + count) 4096

-- sectors of one byte
abbrev pub filled_write : (first byte count : ℕ) → Op
filled_write first byte count = Write (record { first = first; count = count }) (replicate count (replicate 512 byte))

-- numbers that are no range: no event of the group
abbrev pub no_range_answer : Option Condition → Answer
no_range_answer (Some (Running s)) = Refused BadRange
no_range_answer c = Refused Down

abbrev pub no_range : (server : ℕ) → ChunkRun → Happened
no_range server c = record { chunk = c; answer = no_range_answer (slice_get c.group.state.servers server); text = [] }

abbrev pub chunk_submits : List Halt → (server first byte count : ℕ) → ChunkRun → Happened
chunk_submits halts server first byte count c =
    if is_range first count then happened halts c (events.Submit server (filled_write first byte count)) else no_range server c

-- a read that is taken up waits from then on
abbrev pub fetched : List Halt → (server : ℕ) → Span → ChunkRun → Happened
fetched halts server range c =
    let event = events.Fetch server range in
    let answer = event_answered halts c.group event in
    let mid = after halts c.group event in
    followed halts (record c { group = mid; waiting = c.waiting ++ option_to_list (read_taken_up (slice_get mid.state.servers server) server answer) }) answer

abbrev pub fetches : List Halt → (server first count : ℕ) → ChunkRun → Happened
fetches halts server first count c =
    if is_range first count then fetched halts server (record { first = first; count = count }) c else no_range server c
