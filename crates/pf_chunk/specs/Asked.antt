-- What lines ask of a chunk.
use Rattle.std.specs.Prelude.{ℕ, ◌<◌, false, if◌then◌else◌, List, Option, Some, None}
use Rattle.pf_group_rounds.specs.Halts.{Halt}
use Rattle.pf_group_rounds.specs.pf_group.specs.Events.{rule_event}
use Rattle.pf_chunk.specs.declared.asked.LineAsk.{LineAsk}
use Rattle.pf_chunk.specs.declared.asked.LineAsk.TheVariants.{Event, Fetch, NoRange, Submit}
use Rattle.pf_chunk.specs.Asking.{fetches, is_range, no_range, chunk_submits}
use Rattle.pf_chunk.specs.Events.{IsChunkStep}
use Rattle.pf_chunk.specs.Happenings.{Happened, happened}
use Rattle.pf_chunk.specs.Runs.{ChunkRun}

abbrev pub ChunkMayAsk : LineAsk → Type 0
ChunkMayAsk (Event event) = IsChunkStep event
ChunkMayAsk (Submit server range byte) = server < 3
ChunkMayAsk (Fetch server range) = server < 3
ChunkMayAsk (NoRange server) = server < 3

-- what comes of it
abbrev pub asked_happened : List Halt → LineAsk → ChunkRun → Happened
asked_happened halts (Event event) c = happened halts c (rule_event event false)
asked_happened halts (Submit server range byte) c = chunk_submits halts server range.first byte range.count c
asked_happened halts (Fetch server range) c = fetches halts server range.first range.count c
asked_happened halts (NoRange server) c = no_range server c

-- what numbers ask for, which may be no range
abbrev pub submit_ask : (server first byte count : ℕ) → LineAsk
submit_ask server first byte count =
    if is_range first count then Submit server (record { first = first; count = count }) byte else NoRange server

abbrev pub fetch_ask : (server first count : ℕ) → LineAsk
fetch_ask server first count = if is_range first count then Fetch server (record { first = first; count = count }) else NoRange server

-- the server that is asked for sectors that are no range
abbrev pub no_range_of : LineAsk → Option ℕ
no_range_of (NoRange server) = Some server
no_range_of ask = None
