-- One event of a chunk, and what comes of it.
use Rattle.std.specs.Prelude.{ℕ, List, filter}
use Rattle.pf_protocol.specs.declared.answers.Answer.{Answer}
use Rattle.pf_protocol.specs.declared.events.Event.{Event}
use Rattle.pf_group_rounds.specs.Halts.{Halt}
use Rattle.pf_group_rounds.specs.Chunks.{after, event_answered}
use Rattle.pf_group_rounds.specs.Rounds.{applied}
use Rattle.pf_chunk.specs.Runs.{ChunkRun}
use Rattle.pf_chunk.specs.Telling.{may_wait, reads_told}

-- the chunk afterwards, how the event was answered, and the lines of reads
pub record Happened : Type 0 where
  pub chunk : ChunkRun
  pub answer : Answer
  pub text : List ℕ

-- what an event made free is applied; then a line tells each waiting read that is answered, and those wait on that still may be
unfoldable pub followed : List Halt → ChunkRun → Answer → Happened
followed halts c answer =
    let next = applied halts c.group in
    record {
      chunk = record c { group = next; waiting = filter (may_wait next.state) c.waiting };
      answer = answer;
      text = reads_told c.group.number next.state c.waiting;
    }

-- an event happens, and is followed up
abbrev pub happened : List Halt → ChunkRun → Event → Happened
happened halts c event = followed halts (record c { group = after halts c.group event }) (event_answered halts c.group event)
