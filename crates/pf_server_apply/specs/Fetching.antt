-- Reads that are taken up.
use Rattle.std.specs.Prelude.{ℕ, Bool, not, ◌&&◌, Option}
use Rattle.pf_base.specs.Span.{Span, fits_in, overlaps}
use Rattle.pf_entry.specs.Ops.{range_of}
use Rattle.pf_entry.specs.Maps.{Numbers}
use Rattle.pf_entry.specs.Sets
use Rattle.pf_protocol.specs.Answers.{is_serving, refuse}
use Rattle.pf_protocol.specs.Leading.{on_fetch, op_at}
use Rattle.pf_protocol.specs.Servers.{Server, Setup, has_applied}
use Rattle.pf_protocol.specs.declared.answers.Refusal.{Refusal}
use Rattle.pf_protocol.specs.declared.answers.Refusal.TheVariants.{BadRange, NotLeader}
use Rattle.pf_server_memory.specs.declared.running.Running.{Running}
use Rattle.pf_server_memory.specs.Outgoing.{Outgoing}
use Rattle.pf_server_memory.specs.Standing.{room_refusal}

-- whether a read of the range waits for a committed slot: its op is not applied, and overlaps the range
abbrev pub is_waited_for : Running → Span → ℕ → Bool
is_waited_for me range slot = not (Sets.contains me.applied.slots slot) && overlaps (range_of (op_at me.log.entries slot)) range

-- the committed slots that a read of the range waits for, by the rules
abbrev pub waits_for : Server → Span → Numbers
waits_for s range = Sets.retain s.committed (λ slot. not (has_applied s slot) && overlaps (range_of (op_at s.durable.log slot)) range)

-- which refusal comes first
unfoldable pub fetch_refusal : Setup → Outgoing → Span → (number : ℕ) → Server → Option Refusal
fetch_refusal setup out range number s =
    refuse (not (fits_in range setup.chunk)) BadRange
    (refuse (not (is_serving s.role)) NotLeader (room_refusal out (on_fetch s range number s.role)))
