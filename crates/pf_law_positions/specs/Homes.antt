-- The turns that deeds are in one position, by where its blocks lie.
use Rattle.std.specs.Prelude.{ℕ, ◌+◌, ◌/◌, ◌%◌, ◌==◌, Bool, ◌&&◌, nat_lt, if◌then◌else◌, List, map, Option, Some, None}
use Rattle.pf_base.specs.Span.{Span}
use Rattle.pf_entry.specs.Ops.{Sector}
use Rattle.pf_law_registers.specs.Orders.{given}
use Rattle.pf_paxos.specs.declared.block.Block.{Block}
use Rattle.pf_paxos.specs.Registers.{Ask, AsksWrite, AsksRead, Reply, Written, Gives, Turn}
use Rattle.pf_paxos.specs.Runs.{idle_turn}
use Rattle.pf_law_positions.specs.Deeds.{PortAsk, Puts, Gets, PortReply, Put, Got, Deed, Takes, Submits}

-- where the two halves of a position lie: the chunk, and the first of eight sectors of it
pub record PositionHome : Type 0 where
  pub chunk : ℕ → ℕ
  pub first : ℕ → ℕ

-- of a block
abbrev pub chunk_of_block : PositionHome → (block : ℕ) → ℕ
chunk_of_block home block = home.chunk (block / 8)

abbrev pub sector_of : PositionHome → (block : ℕ) → ℕ
sector_of home block = home.first (block / 8) + block % 8

abbrev pub is_half : PositionHome → (half chunk : ℕ) → Span → Bool
is_half home half chunk range = chunk == home.chunk half && (range.first == home.first half && range.count == 8)

-- a write of these bytes
abbrev pub asks_write : (Sector → Block) → Option Sector → Option Ask
asks_write read None = None
asks_write read (Some bytes) = Some (AsksWrite (read bytes))

-- what an ask is in the position: a write of the own block, or a read of a half. Anything else is nothing here
abbrev pub ask_in : (Sector → Block) → PositionHome → (client : ℕ) → PortAsk → Option Ask
ask_in read home client (Puts chunk op) = if nat_lt client 16 && chunk == chunk_of_block home client then asks_write read (given op (sector_of home client))
    else None
ask_in read home client (Gets chunk range) = if is_half home 0 chunk range then Some (AsksRead 0)
    else (if is_half home 1 chunk range then Some (AsksRead 1) else None)

abbrev pub next_in_half : (Sector → Block) → PositionHome → (client : ℕ) → Option PortAsk → Option Ask
next_in_half read home client None = None
next_in_half read home client (Some ask) = ask_in read home client ask

-- the reply, where what it answers is of the position
abbrev pub if_asked : Option Ask → Reply → Option Reply
if_asked None reply = None
if_asked (Some ask) reply = Some reply

abbrev pub reply_in : (Sector → Block) → PositionHome → (client : ℕ) → Option PortReply → Option Reply
reply_in read home client None = None
reply_in read home client (Some (Put chunk epoch by op)) = if_asked (ask_in read home client (Puts chunk op)) Written
reply_in read home client (Some (Got chunk epoch by answer)) = if_asked (ask_in read home client (Gets chunk answer.range)) (Gives (map read answer.bytes))

-- a turn in which the position has no part is nobody's
abbrev pub turn_or_idle : (client : ℕ) → Option Reply → Option Ask → Turn
turn_or_idle client None None = idle_turn
turn_or_idle client reply ask = record { client = client; reply = reply; ask = ask }

abbrev pub turn_in : (Sector → Block) → PositionHome → Deed → Turn
turn_in read home (Takes client reply ask) = turn_or_idle client (reply_in read home client reply) (next_in_half read home client ask)
turn_in read home (Submits client chunk epoch place) = idle_turn

-- what was answered and asked in the position
abbrev pub turns_in : (Sector → Block) → PositionHome → List Deed → List Turn
turns_in read home deeds = map (λ deed. turn_in read home deed) deeds
