-- Packets at the front of bytes.
use Rattle.std.specs.Prelude.{ℕ, Bool, true, ◌&&◌, not, ◌==◌, nat_lt, nat_le, List, length, Option, Some, None, if◌then◌else◌}
use Rattle.std.specs.Int.{w64}
use Rattle.pf_entry.specs.Canonical.{second_format}
use Rattle.pf_entry.specs.declared.packets.Packet.{Packet}
use Rattle.pf_entry.specs.declared.packets.Body.{Body}
use Rattle.pf_entry.specs.declared.packets.Body.TheVariants.{RequestVote, Vote, Accept, Ack, Nack, Commit, Probe, ProbeOk, Image}
use Rattle.pf_codec.specs.Parsers.{Parser, and_then, ◌>>=◌, checked, byte_at, number_at}
use Rattle.pf_codec.specs.Reading.{entry_at, vote_at, slots_at, sectors_at}

-- what a parser gives, as a message
abbrev pub message_of : {A : Type 0} → Parser A → (A → Body) → Parser Body
message_of parser make = do
  given ← parser
  checked true (make given)

-- two numbers
unfoldable pub pair_at : Parser (ℕ × ℕ)
pair_at = do
  a ← number_at w64
  b ← number_at w64
  checked true (a, b)

unfoldable pub image_at : Parser Body
image_at = do
  base ← number_at w64
  applied ← slots_at base
  sectors ← sectors_at
  checked true (Image base applied sectors)

unfoldable pub message_at : ℕ → Parser Body
message_at kind =
    if kind == 1 then message_of (number_at w64) RequestVote
    else if kind == 2 then message_of (vote_at second_format) Vote
    else if kind == 3 then message_of (entry_at second_format) Accept
    else if kind == 4 then message_of pair_at (λ pair. Ack pair.0 pair.1)
    else if kind == 5 then checked true Nack
    else if kind == 6 then message_of (number_at w64) Commit
    else if kind == 7 then message_of (number_at w64) Probe
    else if kind == 8 then message_of pair_at (λ pair. ProbeOk pair.0 pair.1)
    else if kind == 9 then image_at
    else λ bytes. None

-- an entry has the term of its packet
abbrev pub agrees : ℕ → Body → Bool
agrees term (Accept e) = e.term == term
agrees term m = true

unfoldable pub is_packet : Packet → Bool
is_packet p = nat_lt p.from 3 && nat_lt p.to 3 && not (p.from == p.to) && nat_le 1 p.term && agrees p.term p.body

unfoldable pub packet_at : Parser Packet
packet_at = do
  kind ← byte_at
  from ← byte_at
  to ← byte_at
  term ← number_at w64
  body ← message_at kind
  checked (is_packet (record { from = from; to = to; term = term; body = body })) (record { from = from; to = to; term = term; body = body })

-- a packet that is the whole of some bytes
unfoldable pub packet_in : List ℕ → Option Packet
packet_in bytes = and_then (packet_at bytes) (λ p. if length p.1 == 0 then Some p.0 else None)
