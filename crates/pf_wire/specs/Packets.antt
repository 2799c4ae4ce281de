-- Packets as bytes.
use Rattle.std.specs.Prelude.{ℕ, List, [], ◌++◌}
use Rattle.std.specs.Int.{w64}
use Rattle.pf_entry.specs.declared.packets.Packet.{Packet}
use Rattle.pf_entry.specs.declared.packets.Body.{Body}
use Rattle.pf_entry.specs.declared.packets.Body.TheVariants.{RequestVote, Vote, Accept, Ack, Nack, Commit, Probe, ProbeOk, Image}
use Rattle.pf_codec.specs.Spelling.{number, byte, entry_bytes, vote_bytes, slots_bytes, sectors_bytes}
use Rattle.pf_codec.specs.Fitting.{IsWord, EntryFitsWords, VoteFitsWords, SlotsFitWords}

abbrev pub body_kind : Body → ℕ
body_kind (RequestVote base) = 1
body_kind (Vote v) = 2
body_kind (Accept e) = 3
body_kind (Ack slot upto) = 4
body_kind Nack = 5
body_kind (Commit slot) = 6
body_kind (Probe n) = 7
body_kind (ProbeOk n upto) = 8
body_kind (Image base applied sectors) = 9

unfoldable pub message_bytes : Body → List ℕ
message_bytes (RequestVote base) = number w64 base
message_bytes (Vote v) = vote_bytes v
message_bytes (Accept e) = entry_bytes e
message_bytes (Ack slot upto) = number w64 slot ++ number w64 upto
message_bytes Nack = []
message_bytes (Commit slot) = number w64 slot
message_bytes (Probe n) = number w64 n
message_bytes (ProbeOk n upto) = number w64 n ++ number w64 upto
message_bytes (Image base applied sectors) = number w64 base ++ (slots_bytes applied ++ sectors_bytes sectors)

-- kind, sender, receiver, term, and the message
unfoldable pub packet_bytes : Packet → List ℕ
packet_bytes p = byte (body_kind p.body) ++ (byte p.from ++ (byte p.to ++ (number w64 p.term ++ message_bytes p.body)))

-- the numbers of a message fit their types
abbrev pub MessageFits : Body → Type 0
MessageFits (RequestVote base) = IsWord base
MessageFits (Vote v) = VoteFitsWords v
MessageFits (Accept e) = EntryFitsWords e
MessageFits (Ack slot upto) = IsWord slot × IsWord upto
MessageFits Nack = Unit {0}
MessageFits (Commit slot) = IsWord slot
MessageFits (Probe n) = IsWord n
MessageFits (ProbeOk n upto) = IsWord n × IsWord upto
MessageFits (Image base applied sectors) = IsWord base × SlotsFitWords applied

abbrev pub PacketFitsWords : Packet → Type 0
PacketFitsWords p = IsWord p.term × MessageFits p.body
