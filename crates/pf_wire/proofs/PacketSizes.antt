-- Packets have as many bytes as their sizes say.
use Rattle.std.proofs.Common.{◌≡◌, ℕ, ◌+◌, ◌++◌, length, refl, ◌∙◌, arith, length-append}
use Rattle.std.specs.Int.{w64}
use Rattle.pf_entry.specs.Sizes.{message_size, packet_size}
use Rattle.pf_entry.specs.Canonical.{second_format, IsCanonicalMessage, IsCanonicalPacket}
use Rattle.pf_entry.specs.declared.packets.Packet.{Packet}
use Rattle.pf_entry.specs.declared.packets.Body.{Body}
use Rattle.pf_entry.specs.declared.packets.Body.TheVariants.{RequestVote, Vote, Accept, Ack, Nack, Commit, Probe, ProbeOk, Image}
use Rattle.pf_codec.specs.Spelling.{number, slots_bytes, sectors_bytes}
use Rattle.pf_codec.proofs.BodyLaws.{window_of_second}
use Rattle.pf_codec.proofs.SizeLaws.{len64, entry_len, slots_len, image_sectors_len, vote_len}
use Rattle.pf_wire.specs.Packets.{message_bytes, packet_bytes}

pair_len : (a b : ℕ) → length (number w64 a ++ number w64 b) ≡ 16
pair_len a b = length-append (number w64 a) (number w64 b) ∙ (λ i. len64 a i + len64 b i)

message_len : (term : ℕ) (m : Body) → IsCanonicalMessage term m → length (message_bytes m) ≡ message_size m
unfolding message_bytes
message_len term (RequestVote base) c = len64 base
message_len term (Vote v) c = vote_len second_format window_of_second v c
message_len term (Accept e) c = entry_len second_format e c.0
message_len term (Ack slot upto) c = pair_len slot upto
message_len term Nack c = refl
message_len term (Commit slot) c = len64 slot
message_len term (Probe n) c = len64 n
message_len term (ProbeOk n upto) c = pair_len n upto
message_len term (Image base applied sectors) c =
    let two = length-append (slots_bytes applied) (sectors_bytes sectors) in
    let one = length-append (number w64 base) (slots_bytes applied ++ sectors_bytes sectors) in
    omega (arith, one, two, len64 base, slots_len applied, image_sectors_len sectors c.bytes)

pub packet_len : (p : Packet) → IsCanonicalPacket p → length (packet_bytes p) ≡ packet_size p
unfolding packet_bytes packet_size
packet_len p c =
    let all = length-append (number w64 p.term) (message_bytes p.body) in
    omega (arith, all, len64 p.term, message_len p.term p.body c.message)
