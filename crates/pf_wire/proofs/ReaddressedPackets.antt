-- A packet to another server.
use Rattle.std.proofs.Common.{◌≡◌, ℕ, ◌<◌, length, refl, arith}
use Rattle.std.specs.Prelude.{slice_set}
use Rattle.pf_entry.specs.declared.packets.Packet.{Packet}
use Rattle.pf_wire.specs.Packets.{packet_bytes}

pub has_receiver : (p : Packet) → 2 < length (packet_bytes p)
unfolding packet_bytes
has_receiver p = omega arith

pub receiver_set : (p : Packet) (to : ℕ) → slice_set (packet_bytes p) 2 to ≡ packet_bytes (record p { to = to })
unfolding packet_bytes
receiver_set p to = refl
