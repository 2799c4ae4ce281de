-- What a step sends, and whether there is room for it.
use Rattle.std.specs.Prelude.{◌≡◌, ℕ, ◌-◌, Bool, true, false, ◌||◌, List, [], ◌∷◌, ◌++◌, length, map, Option, Result, Ok, Err, nat_lt, sum_by, refl}
use Rattle.std.specs.Coded.{Coded, code_by, coded×, coded_ℕ, coded_list, coded_option}
use Rattle.pf_entry.specs.Sizes.{packet_size}
use Rattle.pf_entry.specs.declared.packets.Packet.{Packet}
use Rattle.pf_wire.specs.Packets.{packet_bytes}
use Rattle.pf_protocol.specs.declared.answers.Refusal.TheVariants.{PacketsFull}
use Rattle.pf_server_memory.specs.declared.faults.StepFault.{StepFault}
use Rattle.pf_server_memory.specs.declared.faults.StepFault.TheVariants.{NoMemory, Refused, Halted}

-- spelled packets, and room for more
pub record Outgoing : Type 0 where
  pub packets : List (List ℕ)
  pub packet_room : ℕ
  pub byte_room : ℕ
  pub acked : Option ℕ  -- the slot that the step acknowledges to the host

-- how these values are told apart
abbrev pub outgoing_code : Coded Outgoing
outgoing_code =
    code_by (List (List ℕ) × (ℕ × (ℕ × Option ℕ))) (coded× (coded_list (coded_list coded_ℕ)) (coded× coded_ℕ (coded× coded_ℕ (coded_option coded_ℕ))))
    (λ o. (o.packets, (o.packet_room, (o.byte_room, o.acked))))
    (λ p. record { packets = p.0; packet_room = p.1.0; byte_room = p.1.1.0; acked = p.1.1.1 })
    (λ _. refl)

-- there is no room for these packets
unfoldable pub exceeds : Outgoing → List Packet → Bool
exceeds out packets = nat_lt out.packet_room (length packets) || nat_lt out.byte_room (sum_by packet_size packets)

-- after these packets
unfoldable pub sent_by : Outgoing → List Packet → Outgoing
sent_by out packets = record {
  packets = out.packets ++ map packet_bytes packets;
  packet_room = out.packet_room - length packets;
  byte_room = out.byte_room - sum_by packet_size packets;
  acked = out.acked;
}

-- the packets are sent, or there is no room for them, or no memory
abbrev pub Sends : {X : Type 0} → Outgoing → Outgoing → List Packet → Result X StepFault → Type 0
Sends out new packets (Ok x) = (exceeds out packets ≡ false) × (new ≡ sent_by out packets)
Sends out new packets (Err NoMemory) = Unit {0}
Sends out new packets (Err (Refused refusal)) = (refusal ≡ PacketsFull) × (exceeds out packets ≡ true)
Sends out new packets (Err Halted) = ⊥

pub record IsFirstPacket (old : Outgoing) (bytes : List ℕ) (new : Outgoing) : Type 0 where
  pub split : old.packets ≡ bytes ∷ new.packets
  pub same : new ≡ record old { packets = new.packets }

-- the packet was sent last
abbrev pub IsLastPacket : Packet → Outgoing → Type 0
IsLastPacket p out = (before : List (List ℕ)) × (out.packets ≡ before ++ packet_bytes p ∷ [])
