-- Packets from one server.
use Rattle.std.specs.Prelude.{ℕ, ◌<◌, ◌≢◌, List, map}
use Rattle.pf_entry.specs.Canonical.{IsCanonicalPacket}
use Rattle.pf_entry.specs.declared.packets.Packet.{Packet}
use Rattle.pf_entry.specs.declared.packets.Body.{Body}
use Rattle.pf_protocol.specs.Outcomes.{other_servers}

abbrev pub packet : (me to term : ℕ) → Body → Packet
packet me to term body = record { from = me; to = to; term = term; body = body }

-- to the two other servers
abbrev pub packets_to : (me term : ℕ) → Body → List Packet
packets_to me term body = map (λ i. packet me i term body) (other_servers me)

-- to any other server
abbrev pub AreCanonical : (me term : ℕ) → Body → Type 0
AreCanonical me term body = (i : ℕ) → i < 3 → i ≢ me → IsCanonicalPacket (packet me i term body)
