-- The asks of ports and their replies, as deeds have them.
use Rattle.std.specs.Prelude.{ℕ, Option, Some, None}
use Rattle.pf_base.specs.declared.asks.Ask.{Ask}
use Rattle.pf_base.specs.declared.asks.Ask.TheVariants.{Write, Read}
use Rattle.pf_base.specs.declared.asks.Reply.{Reply}
use Rattle.pf_base.specs.declared.asks.Reply.TheVariants.{Written, Bytes}
use Rattle.pf_entry.specs.declared.ops.Op.TheVariants as ops
use Rattle.pf_protocol.specs.Groups.{Answered}
use Rattle.pf_law_positions.specs.Deeds.{Deed, Takes, PortAsk, Puts, Gets, PortReply, Put, Got}

-- nobody is answered or asks
abbrev pub no_deed : Deed
no_deed = Takes 33 None None

abbrev pub port_ask : Ask → PortAsk
port_ask (Write chunk span sectors) = Puts chunk (ops.Write span sectors)
port_ask (Read chunk span) = Gets chunk span

-- the reply to an ask, from the group of an epoch of its chunk after so many events. (Bytes are those of an answer of the group)
abbrev pub port_reply : Ask → (epoch by : ℕ) → Answered → Reply → Option PortReply
port_reply (Write chunk span sectors) epoch by answer Written = Some (Put chunk epoch by (ops.Write span sectors))
port_reply (Read chunk span) epoch by answer (Bytes sectors) = Some (Got chunk epoch by answer)
port_reply ask epoch by answer reply = None
