-- What a port and its group come to, step by step.
use Rattle.std.specs.Prelude.{◌≡◌, ℕ, ◌<◌, List, ◌++◌, Option, Some, None}
use Rattle.pf_base.specs.declared.asks.Ask.{Ask}
use Rattle.pf_base.specs.declared.asks.Reply.{Reply}
use Rattle.pf_protocol.specs.Servers.{Setup}
use Rattle.pf_protocol.specs.Histories.{History}
use Rattle.pf_asks.specs.Desks.{DeskCall}
use Rattle.pf_asks.specs.Ports.{PortIs, Drives, new_port}
use Rattle.pf_law_ports.specs.Calls.{PortPast, new_past, SayInTurn}

-- one step for the pending ask, whose calls find no event of anybody else between them
pub record IsUndisturbedStep (setup : Setup) (old : PortPast) (port : PortIs) (ask : Ask) (reply : Option Reply) (new : PortPast) (next : PortIs) : Type 0 where
  pub pending : port.ask ≡ Some ask
  pub calls : List DeskCall
  pub drives : Drives port ask calls reply next
  pub say : SayInTurn setup old calls new

-- A port begins over any history of its group. Then, in any order, others make events, an ask is put into the port where none is
-- pending, with a number above those of the asks before, and it makes a step for the pending one
pub data IsDriven (setup : Setup) : PortPast → PortIs → Type 0 where
  Begins : (history : History) → IsDriven setup (new_past history) new_port
  Others : (past : PortPast) (port : PortIs) (more : History) → IsDriven setup past port → IsDriven setup (record past { history = past.history ++ more }) port
  Puts : (past : PortPast) (port : PortIs) (ask : Ask) (number : ℕ) → past.asks < number → port.ask ≡ None → IsDriven setup past port
      → IsDriven setup (record past { asks = number }) (record port { ask = Some ask; sent = None })
  Steps : (old new : PortPast) (port next : PortIs) (ask : Ask) (reply : Option Reply) → IsUndisturbedStep setup old port ask reply new next
      → IsDriven setup old port → IsDriven setup new next
