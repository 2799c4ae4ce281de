-- No step of a port submits to a leader of a lower term.
use Rattle.std.proofs.Common.{List, Option, None, rules}
use Rattle.pf_base.specs.declared.asks.Ask.{Ask}
use Rattle.pf_base.specs.declared.asks.Reply.{Reply}
use Rattle.pf_asks.specs.Desks.{DeskCall}
use Rattle.pf_asks.specs.Ports.{Drives, IsLed, NeverLower, PortIs}

-- each submission of a step goes to the leader that was named before it, whose term is not below the port's last
pub never_lower : (old new : PortIs) (ask : Ask) (calls : List DeskCall) (reply : Option Reply) → Drives old ask calls reply new → NeverLower old.last None calls
never_lower old new ask calls reply is = search rules

-- so in its other half
pub led_never_lower : (old new : PortIs) (ask : Ask) (calls : List DeskCall) → IsLed old ask calls new → NeverLower old.last None calls
led_never_lower old new ask calls is = search rules
