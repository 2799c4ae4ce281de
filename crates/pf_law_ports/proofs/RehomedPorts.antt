-- A port that was taken to another group begins there.
use Rattle.std.proofs.Common.{◌≡◌, ℕ, ◌<◌, Some, None, refl, sym, subst}
use Rattle.pf_base.specs.declared.asks.Ask.{Ask}
use Rattle.pf_protocol.specs.Histories.{History}
use Rattle.pf_protocol.specs.Servers.{Setup}
use Rattle.pf_asks.specs.Ports.{PortIs, new_port, rehomed}
use Rattle.pf_law_ports.specs.Calls.{new_past}
use Rattle.pf_law_ports.specs.Driven.{IsDriven, Begins, Puts}

pub pending : (setup : Setup) (history : History) (port : PortIs) (ask : Ask) (number : ℕ) → port.ask ≡ Some ask → 0 < number → IsDriven setup (record (new_past history) { asks = number }) (rehomed port)
pending setup history port ask number is above =
    subst (λ o. IsDriven setup (record (new_past history) { asks = number }) (record { ask = o; sent = None; last = 0 })) (sym is)
    (Puts (new_past history) new_port ask number above refl (Begins history))

pub idle : (setup : Setup) (history : History) (port : PortIs) → port.ask ≡ None → IsDriven setup (new_past history) (rehomed port)
idle setup history port is = subst (λ o. IsDriven setup (new_past history) (record { ask = o; sent = None; last = 0 })) (sym is) (Begins history)
