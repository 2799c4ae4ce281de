-- A port at the worked history in which slots are committed out of order: it writes sector 0, and is told so once slot 1 is acknowledged.
use Rattle.std.specs.Prelude.{[], ◌∷◌, Some, None}
use Rattle.pf_base.specs.declared.asks.Ask.{Ask}
use Rattle.pf_base.specs.declared.asks.Ask.TheVariants.{Write as WriteAsk}
use Rattle.pf_entry.specs.Ops.{Sector}
use Rattle.pf_protocol.specs.declared.answers.Answer.TheVariants.{Slot as SlotIs}
use Rattle.pf_protocol.specs.OutOfOrder.{out_of_order}
use Rattle.pf_protocol.specs.Ports.{Submission}
use Rattle.pf_protocol.specs.Shown.{write_at}
use Rattle.pf_asks.specs.declared.port.Sent.TheVariants.{Slot}
use Rattle.pf_asks.specs.Ports.{PortIs}
use Rattle.pf_law_ports.specs.Calls.{PortPast}

abbrev pub its_ask : (first : Sector) → Ask
its_ask first = WriteAsk 0 (record { first = 0; count = 1 }) (first ∷ [])

-- server 0 served in term 1 before anything happened, and gave the write slot 1
abbrev pub its_submission : (first : Sector) → Submission
its_submission first = record { write = 1; before = []; server = 0; op = write_at 0 first; answer = SlotIs 1 }

-- the second write is of somebody else
abbrev pub its_past : (first second : Sector) → PortPast
its_past first second = record { history = out_of_order first second; asks = 1; writes = its_submission first ∷ []; reads = [] }

abbrev pub waiting_port : (first : Sector) → PortIs
waiting_port first = record { ask = Some (its_ask first); sent = Some (Slot 1); last = 1 }

abbrev pub answered_port : PortIs
answered_port = record { ask = None; sent = None; last = 1 }
