-- Packets for a server.
use Rattle.std.specs.Prelude.{ℕ, ◌<◌}
use Rattle.pf_entry.specs.declared.packets.Body.{Body}
use Rattle.pf_protocol.specs.Fitting.{PacketFits}
use Rattle.pf_server_memory.specs.Bounds.{far}
use Rattle.pf_server_memory.specs.declared.running.Running.{Running}
use Rattle.pf_server_memory.specs.Standing.{setup_of}
use Rattle.pf_server_memory.specs.Packets.{packet}

-- what every packet of a history meets: it is from another server, and its numbers are far from the ends of their types
pub record IsComing (me : Running) (from term : ℕ) (body : Body) : Type 0 where
  pub n : ℕ
  pub t : ℕ
  pub low : n < far
  pub t_low : t < far
  pub fits : PacketFits (setup_of me) n t (packet from me.number term body)
