use Rattle.std.proofs.Common.{◌≡◌, replicate}
use Rattle.pf_asks.specs.Ports.{new_port}
use Rattle.pf_chunk.proofs.chunk.new_ports.Given as goal

abbrev pub invariant-loop-mount : goal.invariant-loop-mount
invariant-loop-mount l = l.ports.items ≡ replicate l.mount new_port
