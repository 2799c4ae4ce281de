use Rattle.std.proofs.Common.{◌≡◌, ◌++◌, map, take, drop}
use Rattle.pf_asks.specs.Ports.{rehomed}
use Rattle.pf_chunk.proofs.chunk.ChunkGroup.hand_ports.Given as goal

abbrev pub invariant-loop-port : goal.invariant-loop-port
invariant-loop-port g l = l.port-items ≡ map rehomed (take l.port-index l.initial.port-items) ++ drop l.port-index l.initial.port-items
