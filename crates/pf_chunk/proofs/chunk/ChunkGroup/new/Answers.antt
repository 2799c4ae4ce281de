use Rattle.std.proofs.Common.{◌≡◌, List, replicate, sym, subst}
use Rattle.pf_asks.specs.Ports.{PortIs, new_port}
use Rattle.pf_chunk_waiting.specs.declared.waiting.Waiting.{Waiting}
use Rattle.pf_chunk.specs.Runs.{most_ports}
use Rattle.pf_chunk.specs.Views.{ChunkIsReady}
use Rattle.pf_chunk.proofs.Made.{made_ready}
use Rattle.pf_chunk.proofs.chunk.ChunkGroup.new.Goals as goal

pub returns-clause-ready : goal.returns-clause-ready
returns-clause-ready g c =
    let ports : c.in-Ok.ports.items ≡ replicate most_ports new_port = c.in-Ok.ensures in
    subst (λ (ps : List PortIs). ChunkIsReady (record { group = c.in_ok-group.group; waiting = c.new-2.result.items; first_left = 0; next = 0; ports = ps })) (sym ports)
    (subst (λ (ws : List Waiting). ChunkIsReady (record { group = c.in_ok-group.group; waiting = ws; first_left = 0; next = 0; ports = replicate most_ports new_port })) (sym c.new-2.ensures.items)
    (made_ready _ _ _ _ _ _ _ _ c.in_ok-group.ensures.made))
