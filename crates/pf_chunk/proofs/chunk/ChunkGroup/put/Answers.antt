use Rattle.std.proofs.Common.{slice_set, ap, subst, sym}
use Rattle.pf_asks.specs.Ports.{PortIs}
use Rattle.pf_chunk.specs.Views.{ChunkIs, ChunkIsReady}
use Rattle.pf_chunk.proofs.Driven.{put_ready}
use Rattle.pf_chunk.proofs.chunk.ChunkGroup.put.Goals as goal

pub returns-clause-ready : goal.returns-clause-ready
returns-clause-ready g c =
    subst (λ (v : ChunkIs). ChunkIsReady (record v { ports = slice_set v.ports c.args.mount c.put.new.self })) (sym c.self.view_is)
    (put_ready c.args.mount c.args.self.now c.put.new.self c.requires.ready (ap (λ (p : PortIs). p.sent) c.put.ensures))
