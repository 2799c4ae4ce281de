use Rattle.std.proofs.Common.{refl}
use Rattle.pf_base.proofs.Chunks.{chunks_behind}
use Rattle.pf_base.proofs.payload.sectors_in.Goals as goal

pub returns : goal.returns
returns c = chunks_behind c.args.count c.args.from c.args.bytes.now _ c.as_chunks.result.0.now c.requires refl c.as_chunks.ensures.front
