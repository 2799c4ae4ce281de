use Rattle.std.proofs.Common.{sym, subst}
use Rattle.pf_chunk.specs.declared.asked.LineAsk.{LineAsk}
use Rattle.pf_chunk.specs.Asked.{asked_happened}
use Rattle.pf_chunk.specs.Steps.{HasHappened}
use Rattle.pf_chunk.proofs.Ranges.{none_happens}
use Rattle.pf_chunk.proofs.chunk.ChunkGroup.ask.Goals as goal

pub returns-in-NoRange-clause-went : goal.returns-in-NoRange-clause-went
returns-in-NoRange-clause-went g c =
    let old = c.args.self.now in
    let out = c.args.out.now.items in
    subst (λ (a : LineAsk). HasHappened (λ halts chunk. asked_happened halts a chunk) old out c.no_range.result out old) (sym c.in-NoRange.is)
    (none_happens c.in-NoRange.server old out c.no_range.result c.requires.ready c.no_range.ensures.said c.no_range.ensures.answer)
