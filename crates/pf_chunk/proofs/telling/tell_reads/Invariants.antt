use Rattle.pf_chunk.proofs.Told.{AreGone}
use Rattle.pf_chunk.proofs.telling.tell_reads.Given as goal

abbrev pub invariant-loop-one : goal.invariant-loop-one
invariant-loop-one g l = AreGone l.number l.fn.group l.fn.waiting.items l.one-items l.fn.out.items l.one-index l.group l.waiting.items l.out.items
