use Rattle.std.proofs.Common.{sym, ap, subst}
use Rattle.pf_server_memory.specs.declared.running.Running.{Running}
use Rattle.pf_server_memory.specs.Standing.{IsCached}
use Rattle.pf_server_memory.specs.Replying.{Replying}
use Rattle.pf_server.proofs.StepEnds.{quieted_cached, settled_answered}
use Rattle.pf_server.proofs.ends.answer_reads.Goals as goal

pub settle-requires-clause-cached : goal.settle-requires-clause-cached
settle-requires-clause-cached c =
    let me = c.args.me.now in
    let d = c.requires.cached.0 in
    (d, subst (λ (r : Replying). let mid : Running = record me { replies = r } in IsCached d mid) (sym c.forget.ensures) (quieted_cached d me c.requires.cached.1))

pub returns : goal.returns
returns c = λ d cached.
    let me = c.args.me.now in
    settled_answered d me (record me { replies = c.forget.new.replies }) c.settle.new.me (ap (λ (r : Replying). let mid : Running = record me { replies = r } in mid) c.forget.ensures)
    cached c.requires.asked (λ x. (c.settle.ensures.after d x, c.settle.ensures.answers d x))
