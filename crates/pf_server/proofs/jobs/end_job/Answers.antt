use Rattle.std.proofs.Common.{length, refl}
use Rattle.pf_protocol.proofs.ForRows.{finish_asks}
use Rattle.pf_server_memory.specs.Standing.{server_of, setup_of}
use Rattle.pf_server.proofs.StepEnds.{answered_after, asked_now, asks_at}
use Rattle.pf_server.proofs.jobs.end_job.Goals as goal

pub answer_reads-requires-clause-cached : goal.answer_reads-requires-clause-cached
answer_reads-requires-clause-cached c = let d = c.requires.cached in (d.0, (c.finish.ensures d.0 d.1).after.cached)

pub answer_reads-requires-clause-asked : goal.answer_reads-requires-clause-asked
answer_reads-requires-clause-asked c =
    let me = c.args.me.now in
    let d = c.requires.cached in
    let turn = c.finish.ensures d.0 d.1 in
    let s = server_of d.0 me in
    let asks = finish_asks (setup_of me) (length me.sectors) c.requires.asks.0 s (asks_at d.0 me c.requires.asks.0 c.requires.asks.1) c.args.filled.life c.args.filled.slot in
    asked_now d.0 me c.finish.new.me _ turn.after.server_is turn.after.setup_same asks.asked

pub returns-clause-done : goal.returns-clause-done
returns-clause-done c = λ same. (
  refl,
  λ d cached.
      let turn = c.finish.ensures d cached in
      answered_after d c.args.me.now c.finish.new.me c.answer_reads.new.me _ turn.after.server_is turn.after.setup_same (c.answer_reads.ensures d turn.after.cached),
)
