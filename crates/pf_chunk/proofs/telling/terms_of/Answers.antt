use Rattle.pf_group_rounds.specs.pf_group.specs.GroupIs.{state_of}
use Rattle.pf_chunk.proofs.UnansweredReads.{terms_run}
use Rattle.pf_chunk.proofs.telling.terms_of.Goals as goal

pub returns : goal.returns
returns g c told =
    terms_run (state_of c.args.group.now) c.term_of.result c.term_of-2.result c.term_of-3.result c.ok.result c.ok-2.result c.ok-3.result c.ok.ensures.value c.ok-2.ensures.value c.ok-3.ensures.value
    (c.term_of.ensures told) (c.term_of-2.ensures told) (c.term_of-3.ensures told)
