use Rattle.pf_paxos.specs.Journals.{proposer_events_at}
use Rattle.pf_paxos.proofs.RegisterAgreement.{one_decision}
use Rattle.pf_paxos.proofs.ProposerList.{begins_list}
use Rattle.pf_paxos.proofs.Longest.{transaction_list}
use Rattle.pf_law_positions.proofs.Volumes.{journal}
use Rattle.pf_journal.specs.Sectors.{block_in}
use Rattle.pf_journal.proofs.laws.journals_in_chunks_have_one_list.Goals as goal

pub returns-clause-agree : goal.returns-clause-agree
returns-clause-agree c = λ groups sectors deeds doings hosted position a b v w one other.
    one_decision (proposer_events_at position doings) (journal groups block_in sectors 256 deeds doings hosted position) a b v w one other

pub returns-clause-list : goal.returns-clause-list
returns-clause-list c = λ groups sectors deeds doings hosted.
    let registers = journal groups block_in sectors 256 deeds doings hosted in
    let found = transaction_list doings registers in
    (found.0, found.1, λ mount moment. begins_list doings registers found.0 found.1 mount moment)
