use Rattle.pf_paxos.proofs.BallotAlone.{begins, writes, reads, start, written, read, lacks}
use Rattle.pf_paxos.proofs.one_anchor.ballots_over_one_anchor_are_proposers.Goals as goal

pub returns : goal.returns
returns c = record { begins = begins; writes = writes; reads = reads; start = start; written = written; read = read; lacks = lacks }
