use Rattle.pf_protocol.proofs.Facts.{acks_are_true, commits_are_true}
use Rattle.pf_protocol.proofs.VoteContents.{votes_are_true}
use Rattle.pf_protocol.proofs.kept.packets_tell_the_truth.Goals as goal

pub returns : goal.returns
returns c = record { votes = votes_are_true; acks = acks_are_true; commits = commits_are_true }
