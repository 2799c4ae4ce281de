use Rattle.pf_protocol.proofs.EntryMakers.{accepted_proposed}
use Rattle.pf_protocol.proofs.Origins.{source_of}
use Rattle.pf_protocol.proofs.Facts.{accepted_is_kept, held_is_within}
use Rattle.pf_protocol.proofs.kept.held_entries_are_proposals.Goals as goal

pub returns : goal.returns
returns c = record { made = accepted_proposed; source = source_of; kept = accepted_is_kept; within = held_is_within }
