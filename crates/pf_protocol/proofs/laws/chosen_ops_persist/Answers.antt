use Rattle.pf_protocol.proofs.Histories.{later_proposals_agree, one_entry}
use Rattle.pf_protocol.proofs.Facts.{leaders_respect, starts_respect}
use Rattle.pf_protocol.proofs.laws.chosen_ops_persist.Goals as goal

pub returns : goal.returns
returns c = record { later = later_proposals_agree; leaders = leaders_respect; not_void = starts_respect; one_entry = one_entry }
