-- For crates above: which writes are chosen, and the submissions that they come from.

-- no slot has two chosen ops, and slots are numbered from 1
pub use Rattle.pf_protocol.proofs.Histories.{one_chosen_op}
pub use Rattle.pf_protocol.proofs.Snapshots.{above_zero}
-- what is chosen at a moment is chosen later
pub use Rattle.pf_protocol.proofs.Snapshots.{chosen_after}
-- which slots ever have a chosen op can be told, and some slot is above them all
pub use Rattle.pf_protocol.proofs.ChosenSlots.{HasOp, decide_slot, last_slot}
-- what is chosen in a slot that could be passed shares no sector with the op that passed it
pub use Rattle.pf_protocol.proofs.Snapshots.{passed_apart_later}
-- an acknowledged slot is chosen in its own term, as a new entry
pub use Rattle.pf_protocol.proofs.Ports.{acked_chosen, NewChosen}
-- a new entry has its leader's next slot, term and first slot
pub use Rattle.pf_protocol.proofs.Ports.{new_slot}
-- an entry and its origin are proposals of one slot, and a merge hands the op on
pub use Rattle.pf_protocol.proofs.Ports.{origin_proposal}
pub use Rattle.pf_protocol.proofs.ChosenSubmissions.{origin_op}
-- a new proposal is the copy of some submission, with its op
pub use Rattle.pf_protocol.proofs.ChosenSubmissions.{submitted, Submitted, copy_op}
-- a chosen write was submitted, has the op of its submission, and comes from it ever after
pub use Rattle.pf_protocol.proofs.ChosenSubmissions.{was_submitted, comes_op, comes_after}
-- a submission has one target; one that was not refused was given its leader's next slot
pub use Rattle.pf_protocol.proofs.Ports.{same_next_of}
pub use Rattle.pf_protocol.proofs.SubmissionPlaces.{given_slot, Takes}
-- what is chosen in the slot of an acknowledged submission comes from this submission
pub use Rattle.pf_protocol.proofs.SubmissionPlaces.{acknowledged_copy}
-- no copy of an acknowledged write is chosen above the slot in which it was acknowledged
pub use Rattle.pf_protocol.proofs.Ports.{not_over}
-- a port's writes are chosen in the order in which it asked them, and after those of others that had ended
pub use Rattle.pf_protocol.proofs.Ports.{ordered}
pub use Rattle.pf_protocol.proofs.Between.{ordered_between}
