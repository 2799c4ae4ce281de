-- For crates above: what each rule of a server keeps and leaves.

-- where the reads that wait after a step come from: there are none, the same ones, one more, or the same ones confirmed
pub use Rattle.pf_protocol.proofs.StepLeavings.{does, Does, Moves, ReadsFrom, NoReads, SameReads, Takes, Confirms}
-- a read that a leader takes up, and the step that takes it up
pub use Rattle.pf_protocol.proofs.StepLeavings.{new_read, TakesUp}
-- each rule leaves the reads that wait as their server needs them: in their order, of the chunk, and below the next number
pub use Rattle.pf_protocol.proofs.WaitingReads.{submit_asks, fetch_asks, fetch_asks_next, packet_asks, elect_asks, resend_asks, finish_asks, give_back_asks, checkpoint_asks}
-- the refusals of a group's turns leave the group as it was
pub use Rattle.pf_protocol.proofs.Legal.{IsSilent, submit_silent, elect_silent, room_silent}
pub use Rattle.pf_protocol.proofs.WaitingReads.{fetch_silent}
-- where nothing is refused, no fault was found
pub use Rattle.pf_protocol.proofs.Legal.{refuse_none}
-- what fits a legal history: after a submission or a message a step's outcome fits, and what fits a history fits a longer one
pub use Rattle.pf_protocol.proofs.LegalSizes.{Fits, submit_fits, message_fits, durable_more, server_more, vote_more}
-- a server has no more starts than its term
pub use Rattle.pf_protocol.proofs.MapSizes.{few_starts}
-- a checkpoint is not above what its server has reached
pub use Rattle.pf_protocol.proofs.Rows.{base_below_upto}
-- what was acknowledged stays so
pub use Rattle.pf_protocol.proofs.ChosenKnown.{acknowledged_more}
