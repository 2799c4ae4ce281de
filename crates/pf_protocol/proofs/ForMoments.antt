-- For crates above: moments of a history, and what one event changes. Nothing here is heavy to load.

-- a history begins itself, and a beginning of a beginning begins it too
pub use Rattle.pf_protocol.proofs.Moments.{whole_prefix, prefix_of}
-- what was there before an event began the history, and of two beginnings one begins the other
pub use Rattle.pf_protocol.proofs.Moments.{begins_with, comparable}
-- a history is run part by part, and event by event
pub use Rattle.pf_protocol.proofs.Moments.{run_parts, replay_goes_on}
-- a legal history goes on by a legal event, is legal up to each moment, and each event of it has its answer
pub use Rattle.pf_protocol.proofs.Moments.{legal_goes_on, legal_before, legal_at}
-- what holds at the beginning and is kept by each legal event holds after every legal history
pub use Rattle.pf_protocol.proofs.Moments.{legal_keeps}
-- what holds of the first leader and of a server that begins holds of each server that runs at the beginning
pub use Rattle.pf_protocol.proofs.Moments.{opened}
-- the count of reads never falls
pub use Rattle.pf_protocol.proofs.Moments.{reads_before}
-- the rule that an event follows at a running server, by the kinds of events
pub use Rattle.pf_protocol.proofs.EventChanges.{IsRule, BySubmit, ByFetch, ByPacket, ByElect, ByResend, ByFinish, ByGiveBack, ByCheckpoint}
-- what one event changes: where each running server comes from, and what the group's lists gain
pub use Rattle.pf_protocol.proofs.EventChanges.{goes, Goes, Steps}
-- a server that runs after an event ran before and stayed, took its step, began again, or claimed a slot
pub use Rattle.pf_protocol.proofs.EventChanges.{Came, Stays, Stepped, Begins, Claims}
-- what a step acknowledges and answers, and that what stood in a list of the group stays there
pub use Rattle.pf_protocol.proofs.EventChanges.{acks_of, answers_of, adds_stay}
