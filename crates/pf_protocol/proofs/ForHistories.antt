-- For crates above: the laws of src/, what holds in every history of a group. (Those on how histories go on are in ForMoments.)

-- in each term at most one server leads, and every history is safe
pub use Rattle.pf_protocol.proofs.Histories.{one_leader, safe}
-- each held entry is a proposal, whose op comes from a new one or fills a slot; it is kept, with its start, and no term is above its server's
pub use Rattle.pf_protocol.proofs.EntryMakers.{accepted_proposed}
pub use Rattle.pf_protocol.proofs.Origins.{source_of}
pub use Rattle.pf_protocol.proofs.Facts.{accepted_is_kept, held_is_within, start_is_kept}
-- a committed mark stands on a chosen op
pub use Rattle.pf_protocol.proofs.Facts.{committed_stand}
-- applied slots are chosen and the sectors are their ops in slot order: at running servers, on disks, in packets with an image
pub use Rattle.pf_protocol.proofs.Facts.{servers_covered, disks_covered, images_covered}
-- each sector holds what its last applied writer wrote: at running servers, on disks, in packets with an image
pub use Rattle.pf_protocol.proofs.LastWriters.{servers_hold, disks_hold, images_hold}
-- a snapshot holds the last writes of all slots up to its mark
pub use Rattle.pf_protocol.proofs.Snapshots.{snapshot_is}
-- jobs in hand are of chosen ops, and share no sector with each other
pub use Rattle.pf_protocol.proofs.Facts.{jobs_are_apart}
-- votes, acknowledgements and commits tell the truth
pub use Rattle.pf_protocol.proofs.VoteContents.{votes_are_true}
pub use Rattle.pf_protocol.proofs.Facts.{acks_are_true, commits_are_true}
-- reads are fresh
pub use Rattle.pf_protocol.proofs.Fresh.{fresh}
-- a legal history keeps its sizes, so each packet has a spelling and a server has at most 65 starts
pub use Rattle.pf_protocol.proofs.Legal.{legal_fits}
pub use Rattle.pf_protocol.proofs.MapSizes.{legal_packets, legal_starts}
-- in a legal history open claims are in hand
pub use Rattle.pf_protocol.proofs.OpenClaims.{legal_open}
-- in a legal history reads that wait are as their servers need them
pub use Rattle.pf_protocol.proofs.WaitingReads.{legal_asks}
-- the packets of a legal history are within the limits of a group
pub use Rattle.pf_protocol.proofs.Room.{legal_room, HasRoom}
-- a group has three servers, each runs under its number, and what a leader holds above its checkpoint and below its next slot is of its term
pub use Rattle.pf_protocol.proofs.Members.{is_member, its_number, own_entries}
-- also where a restart may have begun from any state that fits: a new group is viable, and each legal event and each such restart leaves a viable
-- group, whose packets have spellings and whose servers have few starts
pub use Rattle.pf_protocol.proofs.ElectedLeaders.{terms_after}
pub use Rattle.pf_protocol.proofs.ViableGroups.{viable_opening, viable_goes, viable_begins, viable_over, viable_packets, viable_starts}
