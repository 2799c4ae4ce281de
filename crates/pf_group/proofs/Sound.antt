-- Every history of a group is sound.
use Rattle.pf_protocol.specs.Servers.{Setup}
use Rattle.pf_protocol.specs.Histories.{History}
use Rattle.pf_protocol.proofs.ForHistories.{one_leader, safe, accepted_proposed, source_of, accepted_is_kept, acks_are_true, commits_are_true, disks_covered, held_is_within, images_covered, jobs_are_apart, committed_stand, servers_covered, start_is_kept, fresh, snapshot_is, disks_hold, images_hold, servers_hold, legal_fits, votes_are_true}
use Rattle.pf_group.specs.Sound.{IsSound}

pub sound : (setup : Setup) (history : History) → IsSound setup history
sound setup history = record {
  safe = safe setup history;
  leaders = one_leader setup history;
  fresh = fresh setup history;
  snapshots = snapshot_is setup history;
  entries = record { made = accepted_proposed setup history; source = source_of setup history; kept = accepted_is_kept setup history; starts = start_is_kept setup history; within = held_is_within setup history };
  committed_slots = committed_stand setup history;
  applied = record { servers = servers_covered setup history; disks = disks_covered setup history; images = images_covered setup history };
  written = record { servers = servers_hold setup history; disks = disks_hold setup history; images = images_hold setup history };
  jobs = jobs_are_apart setup history;
  bounded = legal_fits setup history;
  packets = record { votes = votes_are_true setup history; acks = acks_are_true setup history; commits = commits_are_true setup history };
}
