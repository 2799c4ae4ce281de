use Rattle.std.proofs.Common.{◌≡◌, ◌≤◌, ◌++◌, List, length, map, not, Bool}
use Rattle.std.specs.List.{filter}
use Rattle.pf_entry.specs.Ops.{Sector}
use Rattle.pf_entry.specs.Sets as set
use Rattle.pf_election.specs.Reads.{confirmed_in, is_read_ready}
use Rattle.pf_election.specs.declared.probes.ProbedRead.{ProbedRead as ReadHere}
use Rattle.pf_server_memory.specs.Replying.{Replying}
use Rattle.pf_server_memory.specs.Standing.{read_in_memory}
use Rattle.pf_protocol.specs.Asked.{AreAsked}
use Rattle.pf_server_apply.specs.Reads.{read_reply}
use Rattle.pf_server_apply.proofs.reads.answer_ready.Given as goal

-- some of the reads are answered
pub record IsUnderway (ready : ReadHere → Bool) (sectors : List Sector) (old now : List ReadHere) (before after : Replying) : Type 0 where
  pub asked : AreAsked (length sectors) (map read_in_memory now)
  pub left : filter (λ r. not (ready r)) now ≡ filter (λ r. not (ready r)) old
  pub answers : after.answers ++ map (read_reply sectors) (filter ready now) ≡ before.answers ++ map (read_reply sectors) (filter ready old)
  pub room : confirmed_in now ≤ after.rooms

abbrev pub invariant-loop-read : goal.invariant-loop-read
invariant-loop-read l = IsUnderway (is_read_ready (set.contains l.applied.slots)) l.sectors l.initial.reads l.reads l.initial.replies l.replies

abbrev pub decreases-loop-read : goal.decreases-loop-read
decreases-loop-read l = length l.reads
