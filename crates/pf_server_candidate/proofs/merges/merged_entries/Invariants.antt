use Rattle.std.proofs.Common.{length}
use Rattle.pf_server_candidate.proofs.Made.{IsMade}
use Rattle.pf_server_candidate.proofs.merges.merged_entries.Given as goal

abbrev pub invariant-loop-op : goal.invariant-loop-op
invariant-loop-op l = record {
  made : IsMade l.term l.base l.own l.vote (length l.yielded) l.slot l.entries.items;
}
