use Rattle.std.proofs.Common.{◌+◌, ◌≤◌}
use Rattle.pf_server_candidate.specs.Merging.{TableHasBegun}
use Rattle.pf_server_candidate.proofs.merges.acknowledged.Given as goal

abbrev pub invariant-loop : goal.invariant-loop
invariant-loop l = record {
  begun : TableHasBegun l.me l.base l.counter l.acks;
  room : l.count ≤ l.counter + l.acks.spare;
}
