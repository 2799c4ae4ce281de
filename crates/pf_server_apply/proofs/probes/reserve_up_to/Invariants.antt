use Rattle.std.proofs.Common.{◌≡◌, ◌≤◌}
use Rattle.pf_server_apply.proofs.probes.reserve_up_to.Given as goal

abbrev pub invariant-loop : goal.invariant-loop
invariant-loop l = record {
  same : l.replies.answers ≡ l.initial.replies.answers;
  rooms : l.replies.rooms ≡ l.counter;
  low : l.initial.replies.rooms ≤ l.counter;
}
