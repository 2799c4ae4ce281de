use Rattle.std.proofs.Common.{◌≡◌, ◌-◌, ◌≤◌, map, nat_lt}
use Rattle.std.specs.List.{filter, range_with_len}
use Rattle.pf_server_leader.specs.Submitting.{range_named_at}
use Rattle.pf_server_leader.proofs.plans.name_above.Given as goal

abbrev pub invariant-loop-slot : goal.invariant-loop-slot
invariant-loop-slot l = record {
  within : l.from ≤ l.slot;
  so_far : l.look ≡ map (range_named_at l.log.entries) (filter (nat_lt l.base) (range_with_len l.from (l.slot - l.from)));
}
