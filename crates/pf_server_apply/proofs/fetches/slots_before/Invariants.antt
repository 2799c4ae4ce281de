use Rattle.std.proofs.Common.{◌≡◌, ◌+◌, ◌&&◌}
use Rattle.std.specs.List.{filter, range_with_len}
use Rattle.pf_entry.specs.Sets as set
use Rattle.pf_server_apply.specs.Fetching.{is_waited_for}
use Rattle.pf_server_apply.proofs.fetches.slots_before.Given as goal

abbrev pub invariant-loop-passed : goal.invariant-loop-passed
invariant-loop-passed l = l.slots.items ≡ filter (λ slot. set.contains l.me.log.committed slot && is_waited_for l.me l.range slot) (range_with_len (l.from + 1) l.passed)
