use Rattle.std.proofs.Common.{◌≡◌, false}
use Rattle.std.specs.VecDeque.{deque_len}
use Rattle.pf_entry.specs.Lists.{Every}
use Rattle.pf_entry.specs.Records.{recovered}
use Rattle.pf_server_store.specs.Stores.{is_image}
use Rattle.pf_server_restart.specs.Recovering.{state_in}
use Rattle.pf_server_restart.proofs.RecordReads.{but_used}
use Rattle.pf_server_restart.proofs.recovery.recover.Given as goal

abbrev pub invariant-loop-next : goal.invariant-loop-next
invariant-loop-next l = record {
  rest : Every (λ r. is_image r ≡ false) l.records.items;
  state : but_used (recovered (state_in l.tables) l.records.items) ≡ but_used (recovered (state_in l.initial.tables) l.initial.records.items);
  used : l.tables.used ≡ l.initial.tables.used;
  unmarked : l.tables.log.committed ≡ l.initial.tables.log.committed;
}

abbrev pub decreases-loop-next : goal.decreases-loop-next
decreases-loop-next l = deque_len l.records
