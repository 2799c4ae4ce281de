use Rattle.std.proofs.Common.{◌≡◌, ◌+◌, ◌≤◌, ℕ, Some}
use Rattle.std.specs.FinMap as finite
use Rattle.pf_entry.specs.declared.entries.Entry.{Entry}
use Rattle.pf_server_restart.specs.Beginning.{setup_of_seat}
use Rattle.pf_server_restart.specs.Testing.{EntryIsInPlace}
use Rattle.pf_server_restart.proofs.fitting.is_log.Given as goal

abbrev pub invariant-loop-passed : goal.invariant-loop-passed
invariant-loop-passed l = record {
  here : l.base ≡ l.log.base;
  passed : (slot : ℕ) (e : Entry) → slot ≤ l.base + l.passed → finite.get l.log.entries slot ≡ Some e → EntryIsInPlace (setup_of_seat l.seat) l.base slot e;
}
