-- What happened to a group since an earlier moment, in numbers.
use Rattle.std.specs.Prelude.{◌≡◌, ◌-◌, IsTrue, drop, length}
use Rattle.pf_protocol.specs.Histories.{History}
use Rattle.pf_live_line.specs.pf_group.specs.Applied.{applied_on_each}
use Rattle.pf_live_line.specs.pf_group.specs.GroupIs.{GroupIs, state_of}
use Rattle.pf_live_session.specs.declared.totals.Beginning.{Beginning}
use Rattle.pf_live_session.specs.declared.totals.Totals.{Totals}

abbrev pub happened_since : (old new : GroupIs) → History
happened_since old new = drop (length old.history) new.history

-- how many slots were acknowledged, where the disks tell their content
pub record AreTotals (old new : GroupIs) (totals : Totals) : Type 0 where
  pub acked : IsTrue old.told → totals.acked ≡ length (state_of new).acked - length (state_of old).acked
  pub applied : totals.applied ≡ applied_on_each (happened_since old new)

-- what had happened by then
pub record IsBeginning (old : GroupIs) (began : Beginning) : Type 0 where
  pub acked : IsTrue old.told → began.acked ≡ length (state_of old).acked
  pub applied : began.applied ≡ applied_on_each old.history
