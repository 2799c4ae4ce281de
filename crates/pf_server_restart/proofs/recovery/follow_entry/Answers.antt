use Rattle.std.proofs.Common.{subst, sym}
use Rattle.pf_server_restart.specs.Recovering.{SlotIsPlaced, state_in}
use Rattle.pf_server_restart.proofs.RecordReads.{entry_followed, entry_placed, unplaced}
use Rattle.pf_server_restart.proofs.recovery.follow_entry.Goals as goal

pub returns-then-not-has_place : goal.returns-then-not-has_place
returns-then-not-has_place c = λ window.
    unplaced c.has_place.result c.if-not-has_place.true c.has_place.ensures.1 (subst (λ base. SlotIsPlaced base c.args.entry.slot) (sym c.base.ensures.base) (entry_placed (state_in c.args.tables.now) c.args.entry window))

pub returns : goal.returns
returns c = entry_followed c.args.tables.now c.args.entry c.add_start.new.starts c.put.new.self c.in_ok-add_start.ensures c.put.ensures
