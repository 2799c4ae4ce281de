use Rattle.std.proofs.Common.{length, refl}
use Rattle.std.proofs.lemmas.Option.{slice_get_read}
use Rattle.pf_entry.specs.Sets as set
use Rattle.pf_holes.proofs.ClosurePasses.{reached_all, reached_next}
use Rattle.pf_holes.proofs.closing.closure.Goals as goal

pub loop-entry-preserved : goal.loop-entry-preserved
loop-entry-preserved c =
    let rows = c.args.entries.now in
    let i = c.loop-entry.entry-index in
    let e = c.entry-item.result in
    reached_next rows (set.contains c.args.committed.now.slots) (set.contains c.args.applied.now.slots) c.loop-entry.reached.slots c.reach.new.reached.slots i e
    c.requires (slice_get_read rows (length rows) i e refl c.loop-entry-test.true c.entry-item.is) c.in_ok-reach.ensures c.loop-entry.invariant

pub returns : goal.returns
returns c =
    reached_all c.args.entries.now (set.contains c.args.committed.now.slots) (set.contains c.args.applied.now.slots) (set.contains c.loop-entry.reached.slots) c.loop-entry.entry-index c.loop-entry-test.false c.loop-entry.invariant
