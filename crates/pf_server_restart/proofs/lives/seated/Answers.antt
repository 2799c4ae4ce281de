use Rattle.std.proofs.Common.{◌∙◌, ap}
use Rattle.pf_entry.specs.Sets
use Rattle.pf_holes.specs.SlotSets.{slots_upto}
use Rattle.pf_server_restart.proofs.NewLives.{revived}
use Rattle.pf_server_restart.proofs.lives.seated.Goals as goal

pub returns : goal.returns
returns c = revived c.args.seat.now c.args.life c.requires.seat c.args.tables c.requires.begun c.requires.unmarked c.with_prefix.result c.from_sectors.result c.args.idle.in_hand c.args.idle.rooms c.new.result c.new-2.result c.args.idle.snapshots
    (c.with_prefix.ensures ∙ ap (λ base. slots_upto base (Sets.items c.args.tables.applied)) c.base-base.ensures.base) c.from_sectors.ensures c.requires.in_hand c.requires.rooms c.new.ensures c.new-2.ensures c.requires.snapshots
