use Rattle.pf_server_format.proofs.Begun.{is_fresh}
use Rattle.pf_server_format.proofs.fresh.first_life.Goals as goal

pub returns : goal.returns
returns c = is_fresh c.args.seat.now c.requires.seat c.new.result c.args.log c.opening_role.result c.new-2.result c.args.sectors c.args.idle.in_hand c.args.idle.rooms c.new-3.result c.new-4.result c.args.idle.snapshots
    c.new.ensures c.requires.log c.opening_role.ensures.role c.opening_role.ensures.kept c.new-2.ensures c.requires.sectors c.requires.in_hand c.requires.rooms c.new-3.ensures c.new-4.ensures c.requires.snapshots
