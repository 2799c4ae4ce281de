use Rattle.std.proofs.Common.{◌≡◌}
use Rattle.pf_move.specs.Routes.{AreFirst}
use Rattle.pf_world.proofs.Begun.{Begun}
use Rattle.pf_world.proofs.world.World.new.Given as goal

abbrev pub invariant-loop-number : goal.invariant-loop-number
invariant-loop-number g l = record {
  begun : Begun g.D.Disk.faults g.D.Disk.tells l.fn.disks.items l.sectors l.names l.format l.number l.world l.answer;
  extent : l.world.world.fleet.volume ≡ record { chunks = l.fn.chunks; sectors = l.sectors };
  routes : AreFirst l.fn.chunks l.world.world.fleet.routes;
}
