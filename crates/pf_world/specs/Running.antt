-- Which lines may be run.
use Rattle.std.specs.Prelude.{◌+◌, ◌*◌, ◌^◌, ◌<◌, ◌≤◌, length}
use Rattle.pf_script.specs.declared.command.Command.{Command}
use Rattle.pf_world.specs.Steps.{MayRun}
use Rattle.pf_world.specs.Views.{IsWorld, WorldOn, named_in}

-- the line is no volume and its numbers are in their ranges; one call and one move more can be counted, and there are disks for eight groups
pub record MayBeRun {D : Type 0} (old : WorldOn D) (command : Command) : Type 0 where
  pub world : IsWorld old.world
  pub allowed : MayRun (named_in old.world) command
  pub calls : old.world.fleet.calls + 1 < 2 ^ 32
  pub moves : old.world.moves + 1 < 2 ^ 32
  pub disks : 48 ≤ 6 * length old.world.chunks + length old.spare
