use Rattle.pf_world.proofs.world.World.line.Goals as goal

pub run-done-requires-clause-may : goal.run-done-requires-clause-may
run-done-requires-clause-may g c κs within = record {
  world = c.requires.world;
  allowed = c.requires.command;
  calls = c.requires.few;
  moves = c.requires.lines;
  disks = c.requires.disks;
}

pub returns-clause-crash : goal.returns-clause-crash
returns-clause-crash g c = c.laws.ensures.crash
