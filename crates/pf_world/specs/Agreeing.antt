-- Which lists of halts tell of a world.
use Rattle.std.specs.Prelude.{List}
use Rattle.pf_live_session.specs.pf_group_rounds.specs.Halts.{Halt}
use Rattle.pf_world_hosts.specs.pf_world_moments.specs.Steps.{TellsAll}
use Rattle.pf_world.specs.Views.{WorldIs}

-- of the groups of all its chunks
abbrev pub WorldTells : List Halt → WorldIs → Type 0
WorldTells halts w = TellsAll halts w.chunks
