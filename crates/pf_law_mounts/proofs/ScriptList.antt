-- The run of a script with a mount has one list of transactions.
use Rattle.std.proofs.Common.{◌<◌, ◌^◌, List, length}
use Rattle.pf_volume.specs.Volumes.{IsVolume}
use Rattle.pf_law_runs.specs.pf_world.specs.pf_group_rounds.specs.Halts.{Halt}
use Rattle.pf_law_runs.specs.pf_world.specs.Headline.{IsLawfulRun}
use Rattle.pf_law_runs.specs.pf_world.specs.Reports.{world_run}
use Rattle.pf_law_runs.specs.pf_world.specs.Worlds.{WorldTold}
use Rattle.pf_law_runs.specs.pf_world.specs.pf_live_session.specs.Sessions.{Session}
use Rattle.pf_law_runs.specs.pf_world.specs.declared.line.Line.{Line}
use Rattle.pf_law_runs.specs.Scripts.{IsScript}
use Rattle.pf_law_runs.proofs.MoverInRuns.{behind_told}
use Rattle.pf_law_runs.proofs.OwnWrites.{mounts_alone}
use Rattle.pf_law_runs.proofs.RunMoves.{run_moves}
use Rattle.pf_law_runs.proofs.ChunkSizes.{are_chunks}
use Rattle.pf_law_runs.proofs.Within.{reached_all}
use Rattle.pf_law_mounts.specs.Lists.{HasOneList}
use Rattle.pf_law_mounts.proofs.OneList.{has_one_list}
use Rattle.pf_law_mounts.proofs.Pieces.{IsWhole}
use Rattle.pf_law_mounts.proofs.RunKnowledge.{IsSoFar, run_known}
use Rattle.pf_law_mounts.proofs.CitedLaws.{answers, fitting, spelled}

module _ (halts : List Halt) (sessions : List Session) (lines : List Line) (script : IsScript lines) where
  abbrev run : WorldTold
  run = world_run halts sessions lines

  so_far : IsSoFar (length lines) run.world.kind run.world.volume run.told
  so_far = run_known answers spelled halts sessions lines script

  module _ (lawful : IsLawfulRun run.world) (volume : IsVolume run.world.volume.extent) (some : 0 < length run.world.volume.hosts) (few : length lines < 2 ^ 32) where
    whole : IsWhole run.world.volume run.told
    whole = record {
      moves = record { moves = run_moves halts sessions lines script lawful; behind = behind_told halts sessions lines script; legal = λ k c at. (lawful k c at).legal };
      far = reached_all halts sessions lines script;
      alone = mounts_alone halts sessions lines script (so_far.mounted some);
      sized = (are_chunks halts sessions lines script).sized;
    }

    pub one_list : HasOneList run.world.volume run.told
    one_list = has_one_list run.world.volume run.told (so_far.known volume) some volume whole fitting few
