-- What is known of the moves of a lawful run.
use Rattle.std.proofs.Common.{◌≡◌, ℕ, ◌/◌, ◌<◌, List, ◌∷◌, ◌++◌, Some, take, arith}
use Rattle.pf_base.specs.Asks.{Answers}
use Rattle.pf_base.specs.declared.asks.Ask.{Ask}
use Rattle.pf_law_movers.specs.pf_group_network.proofs.Lists.{something_there}
use Rattle.pf_protocol.proofs.ForMoments.{legal_before}
use Rattle.pf_protocol.specs.Histories.{History}
use Rattle.pf_law_positions.proofs.Answers.{prefix_taken}
use Rattle.pf_volume.specs.Volumes.{IsVolume}
use Rattle.pf_move.specs.declared.mover.MoveNext.{MoveNext}
use Rattle.pf_law_movers.specs.pf_law_ports.specs.Calls.{PortPast}
use Rattle.pf_law_movers.specs.pf_law_service.proofs.ReplyCounts.{in_kind}
use Rattle.pf_world.specs.pf_group_rounds.specs.Halts.{Halt}
use Rattle.pf_world.specs.pf_chunk.specs.Runs.{ChunkRun}
use Rattle.pf_world.specs.pf_world_moments.specs.Moments.{Carries, Hands, Heard, Moment, Moves as MovesTo}
use Rattle.pf_world.specs.Headline.{IsLawfulRun}
use Rattle.pf_world.specs.Reports.{world_run}
use Rattle.pf_world.specs.Worlds.{WorldTold}
use Rattle.pf_world.specs.pf_live_session.specs.Sessions.{Session}
use Rattle.pf_world.specs.declared.line.Line.{Line}
use Rattle.pf_law_movers.specs.Movers.{AreMoves, carried_ask, role_of_reply}
use Rattle.pf_law_movers.specs.Pasts.{mover_trace, past_in}
use Rattle.pf_law_runs.specs.Scripts.{IsScript}
use Rattle.pf_law_runs.proofs.MoverInRuns.{each_so, is_ferried, movers_driven}
use Rattle.pf_law_movers.proofs.ToldHearings.{IsSo}
use Rattle.pf_law_runs.proofs.MoverCalls.{calls_follow}
use Rattle.pf_law_runs.proofs.MoverTurns.{run_steps}

module _ (halts : List Halt) (sessions : List Session) (lines : List Line) (script : IsScript lines) (lawful : IsLawfulRun (world_run halts sessions lines).world) where
  abbrev run : WorldTold
  run = world_run halts sessions lines

  abbrev chunks : List ChunkRun
  chunks = run.world.volume.chunks

  abbrev count : ℕ
  count = run.world.volume.extent.chunks

  so : (before : List Moment) (y : Moment) (after : List Moment) → run.told ≡ before ++ y ∷ after → IsSo count chunks before y
  so = each_so halts sessions lines script

  -- the mover was answered in kind
  answered_so : (before after : List Moment) (chunk : ℕ) (heard : Heard) (next : MoveNext) → run.told ≡ before ++ Carries chunk (Some heard) next ∷ after → (ask : Ask) × (carried_ask before chunk ≡ Some ask) × Answers ask heard.reply
  answered_so before after chunk heard next same =
      let b = (so before (Carries chunk (Some heard) next) after same).1 in
      let history : History = b.group.group.history in
      let legal = (lawful b.number b.group b.there).legal in
      let past : PortPast = past_in (take heard.by history) (mover_trace (take heard.by history) b.number (role_of_reply heard.reply) count before) in
      (b.ask, b.pending, in_kind b.group.group.setup past b.ask heard.reply (legal_before b.group.group.setup (take heard.by history) history (prefix_taken heard.by history) legal) (b.replied legal))

  some_pieces : IsVolume run.world.volume.extent → 0 < run.world.volume.extent.sectors / 8
  some_pieces volume = omega (arith, volume.some_sectors)

  pub run_moves : AreMoves run.world.volume.extent chunks run.told
  run_moves = record {
    groups = λ k low. something_there chunks k (let made = (is_ferried halts sessions lines script).routed.routes.made in omega (arith, low, made));
    begins = λ before after chunk to same. so before (MovesTo chunk to) after same;
    carries = λ before after chunk heard next same. (so before (Carries chunk heard next) after same).0;
    back = λ before after chunk heard next same. (so before (Carries chunk (Some heard) next) after same).1;
    on = λ before after m k place same high. (so before (Hands m k place) after same).of_mover high;
    calls = λ volume chunk epoch turns low at. calls_follow (run.world.volume.extent.sectors / 8) (some_pieces volume) run.told (run_steps halts sessions lines script) answered_so chunk epoch turns at;
    driven = movers_driven halts sessions lines script;
  }
