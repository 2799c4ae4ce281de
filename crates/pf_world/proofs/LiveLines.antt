-- A line of threads, by what its calls come to.
use Rattle.std.proofs.Common.{◌≡◌, ℕ, ◌<◌, length, List, ◌++◌, Some, slice_set, sym, ap, subst, ◌∙◌}
use Rattle.pf_script.specs.declared.command.Command.{Command}
use Rattle.pf_script.specs.declared.command.Command.TheVariants as commands
use Rattle.pf_report.specs.Live.{live_text}
use Rattle.pf_report.specs.Texts.{report_line}
use Rattle.pf_base.specs.declared.live_end.LiveEnd.{LiveEnd}
use Rattle.pf_live_session.specs.pf_chunk.specs.Views.{ChunkIs}
use Rattle.pf_world_hosts.specs.pf_world_moments.specs.Steps.{AreReady}
use Rattle.pf_world_hosts.specs.Steps.{AreSameHosts, FleetHasGone, FleetHasStopped, IsFleetOf}
use Rattle.pf_world_hosts.specs.Volumes.{all_step}
use Rattle.pf_live_session.specs.pf_live_seats.specs.declared.plan.LinePlan.{LinePlan}
use Rattle.pf_live_session.specs.declared.session.Lived.{Lived}
use Rattle.pf_live_session.specs.Sessions.{IsLinePlan}
use Rattle.pf_live_session.specs.Steps.{HasHeld, ChunkHasNotLived, BecameAt}
use Rattle.pf_world.specs.declared.kind.Kind.{Kind}
use Rattle.pf_world.specs.declared.kind.Kind.TheVariants.{Raw}
use Rattle.pf_world.specs.Lines.{kind_decided}
use Rattle.pf_world.specs.Steps.{LineHasFailed, HasRun}
use Rattle.pf_world.specs.Views.{IsWorld, WorldIs}
use Rattle.pf_world.proofs.VolumeEvents.{becomes}
use Rattle.pf_world.proofs.Sessions.{lived_runs, mid_fleet, mid_ready, steps_fail, text_fails, threads_fail}

module _ (old : WorldIs) (number chunk hosts writes workers turns : ℕ) (world : IsWorld old) (low : chunk < length old.chunks) (kind : Kind) (decides : kind ≡ kind_decided old.kind Raw) (is : kind ≡ Raw) where
  abbrev live : Command
  live = commands.Live chunk hosts writes workers turns

  raw : kind_decided old.kind Raw ≡ Raw
  raw = sym decides ∙ is

  -- the threads wanted memory
  pub threads_stop : (plan : LinePlan) (chunks : List ChunkIs) → BecameAt chunk old.chunks chunks (ChunkHasNotLived plan) → IsLinePlan hosts writes workers turns old.sectors plan → LineHasFailed old number live (becomes old chunks old.fleet (Some kind))
  threads_stop plan chunks at is_plan =
      subst (λ k. LineHasFailed old number live (becomes old chunks old.fleet (Some k))) (sym decides)
      (subst (λ cs. LineHasFailed old number live (becomes old cs old.fleet (Some (kind_decided old.kind Raw)))) (sym at.put)
      (threads_fail old number chunk hosts writes workers turns world low raw plan is_plan at.was at.there at.is at.became))

  -- their session was held
  module _ (plan : LinePlan) (told : Lived) (before middle : List ℕ) (chunks : List ChunkIs) (at : BecameAt chunk old.chunks chunks (λ was is. HasHeld plan was before told middle is)) (is_plan : IsLinePlan hosts writes workers turns old.sectors plan) where
    pub held_ready : AreReady chunks
    held_ready = subst AreReady (sym at.put) (mid_ready old number chunk hosts writes workers turns world low raw plan is_plan at.was at.there at.is told before middle at.became)

    pub held_fleet : IsFleetOf chunks old.fleet
    held_fleet = subst (λ cs. IsFleetOf cs old.fleet) (sym at.put) (mid_fleet old number chunk hosts writes workers turns world low raw plan is_plan at.was at.there at.is told before middle at.became)

    module _ (next : WorldIs) (others : next ≡ becomes old next.chunks next.fleet (Some kind)) where
      next_is : becomes old next.chunks next.fleet (Some (kind_decided old.kind Raw)) ≡ next
      next_is = ap (λ k. becomes old next.chunks next.fleet (Some k)) (sym decides) ∙ sym others

      -- the hosts wanted memory for their steps
      pub hosts_stop : FleetHasStopped all_step chunks old.fleet next.chunks → LineHasFailed old number live next
      hosts_stop stopped =
          subst (LineHasFailed old number live) next_is
          (steps_fail old number chunk hosts writes workers turns world low raw plan is_plan at.was at.there at.is told before middle at.became next.chunks next.fleet
          (subst (λ cs. FleetHasStopped all_step cs old.fleet next.chunks) at.put stopped))

      module _ (later : List ℕ) (steps : FleetHasGone all_step chunks old.fleet middle next.chunks next.fleet later) where
        steps_of : FleetHasGone all_step (slice_set old.chunks chunk at.is) old.fleet middle next.chunks next.fleet later
        steps_of = subst (λ cs. FleetHasGone all_step cs old.fleet middle next.chunks next.fleet later) at.put steps

        -- there was none for the text of the line
        pub text_stops : LineHasFailed old number live next
        text_stops =
            subst (LineHasFailed old number live) next_is
            (text_fails old number chunk hosts writes workers turns world low raw plan is_plan at.was at.there at.is told before middle at.became next.chunks next.fleet later steps_of)

        pub live_runs : (after : List ℕ) (end : LiveEnd) → AreSameHosts old.fleet next.fleet → end ≡ told.end → after ≡ later ++ report_line number (live_text told.totals.acked told.totals.applied end) → HasRun old number live before after (record next { passes = Some told.passes })
        live_runs after end same ends put =
            subst (λ (w : WorldIs). HasRun old number live before after (record w { passes = Some told.passes })) next_is
            (lived_runs old number chunk hosts writes workers turns world low raw plan is_plan at.was at.there at.is told before middle at.became next.chunks next.fleet later steps_of after same
            (put ∙ ap (λ e. later ++ report_line number (live_text told.totals.acked told.totals.applied e)) ends))
