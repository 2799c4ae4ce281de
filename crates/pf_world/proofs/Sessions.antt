-- Lines of threads.
use Rattle.std.proofs.Common.{◌≡◌, ℕ, suc, ◌+◌, ◌<◌, ◌≤◌, arith, Bool, true, cond, nat_lt, List, [], ◌∷◌, ◌++◌, drop, length, Option, Some, slice_get, slice_set, lit≤, refl, sym, ap, subst, ◌∙◌}
use Rattle.std.specs.Prelude.{IsTrue}
use Rattle.std.proofs.lemmas.Bool.Decides.{nat_tests}
use Rattle.std.proofs.lemmas.List.Sums.{sum_by-cons}
use Rattle.std.proofs.lemmas.Option.{slice_get_within}
use Rattle.pf_protocol.specs.declared.answers.Answer.{Answer}
use Rattle.pf_protocol.specs.declared.answers.Answer.TheVariants.{Done}
use Rattle.pf_protocol.specs.declared.events.Event.{Event}
use Rattle.pf_protocol.specs.declared.events.Event.TheVariants.{Restart}
use Rattle.pf_protocol.specs.Histories.{History}
use Rattle.pf_script.specs.declared.command.Command.{Command}
use Rattle.pf_script.specs.declared.command.Command.TheVariants as commands
use Rattle.pf_live_session.specs.pf_group_network.proofs.Lists.{set_there}
use Rattle.pf_live_session.specs.pf_group.specs.Applied.{applied_on, applied_on_each, applies_done}
use Rattle.pf_live_session.specs.pf_group.specs.GroupIs.{GroupIs}
use Rattle.pf_report.specs.Refusals.{line_refusal_text}
use Rattle.pf_report.specs.declared.refusals.LineRefusal.TheVariants as refusals
use Rattle.pf_report.specs.Live.{live_text}
use Rattle.pf_report.specs.Texts.{report_line}
use Rattle.pf_live_session.specs.pf_group_rounds.specs.Agreeing.{TellsOfGroup, chunk_standing, told_from, told_history}
use Rattle.pf_live_session.specs.pf_group_rounds.specs.Chunks.{Chunk, after, listed_at}
use Rattle.pf_live_session.specs.pf_group_rounds.specs.Growing.{HasGrown}
use Rattle.pf_live_session.specs.pf_group_rounds.specs.Halts.{Halt}
use Rattle.pf_live_session.specs.pf_group_rounds.specs.Rounds.{applied}
use Rattle.pf_live_session.specs.pf_group_rounds.proofs.RunHistories.{Extends, after_extends, applied_extends, extends_on, extends_refl}
use Rattle.pf_live_session.specs.pf_group_rounds.proofs.Told.{told_longer}
use Rattle.pf_live_session.specs.pf_live_seats.specs.declared.plan.LinePlan.{LinePlan}
use Rattle.pf_live_session.specs.declared.session.Lived.{Lived}
use Rattle.pf_live_session.specs.pf_chunk.specs.Happenings.{Happened}
use Rattle.pf_live_session.specs.pf_chunk.specs.Lending.{after_all, all_happened}
use Rattle.pf_live_session.specs.pf_chunk.specs.Runs.{ChunkRun}
use Rattle.pf_live_session.specs.pf_chunk.specs.Steps.{ChunkEvent}
use Rattle.pf_live_session.specs.pf_chunk.specs.Views.{ChunkIs, run_of}
use Rattle.pf_live_session.specs.pf_chunk.proofs.Begun.{filled_group}
use Rattle.pf_world_hosts.specs.pf_world_moments.specs.Steps.{AreReady, HaveBegun, HaveGrown, TellsAll}
use Rattle.pf_world_hosts.specs.pf_world_moments.proofs.Groups.{run_there}
use Rattle.pf_world_hosts.specs.Steps.{AreSameHosts, FleetIs, FleetHasGone, FleetHasStopped, IsFleetOf}
use Rattle.pf_world_hosts.specs.Steps as fleets
use Rattle.pf_world_hosts.specs.Volumes.{all_step, volume_quietly}
use Rattle.pf_world_hosts.proofs.Events.{event_and_steps, event_stopped, event_then_steps, event_then_stopped, fleet_after, ready_after}
use Rattle.pf_world_hosts.proofs.ChunkGrowth.{grown_refl_all, tells_before}
use Rattle.pf_live_session.specs.Sessions.{IsPartOfSession, IsLinePlan, Session, no_session, session_text}
use Rattle.pf_live_session.specs.Steps.{HasHeld}
use Rattle.pf_live_session.specs.Steps as threads
use Rattle.pf_world.specs.declared.kind.Kind.{Kind}
use Rattle.pf_world.specs.declared.kind.Kind.TheVariants.{Mounted, Raw}
use Rattle.pf_world.specs.Lines.{kind_decided, held_told, line_told, live_as, run_told, with_kind}
use Rattle.pf_world.specs.Steps.{LineHasFailed, HasKept, HasRun, IsNextSession, IsPartOfNext, KeepsPasses, KeepsAs, KeepsWhere, LivesAs, LivesInPart}
use Rattle.pf_world.specs.Views.{IsWorld, WorldIs, world_stands_at}
use Rattle.pf_world.specs.Worlds.{WorldTold, line_ended, said_only}
use Rattle.pf_world.proofs.AskedLines.{made_of}
use Rattle.pf_world.proofs.ChunkAsks.{made_told}
use Rattle.pf_world.proofs.LineFailures.{have_all_begun}
use Rattle.pf_world.proofs.VolumeEvents.{all_grew, becomes, chunks_ready, le_suc, went_runs}
use Rattle.pf_world.proofs.Mounts.{quiet_gone}

-- A session only adds to the history of its chunk

all_after_extend : (halts : List Halt) (its : List Event) (c : Chunk) → Extends c (after_all halts c its)
all_after_extend halts [] c = extends_refl c
all_after_extend halts (event ∷ its) c =
    let next = after halts c event in extends_on c next (after_all halts next its) (after_extends halts c event) (all_after_extend halts its next)

all_extend : (its : List Event) (halts : List Halt) (c : ChunkRun) → Extends c.group (all_happened halts its c).chunk.group
all_extend its halts c =
    let next = after_all halts c.group its in
    subst (Extends c.group) (sym (filled_group halts (record c { group = next }) Done))
    (extends_on c.group next (applied halts next) (all_after_extend halts its c.group) (applied_extends halts next))

-- Its totals are those of the run

listed_applies : (halts : List Halt) (number n server : ℕ) (event : Event) (answer : Answer) → applies_done server (listed_at halts number n event) answer ≡ applies_done server event answer
listed_applies halts number n server (Restart i found) answer = refl
listed_applies halts number n server event answer = refl

told_applied : (halts : List Halt) (number server n : ℕ) (history : History) → applied_on server (told_from halts number n history) ≡ applied_on server history
told_applied halts number server n [] = refl
told_applied halts number server n (h ∷ hs) =
    let one : Bool → ℕ = λ b. cond b 1 0 in
    sum_by-cons (λ x. one (applies_done server x.event x.answer)) (record h { event = listed_at halts number n h.event }) (told_from halts number (suc n) hs)
    ∙ ap (λ b. one b + applied_on server (told_from halts number (suc n) hs)) (listed_applies halts number n server h.event h.answer)
    ∙ ap (λ k. one (applies_done server h.event h.answer) + k) (told_applied halts number server (suc n) hs)
    ∙ sym (sum_by-cons (λ x. one (applies_done server x.event x.answer)) h hs)

told_each : (halts : List Halt) (number n : ℕ) (history : History) → applied_on_each (told_from halts number n history) ≡ applied_on_each history
told_each halts number n history =
    ap (λ x. x ∷ applied_on 1 (told_from halts number n history) ∷ applied_on 2 (told_from halts number n history) ∷ []) (told_applied halts number 0 n history)
    ∙ ap (λ x. applied_on 0 history ∷ x ∷ applied_on 2 (told_from halts number n history) ∷ []) (told_applied halts number 1 n history)
    ∙ ap (λ x. applied_on 0 history ∷ applied_on 1 history ∷ x ∷ []) (told_applied halts number 2 n history)

drop_front : {X : Type 0} → (xs ys : List X) → drop (length xs) (xs ++ ys) ≡ ys
drop_front [] ys = refl
drop_front (x ∷ xs) ys = drop_front xs ys

-- what was added, as a run has it
added : (halts : List Halt) (was is : GroupIs) → HasGrown was is → applied_on_each (drop (length (told_history halts was)) (told_history halts is)) ≡ applied_on_each (drop (length was.history) is.history)
added halts was is grown =
    let rest = grown.later.rest in
    let whole : told_history halts is ≡ told_history halts was ++ told_from halts was.number (0 + length was.history) rest =
    ap (λ n. told_from halts n 0 is.history) grown.number ∙ ap (told_from halts was.number 0) (sym grown.later.whole) ∙ told_longer halts was.number 0 was.history rest in
    ap (λ history. applied_on_each (drop (length (told_history halts was)) history)) whole
    ∙ ap applied_on_each (drop_front (told_history halts was) (told_from halts was.number (0 + length was.history) rest))
    ∙ told_each halts was.number (0 + length was.history) rest
    ∙ ap applied_on_each (sym (drop_front was.history rest))
    ∙ ap (λ history. applied_on_each (drop (length was.history) history)) grown.later.whole

-- The line

module _ (old : WorldIs) (number chunk hosts writes workers turns : ℕ) (world : IsWorld old) (low : chunk < length old.chunks) where
  abbrev pub kind_then : Option Kind
  kind_then = Some (kind_decided old.kind Raw)

  abbrev live : Command
  live = commands.Live chunk hosts writes workers turns

  is_there : nat_lt chunk (length old.chunks) ≡ true
  is_there = grind (arith, nat_tests)

  is_run : (halts : List Halt) (sessions : List Session) → line_told halts (world_stands_at halts sessions old) number live ≡ run_told halts (world_stands_at halts sessions old) number live
  is_run halts sessions = made_told halts (world_stands_at halts sessions old) number live (made_of halts sessions old live low)

  keeps_so : (sessions : List Session) (new : WorldIs) → KeepsAs (kind_decided old.kind Raw) old sessions chunk hosts writes workers turns new → KeepsPasses old sessions live new
  keeps_so sessions new kept = subst (λ b. KeepsWhere b old sessions chunk hosts writes workers turns new) (sym is_there) kept

  -- in a run with mounts
  module _ (mounted : kind_decided old.kind Raw ≡ Mounted) where
    refused : (halts : List Halt) (sessions : List Session) → line_told halts (world_stands_at halts sessions old) number live ≡ said_only (record (world_stands_at halts sessions old) { kind = kind_then }) number (line_refusal_text refusals.Mounted)
    refused halts sessions = is_run halts sessions ∙ ap (λ k. live_as k halts (with_kind (world_stands_at halts sessions old) (kind_decided old.kind Raw)) number chunk) mounted

    pub refused_runs : (before after : List ℕ) → after ≡ before ++ report_line number (line_refusal_text refusals.Mounted) → HasRun old number live before after (becomes old old.chunks old.fleet kind_then)
    refused_runs before after put =
        went_runs old number live world refl [] (λ halts v. volume_quietly v) kind_then old.passes old.chunks old.fleet before before after (line_refusal_text refusals.Mounted) (lit≤ tt) (quiet_gone old world before) put refl (le_suc old.fleet.calls)
        (λ halts rest tells. refused halts rest) (λ halts rest tells made. subst (λ k. LivesAs k halts (world_stands_at halts rest old) chunk hosts writes workers turns) (sym mounted) tt)
        (keeps_so [] (becomes old old.chunks old.fleet kind_then) (subst (λ k. KeepsAs k old [] chunk hosts writes workers turns (becomes old old.chunks old.fleet kind_then)) (sym mounted) refl))

    pub refused_fails : LineHasFailed old number live (becomes old old.chunks old.fleet kind_then)
    refused_fails = record {
      goes_on = all_grew old old.chunks old.fleet kind_then (grown_refl_all old.chunks);
      groups = refl;
      passes = refl;
      stopped = record {
        session = no_session;
        within = λ halts tells. subst (λ (t : WorldTold). HaveBegun halts old.chunks t.world.volume.chunks old.chunks) (sym (refused halts (no_session ∷ []))) (have_all_begun halts old.chunks old.chunks (grown_refl_all old.chunks) tells);
        is_part = λ there halts tells. subst (λ k. LivesInPart k halts (world_stands_at halts (no_session ∷ []) old) chunk hosts writes workers turns) (sym mounted) tt;
      };
    }

  -- in any other
  module _ (raw : kind_decided old.kind Raw ≡ Raw) (plan : LinePlan) (is_plan : IsLinePlan hosts writes workers turns old.sectors plan) (was : ChunkIs) (there : slice_get old.chunks chunk ≡ Some was) where
    plan_there : IsLinePlan hosts writes workers turns old.fleet.volume.sectors plan
    plan_there = subst (λ n. IsLinePlan hosts writes workers turns n plan) (sym world.sectors_are) is_plan

    abbrev of_session : Session → ChunkEvent
    of_session s halts c = all_happened halts s.events c

    held : (halts : List Halt) (s : Session) (rest : List Session) → line_told halts (world_stands_at halts (s ∷ rest) old) number live
        ≡ line_ended (record (world_stands_at halts rest old) { kind = kind_then }) number (event_and_steps (of_session s) was halts (fleets.volume_stands_at halts old.chunks old.fleet))
        (session_text (chunk_standing halts was.group) (all_happened halts s.events (run_of halts was)).chunk.group s.ended)
    held halts s rest =
        is_run halts (s ∷ rest)
        ∙ ap (λ k. live_as k halts (with_kind (world_stands_at halts (s ∷ rest) old) (kind_decided old.kind Raw)) number chunk) raw
        ∙ ap (held_told halts (record (world_stands_at halts rest old) { kind = kind_then }) number s) (run_there halts old.chunks chunk was there)

    -- some of a session was held
    pub not_lived : (s : Session) (chunks : List ChunkIs) (fleet : FleetIs) → FleetHasStopped (event_and_steps (of_session s) was) old.chunks old.fleet chunks
        → ((halts : List Halt) → TellsAll halts chunks → IsPartOfSession halts plan (chunk_standing halts was.group) s.events) → LineHasFailed old number live (becomes old chunks fleet kind_then)
    not_lived s chunks fleet stopped is_part = record {
      goes_on = all_grew old chunks fleet kind_then stopped.grown;
      groups = stopped.grown.count;
      passes = refl;
      stopped = record {
        session = s;
        within = λ halts tells. subst (λ (t : WorldTold). HaveBegun halts old.chunks t.world.volume.chunks chunks) (sym (held halts s [])) (stopped.begun halts tells);
        is_part = λ within halts tells.
            let its : IsPartOfNext halts (world_stands_at halts (s ∷ []) old) chunk hosts writes workers turns =
            record { c = run_of halts was; plan = plan; at = record { there = run_there halts old.chunks chunk was there; is_plan = plan_there }; is_part = is_part halts tells } in
            subst (λ k. LivesInPart k halts (world_stands_at halts (s ∷ []) old) chunk hosts writes workers turns) (sym raw) its;
      };
    }

    -- the threads wanted memory
    pub threads_fail : (is : ChunkIs) → threads.ChunkHasNotLived plan was is → LineHasFailed old number live (becomes old (slice_set old.chunks chunk is) old.fleet kind_then)
    threads_fail is n =
        let s : Session = record no_session { events = n.events } in
        not_lived s (slice_set old.chunks chunk is) old.fleet
        (event_stopped (of_session s) chunk old.chunks was is old.fleet there (chunks_ready old world) (all_extend n.events) n.failed)
        (λ halts tells. n.is_part halts (tells chunk is (set_there old.chunks chunk is (slice_get_within old.chunks chunk was there))))

    -- the session was held
    module _ (is : ChunkIs) (told : Lived) (before middle : List ℕ) (h : HasHeld plan was before told middle is) where
      abbrev mid : List ChunkIs
      mid = slice_set old.chunks chunk is

      pub mid_ready : AreReady mid
      mid_ready = ready_after (of_session h.session) chunk old.chunks was is old.fleet there (chunks_ready old world) world.is_fleet before middle Done h.went

      pub mid_fleet : IsFleetOf mid old.fleet
      mid_fleet = fleet_after (of_session h.session) chunk old.chunks was is old.fleet there (chunks_ready old world) world.is_fleet before middle Done h.went

      tells_mid : (halts : List Halt) (chunks : List ChunkIs) → HaveGrown mid chunks → TellsAll halts chunks → TellsOfGroup halts is.group
      tells_mid halts chunks grown tells = tells_before halts mid chunks grown tells chunk is (set_there old.chunks chunk is (slice_get_within old.chunks chunk was there))

      part_held : (halts : List Halt) (chunks : List ChunkIs) → HaveGrown mid chunks → TellsAll halts chunks → IsPartOfSession halts plan (chunk_standing halts was.group) h.session.events
      part_held halts chunks grown tells = (h.is_session halts (tells_mid halts chunks grown tells)).is.part

      -- there was no memory for the steps of the hosts
      pub steps_fail : (chunks : List ChunkIs) (fleet : FleetIs) → FleetHasStopped all_step mid old.fleet chunks → LineHasFailed old number live (becomes old chunks fleet kind_then)
      steps_fail chunks fleet stopped =
          not_lived h.session chunks fleet (event_then_stopped (of_session h.session) chunk old.chunks was is old.fleet there (chunks_ready old world) world.is_fleet before middle Done h.went chunks stopped)
          (λ halts. part_held halts chunks stopped.grown)

      module _ (chunks : List ChunkIs) (fleet : FleetIs) (later : List ℕ) (steps : FleetHasGone all_step mid old.fleet middle chunks fleet later) where
        gone : FleetHasGone (event_and_steps (of_session h.session) was) old.chunks old.fleet before chunks fleet later
        gone = event_then_steps (of_session h.session) chunk old.chunks was is old.fleet there (chunks_ready old world) world.is_fleet before middle Done h.went chunks fleet later steps

        -- nor for the text
        pub text_fails : LineHasFailed old number live (becomes old chunks fleet kind_then)
        text_fails =
            not_lived h.session chunks fleet (record {
              grown = gone.grown;
              begun = λ halts tells. subst (λ t. HaveBegun halts old.chunks t chunks) (sym (ap (λ t. t.volume.chunks) (gone.run halts tells))) (have_all_begun halts old.chunks chunks gone.grown tells);
            }) (λ halts. part_held halts chunks steps.grown)

        abbrev text : List ℕ
        text = live_text told.totals.acked told.totals.applied told.end

        text_is : (halts : List Halt) → TellsOfGroup halts is.group → session_text (chunk_standing halts was.group) (all_happened halts h.session.events (run_of halts was)).chunk.group h.session.ended ≡ text
        text_is halts tells =
            let grown = h.went.grown in
            ap (λ (x : Happened). session_text (chunk_standing halts was.group) x.chunk.group h.session.ended) (h.went.run halts tells)
            ∙ ap (λ a. live_text a (applied_on_each (drop (length (told_history halts was.group)) (told_history halts is.group))) h.session.ended) (sym (h.totals.acked (subst IsTrue grown.told tells.told)))
            ∙ ap (λ a. live_text told.totals.acked a h.session.ended) (added halts was.group is.group grown ∙ sym h.totals.applied)
            ∙ ap (λ e. live_text told.totals.acked told.totals.applied e) (sym h.ended)

        abbrev its : WorldIs
        its = record (becomes old chunks fleet kind_then) { passes = Some told.passes }

        kept : HasKept old h.session chunk hosts writes workers turns its
        kept = record {
          c = was;
          there = there;
          plan = plan;
          is_plan = is_plan;
          passes = told.passes;
          passes_are = refl;
          list = h.list;
          kept = h.kept;
          is_session = λ halts tells. h.is_session halts (tells_mid halts chunks steps.grown tells);
        }

        pub lived_runs : (after : List ℕ) → AreSameHosts old.fleet fleet → after ≡ later ++ report_line number text → HasRun old number live before after its
        lived_runs after same put =
            went_runs old number live world refl (h.session ∷ []) (event_and_steps (of_session h.session) was) kind_then (Some told.passes) chunks fleet before later after text (lit≤ tt) gone put same.volume (subst (λ n. n ≤ suc old.fleet.calls) (sym same.calls) (le_suc old.fleet.calls))
            (λ halts rest tells.
            held halts h.session rest
            ∙ ap (line_ended (record (world_stands_at halts rest old) { kind = kind_then }) number (event_and_steps (of_session h.session) was halts (fleets.volume_stands_at halts old.chunks old.fleet))) (text_is halts (tells_mid halts chunks steps.grown tells)))
            (λ halts rest tells made.
            let next : IsNextSession halts (world_stands_at halts (h.session ∷ rest) old) chunk hosts writes workers turns =
            record { c = run_of halts was; plan = plan; at = record { there = run_there halts old.chunks chunk was there; is_plan = plan_there }; is_session = (h.is_session halts (tells_mid halts chunks steps.grown tells)).is } in
            subst (λ k. LivesAs k halts (world_stands_at halts (h.session ∷ rest) old) chunk hosts writes workers turns) (sym raw) next)
            (keeps_so (h.session ∷ []) its (subst (λ k. KeepsAs k old (h.session ∷ []) chunk hosts writes workers turns its) (sym raw) kept))
