-- An event of a chunk, and then a step of each host and of the mover.
use Rattle.std.proofs.Common.{◌≡◌, ℕ, List, [], ◌∷◌, ◌++◌, Some, slice_get, slice_set, append-nil, sym, ap, subst, ◌∙◌}
use Rattle.pf_entry.proofs.Lists.{set_there}
use Rattle.pf_mount_host.specs.pf_group_network.proofs.Lists.{set_mapped}
use Rattle.pf_protocol.specs.declared.answers.Answer.{Answer}
use Rattle.pf_mount_host.specs.pf_group_rounds.specs.Halts.{Halt}
use Rattle.pf_mount_host.specs.pf_group_rounds.proofs.RunHistories.{Extends}
use Rattle.pf_mount_host.specs.pf_chunk.specs.Happenings.{Happened}
use Rattle.pf_mount_host.specs.pf_chunk.specs.Runs.{ChunkRun}
use Rattle.pf_mount_host.specs.pf_chunk.specs.Steps.{ChunkEvent, EventHasFailed, HasHappened}
use Rattle.pf_mount_host.specs.pf_chunk.specs.Views.{ChunkIs, run_of}
use Rattle.pf_mount_host.specs.pf_world_moments.specs.Moments.{Writes}
use Rattle.pf_mount_host.specs.pf_world_moments.specs.Steps.{AreReady, HaveBegun, chunk_runs}
use Rattle.pf_mount_host.specs.pf_world_moments.proofs.PortDrives.{ready_one}
use Rattle.pf_world_hosts.specs.Steps.{FleetIs, FleetHasAnswered, FleetHasGone, HasNotAnswered, FleetHasStopped, IsFleetOf, FleetPart, volume_stands_at}
use Rattle.pf_world_hosts.specs.Volumes.{all_step, volume_happens, saying, with_chunk}
use Rattle.pf_world_hosts.proofs.ChunkGrowth.{all_lengthen, one_begun, one_grown, tells_before}
use Rattle.pf_world_hosts.proofs.HostGroups.{fleet_after_event}
use Rattle.pf_world_hosts.proofs.Parts.{stopped_on, then_stopped, went_on}

-- the event alone
abbrev pub event_at : ChunkEvent → ChunkIs → FleetPart
event_at event was halts v = let h = event halts (run_of halts was) in saying h.text (with_chunk v h.chunk)

-- the event, and then the steps
abbrev pub event_and_steps : ChunkEvent → ChunkIs → FleetPart
event_and_steps event was halts v = volume_happens halts v (event halts (run_of halts was))

module _ (event : ChunkEvent) (k : ℕ) (old : List ChunkIs) (was is : ChunkIs) (fleet : FleetIs) (there : slice_get old k ≡ Some was) (ready : AreReady old) where
  -- What happened
  module _ (is_fleet : IsFleetOf old fleet) (before middle : List ℕ) (answer : Answer) (h : HasHappened event was before answer middle is) where
    -- it stands in its place
    number_is : is.group.number ≡ k
    number_is = h.grown.number ∙ (ready k was there).0

    pub ready_after : AreReady (slice_set old k is)
    ready_after = ready_one k k old was is there ready h.grown.number h.ready

    pub fleet_after : IsFleetOf (slice_set old k is) fleet
    fleet_after = fleet_after_event k old was is fleet there h.ports is_fleet

    pub event_went : FleetHasGone (event_at event was) old fleet before (slice_set old k is) fleet middle
    event_went = record {
      ready = ready_after;
      is_fleet = fleet_after;
      grown = one_grown old k was is there h.grown;
      told = Writes h.text ∷ [];
      put = h.put ∙ ap (λ text. before ++ text) (sym (append-nil h.text));
      run = λ halts tells.
          ap (λ (it : Happened). saying it.text (with_chunk (volume_stands_at halts old fleet) it.chunk)) (h.run halts (tells k is (set_there old k was is there)))
          ∙ ap (λ (chunks : List ChunkRun). saying h.text (record { extent = fleet.volume; chunks = chunks; layout = fleet.layout; hosts = fleet.hosts; routes = fleet.routes; mover = fleet.mover }))
          (ap (λ n. slice_set (chunk_runs halts old) n (run_of halts is)) number_is ∙ set_mapped (run_of halts) old k is);
    }

    -- and the hosts took their steps
    pub event_then_steps : (new : List ChunkIs) (next : FleetIs) (after : List ℕ) → FleetHasGone all_step (slice_set old k is) fleet middle new next after → FleetHasGone (event_and_steps event was) old fleet before new next after
    event_then_steps new next after steps = went_on (event_at event was) all_step old (slice_set old k is) new fleet fleet next before middle after event_went steps

    pub event_answered : (new : List ChunkIs) (next : FleetIs) (after : List ℕ) → FleetHasGone all_step (slice_set old k is) fleet middle new next after → FleetHasAnswered event k old fleet before answer new next after
    event_answered new next after steps = record {
      was = was;
      there = there;
      answered = λ halts tells.
          ap (λ (it : Happened). it.answer) (h.run halts (tells_before halts (slice_set old k is) new steps.grown tells k is (set_there old k was is there)));
      said = h.said;
      went = event_then_steps new next after steps;
    }

    -- there was no memory for the steps
    pub event_then_stopped : (new : List ChunkIs) → FleetHasStopped all_step (slice_set old k is) fleet new → FleetHasStopped (event_and_steps event was) old fleet new
    event_then_stopped new steps = then_stopped (event_at event was) all_step old (slice_set old k is) new fleet fleet before middle event_went steps

    pub event_not_answered : (new : List ChunkIs) → FleetHasStopped all_step (slice_set old k is) fleet new → HasNotAnswered event k old fleet new
    event_not_answered new steps = record { was = was; there = there; stopped = event_then_stopped new steps }

  -- There was no memory for the event
  module _ (longer : (halts : List Halt) (c : ChunkRun) → Extends c.group (event halts c).chunk.group) (f : EventHasFailed (λ halts. (event halts (run_of halts was)).chunk.group) was.group is.group) where
    began : FleetHasStopped (event_at event was) old fleet (slice_set old k is)
    began = record {
      grown = one_grown old k was is there f.grown;
      begun = λ halts tells.
          let would : ChunkRun = (event halts (run_of halts was)).chunk in
          let number : would.group.number ≡ k = (longer halts (run_of halts was)).0 ∙ (ready k was there).0 in
          subst (λ n. HaveBegun halts old (slice_set (chunk_runs halts old) n would) (slice_set old k is)) (sym number)
          (one_begun halts old k was is would there tells (f.begun halts (tells k is (set_there old k was is there))));
    }

    pub event_stopped : FleetHasStopped (event_and_steps event was) old fleet (slice_set old k is)
    event_stopped = stopped_on (event_at event was) all_step old (slice_set old k is) fleet began all_lengthen

    pub event_failed : HasNotAnswered event k old fleet (slice_set old k is)
    event_failed = record { was = was; there = there; stopped = event_stopped }
