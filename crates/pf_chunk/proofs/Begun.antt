-- Where there was no memory for all of an event, a beginning of it happened.
use Rattle.std.proofs.Common.{◌≡◌, ℕ, ◌+◌, Bool, false, if◌then◌else◌, List, [], length, refl, sym, ap, subst, ◌∙◌, append-nil}
use Rattle.pf_protocol.specs.declared.answers.Answer.{Answer}
use Rattle.pf_protocol.specs.declared.events.Event.{Event}
use Rattle.pf_protocol.specs.declared.events.Event.TheVariants as events
use Rattle.pf_protocol.specs.Histories.{IsPrefix, replay}
use Rattle.pf_entry.proofs.Cases.{by_test}
use Rattle.pf_protocol.proofs.ForMoments.{prefix_of, whole_prefix}
use Rattle.pf_group_rounds.specs.pf_group.specs.declared.event.GroupEvent.{GroupEvent}
use Rattle.pf_group_rounds.specs.pf_group.specs.Events.{rule_event}
use Rattle.pf_group_rounds.specs.pf_group.specs.GroupIs.{GroupIs}
use Rattle.pf_group_rounds.specs.pf_group.specs.Steps.{GroupHasStepped, IsLeftWithoutMemory}
use Rattle.pf_group_rounds.specs.Agreeing.{TellsOfGroup, chunk_standing, told_from, told_history}
use Rattle.pf_group_rounds.specs.Begun.{GroupHasBegun}
use Rattle.pf_group_rounds.specs.Chunks.{Chunk, after, event_answered}
use Rattle.pf_group_rounds.specs.Growing.{HasGrown}
use Rattle.pf_group_rounds.specs.Halts.{Halt}
use Rattle.pf_group_rounds.specs.Rounds.{applied}
use Rattle.pf_group_rounds.proofs.RunHistories.{Extends, after_extends, applied_extends, extends_on, extends_refl}
use Rattle.pf_group_rounds.proofs.GroupGrowth.{grown_refl, grown_tells, grown_trans, left_grows, step_grows, taken_grows}
use Rattle.pf_group_rounds.proofs.FaultCounts.{only_faults}
use Rattle.pf_group_rounds.proofs.Told.{told_longer, told_replays}
use Rattle.pf_chunk.specs.declared.asked.LineAsk.{LineAsk}
use Rattle.pf_chunk.specs.declared.asked.LineAsk.TheVariants as asks
use Rattle.pf_chunk.specs.Asked.{asked_happened}
use Rattle.pf_chunk.specs.Asking.{fetches, filled_write, is_range, no_range, chunk_submits}
use Rattle.pf_chunk.specs.Happenings.{Happened, followed, happened}
use Rattle.pf_chunk.specs.Runs.{ChunkRun}
use Rattle.pf_chunk.specs.Steps.{EventHasFailed}
use Rattle.pf_chunk.specs.Telling.{now_taken}
use Rattle.pf_chunk.specs.Views.{ChunkIs, run_of}
use Rattle.pf_chunk.proofs.EventRuns.{Fills, event_is, filled_up}
use Rattle.pf_chunk.proofs.Midway.{plain, waits}

-- an event only adds to the history of its chunk
pub filled_group : (halts : List Halt) (c : ChunkRun) (answer : Answer) → (followed halts c answer).chunk.group ≡ applied halts c.group
unfolding followed
filled_group halts c answer = refl

pub event_extends : (halts : List Halt) (c : Chunk) (event : Event) → Extends c (applied halts (after halts c event))
event_extends halts c event =
    let next = after halts c event in
    extends_on c next (applied halts next) (after_extends halts c event) (applied_extends halts next)

module _ (halts : List Halt) (c : ChunkRun) where
  pub filled_extends : (fill : Fills) (event : Event) → ((m : Chunk) (answer : Answer) → (fill c m answer).group ≡ m) → Extends c.group (filled_up fill event halts c).chunk.group
  filled_extends fill event group =
      let a = event_answered halts c.group event in
      let m = after halts c.group event in
      subst (Extends c.group) (sym (filled_group halts (fill c m a) a ∙ ap (applied halts) (group m a))) (event_extends halts c.group event)

  pub happened_extends : (event : Event) → Extends c.group (happened halts c event).chunk.group
  happened_extends event = filled_extends plain event (λ m a. refl)

  asked_extends : (server : ℕ) (ranges : Bool) (would : Happened) → Extends c.group would.chunk.group → Extends c.group (if ranges then would else no_range server c).chunk.group
  asked_extends server ranges would is = by_test ranges (λ b. Extends c.group (if b then would else no_range server c).chunk.group) (λ _. is) (λ _. extends_refl c.group)

  pub submits_extend : (server first byte count : ℕ) → Extends c.group (chunk_submits halts server first byte count c).chunk.group
  submits_extend server first byte count = asked_extends server (is_range first count) _ (happened_extends (events.Submit server (filled_write first byte count)))

  pub fetches_extend : (server first count : ℕ) → Extends c.group (fetches halts server first count c).chunk.group
  fetches_extend server first count = asked_extends server (is_range first count) _ (filled_extends (waits server) (events.Fetch server (record { first = first; count = count })) (λ m a. refl))

  pub asked_extend : (asked : LineAsk) → Extends c.group (asked_happened halts asked c).chunk.group
  asked_extend (asks.Event event) = happened_extends (rule_event event false)
  asked_extend (asks.Submit server range byte) = submits_extend server range.first byte range.count
  asked_extend (asks.Fetch server range) = fetches_extend server range.first range.count
  asked_extend (asks.NoRange server) = extends_refl c.group

-- as a run has it, the history of an earlier moment stands in front of that of a later one
pub told_later : (halts : List Halt) (was is : GroupIs) → HasGrown was is → IsPrefix (told_history halts was) (told_history halts is)
told_later halts was is grown = record {
  rest = told_from halts was.number (0 + length was.history) grown.later.rest;
  whole =
      sym (told_longer halts was.number 0 was.history grown.later.rest)
      ∙ ap (told_from halts was.number 0) grown.later.whole
      ∙ ap (λ n. told_from halts n 0 is.history) (sym grown.number);
}

-- the group stands after a whole beginning, with nothing undone
all_done : (halts : List Halt) (old at new : GroupIs) (would : Chunk) → TellsOfGroup halts new → HasGrown old at → told_history halts new ≡ told_history halts at → IsPrefix (told_history halts at) would.history → GroupHasBegun halts old would new
all_done halts old at new would tells grown same part = record {
  done = told_history halts at;
  undone = [];
  later = told_later halts old at grown;
  part = part;
  recorded = same ∙ sym (append-nil (told_history halts at));
  returned = tt;
  state = sym (told_replays halts new tells) ∙ ap (replay new.setup) same;
}

-- the event itself did not happen
module _ (would : List Halt → Chunk) (old new : GroupIs) (longer : (halts : List Halt) → Extends (chunk_standing halts old) (would halts)) where
  nothing_began : HasGrown old new → new.history ≡ old.history → EventHasFailed would old new
  nothing_began grown same = record {
    grown = grown;
    begun = λ halts tells.
        let told = ap (told_from halts new.number 0) same ∙ ap (λ n. told_from halts n 0 old.history) grown.number in
        all_done halts old old new (would halts) tells (grown_refl old) told (longer halts).1;
  }

  pub left_so : (asked : GroupEvent) → IsLeftWithoutMemory old asked new → EventHasFailed would old new
  left_so asked left = nothing_began (left_grows old asked new left) (ap (λ (g : GroupIs). g.history) (only_faults old asked new left))

pub nothing_failed : (would : List Halt → Chunk) (old : GroupIs) → ((halts : List Halt) → Extends (chunk_standing halts old) (would halts)) → EventHasFailed would old old
nothing_failed would old longer = nothing_began would old old longer (grown_refl old) refl

-- what is applied after an event
abbrev pub apply_of : GroupIs → List Halt → Chunk
apply_of g halts = applied halts (chunk_standing halts g)

-- all was applied, and not all answers were told
pub not_told : (old full new : GroupIs) → HasGrown old full → ((halts : List Halt) → TellsOfGroup halts full → applied halts (chunk_standing halts old) ≡ chunk_standing halts full) → new ≡ now_taken full new.taken → EventHasFailed (apply_of old) old new
not_told old full new grown run is =
    let taken = taken_grows full new is in record {
      grown = grown_trans old full new grown taken;
      begun = λ halts tells.
          let there = run halts (grown_tells halts full new taken tells) in
          all_done halts old full new (applied halts (chunk_standing halts old)) tells grown (ap (told_history halts) is)
          (subst (λ (c : Chunk). IsPrefix (told_history halts full) c.history) (sym there) (whole_prefix (told_history halts full)));
    }

-- the event happened, and not all that follows on it did
pub not_followed : (fill : Fills) (old : ChunkIs) (mid new : GroupIs) (asked : GroupEvent) (answer : Answer) → ((c : ChunkRun) (m : Chunk) (a : Answer) → (fill c m a).group ≡ m) → GroupHasStepped old.group asked answer mid → EventHasFailed (apply_of mid) mid new
    → EventHasFailed (λ halts. (filled_up fill (rule_event asked false) halts (run_of halts old)).chunk.group) old.group new
not_followed fill old mid new asked answer group stepped f =
    let first = step_grows old.group mid (rule_event asked stepped.found) answer stepped.steps in record {
      grown = grown_trans old.group mid new first f.grown;
      begun = λ halts tells.
          let b = f.begun halts tells in
          let c = run_of halts old in
          let a = event_answered halts c.group (rule_event asked false) in
          let m = after halts c.group (rule_event asked false) in
          let one = event_is old.group mid asked stepped.found answer stepped.steps halts (grown_tells halts mid new f.grown tells) in
          let same = filled_group halts (fill c m a) a ∙ ap (applied halts) (group c m a ∙ one.1) in record {
            done = b.done;
            undone = b.undone;
            later = prefix_of (told_history halts old.group) (told_history halts mid) b.done (told_later halts old.group mid first) b.later;
            part = subst (λ (x : Chunk). IsPrefix b.done x.history) (sym same) b.part;
            recorded = b.recorded;
            returned = b.returned;
            state = b.state;
          };
    }

-- an event that is told otherwise
pub failed_same : (would other : List Halt → Chunk) (old new : GroupIs) → ((halts : List Halt) → TellsOfGroup halts new → other halts ≡ would halts) → EventHasFailed would old new → EventHasFailed other old new
failed_same would other old new same f = record {
  grown = f.grown;
  begun = λ halts tells. subst (λ (x : Chunk). GroupHasBegun halts old x new) (sym (same halts tells)) (f.begun halts tells);
}
