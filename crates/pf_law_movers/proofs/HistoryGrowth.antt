-- Each event of a run lengthens the history of its chunk, and the group stands where its history leads.
use Rattle.std.proofs.Common.{◌≡◌, ℕ, List, [], ◌∷◌, ◌++◌, refl, sym, ap, subst, ◌∙◌}
use Rattle.pf_base.specs.Span.{Span}
use Rattle.pf_protocol.specs.declared.answers.Answer.{Answer}
use Rattle.pf_protocol.specs.declared.answers.Answer.TheVariants.{Done}
use Rattle.pf_protocol.specs.declared.events.Event.{Event}
use Rattle.pf_protocol.specs.declared.events.Event.TheVariants as events
use Rattle.pf_protocol.specs.Groups.{ending, happens}
use Rattle.pf_protocol.specs.Histories.{IsPrefix, replay}
use Rattle.pf_protocol.proofs.ForMoments.{prefix_of, replay_goes_on, whole_prefix}
use Rattle.pf_law_movers.specs.pf_group_rounds.specs.Halts.{Halt}
use Rattle.pf_law_movers.specs.pf_group_rounds.specs.Chunks.{Chunk, after, event_answered, event_listed}
use Rattle.pf_law_movers.specs.pf_group_rounds.specs.Rounds.{applied}
use Rattle.pf_law_movers.specs.pf_chunk.specs.Asking.{fetched}
use Rattle.pf_law_movers.specs.pf_chunk.specs.Happenings.{followed, happened}
use Rattle.pf_law_movers.specs.pf_chunk.specs.Lending.{after_all, all_happened}
use Rattle.pf_law_movers.specs.pf_chunk.specs.Runs.{ChunkRun}
use Rattle.pf_law_movers.specs.pf_chunk.proofs.Begun.{filled_group}
use Rattle.pf_law_movers.proofs.ApplyRounds.{all_applied}

pub record Grows (c d : Chunk) : Type 0 where
  pub number : d.number ≡ c.number
  pub setup : d.setup ≡ c.setup
  pub later : IsPrefix c.history d.history
  pub stands : c.state ≡ replay c.setup c.history → d.state ≡ replay d.setup d.history

pub grows_refl : (c : Chunk) → Grows c c
grows_refl c = record { number = refl; setup = refl; later = whole_prefix c.history; stands = λ is. is }

pub grows_on : (c d e : Chunk) → Grows c d → Grows d e → Grows c e
grows_on c d e first second = record {
  number = second.number ∙ first.number;
  setup = second.setup ∙ first.setup;
  later = prefix_of c.history d.history e.history first.later second.later;
  stands = λ is. second.stands (first.stands is);
}

module _ (halts : List Halt) where
  pub after_grows : (c : Chunk) (event : Event) → Grows c (after halts c event)
  unfolding after
  after_grows c event = record {
    number = refl;
    setup = refl;
    later = record { rest = record { event = event_listed halts c event; answer = event_answered halts c event } ∷ []; whole = refl };
    stands = λ is.
        ap (λ state. happens c.setup state (event_listed halts c event) (ending (event_answered halts c event))) is
        ∙ sym (replay_goes_on c.setup c.history (record { event = event_listed halts c event; answer = event_answered halts c event }));
  }

  pub after_history : (c : Chunk) (event : Event) → (after halts c event).history ≡ c.history ++ record { event = event_listed halts c event; answer = event_answered halts c event } ∷ []
  unfolding after
  after_history c event = refl

  applied_grows : (c : Chunk) → Grows c (applied halts c)
  applied_grows c =
      let on : (event : Event) (d : Chunk) → Grows c d → Grows c (after halts d event) = λ event d grown. grows_on c d (after halts d event) grown (after_grows d event) in
      all_applied halts (Grows c) (on events.Claim) (λ d server life slot. on (events.Finish server life slot) d) c (grows_refl c)

  -- what follows on an event
  pub followed_grows : (c : ChunkRun) (answer : Answer) → Grows c.group (followed halts c answer).chunk.group
  followed_grows c answer = subst (Grows c.group) (sym (filled_group halts c answer)) (applied_grows c.group)

  pub followed_ports : (c : ChunkRun) (answer : Answer) → (followed halts c answer).chunk.ports ≡ c.ports
  unfolding followed
  followed_ports c answer = refl

  pub happened_grows : (c : ChunkRun) (event : Event) → Grows c.group (happened halts c event).chunk.group
  happened_grows c event =
      let next = after halts c.group event in
      grows_on c.group next (happened halts c event).chunk.group (after_grows c.group event) (followed_grows (record c { group = next }) (event_answered halts c.group event))

  pub fetched_grows : (c : ChunkRun) (server : ℕ) (range : Span) → Grows c.group (fetched halts server range c).chunk.group
  fetched_grows c server range =
      let event : Event = events.Fetch server range in
      grows_on c.group (after halts c.group event) (fetched halts server range c).chunk.group (after_grows c.group event) (followed_grows _ (event_answered halts c.group event))

  all_after_grow : (its : List Event) (c : Chunk) → Grows c (after_all halts c its)
  all_after_grow [] c = grows_refl c
  all_after_grow (event ∷ its) c = let next = after halts c event in grows_on c next (after_all halts next its) (after_grows c event) (all_after_grow its next)

  -- a session of threads
  pub all_grow : (c : ChunkRun) (its : List Event) → Grows c.group (all_happened halts its c).chunk.group
  all_grow c its =
      let next = after_all halts c.group its in
      grows_on c.group next (all_happened halts its c).chunk.group (all_after_grow its c.group) (followed_grows (record c { group = next }) Done)

  pub all_ports : (c : ChunkRun) (its : List Event) → (all_happened halts its c).chunk.ports ≡ c.ports
  all_ports c its = followed_ports (record c { group = after_all halts c.group its }) Done
