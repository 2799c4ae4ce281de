-- Which events add writes to the history of a group.
use Rattle.std.proofs.Common.{◌≡◌, ℕ, List, [], ◌∷◌, ◌++◌, Some, slice_get, inl, inr, sym, subst}
use Rattle.pf_base.specs.Span.{Span}
use Rattle.pf_entry.specs.Ops.{Sector}
use Rattle.pf_entry.specs.declared.ops.Op.TheVariants.{Write}
use Rattle.pf_protocol.specs.declared.answers.Answer.{Answer}
use Rattle.pf_protocol.specs.declared.events.Event.{Event}
use Rattle.pf_protocol.specs.declared.events.Event.TheVariants as events
use Rattle.pf_protocol.specs.declared.events.Happening.{Happening}
use Rattle.pf_protocol.specs.Histories.{History}
use Rattle.pf_law_movers.specs.pf_group_network.proofs.Lists.{end_cases}
use Rattle.pf_law_movers.specs.pf_group_rounds.specs.Halts.{Halt}
use Rattle.pf_law_movers.specs.pf_group_rounds.specs.Chunks.{Chunk, after, event_answered, event_listed, listed_at}
use Rattle.pf_law_movers.specs.pf_group_rounds.specs.Rounds.{applied}
use Rattle.pf_law_movers.specs.pf_chunk.specs.Asking.{fetched}
use Rattle.pf_law_movers.specs.pf_chunk.specs.Happenings.{followed, happened}
use Rattle.pf_law_movers.specs.pf_chunk.specs.Runs.{ChunkRun}
use Rattle.pf_law_movers.specs.pf_chunk.proofs.Begun.{filled_group}
use Rattle.pf_law_movers.proofs.ApplyRounds.{all_applied}
use Rattle.pf_law_movers.proofs.HistoryGrowth.{after_history}

abbrev pub IsNoWrite : Event → Type 0
IsNoWrite (events.Submit server (Write range sectors)) = ⊥
IsNoWrite event = Unit {0}

-- each write of the later history stands in its place in the earlier one
abbrev pub AddsNoWrite : (old new : History) → Type 0
AddsNoWrite old new =
    (place server : ℕ) (range : Span) (sectors : List Sector) (answer : Answer)
    → slice_get new place ≡ Some (record { event = events.Submit server (Write range sectors); answer = answer })
    → slice_get old place ≡ Some (record { event = events.Submit server (Write range sectors); answer = answer })

pub none_added : (history : History) → AddsNoWrite history history
none_added history place server range sectors answer at = at

added_both : (first mid last : History) → AddsNoWrite first mid → AddsNoWrite mid last → AddsNoWrite first last
added_both first mid last one two place server range sectors answer at = one place server range sectors answer (two place server range sectors answer at)

one_added : (history : History) (x : Happening) → IsNoWrite x.event → AddsNoWrite history (history ++ x ∷ [])
one_added history x never place server range sectors answer at = elim (end_cases history x place (record { event = events.Submit server (Write range sectors); answer = answer }) at) [
  | inl old ↦ old
  | inr last ↦ absurd (subst (λ (y : Happening). IsNoWrite y.event) last.1 never)
]

still_none : (halts : List Halt) (number n : ℕ) (event : Event) → IsNoWrite event → IsNoWrite (listed_at halts number n event)
still_none halts number n (events.Restart server found) never = tt
still_none halts number n event never = never

module _ (halts : List Halt) where
  after_adds : (c : Chunk) (event : Event) → IsNoWrite event → AddsNoWrite c.history (after halts c event).history
  after_adds c event never =
      let x : Happening = record { event = event_listed halts c event; answer = event_answered halts c event } in
      subst (AddsNoWrite c.history) (sym (after_history halts c event)) (one_added c.history x (still_none halts c.number _ event never))

  applied_adds : (c : Chunk) → AddsNoWrite c.history (applied halts c).history
  applied_adds c =
      let on : (event : Event) → IsNoWrite event → (d : Chunk) → AddsNoWrite c.history d.history → AddsNoWrite c.history (after halts d event).history =
      λ event never d so_far. added_both c.history d.history (after halts d event).history so_far (after_adds d event never) in
      all_applied halts (λ d. AddsNoWrite c.history d.history) (on events.Claim tt) (λ d server life slot. on (events.Finish server life slot) tt d) c (none_added c.history)

  -- what follows on an event is no write
  followed_adds : (c : ChunkRun) (answer : Answer) → AddsNoWrite c.group.history (followed halts c answer).chunk.group.history
  followed_adds c answer = subst (λ (g : Chunk). AddsNoWrite c.group.history g.history) (sym (filled_group halts c answer)) (applied_adds c.group)

  -- an event adds no write but itself
  pub happened_adds_one : (c : ChunkRun) (event : Event) → AddsNoWrite (c.group.history ++ record { event = event_listed halts c.group event; answer = event_answered halts c.group event } ∷ []) (happened halts c event).chunk.group.history
  happened_adds_one c event =
      let new = (happened halts c event).chunk.group.history in
      subst (λ (history : History). AddsNoWrite history new) (after_history halts c.group event) (followed_adds (record c { group = after halts c.group event }) (event_answered halts c.group event))

  pub happened_adds : (c : ChunkRun) (event : Event) → IsNoWrite event → AddsNoWrite c.group.history (happened halts c event).chunk.group.history
  happened_adds c event never =
      let next : ChunkRun = record c { group = after halts c.group event } in
      added_both c.group.history next.group.history (happened halts c event).chunk.group.history (after_adds c.group event never) (followed_adds next (event_answered halts c.group event))

  pub fetched_adds : (c : ChunkRun) (server : ℕ) (range : Span) → AddsNoWrite c.group.history (fetched halts server range c).chunk.group.history
  fetched_adds c server range =
      let event : Event = events.Fetch server range in
      added_both c.group.history (after halts c.group event).history (fetched halts server range c).chunk.group.history (after_adds c.group event tt) (followed_adds _ (event_answered halts c.group event))
