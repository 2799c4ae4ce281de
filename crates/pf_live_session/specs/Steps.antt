-- What a live line over a chunk comes to.
use Rattle.std.specs.Prelude.{◌≡◌, ℕ, ◌<◌, List, Some, length, slice_get, slice_set}
use Rattle.pf_protocol.specs.declared.answers.Answer.TheVariants.{Done}
use Rattle.pf_protocol.specs.declared.events.Event.{Event}
use Rattle.pf_chunk.specs.pf_group_rounds.specs.Halts.{Halt}
use Rattle.pf_chunk.specs.pf_group_rounds.specs.Agreeing.{TellsOfGroup, chunk_standing}
use Rattle.pf_live_session.specs.pf_live_seats.specs.declared.plan.LinePlan.{LinePlan}
use Rattle.pf_live_session.specs.pf_live_seats.specs.Deliveries.{LiveTrace}
use Rattle.pf_live_session.specs.declared.session.Lived.{Lived}
use Rattle.pf_live_session.specs.GroupSessions.{AreKept}
use Rattle.pf_live_session.specs.Totals.{AreTotals}
use Rattle.pf_chunk.specs.Lending.{all_happened}
use Rattle.pf_chunk.specs.Steps.{EventHasFailed, HasHappened}
use Rattle.pf_chunk.specs.Views.{ChunkIs, run_of}
use Rattle.pf_live_session.specs.Sessions.{IsPartOfSession, IsSessionOf, Session}

-- The threads did this to the group, and then it was followed up: under every list of halts that tells of it, the run comes to the chunk that
-- there is now, what they did is a line's, and the end and the totals that are told are those of that. The passes agree with the list of this
-- line: over any disks those of each ring meet, and where the disks tell their content what was taken is submitted, and the last leader published
pub record HasHeld (plan : LinePlan) (old : ChunkIs) (before : List ℕ) (told : Lived) (after : List ℕ) (new : ChunkIs) : Type 0 where
  pub session : Session
  pub went : HasHappened (λ halts c. all_happened halts session.events c) old before Done after new
  pub next : new.next ≡ old.next
  pub list : LiveTrace
  pub is_session : (halts : List Halt) → TellsOfGroup halts new.group → IsSessionOf halts plan (chunk_standing halts old.group) session old.group list
  pub kept : AreKept plan old.group list told.passes
  pub ended : told.end ≡ session.ended
  pub totals : AreTotals old.group new.group told.totals

-- There was no memory for the whole of it: the threads did some of a line, and the group stands at a beginning of what comes of that when it is
-- followed up
pub record ChunkHasNotLived (plan : LinePlan) (old new : ChunkIs) : Type 0 where
  pub events : List Event
  pub failed : EventHasFailed (λ halts. (all_happened halts events (run_of halts old)).chunk.group) old.group new.group
  pub is_part : (halts : List Halt) → TellsOfGroup halts new.group → IsPartOfSession halts plan (chunk_standing halts old.group) events

-- this became of one of some chunks, and the others are as they were
pub record BecameAt (at : ℕ) (old new : List ChunkIs) (Became : ChunkIs → ChunkIs → Type 0) : Type 0 where
  pub was : ChunkIs
  pub is : ChunkIs
  pub there : slice_get old at ≡ Some was
  pub put : new ≡ slice_set old at is
  pub became : Became was is
