-- What the threads of one live line did to a group.
use Rattle.std.specs.Prelude.{◌≡◌, ℕ, ◌-◌, IsTrue, List, [], ◌∷◌, ◌++◌, drop, length}
use Rattle.pf_protocol.specs.declared.events.Event.{Event}
use Rattle.pf_chunk.specs.pf_group.specs.Applied.{applied_on_each}
use Rattle.pf_chunk.specs.pf_group.specs.GroupIs.{GroupIs}
use Rattle.pf_report.specs.Live.{live_text}
use Rattle.pf_chunk.specs.pf_group_rounds.specs.Halts.{Halt}
use Rattle.pf_chunk.specs.pf_group_rounds.specs.Chunks.{Chunk}
use Rattle.pf_chunk.specs.pf_group_rounds.specs.Agreeing.{chunk_standing}
use Rattle.pf_live_session.specs.pf_shared.specs.Moments.{happenings}
use Rattle.pf_base.specs.declared.live_end.LiveEnd.{LiveEnd}
use Rattle.pf_base.specs.declared.live_end.LiveEnd.TheVariants.{Done}
use Rattle.pf_live_session.specs.pf_live_seats.specs.declared.plan.LinePlan.{LinePlan}
use Rattle.pf_live_session.specs.pf_live_seats.specs.Deliveries.{LiveTrace}
use Rattle.pf_live_session.specs.pf_live_seats.specs.Ends.{HasEnd}
use Rattle.pf_live_session.specs.pf_live_seats.specs.Lines.{IsLive}
use Rattle.pf_live_session.specs.GroupSessions.{IsRunOut}
use Rattle.pf_chunk.specs.Lending.{after_all}

-- the events that its seats made, in their order, and how it ended
pub record Session : Type 0 where
  pub events : List Event
  pub ended : LiveEnd

-- of a list that has run out
abbrev pub no_session : Session
no_session = record { events = []; ended = Done }

-- the next one of a list
abbrev pub next_session : List Session → Session
next_session [] = no_session
next_session (session ∷ sessions) = session

-- A line that had this end is told by the slots that were acknowledged from the one state to the other, and by the jobs that were finished on
-- servers 0, 1 and 2
abbrev pub session_text : (old new : Chunk) → LiveEnd → List ℕ
session_text old new end = live_text (length new.state.acked - length old.state.acked) (applied_on_each (drop (length old.history) new.history)) end

-- the plan has these numbers, over a chunk of so many sectors
pub record IsLinePlan (hosts writes workers turns sectors : ℕ) (plan : LinePlan) : Type 0 where
  pub hosts_are : plan.hosts ≡ hosts
  pub writes_are : plan.writes ≡ writes
  pub workers_are : plan.workers ≡ workers
  pub turns_are : plan.turns ≡ turns
  pub sectors_are : plan.sectors ≡ sectors

-- Under a list of halts these events, over a group that stands where the chunk does and whose disks tell their content, are those of a list of
-- entries each of which is a step or a look by one of the line's seats; they are answered as the entries tell
pub record IsPartOfSession (halts : List Halt) (plan : LinePlan) (c : Chunk) (events : List Event) : Type 0 where
  pub root : GroupIs
  pub told : IsTrue root.told
  pub stands : chunk_standing halts root ≡ c
  pub list : LiveTrace
  pub live : IsLive plan root list
  pub happened : (after_all halts c events).history ≡ c.history ++ happenings list

-- All of a line did so: each seat that applies went on until nothing was free, and none gave a job back. It has the end that this list and the
-- state after it give
pub record IsSession (halts : List Halt) (plan : LinePlan) (c : Chunk) (session : Session) : Type 0 where
  pub part : IsPartOfSession halts plan c session.events
  pub out : IsRunOut plan part.list
  pub ends : HasEnd plan part.root part.list session.ended

-- and this is its list, over this group
pub record IsSessionOf (halts : List Halt) (plan : LinePlan) (c : Chunk) (session : Session) (root : GroupIs) (list : LiveTrace) : Type 0 where
  pub is : IsSession halts plan c session
  pub over : is.part.root ≡ root
  pub of_list : is.part.list ≡ list
