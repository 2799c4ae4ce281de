-- A live line over one group, from its beginning to its end.
use Rattle.std.specs.Prelude.{◌≡◌, ◌⊎◌, ◌↔◌, ℕ, ◌+◌, ◌*◌, ◌<◌, ◌≤◌, IsTrue, List, [], Contains, Some, slice_get}
use Rattle.pf_turn.specs.Lists.{entries_of}
use Rattle.pf_protocol.specs.Answers.{claims_of}
use Rattle.pf_protocol.specs.Servers.{Server}
use Rattle.pf_protocol.specs.Histories.{RunsAs}
use Rattle.pf_live_line.specs.pf_group_network.specs.Shown.{IsLeader}
use Rattle.pf_live_line.specs.pf_group.specs.GroupIs.{GroupIs, state_of}
use Rattle.pf_leadercell.specs.Passes as cells
use Rattle.pf_leadercell.specs.Published.{last_of}
use Rattle.pf_live_line.specs.pf_group_rounds.specs.Adding.{Adds}
use Rattle.pf_live_line.specs.pf_group_rounds.specs.Agreeing.{TellsOfGroup, chunk_standing}
use Rattle.pf_live_line.specs.pf_group_rounds.specs.Begun.{GroupHasBegun}
use Rattle.pf_live_line.specs.pf_group_rounds.specs.Closed.{IsClosed}
use Rattle.pf_live_line.specs.pf_group_rounds.specs.Growing.{HasGrown}
use Rattle.pf_live_line.specs.pf_group_rounds.specs.Halts.{Halt}
use Rattle.pf_live_line.specs.pf_group_rounds.specs.Rounds.{IsApplied, applied}
use Rattle.pf_live_line.specs.pf_shared.specs.Moments.{handed_out}
use Rattle.pf_live_line.specs.pf_shared.specs.Since.{state_by_now, whole_history}
use Rattle.pf_live_line.specs.pf_live_seats.specs.declared.plan.LinePlan.{LinePlan}
use Rattle.pf_live_line.specs.pf_live_seats.specs.declared.serving.Served.{Served}
use Rattle.pf_live_line.specs.pf_live_seats.specs.Deliveries.{LiveTrace}
use Rattle.pf_live_line.specs.pf_live_seats.specs.Ends.{HasEnd}
use Rattle.pf_live_line.specs.pf_live_seats.specs.Lines.{Applying, IsLive, role_of_seat}
use Rattle.pf_live_line.specs.pf_live_seats.specs.Roles.{HasRunOut}
use Rattle.pf_live_line.specs.pf_live_seats.specs.Submissions.{write_numbers}
use Rattle.pf_live_line.specs.declared.opening.Passes.{Passes}
use Rattle.pf_live_line.specs.Meeting.{AreMet}
use Rattle.pf_live_session.specs.declared.session.Lived.{Lived}
use Rattle.pf_live_session.specs.Totals.{AreTotals}

-- The group as the seats of a line left it: what happened is what the list has, and no claim is open. Each step and look is one of the line's
-- seats. Its number, its making and what its disks tell are as they were, and each halt has its cause
pub record HasList (plan : LinePlan) (old : GroupIs) (list : LiveTrace) (new : GroupIs) : Type 0 where
  pub history : new.history ≡ whole_history old list
  pub grown : HasGrown old new
  pub taken : new.taken ≡ handed_out old.taken list
  pub none : claims_of [] new.history ≡ []
  pub live : IsLive plan old list

-- The list has the entries of so many seats and no others, as many as some runs of the threads have, one run at least. The last entry of each
-- seat that applied is a claim that found nothing, and none gave a job back
pub record IsRunOut (plan : LinePlan) (list : LiveTrace) : Type 0 where
  pub seats : ℕ
  pub runs : (more : ℕ) × (seats ≡ (more + 1) * (plan.workers + 2))
  pub strangers : (n : ℕ) → seats < n → entries_of n list ≡ []
  pub ended : (n : ℕ) → n ≤ seats → role_of_seat plan.workers n ≡ Applying → HasRunOut n (entries_of n list)

-- What the rings and the leader cell of a line tell of its list: of each ring what the server thread took begins what the host put, and is the
-- writes of the host that the list submits, however often each; and the term of the leader after the list, if one serves, was published, or a
-- greater one
pub record AreKept (plan : LinePlan) (old : GroupIs) (list : LiveTrace) (passes : Passes) : Type 0 where
  pub met : AreMet plan passes.rings.items plan.hosts 0 passes.hosts.items passes.served.items
  pub submitted : IsTrue old.told → (h : ℕ) (s : Served) → slice_get passes.served.items h ≡ Some s → (j : ℕ)
      → (j < s.taken) ↔ Contains (write_numbers old h list) j
  pub first : cells.IsPassOf passes.cell passes.first × cells.IsFirstPass passes.first
  pub published : IsTrue old.told → (term server : ℕ) → IsLeader (state_by_now old list) (Some (term, server)) → term ≤ (last_of (cells.seen_by passes.first)).0

-- What was free is applied
pub record HasApplied (old new : GroupIs) : Type 0 where
  pub grown : HasGrown old new
  pub taken : new.taken ≡ old.taken
  pub none : claims_of [] new.history ≡ []
  pub run : (halts : List Halt) → TellsOfGroup halts new → applied halts (chunk_standing halts old) ≡ chunk_standing halts new
  pub applied_all : IsTrue new.told → IsApplied new.setup (state_of new)
  pub count : ℕ
  pub adds : Adds old new count count
  pub closed : IsTrue new.told → (i : ℕ) (s : Server) → RunsAs (state_of new) i s → IsClosed s

-- A line from its beginning to its end: the seats of its threads did what its list has, then what was free was applied. The end that is told
-- is the one that holds after the list, and the totals are those of all that happened
pub record HasLived (plan : LinePlan) (old : GroupIs) (lived : Lived) (new : GroupIs) : Type 0 where
  pub list : LiveTrace
  pub then : GroupIs
  pub listed : HasList plan old list then
  pub out : IsRunOut plan list
  pub end : IsTrue old.told → HasEnd plan old list lived.end
  pub kept : AreKept plan old list lived.passes
  pub applied_then : HasApplied then new
  pub totals : AreTotals old new lived.totals

-- There was no memory to go on: the line's list so far, and perhaps a beginning of what was to be applied after it
pub record LineHasStopped (plan : LinePlan) (old new : GroupIs) : Type 0 where
  pub list : LiveTrace
  pub then : GroupIs
  pub listed : HasList plan old list then
  pub grown : HasGrown then new
  pub part : (new ≡ then) ⊎ ((halts : List Halt) → TellsOfGroup halts new → GroupHasBegun halts then (applied halts (chunk_standing halts then)) new)
