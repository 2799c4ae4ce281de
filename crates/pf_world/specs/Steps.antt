-- What the making of a world and one line of a script come to.
use Rattle.std.specs.Prelude.{◌≡◌, ◌⊎◌, ℕ, suc, ◌<◌, ◌≤◌, IfSome, Bool, true, false, nat_lt, List, [], ◌∷◌, ◌++◌, length, None, Some, slice_get}
use Rattle.std.specs.List.{flat_map}
use Rattle.pf_script.specs.declared.command.Command.{Command}
use Rattle.pf_script.specs.declared.command.Command.TheVariants as commands
use Rattle.pf_script.specs.declared.named.NamedVolume.{NamedVolume}
use Rattle.pf_script.specs.Lines.{fits, group_named, named_after}
use Rattle.pf_protocol.specs.declared.answers.Answer.{Answer}
use Rattle.pf_live_session.specs.pf_group_rounds.specs.Halts.{Halt}
use Rattle.pf_live_session.specs.pf_group.specs.GroupIs.{GroupIs}
use Rattle.pf_live_session.specs.pf_group.specs.Making.{making_answer}
use Rattle.pf_live_session.specs.pf_group_rounds.specs.Agreeing.{chunk_standing}
use Rattle.pf_live_session.specs.pf_group_rounds.specs.Begun.{GroupHasBegun}
use Rattle.pf_live_session.specs.pf_group_rounds.specs.Growing.{HasGrown}
use Rattle.pf_live_session.specs.pf_chunk.specs.Runs.{ChunkRun}
use Rattle.pf_live_session.specs.pf_chunk.specs.Views.{ChunkIs}
use Rattle.pf_world_hosts.specs.pf_world_moments.specs.Moments.{Moment, moments_text}
use Rattle.pf_world_hosts.specs.pf_world_moments.specs.Steps.{HaveBegun}
use Rattle.pf_world_hosts.specs.Settled.{HasNotSettled, HasSettled}
use Rattle.pf_world_hosts.specs.Settling.{SettlingHasEnded, settled}
use Rattle.pf_world_hosts.specs.Steps.{FleetIs}
use Rattle.pf_live_session.specs.pf_live_seats.specs.declared.plan.LinePlan.{LinePlan}
use Rattle.pf_live_session.specs.pf_live_seats.specs.Deliveries.{LiveTrace}
use Rattle.pf_live_session.specs.pf_live_line.specs.declared.opening.Passes.{Passes}
use Rattle.pf_live_session.specs.GroupSessions.{AreKept}
use Rattle.pf_live_session.specs.Sessions.{IsPartOfSession, IsLinePlan, IsSession, IsSessionOf, Session, next_session}
use Rattle.pf_world.specs.declared.kind.Kind.{Kind}
use Rattle.pf_world.specs.declared.kind.Kind.TheVariants.{Mounted, Raw}
use Rattle.pf_world.specs.Worlds.{World, volume_made}
use Rattle.pf_world.specs.declared.line.Line.{Line}
use Rattle.pf_world.specs.Lines.{kind_decided, is_made, line_told}
use Rattle.pf_world.specs.Views.{IsWorld, WorldIs, world_stands_at}
use Rattle.pf_world.specs.Agreeing.{WorldTells}

-- a volume was made with these numbers: under every list of halts that tells of it, it is the one that the run makes
pub record VolumeIsMade (chunks sectors names format : ℕ) (w : WorldIs) (answer : Answer) : Type 0 where
  pub is_world : IsWorld w
  pub count : (length w.chunks ≡ chunks) × (w.fleet.volume.chunks ≡ chunks)
  pub numbers : (w.sectors ≡ sectors) × (w.names ≡ names) × (w.format ≡ format)
  pub calls : w.fleet.calls ≡ 0
  pub moves : w.moves ≡ 0
  pub passes : w.passes ≡ None
  pub run : (halts : List Halt) (sessions : List Session) → WorldTells halts w
      → volume_made halts sessions chunks sectors names format ≡ world_stands_at halts sessions w
  pub answered : answer ≡ making_answer (flat_map (λ c. c.group.setup.failed) w.chunks)

-- to the groups of the old world more happened, and perhaps there are new ones
pub record WorldGoesOn (old new : WorldIs) : Type 0 where
  pub sectors : new.sectors ≡ old.sectors
  pub names : new.names ≡ old.names
  pub format : new.format ≡ old.format
  pub at_least : length old.chunks ≤ length new.chunks
  pub grown : (k : ℕ) (was is : ChunkIs) → slice_get old.chunks k ≡ Some was → slice_get new.chunks k ≡ Some is → HasGrown was.group is.group

-- a line that may be run where lines may name so much: any but another volume
abbrev pub MayRun : NamedVolume → Command → Type 0
MayRun named (commands.Volume c s n f) = ⊥
MayRun named command = fits named command ≡ true

-- so it is of each of these lines in turn
abbrev pub MayRunAll : NamedVolume → List Line → Type 0
MayRunAll named [] = Unit {0}
MayRunAll named (line ∷ lines) = MayRun named line.command × MayRunAll (named_after named line.command) lines

-- its group, if it names one, is made
abbrev pub IsOfMade : WorldIs → Command → Type 0
IsOfMade w command = IfSome (group_named command) (λ g. g < length w.chunks)

abbrev pub moves_after : ℕ → Command → ℕ
moves_after moves (commands.Move chunk) = suc moves
moves_after moves command = moves

-- of so many groups there are so many after a line: one that moves a chunk makes one at most, and no other makes any
abbrev pub MakesGroups : Command → (was is : ℕ) → Type 0
MakesGroups (commands.Move chunk) was is = (was ≤ is) × (is ≤ suc was)
MakesGroups command was is = is ≡ was

-- the chunk, and the plan of a live line with these numbers
pub record IsLiveAt (w : World) (chunk hosts writes workers turns : ℕ) (c : ChunkRun) (plan : LinePlan) : Type 0 where
  pub there : slice_get w.volume.chunks chunk ≡ Some c
  pub is_plan : IsLinePlan hosts writes workers turns w.volume.extent.sectors plan

-- the next session is that of a live line with these numbers
pub record IsNextSession (halts : List Halt) (w : World) (chunk hosts writes workers turns : ℕ) : Type 0 where
  pub c : ChunkRun
  pub plan : LinePlan
  pub at : IsLiveAt w chunk hosts writes workers turns c plan
  pub is_session : IsSession halts plan c.group (next_session w.sessions)

abbrev pub LivesAs : Kind → List Halt → World → (chunk hosts writes workers turns : ℕ) → Type 0
LivesAs Mounted halts w chunk hosts writes workers turns = Unit {0}
LivesAs Raw halts w chunk hosts writes workers turns = IsNextSession halts w chunk hosts writes workers turns

abbrev pub EndsIn : List Halt → World → Command → Type 0
EndsIn halts w (commands.Settle limit) = SettlingHasEnded (settled halts limit w.volume)
EndsIn halts w (commands.Live chunk hosts writes workers turns) = LivesAs (kind_decided w.kind Raw) halts w chunk hosts writes workers turns
EndsIn halts w command = Unit {0}

-- each settling ends by itself, and the session of a live line that is not refused is one of its numbers
abbrev pub LineEnds : List Halt → World → Command → Type 0
LineEnds halts w command = is_made w (group_named command) ≡ true → EndsIn halts w command

-- The world keeps the passes of a live line with these numbers. They agree with a list over the chunk's group, which under every list of halts
-- that tells of the world is that of the session: over any disks those of each ring meet, and where the disks tell their content what was taken
-- is submitted, and the last leader published
pub record HasKept (old : WorldIs) (session : Session) (chunk hosts writes workers turns : ℕ) (new : WorldIs) : Type 0 where
  pub c : ChunkIs
  pub there : slice_get old.chunks chunk ≡ Some c
  pub plan : LinePlan
  pub is_plan : IsLinePlan hosts writes workers turns old.sectors plan
  pub passes : Passes
  pub passes_are : new.passes ≡ Some passes
  pub list : LiveTrace
  pub kept : AreKept plan c.group list passes
  pub is_session : (halts : List Halt) → WorldTells halts new → IsSessionOf halts plan (chunk_standing halts c.group) session c.group list

abbrev pub KeepsAs : Kind → (old : WorldIs) → List Session → (chunk hosts writes workers turns : ℕ) → (new : WorldIs) → Type 0
KeepsAs Mounted old sessions chunk hosts writes workers turns new = new.passes ≡ old.passes
KeepsAs Raw old sessions chunk hosts writes workers turns new = HasKept old (next_session sessions) chunk hosts writes workers turns new

abbrev pub KeepsWhere : (made : Bool) → (old : WorldIs) → List Session → (chunk hosts writes workers turns : ℕ) → (new : WorldIs) → Type 0
KeepsWhere false old sessions chunk hosts writes workers turns new = new.passes ≡ old.passes
KeepsWhere true old sessions chunk hosts writes workers turns new = KeepsAs (kind_decided old.kind Raw) old sessions chunk hosts writes workers turns new

-- a live line that is not refused leaves its own passes, and any other line those that were there
abbrev pub KeepsPasses : (old : WorldIs) → List Session → Command → (new : WorldIs) → Type 0
KeepsPasses old sessions (commands.Live chunk hosts writes workers turns) new =
    KeepsWhere (nat_lt chunk (length old.chunks)) old sessions chunk hosts writes workers turns new
KeepsPasses old sessions command new = new.passes ≡ old.passes

-- a live line takes one session at most, and no other line takes any
abbrev pub TakesSessions : Command → List Session → Type 0
TakesSessions (commands.Live chunk hosts writes workers turns) sessions = length sessions ≤ 1
TakesSessions command sessions = sessions ≡ []

-- the line was run: under every list of halts that tells of the world afterwards, this world and what was told are the run's, with these
-- sessions
pub record IsLineRun (old : WorldIs) (number : ℕ) (command : Command) (told : List Moment) (new : WorldIs) : Type 0 where
  pub is_world : IsWorld new
  pub goes_on : WorldGoesOn old new
  pub groups : MakesGroups command (length old.chunks) (length new.chunks)
  pub volume : new.fleet.volume ≡ old.fleet.volume
  pub calls : new.fleet.calls ≤ suc old.fleet.calls
  pub moves : new.moves ≡ moves_after old.moves command
  pub sessions : List Session
  pub takes : TakesSessions command sessions
  pub run : (halts : List Halt) (rest : List Session) → WorldTells halts new
      → line_told halts (world_stands_at halts (sessions ++ rest) old) number command ≡ record { world = world_stands_at halts rest new; told = told }
  pub ends : (halts : List Halt) (rest : List Session) → WorldTells halts new → LineEnds halts (world_stands_at halts (sessions ++ rest) old) command
  pub keeps : KeepsPasses old sessions command new

-- a line ran, and what it told was put at the end of a buffer
pub record HasRun (old : WorldIs) (number : ℕ) (command : Command) (before after : List ℕ) (new : WorldIs) : Type 0 where
  pub told : List Moment
  pub put : after ≡ before ++ moments_text told
  pub runs : IsLineRun old number command told new

-- under a list of halts that tells of the world, each group stands at a beginning of what the line would have done to it with these sessions
abbrev pub LineIsWithin : (old : WorldIs) → List Session → (number : ℕ) → Command → (new : WorldIs) → Type 0
LineIsWithin old sessions number command new =
    (halts : List Halt) → WorldTells halts new → HaveBegun halts old.chunks
    (line_told halts (world_stands_at halts sessions old) number command).world.volume.chunks new.chunks

-- these events are some of those of a live line with these numbers
pub record IsPartOfNext (halts : List Halt) (w : World) (chunk hosts writes workers turns : ℕ) : Type 0 where
  pub c : ChunkRun
  pub plan : LinePlan
  pub at : IsLiveAt w chunk hosts writes workers turns c plan
  pub is_part : IsPartOfSession halts plan c.group (next_session w.sessions).events

abbrev pub LivesInPart : Kind → List Halt → World → (chunk hosts writes workers turns : ℕ) → Type 0
LivesInPart Mounted halts w chunk hosts writes workers turns = Unit {0}
LivesInPart Raw halts w chunk hosts writes workers turns = IsPartOfNext halts w chunk hosts writes workers turns

-- the threads of a live line, if it is not refused, did some of what a line of its numbers does, and each group stands at a beginning of what
-- comes of that
pub record WorldHasNotLived (old : WorldIs) (number chunk hosts writes workers turns : ℕ) (new : WorldIs) : Type 0 where
  pub session : Session
  pub within : LineIsWithin old (session ∷ []) number (commands.Live chunk hosts writes workers turns) new
  pub is_part : chunk < length old.chunks → (halts : List Halt) → WorldTells halts new
      → LivesInPart (kind_decided old.kind Raw) halts (world_stands_at halts (session ∷ []) old) chunk hosts writes workers turns

-- it settled, and there was no memory for the line that tells so
pub record HasSettledOnly (limit : ℕ) (old new : WorldIs) : Type 0 where
  pub next : FleetIs
  pub before : List ℕ
  pub after : List ℕ
  pub stopped : Bool
  pub settled : HasSettled limit old.chunks old.fleet before stopped new.chunks next after

-- A chunk had begun to move to a new group, or had not: each group, also the new one, which had no history, stands at a beginning of
-- what the line would have done to it
pub record HasNotMoved (old : WorldIs) (number chunk : ℕ) (new : WorldIs) : Type 0 where
  pub begun : (halts : List Halt) → WorldTells halts new → (k : ℕ) (was is : ChunkIs) (run : ChunkRun) → slice_get old.chunks k ≡ Some was
      → slice_get new.chunks k ≡ Some is → slice_get (line_told halts (world_stands_at halts [] old) number (commands.Move chunk)).world.volume.chunks k
      ≡ Some run → GroupHasBegun halts was.group run.group is.group
  pub new_one : (is : ChunkIs) → slice_get new.chunks (length old.chunks) ≡ Some is
      → (made : GroupIs) × (made.history ≡ []) × ((halts : List Halt) → WorldTells halts new → (run : ChunkRun)
      → slice_get (line_told halts (world_stands_at halts [] old) number (commands.Move chunk)).world.volume.chunks (length old.chunks) ≡ Some run
      → GroupHasBegun halts made run.group is.group)

-- a settling stands after some whole tries and a beginning of one more, and a live line after some of what its threads do
abbrev pub StopsIn : (old : WorldIs) → (number : ℕ) → Command → (new : WorldIs) → Type 0
StopsIn old number (commands.Settle limit) new = HasNotSettled limit old.chunks old.fleet new.chunks ⊎ HasSettledOnly limit old new
StopsIn old number (commands.Live chunk hosts writes workers turns) new = WorldHasNotLived old number chunk hosts writes workers turns new
StopsIn old number (commands.Move chunk) new = HasNotMoved old number chunk new
StopsIn old number command new = LineIsWithin old [] number command new

-- there was no memory for the whole of it: the world stands in the middle of the line, with the passes of before
pub record LineHasFailed (old : WorldIs) (number : ℕ) (command : Command) (new : WorldIs) : Type 0 where
  pub goes_on : WorldGoesOn old new
  pub groups : MakesGroups command (length old.chunks) (length new.chunks)
  pub passes : new.passes ≡ old.passes
  pub stopped : StopsIn old number command new
