-- What holds of every world that a script leads to.
use Rattle.std.specs.Prelude.{◌≡◌, ◌⊎◌, ℕ, ◌+◌, ◌-◌, ◌*◌, ◌^◌, ◌<◌, ◌≤◌, Bool, true, false, IsTrue, List, [], ◌∷◌, ◌++◌, length, Option, Some, slice_get}
use Rattle.std.specs.List.{count_by}
use Rattle.pf_disk.specs.Crashes.{Images}
use Rattle.pf_entry.specs.Lists.{Every}
use Rattle.pf_protocol.specs.Answers.{IsLegal}
use Rattle.pf_protocol.specs.Safety.{IsSafe}
use Rattle.pf_protocol.specs.Histories.{replay}
use Rattle.pf_live_session.specs.pf_group.specs.Crashing.{AllLeaveAtCrash}
use Rattle.pf_live_session.specs.pf_group.specs.GroupIs.{GroupIs}
use Rattle.pf_live_session.specs.pf_group.specs.Sound.{IsSound}
use Rattle.pf_live_session.specs.pf_group_rounds.specs.Halts.{At, Halt, Making, HaltPlace}
use Rattle.pf_live_session.specs.pf_group_rounds.specs.Chunks.{Chunk}
use Rattle.pf_live_session.specs.pf_group_rounds.specs.Growing.{IsLastCount}
use Rattle.pf_live_session.specs.pf_group_rounds.specs.Telling.{halt_count}
use Rattle.pf_live_session.specs.pf_chunk.specs.Runs.{ChunkRun}
use Rattle.pf_live_session.specs.pf_chunk.specs.Views.{ChunkIs}
use Rattle.pf_script.specs.declared.command.Command.{Command}
use Rattle.pf_script.specs.declared.command.Command.TheVariants as commands
use Rattle.pf_live_session.specs.Sessions.{Session}
use Rattle.pf_world.specs.declared.line.Line.{Line}
use Rattle.pf_world.specs.Worlds.{World, no_world}
use Rattle.pf_world.specs.Lines.{line_told}
use Rattle.pf_world.specs.Steps.{LineEnds}
use Rattle.pf_world.specs.Reports.{report_of, world_run}
use Rattle.pf_world.specs.Views.{WorldIs, world_stands_at}
use Rattle.pf_world.specs.Agreeing.{WorldTells}

-- At every moment of every group of the run: no two servers hold different committed ops in one slot; each server's sectors are its applied
-- ops in the order of their slots; and each acknowledged write is committed in the log of each later leader, or under its checkpoint.
abbrev pub IsSafeRun : World → Type 0
IsSafeRun w = (k : ℕ) (c : ChunkRun) → slice_get w.volume.chunks k ≡ Some c → IsSafe c.group.setup c.group.history

-- the group of a run stands where its history leads; the history is legal, and every law holds of it
pub record IsLawful (c : Chunk) : Type 0 where
  pub stands : c.state ≡ replay c.setup c.history
  pub legal : IsLegal c.setup c.history
  pub sound : IsSound c.setup c.history

abbrev pub IsLawfulRun : World → Type 0
IsLawfulRun w = (k : ℕ) (c : ChunkRun) → slice_get w.volume.chunks k ≡ Some c → IsLawful c.group

-- every law holds of the histories that the groups of a world keep, and they are legal where disks tell their content
pub record IsLawfulGroup (g : GroupIs) : Type 0 where
  pub legal : IsTrue g.told → IsLegal g.setup g.history
  pub sound : IsSound g.setup g.history

-- which a world keeps from line to line
abbrev pub IsSoundWorld : WorldIs → Type 0
IsSoundWorld w = (k : ℕ) (c : ChunkIs) → slice_get w.chunks k ≡ Some c → IsLawfulGroup c.group

-- in each group a crash at any moment since the last step began that may have touched disks left of each server what it may hold before that
-- step or right after it
abbrev pub WorldLeavesAtCrash : {D : Type 0} (seen : D → Option (List ℕ)) (moment : D → ℕ) (left_since : D → ℕ → Images) (tells_moments : Bool) → WorldIs
    → Type 0
WorldLeavesAtCrash seen moment left_since tells_moments w = (k : ℕ) (c : ChunkIs) → slice_get w.chunks k ≡ Some c
    → AllLeaveAtCrash seen moment left_since tells_moments c.group

-- two disks failed at least so often
abbrev pub FailedTimes : (n : ℕ) → (was is : ℕ × ℕ) → Type 0
FailedTimes n was is = (was.0 + was.1 + n ≤ is.0 + is.1) ⊎ (IsLastCount is.0 ⊎ IsLastCount is.1)

module _ {D : Type 0} (faults : D → ℕ) where
  -- of these disks two, those of server i of chunk k, with their counts of faults
  pub record AreOf (disks : List D) (k i : ℕ) (counts : ℕ × ℕ) : Type 0 where
    pub zero : D
    pub one : D
    pub zero_is : slice_get disks (6 * k + 2 * i) ≡ Some zero
    pub one_is : slice_get disks (6 * k + 2 * i + 1) ≡ Some one
    pub counts_are : counts ≡ (faults zero, faults one)

  -- the disks of server i of chunk k failed at least as often as the list has halts of it
  pub record IsCaused (halts : List Halt) (before after : List D) (k i : ℕ) : Type 0 where
    pub was : ℕ × ℕ
    pub is : ℕ × ℕ
    pub had : AreOf before k i was
    pub have : AreOf after k i is
    pub failed : FailedTimes (halt_count halts k i) was is

  -- each halt has its cause
  abbrev pub AreCaused : List Halt → (before after : List D) → Type 0
  AreCaused halts before after = Every (λ h. IsCaused halts before after h.group h.server) halts

  -- no disk failed meanwhile, and each count tells so
  abbrev pub AreFaultless : (before after : List D) → Type 0
  AreFaultless before after = (place : ℕ) (was is : D) → slice_get before place ≡ Some was → slice_get after place ≡ Some is
      → (faults is ≡ faults was) × (faults was < 2 ^ 64 - 1)

-- each settling of these lines ends by itself, and not since its tries were counted; and the sessions of live lines are those of their numbers
abbrev pub EndEach : List Halt → World → List Line → Type 0
EndEach halts w [] = Unit {0}
EndEach halts w (line ∷ lines) = LineEnds halts w line.command × EndEach halts (line_told halts w line.number line.command).world lines

-- the run of these lines with these sessions leads to the world, of whose sessions the rest are still to come, and its report is this text
pub record IsRunTo (halts : List Halt) (sessions rest : List Session) (lines : List Line) (text : List ℕ) (w : WorldIs) : Type 0 where
  pub world : (world_run halts sessions lines).world ≡ world_stands_at halts rest w
  pub report : report_of halts sessions lines ≡ text
  pub ends : EndEach halts (no_world sessions) lines

abbrev pub is_live : Command → Bool
is_live (commands.Live chunk hosts writes workers turns) = true
is_live command = false

abbrev pub live_lines : List Line → ℕ
live_lines lines = count_by (λ line. is_live line.command) lines

-- These are the sessions of the live lines among the lines, and under every list of halts that tells of the world the run leads to it
pub record RunsTo (lines : List Line) (text : List ℕ) (w : WorldIs) : Type 0 where
  pub sessions : List Session
  pub few : length sessions ≤ live_lines lines
  pub run : (halts : List Halt) (rest : List Session) → WorldTells halts w → IsRunTo halts (sessions ++ rest) rest lines text w

-- the making of the group, or an event of its history
abbrev pub IsHaltPlaceOf : GroupIs → HaltPlace → Type 0
IsHaltPlaceOf g Making = Unit {0}
IsHaltPlaceOf g (At place) = place < length g.history

-- the halt is of a group of the world
pub record HaltStandsIn (w : WorldIs) (h : Halt) : Type 0 where
  pub chunk : ChunkIs
  pub there : slice_get w.chunks h.group ≡ Some chunk
  pub place : IsHaltPlaceOf chunk.group h.place

-- A list of halts that tells of the world, whose disks tell their content, and has none of anything else; each has its cause. Where no disk
-- failed it is empty, and the run is a function of the lines alone.
pub record AreHalts {D : Type 0} (faults : D → ℕ) (halts : List Halt) (before after : List D) (w : WorldIs) : Type 0 where
  pub tells : WorldTells halts w
  pub within : Every (HaltStandsIn w) halts
  pub causes : AreCaused faults halts before after
