-- How far the lines of a script were run.
use Rattle.std.specs.Prelude.{◌≡◌, ℕ, Bool, IsTrue, ◌*◌, ◌≤◌, List, [], ◌∷◌, ◌++◌, Option, length, drop, slice_get}
use Rattle.std.specs.Option.{option_map_or}
use Rattle.std.specs.Io.KnownBytes.{Appends}
use Rattle.pf_disk.specs.Crashes.{Images}
use Rattle.pf_group.specs.GroupIs.{state_of}
use Rattle.pf_group_rounds.specs.Halts.{Halt}
use Rattle.pf_script.specs.declared.command.Command.{Command}
use Rattle.pf_script.specs.declared.command.Command.TheVariants.{Volume}
use Rattle.pf_script.specs.Lines.{first_named}
use Rattle.pf_live_session.specs.Sessions.{Session}
use Rattle.pf_world.specs.declared.line.Line.{Line}
use Rattle.pf_world.specs.Disks.{AreLeft}
use Rattle.pf_world.specs.Headline.{AreHalts, IsLawfulRun, IsRunTo, IsSafeRun, IsSoundWorld, RunsTo}
use Rattle.pf_world.specs.Making.{AreBegun, AreNew}
use Rattle.pf_world.specs.Steps.{WorldGoesOn, LineHasFailed}
use Rattle.pf_world.specs.Views.{IsWorld, WorldIs, WorldOn, named_in, world_stands_at}
use Rattle.pf_world.specs.Reports.{world_run}
use Rattle.pf_run_lines.specs.declared.status.Status.{Status}
use Rattle.pf_run_lines.specs.declared.status.Status.TheVariants as statuses
use Rattle.pf_run_lines.specs.Ends.{AppendsFront}
use Rattle.pf_run.specs.Headline.{HasOneListOf, Headline}
use Rattle.pf_run.specs.Placed.{MakesVolume}

-- the first chunks of the line's volume were made
abbrev pub HasBegunVolume : {D : Type 0} → (D → ℕ) → Command → (before : List D) → WorldIs → Type 0
HasBegunVolume faults (Volume chunks sectors names format) before left =
    (left.sectors ≡ sectors) × (left.names ≡ names) × (left.format ≡ format) × AreBegun faults chunks sectors names format before left.chunks
HasBegunVolume faults command before left = ⊥

-- where memory ran out, after these lines and before the rest: in the middle of the next one
abbrev pub StandsWithin : {D : Type 0} → (D → ℕ) → (before : List D) → (done rest : List Line) → (world left : WorldIs) → Type 0
StandsWithin faults before done [] world left = left ≡ world
StandsWithin faults before [] (line ∷ rest) world left = HasBegunVolume faults line.command before left
StandsWithin faults before (first ∷ done) (line ∷ rest) world left = LineHasFailed world line.number line.command left

-- the world that is left: that of the lines that were run, but where memory ran out
abbrev pub Stops : {D : Type 0} → (D → ℕ) → Status → (before : List D) → (done rest : List Line) → (world left : WorldIs) → Type 0
Stops faults statuses.NoMemory before done rest world left = StandsWithin faults before done rest world left
Stops faults status before done rest world left = left ≡ world

-- The run of these lines with these sessions by the rules, which led to this world, of which this was left. Some list of halts tells of all
-- that happened, each with its cause. Every moment of the run is safe, and its histories are legal; so is what was left of it. One list holds
-- of the run with the whole next line too: where memory ran out in the middle of that, what was left is a beginning of what the line would have
-- done, so all that the list says of moments holds of those that were told there.
pub record IsRuled {D : Type 0} (faults : D → ℕ) (sessions : List Session) (done rest : List Line) (text : List ℕ) (before after : List D)
    (world left : WorldIs) : Type 0 where
  pub halts : List Halt
  pub told : AreHalts faults halts before after left
  pub ran : IsRunTo halts sessions [] done text world
  pub headline : Headline halts sessions done text
  pub within : (line : Line) (behind : List Line) → rest ≡ line ∷ behind → HasOneListOf halts sessions (done ++ line ∷ [])
  pub lawful : IsLawfulRun (world_run halts sessions done).world
  pub safe_left : IsSafeRun (world_stands_at halts [] left)
  pub lawful_left : IsLawfulRun (world_stands_at halts [] left)

module _ {D : Type 0} (seen : D → Option (List ℕ)) (may_leave : D → Images) (faults moment : D → ℕ) (left_since : D → ℕ → Images) (tells tells_moments : Bool)
  where
    -- All lines but the rest were run, which led to this world and wrote this text; before the first line was run there is no chunk. All disks
    -- are there in their order, as the chunks that are left know them. Where disks tell their content, the run went by the rules.
    pub record HasRunTo (status : Status) (lines rest : List Line) (text : List ℕ) (before after : List D) : Type 0 where
      pub done : List Line
      pub first : done ++ rest ≡ lines
      pub world : WorldIs
      pub run : RunsTo done text world
      pub none : done ≡ [] → world.chunks ≡ []
      pub left : WorldIs
      pub stops : Stops faults status before done rest world left
      pub ruled : IsTrue tells → IsRuled faults run.sessions done rest text before after world left
      pub disks : AreLeft seen may_leave faults moment left_since tells tells_moments left.chunks before after

-- the volume of a line was made on the first of these disks, and told of by this text
pub record HasOpened {D : Type 0} (faults : D → ℕ) (line : Line) (text : List ℕ) (disks : List D) (on : WorldOn D) : Type 0 where
  pub is_world : IsWorld on.world
  pub sound : IsSoundWorld on.world
  pub run : RunsTo (line ∷ []) text on.world
  pub fresh : AreNew faults disks on.world
  pub volume : MakesVolume (length on.world.chunks) line.command
  pub named : named_in on.world ≡ first_named (length on.world.chunks)
  pub calls : on.world.fleet.calls ≡ 0
  pub moves : on.world.moves ≡ 0
  pub spare : on.spare ≡ drop (6 * length on.world.chunks) disks

-- or there was no memory for it: its first chunks were made, and left what they left on the disks
pub record HasNotOpened {D : Type 0} (seen : D → Option (List ℕ)) (may_leave : D → Images) (faults moment : D → ℕ) (left_since : D → ℕ → Images)
    (tells tells_moments : Bool) (line : Line) (before after : List D) : Type 0 where
  pub made : WorldIs
  pub begun : HasBegunVolume faults line.command before made
  pub left : AreLeft seen may_leave faults moment left_since tells tells_moments made.chunks before after

-- The sink failed in the text of the last line that was run: it had taken the whole text of the run of the earlier ones, and of this line's text
-- it took a front.
pub record HasStoppedAt (done : List Line) (text : List ℕ) (taken now : Option (List ℕ)) : Type 0 where
  pub earlier : List Line
  pub last : Line
  pub lines_are : earlier ++ last ∷ [] ≡ done
  pub before : List ℕ
  pub its : List ℕ
  pub text_is : before ++ its ≡ text
  pub world : WorldIs
  pub run : RunsTo earlier before world
  pub middle : Option (List ℕ)
  pub written : Appends taken middle before
  pub front : AppendsFront middle now its

-- the text of the lines that were run was written: all of it, unless the sink failed in that of the last
abbrev pub Wrote : Status → (done rest : List Line) → (text : List ℕ) → (taken now : Option (List ℕ)) → (full : Type 0) → Type 0
Wrote statuses.Ok done rest text taken now full = (rest ≡ []) × Appends taken now text
Wrote statuses.NoMemory done rest text taken now full = Appends taken now text
Wrote statuses.WriteFault done rest text taken now full = full × HasStoppedAt done text taken now
Wrote statuses.Usage done rest text taken now full = ⊥
Wrote statuses.Script done rest text taken now full = ⊥
Wrote statuses.ReadFault done rest text taken now full = ⊥

-- the world after these lines, but where memory ran out in the next one
abbrev pub LeavesWorld : Status → (rest : List Line) → (was is : WorldIs) → Type 0
LeavesWorld statuses.NoMemory [] was is = ⊥
LeavesWorld statuses.NoMemory (line ∷ rest) was is = LineHasFailed was line.number line.command is
LeavesWorld status rest was is = is ≡ was

-- after the volume more lines were run, and the texts written
pub record HasGoneOn (status : Status) (volume : Line) (lines : List Line) (taken now : Option (List ℕ)) (full : Type 0) (old new : WorldIs) : Type 0 where
  pub done : List Line
  pub rest : List Line
  pub first : done ++ rest ≡ lines
  pub text : List ℕ
  pub world : WorldIs
  pub run : RunsTo (volume ∷ done) text world
  pub is_world : IsWorld world
  pub goes_on : WorldGoesOn old world
  pub lawful : IsSoundWorld world
  pub leaves : LeavesWorld status rest world new
  pub lawful_left : IsSoundWorld new
  pub count : length old.chunks ≤ length new.chunks
  pub wrote : Wrote status (volume ∷ done) rest text taken now full

-- how many slots of group k a world has acknowledged
abbrev pub acked_count : WorldIs → (k : ℕ) → ℕ
acked_count w k = option_map_or (λ c. length (state_of c.group).acked) (slice_get w.chunks k) 0

-- once all lines were run, the acknowledged slots of two groups were counted
abbrev pub CountsAcked : Status → (acked : ℕ × ℕ) → WorldIs → Type 0
CountsAcked statuses.Ok acked w = acked ≡ (acked_count w 0, acked_count w 1)
CountsAcked status acked w = Unit {0}

-- lines were run from the first on, and the texts written; where disks tell their content, the counts are those of the run
pub record HasRunLines {D : Type 0} (seen : D → Option (List ℕ)) (may_leave : D → Images) (faults moment : D → ℕ) (left_since : D → ℕ → Images)
    (tells tells_moments : Bool) (status : Status) (acked : ℕ × ℕ) (lines : List Line) (taken now : Option (List ℕ)) (full : Type 0)
    (before after : List D) : Type 0 where
  pub rest : List Line
  pub text : List ℕ
  pub ran : HasRunTo seen may_leave faults moment left_since tells tells_moments status lines rest text before after
  pub wrote : Wrote status ran.done rest text taken now full
  pub counted : IsTrue tells → CountsAcked status acked ran.left
