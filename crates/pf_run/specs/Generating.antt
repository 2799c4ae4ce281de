-- How the run of a generated script ends.
use Rattle.std.specs.Prelude.{◌≡◌, ℕ, Bool, IsTrue, List, [], length, Option, IsOk, Ok}
use Rattle.std.specs.Io.KnownBytes.{Appends}
use Rattle.pf_disk.specs.Crashes.{Images}
use Rattle.pf_gen.specs.Generated.{generated}
use Rattle.pf_world.specs.declared.line.Line.{Line}
use Rattle.pf_world.specs.Reports.{world_run}
use Rattle.pf_world.specs.Worlds.{World}
use Rattle.pf_run_lines.specs.declared.status.Status.{Status}
use Rattle.pf_run_lines.specs.declared.status.Status.TheVariants as statuses
use Rattle.pf_run_lines.specs.Ends.{AppendsFront}
use Rattle.pf_run.specs.Reports.{acked_in_world, judged_lines, sum_text, summary_text}
use Rattle.pf_run.specs.Running.{HasRunTo}
use Rattle.pf_run.specs.Scripts.{script_of}

-- the lines of the script that a number generates
abbrev pub generated_lines : ℕ → List Line
generated_lines number = judged_lines (script_of (generated number))

-- the script is accepted, with its 2,004 lines
abbrev pub IsAccepted : ℕ → Type 0
IsAccepted number = (lines : List Line) × (script_of (generated number) ≡ Ok lines) × (length lines ≡ 2004)

-- A status: all lines were run, and the sink took the line with these counts, or a front of it where it failed. Else memory ran out, and nothing
-- was written.
abbrev pub Sums : Status → (number : ℕ) → (behind : List Line) → (acked : ℕ × ℕ) → (taken now : Option (List ℕ)) → (full : Type 0) → Type 0
Sums statuses.Ok number behind acked taken now full = IsOk (script_of (generated number)) × (behind ≡ []) × Appends taken now (sum_text number acked)
Sums statuses.NoMemory number behind acked taken now full = Appends taken now []
Sums statuses.WriteFault number behind acked taken now full = IsOk (script_of (generated number)) × (behind ≡ []) × full
    × AppendsFront taken now (sum_text number acked)
Sums status number behind acked taken now full = ⊥

-- the counts are those of the world to which all lines led
abbrev pub AreCounted : Status → (acked : ℕ × ℕ) → World → Type 0
AreCounted statuses.NoMemory acked w = Unit {0}
AreCounted status acked w = acked ≡ (acked_in_world w 0, acked_in_world w 1)

-- the line was written, with the counts of the run where disks tell their content
pub record IsSummed (tells : Bool) (status : Status) (number : ℕ) (behind : List Line) (run : IsTrue tells → World) (taken now : Option (List ℕ))
    (full : Type 0) : Type 0 where
  pub acked : ℕ × ℕ
  pub sums : Sums status number behind acked taken now full
  pub counted : (told : IsTrue tells) → AreCounted status acked (run told)

module _ {D : Type 0} (seen : D → Option (List ℕ)) (may_leave : D → Images) (faults moment : D → ℕ) (left_since : D → ℕ → Images) (tells tells_moments : Bool)
  where
    pub record HasGenerated (status : Status) (number : ℕ) (taken now : Option (List ℕ)) (full : Type 0) (before after : List D) : Type 0 where
      pub behind : List Line
      pub text : List ℕ
      pub ran : HasRunTo seen may_leave faults moment left_since tells tells_moments status (generated_lines number) behind text before after
      pub sums : IsSummed tells status number behind (λ told. (world_run (ran.ruled told).halts ran.run.sessions ran.done).world) taken now full

-- the sink took the line of the run of which none was cut off
abbrev pub IsPlainSum : (number : ℕ) → (taken now : Option (List ℕ)) → Type 0
IsPlainSum number taken now = Appends taken now (summary_text number (world_run [] [] (generated_lines number)).world)
