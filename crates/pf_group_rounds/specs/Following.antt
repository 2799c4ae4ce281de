-- What a run comes to that follows a group.
use Rattle.std.specs.Prelude.{◌≡◌, ℕ, ◌==◌, if◌then◌else◌, List}
use Rattle.std.specs.List.{fold}
use Rattle.pf_entry.specs.declared.ops.Job.{Job}
use Rattle.pf_group.specs.GroupIs.{GroupIs}
use Rattle.pf_group_rounds.specs.Halts.{Halt}
use Rattle.pf_group_rounds.specs.Chunks.{Chunk}
use Rattle.pf_group_rounds.specs.Rounds.{claims_to, enough, finished, round}
use Rattle.pf_group_rounds.specs.Agreeing.{TellsOfGroup, chunk_standing}

-- the claims of the run are those of the group
abbrev pub IsClaimed : (old new : GroupIs) → List Job → Type 0
IsClaimed old new jobs = (halts : List Halt) → TellsOfGroup halts new → claims_to enough halts (chunk_standing halts old)
    ≡ record { chunk = chunk_standing halts new; jobs = jobs }

-- so are its finishes
abbrev pub IsFinished : (old new : GroupIs) → List Job → Type 0
IsFinished old new jobs = (halts : List Halt) → TellsOfGroup halts new → fold (finished halts) (chunk_standing halts old) jobs ≡ chunk_standing halts new

-- the run goes on after a round that finished so many jobs, unless there was none
abbrev pub IsRound : (old new : GroupIs) → ℕ → Type 0
IsRound old new count =
    (halts : List Halt) (more : Chunk → Chunk) → TellsOfGroup halts new
    → round halts (claims_to enough halts (chunk_standing halts old)) more ≡ (if count == 0 then chunk_standing halts new else more (chunk_standing halts new))
