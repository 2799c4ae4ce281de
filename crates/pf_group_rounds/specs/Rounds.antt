-- Committed slots are applied in rounds.
use Rattle.std.specs.Prelude.{◌≡◌, ℕ, zero, suc, Bool, true, false, List, [], ◌∷◌, drop, length}
use Rattle.std.specs.List.{count_by, fold}
use Rattle.pf_entry.specs.declared.ops.Job.{Job}
use Rattle.pf_protocol.specs.declared.answers.Answer.{Answer}
use Rattle.pf_protocol.specs.declared.answers.Answer.TheVariants.{Job as JobIs, Refused}
use Rattle.pf_protocol.specs.declared.answers.Refusal.TheVariants.{NoneFree}
use Rattle.pf_protocol.specs.declared.events.Event.{Event}
use Rattle.pf_protocol.specs.declared.events.Event.TheVariants.{Claim, Finish}
use Rattle.pf_protocol.specs.Servers.{Setup}
use Rattle.pf_protocol.specs.Groups.{Group}
use Rattle.pf_protocol.specs.Histories.{History}
use Rattle.pf_protocol.specs.Answers.{answer_to}
use Rattle.pf_group_rounds.specs.Halts.{Halt}
use Rattle.pf_group_rounds.specs.Chunks.{Chunk, after, event_answered}

-- the chunk after some claims, and their jobs in the order of the claims
pub record ClaimsMade : Type 0 where
  pub chunk : Chunk
  pub jobs : List Job

abbrev pub no_jobs : Chunk → ClaimsMade
no_jobs c = record { chunk = c; jobs = [] }

abbrev pub with_job : Job → ClaimsMade → ClaimsMade
with_job job claims = record claims { jobs = job ∷ claims.jobs }

-- a claim that got a job is followed by more
abbrev pub claim_on : Answer → Chunk → (Chunk → ClaimsMade) → ClaimsMade
claim_on (JobIs job) c more = with_job job (more c)
claim_on answer c more = no_jobs c

-- claims until none is free, at most n
unfoldable pub claims_to : (n : ℕ) → List Halt → Chunk → ClaimsMade
claims_to zero halts c = no_jobs c
claims_to (suc n) halts c = claim_on (event_answered halts c Claim) (after halts c Claim) (claims_to n halts)

abbrev pub finished : List Halt → Chunk → Job → Chunk
finished halts c job = after halts c (Finish job.server job.life job.slot)

-- the jobs are finished in the order of their claims, unless there are none
abbrev pub round : List Halt → ClaimsMade → (Chunk → Chunk) → Chunk
round halts claims more = round_of claims.jobs claims.chunk more where
  round_of : List Job → Chunk → (Chunk → Chunk) → Chunk
  round_of [] c more = c
  round_of (job ∷ jobs) c more = more (fold (finished halts) c (job ∷ jobs))

-- Each of three servers has at most 4,096 slots above its checkpoint. A claim takes one of them, which no claim takes again before it is
-- finished, nor afterwards. So the last of so many claims, or rounds, finds none.
abbrev pub enough : ℕ
enough = 12289

-- rounds until one claims nothing, at most n
unfoldable pub rounds_to : (n : ℕ) → List Halt → Chunk → Chunk
rounds_to zero halts c = c
rounds_to (suc n) halts c = round halts (claims_to enough halts c) (rounds_to n halts)

-- what can be applied is applied
unfoldable pub applied : List Halt → Chunk → Chunk
applied halts c = rounds_to enough halts c

-- nothing is left to apply
abbrev pub IsApplied : Setup → Group → Type 0
IsApplied setup g = answer_to setup g Claim ≡ Refused NoneFree

abbrev pub is_finish : Event → Bool
is_finish (Finish server life slot) = true
is_finish event = false

-- how many jobs were finished
abbrev pub finishes : History → ℕ
finishes history = count_by (λ h. is_finish h.event) history

-- how many of them since an earlier moment
abbrev pub finishes_since : (old new : History) → ℕ
finishes_since old new = finishes (drop (length old) new)
