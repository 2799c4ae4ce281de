-- Jobs whose claims are open.
use Rattle.std.specs.Prelude.{◌≡◌, ℕ, false, List, [], ◌∷◌, Some, map, slice_get}
use Rattle.std.specs.List.{fold}
use Rattle.pf_entry.specs.Lists.{Every}
use Rattle.pf_entry.specs.declared.ops.Job.{Job}
use Rattle.pf_protocol.specs.Histories.{History}
use Rattle.pf_protocol.specs.Answers.{Claimed, claims_of, is_claim}
use Rattle.pf_group_copy.specs.declared.work.CopyWork.{CopyWork}
use Rattle.pf_group_copy.specs.Filling.{filled_of}

abbrev pub jobs_of : List CopyWork → List Job
jobs_of works = map (λ w. w.job) works

abbrev pub claim_for : Job → Claimed
claim_for job = record { server = job.server; life = job.life; slot = job.slot; op = job.op }

-- the claim of the job is open
pub record JobIsOpen (history : History) (job : Job) : Type 0 where
  pub place : ℕ
  pub claim : slice_get (claims_of [] history) place ≡ Some (claim_for job)

-- the claims that these jobs opened, one after another
abbrev pub with_claims : List Claimed → List Job → List Claimed
with_claims claims jobs = fold (λ earlier job. claim_for job ∷ earlier) claims jobs

-- two different jobs
abbrev pub AreOtherJobs : Job → Job → Type 0
AreOtherJobs a b = is_claim a.server a.life a.slot (claim_for b) ≡ false

abbrev pub AllApart : List Job → Type 0
AllApart [] = Unit {0}
AllApart (job ∷ jobs) = Every (AreOtherJobs job) jobs × AllApart jobs

-- the open claims are those of these jobs, in the order of their claims
pub record AreOpen (history : History) (jobs : List Job) : Type 0 where
  pub claims : claims_of [] history ≡ with_claims [] jobs
  pub apart : AllApart jobs

-- each job has its sectors
abbrev pub AreFilled : List CopyWork → Type 0
AreFilled works = Every (λ w. w.filled ≡ Some (filled_of w.job)) works
