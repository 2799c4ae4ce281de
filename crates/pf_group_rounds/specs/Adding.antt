-- What a call adds to the history of a group.
use Rattle.std.specs.Prelude.{◌≡◌, ℕ, false, IsTrue, [], ◌∷◌, ◌++◌, Option, IfSome}
use Rattle.pf_entry.specs.Lists.{Every}
use Rattle.pf_entry.specs.declared.ops.Job.{Job}
use Rattle.pf_protocol.specs.declared.answers.Answer.{Answer}
use Rattle.pf_protocol.specs.declared.events.Event.{Event}
use Rattle.pf_protocol.specs.declared.events.Event.TheVariants.{Claim, Finish}
use Rattle.pf_protocol.specs.Histories.{History}
use Rattle.pf_protocol.specs.Answers.{IsAnswer, claims_of, is_claim}
use Rattle.pf_group.specs.Going.{WentBy}
use Rattle.pf_group.specs.GroupIs.{GroupIs, state_of}
use Rattle.pf_group.specs.Steps.{claim_answer_of}
use Rattle.pf_group_rounds.specs.Begun.{IsClaimOrReturn}
use Rattle.pf_group_rounds.specs.Growing.{Pays}
use Rattle.pf_group_rounds.specs.Jobs.{IsOfRound, is_job, jobs_in}
use Rattle.pf_group_rounds.specs.Rounds.{finishes}

-- the group, after more has happened to it; time went on for its disks, which may have failed more often
abbrev pub with_more : GroupIs → History → GroupIs → GroupIs
with_more old more new = record old { history = old.history ++ more; faults = new.faults; time = new.time }

pub record GroupGoes (old new : GroupIs) : Type 0 where
  pub more : History
  pub recorded : new ≡ with_more old more new
  pub paid : Pays old new
  pub by : WentBy old new

-- so many claims got a job, so many jobs were finished, and nothing else happened but claims for which none was free
pub record Adds (old new : GroupIs) (got ended : ℕ) : Type 0 where
  pub more : History
  pub recorded : new ≡ with_more old more new
  pub paid : Pays old new
  pub by : WentBy old new
  pub round : Every IsOfRound more
  pub jobs : jobs_in more ≡ got
  pub finished : finishes more ≡ ended

-- jobs were claimed, or given back, and nothing else happened
pub record HasReturned (old new : GroupIs) : Type 0 where
  pub more : History
  pub recorded : new ≡ with_more old more new
  pub paid : Pays old new
  pub by : WentBy old new
  pub returned : Every (λ h. IsClaimOrReturn h.event) more

-- a job was claimed, which was in nobody's hand, or none was free
pub record GroupHasClaimed (old : GroupIs) (job : Option Job) (new : GroupIs) : Type 0 where
  pub recorded : new ≡ with_more old (record { event = Claim; answer = claim_answer_of job } ∷ []) new
  pub answered : IsTrue old.told → IsAnswer old.setup (state_of old) Claim (claim_answer_of job)
  pub paid : Pays old new
  pub by : WentBy old new
  pub free : IfSome job (λ j. Every (λ c. is_claim j.server j.life j.slot c ≡ false) (claims_of [] old.history))

abbrev pub finish_of : Job → Event
finish_of job = Finish job.server job.life job.slot

-- the job was finished, and the answer is no job
pub record HasFinished (old : GroupIs) (job : Job) (new : GroupIs) : Type 0 where
  pub answer : Answer
  pub recorded : new ≡ with_more old (record { event = finish_of job; answer = answer } ∷ []) new
  pub quiet : is_job answer ≡ false
  pub answered : IsTrue old.told → IsAnswer old.setup (state_of old) (finish_of job) answer
  pub paid : Pays old new
  pub by : WentBy old new
