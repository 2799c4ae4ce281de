-- One claim, one finish, one job that comes back undone.
use Rattle.std.proofs.Common.{◌≡◌, inl, inr, ℕ, ◌+◌, Bool, true, false, cond, if◌then◌else◌, ◌==◌, List, [], ◌∷◌, ◌++◌, Option, Some, None, slice_get, refl, sym, ap, subst, ◌∙◌, add-zero}
use Rattle.std.specs.FinMap
use Rattle.std.specs.Prelude.{IsTrue}
use Rattle.pf_base.specs.declared.filled.Filled.{Filled}
use Rattle.pf_entry.specs.declared.ops.Job.{Job}
use Rattle.pf_protocol.specs.Servers.{Condition, Running, Server, Setup, Stopped, Unformatted}
use Rattle.pf_protocol.specs.Groups.{Group}
use Rattle.pf_protocol.specs.Outcomes.{only_answers, sends}
use Rattle.pf_protocol.specs.Saving.{applied_op, on_finish}
use Rattle.pf_protocol.specs.declared.answers.Answer.{Answer}
use Rattle.pf_protocol.specs.declared.answers.Answer.TheVariants.{Done, Job as JobIs, Refused}
use Rattle.pf_protocol.specs.declared.answers.Refusal.{Refusal}
use Rattle.pf_protocol.specs.declared.answers.Refusal.TheVariants.{Down, NoneFree, Stale}
use Rattle.pf_protocol.specs.declared.events.Event.{Event}
use Rattle.pf_protocol.specs.declared.events.Event.TheVariants.{Claim, Finish, GiveBack}
use Rattle.pf_protocol.specs.Answers.{IsAnswer, answer_to, finish_answer, may_halt}
use Rattle.pf_group.specs.pf_group_network.specs.Readings.{taken_after}
use Rattle.pf_group.specs.declared.event.GroupEvent.TheVariants as asked
use Rattle.pf_group.specs.GroupIs.{GroupIs, state_of}
use Rattle.pf_group.specs.Steps.{GroupHasStepped, GroupSteps, claim_answer_of}
use Rattle.pf_group_copy.specs.Filling.{filled_of}
use Rattle.pf_group_rounds.specs.Adding.{Adds, GroupHasClaimed, HasFinished, finish_of}
use Rattle.pf_group_rounds.specs.Agreeing.{is_halt, is_halted}
use Rattle.pf_group_rounds.specs.Jobs.{is_job}
use Rattle.pf_group_rounds.specs.Open.{AreOpen}
use Rattle.pf_group_rounds.proofs.HistoryParts.{adds_trans}
use Rattle.pf_group_rounds.proofs.Bound.{answer_is}
use Rattle.pf_group_rounds.proofs.ClaimLists.{finished_first, not_opened, opened, returned_first}
use Rattle.pf_group.proofs.Chains.{by_step}
use Rattle.pf_group_rounds.proofs.FaultCounts.{whole_pays}

-- the answer that the rules give in the state after the history, where the disks tell their content
pub answered_now : (old new : GroupIs) (event : Event) (answer : Answer) → GroupSteps old event answer new → IsTrue old.told → IsAnswer old.setup (state_of old) event answer
answered_now old new event answer steps told = subst (λ g. IsAnswer old.setup g event answer) (steps.same told) (steps.answered (inl told))

-- a claim that got a job, or none
pub claimed_so : (old new : GroupIs) (job : Option Job) → GroupSteps old Claim (claim_answer_of job) new → GroupHasClaimed old job new
claimed_so old new (Some job) steps = record { recorded = steps.recorded; answered = answered_now old new Claim (JobIs job) steps; paid = whole_pays old new Claim (JobIs job) steps tt refl; by = by_step old new Claim (JobIs job) steps; free = steps.fresh }
claimed_so old new None steps = record { recorded = steps.recorded; answered = answered_now old new Claim (Refused NoneFree) steps; paid = whole_pays old new Claim (Refused NoneFree) steps tt refl; by = by_step old new Claim (Refused NoneFree) steps; free = tt }

-- a finish is answered with no job, begins no read, and is not cut off
record IsQuiet (answer : Answer) : Type 0 where
  no_job : is_job answer ≡ false
  no_read : (taken : List Bool) → taken_after taken answer ≡ taken
  whole : is_halted answer ≡ false

quiet_done : IsQuiet Done
quiet_done = record { no_job = refl; no_read = λ taken. refl; whole = refl }

quiet_refused : (refusal : Refusal) → is_halt refusal ≡ false → IsQuiet (Refused refusal)
quiet_refused refusal whole = record { no_job = refl; no_read = λ taken. refl; whole = whole }

quiet_finish : (s : Server) (life slot : ℕ) → IsQuiet (on_finish s life slot).answer
unfolding on_finish
quiet_finish s life slot = by (life == s.life)
  where
    by : (b : Bool) → IsQuiet (if b then sends (applied_op s slot (FinMap.get s.in_hand slot)) [] else only_answers s (Refused (Stale s.life))).answer
    by true = quiet_done
    by false = quiet_refused (Stale s.life) refl

quiet_at : (c : Option Condition) (life slot : ℕ) → IsQuiet (finish_answer c life slot)
quiet_at (Some (Running s)) life slot = quiet_finish s life slot
quiet_at (Some (Stopped now before after)) life slot = quiet_refused (Stale now) refl
quiet_at (Some Unformatted) life slot = quiet_refused Down refl
quiet_at None life slot = quiet_refused Down refl

quiet : (setup : Setup) (g : Group) (i life slot : ℕ) (answer : Answer) → IsAnswer setup g (Finish i life slot) answer → IsQuiet answer
unfolding answer_to may_halt
quiet setup g i life slot answer is = subst IsQuiet (sym (answer_is answer (finish_answer (slice_get g.servers i) life slot) is)) (quiet_at (slice_get g.servers i) life slot)

pub finished_job : (old new : GroupIs) (filled : Filled) (answer : Answer) (job : Job) → filled ≡ filled_of job → GroupHasStepped old (asked.Finish filled) answer new → HasFinished old job new
finished_job old new filled answer job is stepped =
    let steps = subst (λ (f : Filled). GroupSteps old (Finish f.server f.life f.slot) answer new) is stepped.steps in
    let q = quiet old.setup steps.before job.server job.life job.slot answer (steps.answered (inr tt)) in
    record {
      answer = answer;
      recorded = steps.recorded ∙ ap (λ taken. record old { history = old.history ++ record { event = finish_of job; answer = answer } ∷ []; taken = taken; faults = new.faults; time = new.time }) (q.no_read old.taken);
      quiet = q.no_job;
      answered = answered_now old new (finish_of job) answer steps;
      paid = whole_pays old new (finish_of job) answer steps tt q.whole;
      by = by_step old new (finish_of job) answer steps;
    }

-- what a claim adds
pub claim_adds : (old now new : GroupIs) (job : Job) (n : ℕ) → GroupHasClaimed now (Some job) new → Adds old now n 0 → Adds old new (n + 1) 0
claim_adds old now new job n claimed adds =
    adds_trans old now new n 0 1 0 adds (record { more = record { event = Claim; answer = JobIs job } ∷ []; recorded = claimed.recorded; paid = claimed.paid; by = claimed.by; round = (tt, tt); jobs = refl; finished = refl })

pub none_adds : (old now new : GroupIs) (n : ℕ) → GroupHasClaimed now None new → Adds old now n 0 → Adds old new n 0
none_adds old now new n claimed adds =
    subst (λ m. Adds old new m 0) (add-zero n)
    (adds_trans old now new n 0 0 0 adds (record { more = record { event = Claim; answer = Refused NoneFree } ∷ []; recorded = claimed.recorded; paid = claimed.paid; by = claimed.by; round = (tt, tt); jobs = refl; finished = refl }))

-- what a finish adds
pub finish_adds : (old now new : GroupIs) (job : Job) (n : ℕ) → HasFinished now job new → Adds old now 0 n → Adds old new 0 (n + 1)
finish_adds old now new job n done adds =
    adds_trans old now new 0 n 0 1 adds (record {
      more = record { event = finish_of job; answer = done.answer } ∷ [];
      recorded = done.recorded;
      paid = done.paid;
      by = done.by;
      round = (tt, tt);
      jobs = ap (λ b. 0 + cond b 1 0) done.quiet;
      finished = refl;
    })

-- the open claims
pub claim_opens : (now new : GroupIs) (jobs : List Job) (job : Job) → GroupHasClaimed now (Some job) new → AreOpen now.history jobs → AreOpen new.history (jobs ++ job ∷ [])
claim_opens now new jobs job claimed are =
    subst (λ (g : GroupIs). AreOpen g.history (jobs ++ job ∷ [])) (sym claimed.recorded) (opened now.history jobs job are claimed.free)

pub none_opens : (now new : GroupIs) (jobs : List Job) → GroupHasClaimed now None new → AreOpen now.history jobs → AreOpen new.history jobs
none_opens now new jobs claimed are =
    subst (λ (g : GroupIs). AreOpen g.history jobs) (sym claimed.recorded) (not_opened now.history jobs are)

pub finish_closes : (now new : GroupIs) (job : Job) (jobs : List Job) → HasFinished now job new → AreOpen now.history (job ∷ jobs) → AreOpen new.history jobs
finish_closes now new job jobs done are =
    subst (λ (g : GroupIs). AreOpen g.history jobs) (sym done.recorded) (finished_first now.history job jobs done.answer are)

-- a job comes back undone
abbrev Returns : (old : GroupIs) → Job → (new : GroupIs) → Type 0
Returns old job new = GroupSteps old (GiveBack job.server job.life job.slot) Done new

pub return_closes : (now new : GroupIs) (job : Job) (jobs : List Job) → Returns now job new → AreOpen now.history (job ∷ jobs) → AreOpen new.history jobs
return_closes now new job jobs returns are =
    subst (λ (g : GroupIs). AreOpen g.history jobs) (sym returns.recorded) (returned_first now.history job jobs Done are)
