-- Claims and finishes, and the jobs that were handed out.
use Rattle.std.specs.Prelude.{ℕ, Bool, true, false}
use Rattle.std.specs.List.{count_by}
use Rattle.pf_protocol.specs.declared.answers.Answer.{Answer}
use Rattle.pf_protocol.specs.declared.answers.Answer.TheVariants.{Job as JobIs}
use Rattle.pf_protocol.specs.declared.events.Event.{Event}
use Rattle.pf_protocol.specs.declared.events.Event.TheVariants.{Claim, Finish}
use Rattle.pf_protocol.specs.declared.events.Happening.{Happening}
use Rattle.pf_protocol.specs.Histories.{History}

abbrev pub IsClaimOrFinish : Event → Type 0
IsClaimOrFinish Claim = Unit {0}
IsClaimOrFinish (Finish server life slot) = Unit {0}
IsClaimOrFinish _ = ⊥

-- rounds are made of claims and finishes
abbrev pub IsOfRound : Happening → Type 0
IsOfRound h = IsClaimOrFinish h.event

abbrev pub is_job : Answer → Bool
is_job (JobIs job) = true
is_job _ = false

-- how many happenings were answered with a job
abbrev pub jobs_in : History → ℕ
jobs_in history = count_by (λ h. is_job h.answer) history
