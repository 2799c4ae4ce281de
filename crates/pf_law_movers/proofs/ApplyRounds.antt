-- What claims and ends of jobs keep is kept where all that can be applied is.
use Rattle.std.proofs.Common.{ℕ, zero, suc, List, [], ◌∷◌}
use Rattle.std.specs.List.{fold}
use Rattle.pf_entry.specs.declared.ops.Job.{Job}
use Rattle.pf_protocol.specs.declared.answers.Answer.{Answer}
use Rattle.pf_protocol.specs.declared.answers.Answer.TheVariants as answers
use Rattle.pf_protocol.specs.declared.events.Event.TheVariants.{Claim, Finish}
use Rattle.pf_law_movers.specs.pf_group_rounds.specs.Halts.{Halt}
use Rattle.pf_law_movers.specs.pf_group_rounds.specs.Chunks.{Chunk, after, event_answered}
use Rattle.pf_law_movers.specs.pf_group_rounds.specs.Rounds.{ClaimsMade, applied, claim_on, claims_to, enough, finished, round, rounds_to}

module _ (halts : List Halt) (P : Chunk → Type 0) (claimed : (c : Chunk) → P c → P (after halts c Claim)) (ended : (c : Chunk) (server life slot : ℕ) → P c → P (after halts c (Finish server life slot))) where
  claim : (answer : Answer) (c : Chunk) (more : Chunk → ClaimsMade) → P c → P (more c).chunk → P (claim_on answer c more).chunk
  claim (answers.Job job) c more is then = then
  claim answers.Done c more is then = is
  claim (answers.Slot slot) c more is then = is
  claim (answers.Term term) c more is then = is
  claim (answers.Read number) c more is then = is
  claim (answers.Base base) c more is then = is
  claim (answers.Refused refusal) c more is then = is

  claims : (n : ℕ) (c : Chunk) → P c → P (claims_to n halts c).chunk
  unfolding claims_to
  claims zero c is = is
  claims (suc n) c is = let next = claimed c is in claim (event_answered halts c Claim) (after halts c Claim) (claims_to n halts) next (claims n (after halts c Claim) next)

  finishes : (jobs : List Job) (c : Chunk) → P c → P (fold (finished halts) c jobs)
  finishes [] c is = is
  finishes (job ∷ jobs) c is = finishes jobs (finished halts c job) (ended c job.server job.life job.slot is)

  one_round : (claims : ClaimsMade) (more : Chunk → Chunk) → ((c : Chunk) → P c → P (more c)) → P claims.chunk → P (round halts claims more)
  one_round claims more then is = by claims.jobs
    where
      by : (jobs : List Job) → P (round halts (record { chunk = claims.chunk; jobs = jobs }) more)
      by [] = is
      by (job ∷ jobs) = then (fold (finished halts) claims.chunk (job ∷ jobs)) (finishes (job ∷ jobs) claims.chunk is)

  rounds : (n : ℕ) (c : Chunk) → P c → P (rounds_to n halts c)
  unfolding rounds_to
  rounds zero c is = is
  rounds (suc n) c is = one_round (claims_to enough halts c) (rounds_to n halts) (rounds n) (claims enough c is)

  pub all_applied : (c : Chunk) → P c → P (applied halts c)
  unfolding applied
  all_applied c is = rounds enough c is
