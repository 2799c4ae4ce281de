-- A run only adds to the history of its chunk.
use Rattle.std.proofs.Common.{◌≡◌, ℕ, zero, suc, List, [], ◌∷◌, refl, ◌∙◌}
use Rattle.std.specs.List.{fold}
use Rattle.pf_entry.specs.declared.ops.Job.{Job}
use Rattle.pf_protocol.specs.declared.answers.Answer.{Answer}
use Rattle.pf_protocol.specs.declared.answers.Answer.TheVariants as answers
use Rattle.pf_protocol.specs.declared.events.Event.{Event}
use Rattle.pf_protocol.specs.declared.events.Event.TheVariants.{Claim, Finish}
use Rattle.pf_protocol.specs.Histories.{IsPrefix}
use Rattle.pf_protocol.proofs.ForMoments.{prefix_of, whole_prefix}
use Rattle.pf_group_rounds.specs.Halts.{Halt}
use Rattle.pf_group_rounds.specs.Chunks.{Chunk, after, event_answered, event_listed}
use Rattle.pf_group_rounds.specs.Rounds.{ClaimsMade, applied, claim_on, claims_to, enough, finished, round, rounds_to}

-- the second is the same chunk, and has all that the first has, in front
abbrev pub Extends : Chunk → Chunk → Type 0
Extends c d = (d.number ≡ c.number) × IsPrefix c.history d.history

pub extends_refl : (c : Chunk) → Extends c c
extends_refl c = (refl, whole_prefix c.history)

pub extends_on : (c d e : Chunk) → Extends c d → Extends d e → Extends c e
extends_on c d e first second = (second.0 ∙ first.0, prefix_of c.history d.history e.history first.1 second.1)

pub after_extends : (halts : List Halt) (c : Chunk) (event : Event) → Extends c (after halts c event)
unfolding after
after_extends halts c event = (refl, record { rest = record { event = event_listed halts c event; answer = event_answered halts c event } ∷ []; whole = refl })

claim_extends : (answer : Answer) (c d : Chunk) (more : Chunk → ClaimsMade) → Extends c d → Extends d (more d).chunk → Extends c (claim_on answer d more).chunk
claim_extends (answers.Job job) c d more first rest = extends_on c d (more d).chunk first rest
claim_extends answers.Done c d more first rest = first
claim_extends (answers.Slot slot) c d more first rest = first
claim_extends (answers.Term term) c d more first rest = first
claim_extends (answers.Read number) c d more first rest = first
claim_extends (answers.Base base) c d more first rest = first
claim_extends (answers.Refused refusal) c d more first rest = first

pub claims_extend : (n : ℕ) (halts : List Halt) (c : Chunk) → Extends c (claims_to n halts c).chunk
unfolding claims_to
claims_extend zero halts c = extends_refl c
claims_extend (suc n) halts c = claim_extends (event_answered halts c Claim) c (after halts c Claim) (claims_to n halts) (after_extends halts c Claim) (claims_extend n halts (after halts c Claim))

pub finishes_extend : (halts : List Halt) (jobs : List Job) (c : Chunk) → Extends c (fold (finished halts) c jobs)
finishes_extend halts [] c = extends_refl c
finishes_extend halts (job ∷ jobs) c =
    extends_on c (finished halts c job) (fold (finished halts) (finished halts c job) jobs) (after_extends halts c (Finish job.server job.life job.slot)) (finishes_extend halts jobs (finished halts c job))

pub round_extends : (halts : List Halt) (claims : ClaimsMade) (more : Chunk → Chunk) → ((c : Chunk) → Extends c (more c)) → Extends claims.chunk (round halts claims more)
round_extends halts claims more longer = by claims.jobs
  where
    by : (js : List Job) → Extends claims.chunk (round halts (record { chunk = claims.chunk; jobs = js }) more)
    by [] = extends_refl claims.chunk
    by (j ∷ js) = let ended = fold (finished halts) claims.chunk (j ∷ js) in extends_on claims.chunk ended (more ended) (finishes_extend halts (j ∷ js) claims.chunk) (longer ended)

pub rounds_extend : (n : ℕ) (halts : List Halt) (c : Chunk) → Extends c (rounds_to n halts c)
unfolding rounds_to
rounds_extend zero halts c = extends_refl c
rounds_extend (suc n) halts c =
    extends_on c (claims_to enough halts c).chunk (round halts (claims_to enough halts c) (rounds_to n halts)) (claims_extend enough halts c)
    (round_extends halts (claims_to enough halts c) (rounds_to n halts) (rounds_extend n halts))

pub applied_extends : (halts : List Halt) (c : Chunk) → Extends c (applied halts c)
unfolding applied
applied_extends halts c = rounds_extend enough halts c
