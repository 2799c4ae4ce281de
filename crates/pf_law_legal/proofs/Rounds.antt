-- Claims of jobs, and their finishes: a round leads from a legal chunk with no open claim to one such.
use Rattle.std.proofs.Common.{◌≡◌, ℕ, zero, suc, false, List, [], ◌∷◌, ◌++◌, refl, sym, subst, ◌∙◌, append_assoc}
use Rattle.std.specs.List.{fold}
use Rattle.std.proofs.lemmas.List.{append-nil}
use Rattle.pf_entry.specs.Lists.{Every}
use Rattle.pf_entry.specs.declared.ops.Job.{Job}
use Rattle.pf_protocol.specs.declared.answers.Answer.{Answer}
use Rattle.pf_protocol.specs.declared.answers.Answer.TheVariants.{Done, Slot as SlotIs, Term as TermIs, Read as ReadIs, Base as BaseIs, Job as JobIs, Refused}
use Rattle.pf_protocol.specs.declared.events.Event.TheVariants.{Claim, Finish}
use Rattle.pf_protocol.specs.Groups.{Group}
use Rattle.pf_protocol.specs.Histories.{History}
use Rattle.pf_protocol.specs.Answers.{IsAnswer, ClaimIsOpen, claims_of, is_claim}
use Rattle.pf_protocol.proofs.ForHistories.{legal_open}
use Rattle.pf_world.specs.pf_group.proofs.Claims.{claims_more}
use Rattle.pf_world.specs.pf_group.proofs.Fresh.{fresh_answer}
use Rattle.pf_world.specs.pf_group_rounds.specs.Halts.{Halt}
use Rattle.pf_world.specs.pf_group_rounds.specs.Chunks.{Chunk, after, event_answered}
use Rattle.pf_world.specs.pf_group_rounds.specs.Open.{AreOpen}
use Rattle.pf_world.specs.pf_group_rounds.specs.Rounds.{ClaimsMade, applied, claim_on, claims_to, enough, finished, round, rounds_to}
use Rattle.pf_world.specs.pf_group_rounds.proofs.ClaimLists.{finished_first, first_may_return, opened}
use Rattle.pf_law_movers.proofs.SubmitAnswers.{is_answer}
use Rattle.pf_law_legal.proofs.LegalEvents.{IsStanding, one_more}

-- it stands so, and these jobs have the open claims, in the order of their claims
pub record IsHolding (jobs : List Job) (c : Chunk) : Type 0 where
  pub standing : IsStanding c
  pub claims : AreOpen c.history jobs

-- no claim is open
abbrev pub IsIdle : Chunk → Type 0
IsIdle c = IsHolding [] c

pub idle_claims : (c : Chunk) → IsIdle c → claims_of [] c.history ≡ []
idle_claims c is = is.claims.claims

-- a claim that gets no job opens nothing
abbrev IsNoJob : Answer → Type 0
IsNoJob (JobIs job) = ⊥
IsNoJob answer = Unit {0}

unopened : (history : History) (jobs : List Job) (answer : Answer) → IsNoJob answer → AreOpen history jobs → AreOpen (history ++ record { event = Claim; answer = answer } ∷ []) jobs
unopened history jobs Done none are = record { claims = claims_more history [] (record { event = Claim; answer = Done }) ∙ are.claims; apart = are.apart }
unopened history jobs (SlotIs slot) none are = record { claims = claims_more history [] (record { event = Claim; answer = SlotIs slot }) ∙ are.claims; apart = are.apart }
unopened history jobs (TermIs term) none are = record { claims = claims_more history [] (record { event = Claim; answer = TermIs term }) ∙ are.claims; apart = are.apart }
unopened history jobs (ReadIs number) none are = record { claims = claims_more history [] (record { event = Claim; answer = ReadIs number }) ∙ are.claims; apart = are.apart }
unopened history jobs (BaseIs base) none are = record { claims = claims_more history [] (record { event = Claim; answer = BaseIs base }) ∙ are.claims; apart = are.apart }
unopened history jobs (Refused refusal) none are = record { claims = claims_more history [] (record { event = Claim; answer = Refused refusal }) ∙ are.claims; apart = are.apart }
unopened history jobs (JobIs job) none are = absurd none

-- the job of a claim is none of those whose claims are open
other_jobs : (c : Chunk) (job : Job) → IsStanding c → IsAnswer c.setup c.state Claim (JobIs job) → Every (λ x. is_claim job.server job.life job.slot x ≡ false) (claims_of [] c.history)
other_jobs c job is answer =
    let all : Every (ClaimIsOpen c.state.servers) (claims_of [] c.history) = subst (λ (g : Group). Every (ClaimIsOpen g.servers) (claims_of [] c.history)) (sym is.stands) (legal_open c.setup c.history is.legal) in
    fresh_answer c.setup c.state (claims_of [] c.history) Claim (JobIs job) all answer

module _ (halts : List Halt) where
  abbrev Holds : List Job → ClaimsMade → Type 0
  Holds jobs claims = IsHolding (jobs ++ claims.jobs) claims.chunk

  none_more : (jobs : List Job) (c : Chunk) → IsHolding jobs c → IsHolding (jobs ++ []) c
  none_more jobs c is = subst (λ js. IsHolding js c) (sym (append-nil jobs)) is

  -- one more claim, and what follows it
  claim_holds : (jobs : List Job) (c : Chunk) (more : Chunk → ClaimsMade) → ((all : List Job) (d : Chunk) → IsHolding all d → Holds all (more d)) → IsHolding jobs c → Holds jobs (claim_on (event_answered halts c Claim) (after halts c Claim) more)
  unfolding after
  claim_holds jobs c more well is = by (event_answered halts c Claim) refl
    where
      next : IsStanding (after halts c Claim)
      next = one_more halts c Claim is.standing tt

      none : (answer : Answer) → event_answered halts c Claim ≡ answer → IsNoJob answer → IsHolding (jobs ++ []) (after halts c Claim)
      none answer at other = none_more jobs (after halts c Claim) (record {
        standing = next;
        claims = subst (λ a. AreOpen (c.history ++ record { event = Claim; answer = a } ∷ []) jobs) (sym at) (unopened c.history jobs answer other is.claims);
      })

      by : (answer : Answer) → event_answered halts c Claim ≡ answer → Holds jobs (claim_on answer (after halts c Claim) more)
      by (JobIs job) at =
          let its : IsAnswer c.setup c.state Claim (JobIs job) = subst (IsAnswer c.setup c.state Claim) at (is_answer halts c Claim) in
          let now : IsHolding (jobs ++ job ∷ []) (after halts c Claim) = record {
            standing = next;
            claims = subst (λ a. AreOpen (c.history ++ record { event = Claim; answer = a } ∷ []) (jobs ++ job ∷ [])) (sym at) (opened c.history jobs job is.claims (other_jobs c job is.standing its));
          } in
          let rest : ClaimsMade = more (after halts c Claim) in
          subst (λ js. IsHolding js rest.chunk) (append_assoc jobs (job ∷ []) rest.jobs) (well (jobs ++ job ∷ []) (after halts c Claim) now)
      by Done at = none Done at tt
      by (SlotIs slot) at = none (SlotIs slot) at tt
      by (TermIs term) at = none (TermIs term) at tt
      by (ReadIs number) at = none (ReadIs number) at tt
      by (BaseIs base) at = none (BaseIs base) at tt
      by (Refused refusal) at = none (Refused refusal) at tt

  claims_hold : (n : ℕ) (jobs : List Job) (c : Chunk) → IsHolding jobs c → Holds jobs (claims_to n halts c)
  unfolding claims_to
  claims_hold zero jobs c is = none_more jobs c is
  claims_hold (suc n) jobs c is = claim_holds jobs c (claims_to n halts) (claims_hold n) is

  -- jobs are finished in the order of their claims
  finishes_hold : (jobs : List Job) (c : Chunk) → IsHolding jobs c → IsIdle (fold (finished halts) c jobs)
  unfolding after
  finishes_hold [] c is = is
  finishes_hold (job ∷ jobs) c is =
      let event = Finish job.server job.life job.slot in
      finishes_hold jobs (finished halts c job) (record {
        standing = one_more halts c event is.standing (first_may_return c.history job jobs is.claims);
        claims = finished_first c.history job jobs (event_answered halts c event) is.claims;
      })

  round_holds : (claims : ClaimsMade) (more : Chunk → Chunk) → ((c : Chunk) → IsIdle c → IsIdle (more c)) → IsHolding claims.jobs claims.chunk → IsIdle (round halts claims more)
  round_holds claims more well is = by claims.jobs is
    where
      by : (jobs : List Job) → IsHolding jobs claims.chunk → IsIdle (round halts (record { chunk = claims.chunk; jobs = jobs }) more)
      by [] is = is
      by (job ∷ jobs) is = well (fold (finished halts) claims.chunk (job ∷ jobs)) (finishes_hold (job ∷ jobs) claims.chunk is)

  rounds_hold : (n : ℕ) (c : Chunk) → IsIdle c → IsIdle (rounds_to n halts c)
  unfolding rounds_to
  rounds_hold zero c is = is
  rounds_hold (suc n) c is = round_holds (claims_to enough halts c) (rounds_to n halts) (rounds_hold n) (claims_hold enough [] c is)

  pub applied_holds : (c : Chunk) → IsIdle c → IsIdle (applied halts c)
  unfolding applied
  applied_holds c is = rounds_hold enough c is
