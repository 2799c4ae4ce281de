-- One event of a group of a run: where it may happen the history stays legal, and the group stands where that leads.
use Rattle.std.proofs.Common.{◌≡◌, ℕ, List, [], length, sym, ap, subst, ◌∙◌}
use Rattle.pf_protocol.specs.declared.answers.Answer.{Answer}
use Rattle.pf_protocol.specs.declared.events.Event.{Event}
use Rattle.pf_protocol.specs.declared.events.Event.TheVariants.{Submit, Fetch, Deliver, Lose, Elect, Resend, Stop, Restart, Claim, Finish, GiveBack, Checkpoint}
use Rattle.pf_protocol.specs.declared.events.Happening.{Happening}
use Rattle.pf_protocol.specs.Servers.{Setup}
use Rattle.pf_protocol.specs.Groups.{Group, ending, happens}
use Rattle.pf_protocol.specs.Histories.{replay}
use Rattle.pf_protocol.specs.Answers.{Claimed, IsAnswer, IsLegal, IsLegalNext, MayHappen, answer_to, claims_of, may_halt}
use Rattle.pf_protocol.proofs.ForMoments.{legal_goes_on, replay_goes_on}
use Rattle.pf_world.specs.pf_group_rounds.specs.Halts.{Halt}
use Rattle.pf_law_movers.proofs.SubmitAnswers.{is_answer}
use Rattle.pf_world.specs.pf_group_rounds.specs.Chunks.{Chunk, after, event_answered, event_listed, listed_at}

-- the group stands where its history leads, and that is legal
pub record IsStanding (c : Chunk) : Type 0 where
  pub stands : c.state ≡ replay c.setup c.history
  pub legal : IsLegal c.setup c.history

-- what a restart finds changes neither whether it may happen nor how it is answered
module _ (halts : List Halt) (number n : ℕ) where
  listed_may : (claims : List Claimed) (event : Event) → MayHappen claims event → MayHappen claims (listed_at halts number n event)
  listed_may claims (Submit i op) may = may
  listed_may claims (Fetch i range) may = may
  listed_may claims (Deliver k) may = may
  listed_may claims (Lose k) may = may
  listed_may claims (Elect i) may = may
  listed_may claims (Resend i) may = may
  listed_may claims (Stop i) may = may
  listed_may claims (Restart i found) may = may
  listed_may claims Claim may = may
  listed_may claims (Finish i life slot) may = may
  listed_may claims (GiveBack i life slot) may = may
  listed_may claims (Checkpoint i) may = may

  listed_answer : (setup : Setup) (g : Group) (event : Event) (answer : Answer) → IsAnswer setup g event answer → IsAnswer setup g (listed_at halts number n event) answer
  unfolding answer_to may_halt
  listed_answer setup g (Submit i op) answer is = is
  listed_answer setup g (Fetch i range) answer is = is
  listed_answer setup g (Deliver k) answer is = is
  listed_answer setup g (Lose k) answer is = is
  listed_answer setup g (Elect i) answer is = is
  listed_answer setup g (Resend i) answer is = is
  listed_answer setup g (Stop i) answer is = is
  listed_answer setup g (Restart i found) answer is = is
  listed_answer setup g Claim answer is = is
  listed_answer setup g (Finish i life slot) answer is = is
  listed_answer setup g (GiveBack i life slot) answer is = is
  listed_answer setup g (Checkpoint i) answer is = is

pub one_more : (halts : List Halt) (c : Chunk) (event : Event) → IsStanding c → MayHappen (claims_of [] c.history) event → IsStanding (after halts c event)
unfolding after
one_more halts c event is may =
    let h : Happening = record { event = event_listed halts c event; answer = event_answered halts c event } in
    let next : IsLegalNext c.setup (replay c.setup c.history) (claims_of [] c.history) h = record {
      asked = listed_may halts c.number (length c.history) (claims_of [] c.history) event may;
      answered = subst (λ (g : Group). IsAnswer c.setup g (event_listed halts c event) (event_answered halts c event)) is.stands (listed_answer halts c.number (length c.history) c.setup c.state event (event_answered halts c event) (is_answer halts c event));
    } in
    record {
      stands = ap (λ (g : Group). happens c.setup g (event_listed halts c event) (ending (event_answered halts c event))) is.stands ∙ sym (replay_goes_on c.setup c.history h);
      legal = legal_goes_on c.setup c.history h is.legal next;
    }
