-- What follows on an event, in the words of the rules.
use Rattle.std.proofs.Common.{◌≡◌, ◌≢◌, ℕ, List, [], ◌∷◌, ◌++◌, refl, sym, ap, subst, ◌∙◌, append_assoc}
use Rattle.pf_base.specs.Span.{Span}
use Rattle.pf_entry.specs.Lists.{Every}
use Rattle.pf_protocol.specs.declared.answers.Answer.{Answer}
use Rattle.pf_protocol.specs.declared.answers.Answer.TheVariants.{Read as ReadIs}
use Rattle.pf_protocol.specs.declared.events.Event.{Event}
use Rattle.pf_protocol.specs.declared.events.Event.TheVariants.{Fetch}
use Rattle.pf_protocol.specs.declared.events.Happening.{Happening}
use Rattle.pf_protocol.specs.Servers.{Setup}
use Rattle.pf_protocol.specs.Groups.{Group, ending, happens, opening}
use Rattle.pf_protocol.specs.Histories.{History, replay, run}
use Rattle.pf_protocol.specs.Answers.{Claimed, IsAnswer, IsLegal, IsLegalFrom, claims_after, claims_of}
use Rattle.pf_protocol.proofs.ForMoments.{replay_goes_on}
use Rattle.pf_group_rounds.specs.Jobs.{IsClaimOrFinish, IsOfRound}
use Rattle.pf_chunk.specs.Waiting.{GoesQuietly, StepsReads}
use Rattle.pf_chunk.proofs.WaitingLists.{taken_up}
use Rattle.pf_group_rounds.specs.pf_group.proofs.SentPackets.{OnlySent, run_sent}
use Rattle.pf_chunk.proofs.WaitingSteps.{legal_goes_quietly, steps_reads}

-- a group before an event, after it, and after all that could be applied was
pub record Follows (before : Group) (event : Event) (answer : Answer) (mid now : Group) : Type 0 where
  pub steps : StepsReads before event answer mid
  pub quiet : GoesQuietly mid now
  pub sent : OnlySent before.packets now.packets

pub run_on : (setup : Setup) (xs ys : History) (g : Group) → run setup g (xs ++ ys) ≡ run setup (run setup g xs) ys
run_on setup [] ys g = refl
run_on setup (x ∷ xs) ys g = run_on setup xs ys (happens setup g x.event (ending x.answer))

pub legal_rest : (setup : Setup) (xs ys : History) (g : Group) (claims : List Claimed) → IsLegalFrom setup g claims (xs ++ ys) → IsLegalFrom setup (run setup g xs) (claims_of claims xs) ys
legal_rest setup [] ys g claims legal = legal
legal_rest setup (x ∷ xs) ys g claims legal = legal_rest setup xs ys (happens setup g x.event (ending x.answer)) (claims_after claims x.event x.answer) legal.1

no_fetch : (event : Event) (i : ℕ) (range : Span) → IsClaimOrFinish event → event ≡ Fetch i range → ⊥
no_fetch event i range is same = subst IsClaimOrFinish same is

-- claims and finishes take up no read
no_reads : (setup : Setup) (more : History) (g : Group) (claims : List Claimed) → IsLegalFrom setup g claims more → Every IsOfRound more → Every (λ h. (n : ℕ) → h.answer ≢ ReadIs n) more
no_reads setup [] g claims legal round = tt
no_reads setup (h ∷ hs) g claims legal round = (
  (λ n told. let t = taken_up setup g h.event h.answer legal.0.answered n told in no_fetch h.event t.server t.range round.0 t.fetched),
  no_reads setup hs (happens setup g h.event (ending h.answer)) (claims_after claims h.event h.answer) legal.1 round.1,
)

pub follows : (setup : Setup) (history : History) (event : Event) (answer : Answer) (more : History)
    → IsLegal setup ((history ++ record { event = event; answer = answer } ∷ []) ++ more) → Every IsOfRound more → IsAnswer setup (replay setup history) event answer
    → Follows (replay setup history) event answer (replay setup (history ++ record { event = event; answer = answer } ∷ [])) (replay setup ((history ++ record { event = event; answer = answer } ∷ []) ++ more))
follows setup history event answer more legal round is =
    let h : Happening = record { event = event; answer = answer } in
    let longer = history ++ h ∷ [] in
    let after = legal_rest setup longer more (opening setup) [] legal.legal in
    record {
      steps = subst (StepsReads (replay setup history) event answer) (sym (replay_goes_on setup history h)) (steps_reads setup (replay setup history) event answer is);
      quiet = subst (GoesQuietly (replay setup longer)) (sym (run_on setup longer more (opening setup)))
          (legal_goes_quietly setup more (replay setup longer) (claims_of [] longer) after (no_reads setup more (replay setup longer) (claims_of [] longer) after round));
      sent = subst (λ (g : Group). OnlySent (replay setup history).packets g.packets) (sym (ap (λ l. replay setup l) (append_assoc history (h ∷ []) more) ∙ run_on setup history (h ∷ more) (opening setup)))
          (run_sent setup (h ∷ more) (replay setup history));
    }
