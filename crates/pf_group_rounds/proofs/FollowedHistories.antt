-- A run follows a history that its list of halts tells of: it gives each event the answer that it had, and comes to the same group.
use Rattle.std.proofs.Common.{◌≡◌, ℕ, ◌+◌, ◌⊎◌, Bool, true, false, ◌&&◌, if◌then◌else◌, List, [], ◌∷◌, ◌++◌, length, refl, sym, ap, ◌∙◌, inl, inr, arith}
use Rattle.std.proofs.lemmas.Bool.{false≢true}
use Rattle.pf_protocol.specs.Groups.{ending, happens}
use Rattle.pf_protocol.specs.Histories.{History, IsPrefix, replay}
use Rattle.pf_protocol.proofs.ForMoments.{replay_goes_on, prefix_of, whole_prefix}
use Rattle.pf_group.specs.GroupIs.{GroupIs}
use Rattle.pf_protocol.specs.Answers.{IsAnswer, answer_to, may_halt}
use Rattle.pf_protocol.specs.declared.answers.Answer.{Answer}
use Rattle.pf_protocol.specs.declared.answers.Answer.TheVariants as answers
use Rattle.pf_protocol.specs.declared.answers.Refusal.{Refusal}
use Rattle.pf_protocol.specs.declared.answers.Refusal.TheVariants as refusals
use Rattle.pf_protocol.specs.declared.events.Event.TheVariants as events
use Rattle.pf_protocol.specs.declared.events.Happening.{Happening}
use Rattle.pf_group_rounds.specs.Halts.{Halt, is_cut}
use Rattle.pf_group_rounds.specs.Chunks.{Chunk, after, event_answered, event_listed, listed_at}
use Rattle.pf_group_rounds.specs.Agreeing.{HaltsTellOf, TellsOfGroup, at_moment, chunk_standing, is_halt, is_halted, told_history}
use Rattle.pf_group_rounds.proofs.Told.{told_length, told_longer}

-- an answer that the list calls halted
pub halt_is : (refusal : Refusal) → is_halt refusal ≡ true → refusal ≡ refusals.Halted
halt_is refusals.Halted is = refl
halt_is refusals.BadRange is = absurd (false≢true is)
halt_is refusals.WindowFull is = absurd (false≢true is)
halt_is refusals.LogFull is = absurd (false≢true is)
halt_is refusals.NotOurs is = absurd (false≢true is)
halt_is refusals.NotLeader is = absurd (false≢true is)
halt_is refusals.Down is = absurd (false≢true is)
halt_is refusals.NoPacket is = absurd (false≢true is)
halt_is refusals.LostPacket is = absurd (false≢true is)
halt_is refusals.PacketsFull is = absurd (false≢true is)
halt_is refusals.ElectionsFull is = absurd (false≢true is)
halt_is refusals.NoneFree is = absurd (false≢true is)
halt_is (refusals.Stale life) is = absurd (false≢true is)
halt_is refusals.OldFormat is = absurd (false≢true is)

pub halted_is : (answer : Answer) → is_halted answer ≡ true → answer ≡ answers.Refused refusals.Halted
halted_is (answers.Refused refusal) is = ap answers.Refused (halt_is refusal is)
halted_is answers.Done is = absurd (false≢true is)
halted_is (answers.Slot slot) is = absurd (false≢true is)
halted_is (answers.Term term) is = absurd (false≢true is)
halted_is (answers.Read number) is = absurd (false≢true is)
halted_is (answers.Base base) is = absurd (false≢true is)
halted_is (answers.Job job) is = absurd (false≢true is)

answer_by_cases : (cut may : Bool) (given answer : Answer) → cut ≡ is_halted answer → (answer ≡ given) ⊎ ((may ≡ true) × (answer ≡ answers.Refused refusals.Halted)) → (if cut && may then answers.Refused refusals.Halted else given) ≡ answer
answer_by_cases true true given answer cut is = sym (halted_is answer (sym cut))
answer_by_cases true false given answer cut (inl is) = sym is
answer_by_cases true false given answer cut (inr is) = absurd (false≢true (is.0))
answer_by_cases false may given answer cut (inl is) = sym is
answer_by_cases false may given answer cut (inr is) = absurd (false≢true (cut ∙ ap is_halted (is.1)))

-- the run gives the event the answer that it had
pub answered_is : (halts : List Halt) (c : Chunk) (h : Happening) → HaltsTellOf halts c h → IsAnswer c.setup c.state h.event h.answer → event_answered halts c h.event ≡ h.answer
answered_is halts c h tells is = answer_by_cases (is_cut halts c.number (length c.history)) (may_halt c.setup c.state h.event) (answer_to c.setup c.state h.event) h.answer tells.cut is

-- and comes to the same group
pub after_is : (halts : List Halt) (c : Chunk) (h : Happening) → HaltsTellOf halts c h → IsAnswer c.setup c.state h.event h.answer → after halts c h.event ≡ record c { state = happens c.setup c.state h.event (ending h.answer); history = c.history ++ record { event = event_listed halts c h.event; answer = h.answer } ∷ [] }
unfolding after
after_is halts c h tells is =
    let event = event_listed halts c h.event in
    ap (λ answer. record c { state = happens c.setup c.state event (ending answer); history = c.history ++ record { event = event; answer = answer } ∷ [] }) (answered_is halts c h tells is)
    ∙ ap (λ state. record c { state = state; history = c.history ++ record { event = event; answer = h.answer } ∷ [] }) tells.found

-- what stands in the history of what a restart found is not asked: the list tells
pub restart_answer_is : (halts : List Halt) (c : Chunk) (i : ℕ) (found : Bool) → event_answered halts c (events.Restart i found) ≡ event_answered halts c (events.Restart i false)
unfolding answer_to may_halt
restart_answer_is halts c i found = refl

pub restart_is : (halts : List Halt) (c : Chunk) (i : ℕ) (found : Bool) → after halts c (events.Restart i found) ≡ after halts c (events.Restart i false)
unfolding after answer_to may_halt
restart_is halts c i found = refl

-- a list that tells of a group tells of it at every earlier moment
pub tells_before : (halts : List Halt) (g : GroupIs) (earlier : History) → IsPrefix earlier g.history → TellsOfGroup halts g → TellsOfGroup halts (record g { history = earlier })
tells_before halts g earlier before tells = record {
  told = tells.told;
  making = tells.making;
  few = tells.few;
  events = λ first h is. tells.events first h (prefix_of (first ++ h ∷ []) earlier g.history is before);
}

-- the run has one more event, with what the list tells of it
told_more : (halts : List Halt) (g : GroupIs) (h : Happening) → told_history halts g ++ record h { event = event_listed halts (chunk_standing halts g) h.event } ∷ [] ≡ told_history halts (record g { history = g.history ++ h ∷ [] })
told_more halts g h =
    let same : length (told_history halts g) ≡ 0 + length g.history = told_length halts g.number 0 g.history ∙ omega arith in
    ap (λ n. told_history halts g ++ record h { event = listed_at halts g.number n h.event } ∷ []) same ∙ sym (told_longer halts g.number 0 g.history (h ∷ []))

-- where one more event is answered, the run gives it this answer and comes to this group
pub step_is : (halts : List Halt) (g : GroupIs) (h : Happening) → IsAnswer g.setup (replay g.setup g.history) h.event h.answer → TellsOfGroup halts (record g { history = g.history ++ h ∷ [] }) → (event_answered halts (chunk_standing halts g) h.event ≡ h.answer) × (after halts (chunk_standing halts g) h.event ≡ at_moment halts g (g.history ++ h ∷ []))
step_is halts g h is tells =
    let c = chunk_standing halts g in
    let here = tells.events g.history h (whole_prefix (g.history ++ h ∷ [])) in (
      answered_is halts c h here is,
      after_is halts c h here is
          ∙ ap (λ state. record c { state = state; history = c.history ++ record h { event = event_listed halts c h.event } ∷ [] }) (sym (replay_goes_on g.setup g.history h))
          ∙ ap (λ history. record c { state = replay g.setup (g.history ++ h ∷ []); history = history }) (told_more halts g h),
    )
