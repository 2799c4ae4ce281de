-- A read that waits no more is never answered.
use Rattle.std.proofs.Common.{◌≡◌, ◌≢◌, ℕ, false, not, ◌&&◌, [], ◌∷◌, ◌++◌, Option, Some, None, slice_get, refl, sym, ap, subst, ◌∙◌}
use Rattle.std.proofs.lemmas.Bool.{eq-eqb, false≢true}
use Rattle.std.proofs.lemmas.Option.{none-some, same_Some}
use Rattle.pf_protocol.specs.declared.answers.Answer.TheVariants.{Read as ReadIs}
use Rattle.pf_protocol.specs.declared.events.Event.TheVariants.{Fetch}
use Rattle.pf_protocol.specs.declared.events.Happening.{Happening}
use Rattle.pf_protocol.specs.Servers.{Condition, Running, Server, Setup, Stopped, Unformatted}
use Rattle.pf_protocol.specs.Groups.{Group, opening}
use Rattle.pf_protocol.specs.Histories.{History, IsPrefix, RunsAs, replay, run}
use Rattle.pf_protocol.specs.Answers.{IsLegal, IsLegalFrom, claims_of}
use Rattle.pf_protocol.proofs.ForMoments.{legal_at, legal_before, replay_goes_on}
use Rattle.pf_chunk_waiting.specs.declared.waiting.Waiting.{Waiting}
use Rattle.pf_chunk.specs.Telling.{WasTaken, is_answered, is_some_of, may_wait, read_taken_up, runs_in}
use Rattle.pf_chunk.specs.Waiting.{ReadsGoOn, IsAnsweredIn, IsDropped, MayWait, StepsReads}
use Rattle.pf_chunk.proofs.Answers.{its_answer, no_answers}
use Rattle.pf_chunk.proofs.FollowUps.{legal_rest, run_on}
use Rattle.pf_chunk.proofs.WaitingLists.{forgotten, stays_so, taken_so}
use Rattle.pf_chunk.proofs.Once.{reads_wait_once}
use Rattle.pf_chunk.proofs.WaitingSteps.{legal_dropped, legal_goes_on, steps_reads}

-- the test, and what it says
unanswered : (setup : Setup) (history : History) (n : ℕ) → IsLegal setup history → is_answered (replay setup history) n ≡ false → IsAnsweredIn (replay setup history) n → ⊥
unanswered setup history n legal none x =
    false≢true (sym none ∙ ap (λ k. is_answered (replay setup history) k) (sym x.numbered) ∙ ap is_some_of (its_answer (replay setup history) (reads_wait_once setup history legal) x.place x.answer x.there))

untold : (g : Group) (n : ℕ) → (IsAnsweredIn g n → ⊥) → is_answered g n ≡ false
untold g n none = ap is_some_of (no_answers g n none)

-- where a read was taken up
runs_there : (c : Option Condition) (i n : ℕ) (w : Waiting) → read_taken_up c i (ReadIs n) ≡ Some w → (s : Server) × (c ≡ Some (Running s)) × (s.durable.term ≡ w.term)
runs_there (Some (Running s)) i n w is = (s, refl, ap (λ (x : Waiting). x.term) (same_Some (record { number = n; server = i; term = s.durable.term }) w is))
runs_there (Some (Stopped life before after)) i n w is = absurd (none-some w is)
runs_there (Some Unformatted) i n w is = absurd (none-some w is)
runs_there None i n w is = absurd (none-some w is)

-- from an earlier moment on
rest_legal : (setup : Setup) (earlier history : History) (p : IsPrefix earlier history) → IsLegal setup history → IsLegalFrom setup (replay setup earlier) (claims_of [] earlier) p.rest
rest_legal setup earlier history p legal = legal_rest setup earlier p.rest (opening setup) [] (subst (IsLegalFrom setup (opening setup) []) (sym p.whole) legal.legal)

-- a later moment is come to by the rest
later : (setup : Setup) (earlier history : History) (p : IsPrefix earlier history) → run setup (replay setup earlier) p.rest ≡ replay setup history
later setup earlier history p = sym (run_on setup earlier p.rest (opening setup)) ∙ ap (replay setup) p.whole

module _ (setup : Setup) (earlier history : History) (w : Waiting) (legal : IsLegal setup history) (part : IsPrefix earlier history) (t : WasTaken setup earlier w) (none : is_answered (replay setup earlier) w.number ≡ false) (gone : may_wait (replay setup earlier) w ≡ false) where
  abbrev fetch : Happening
  fetch = record { event = Fetch w.server t.range; answer = ReadIs w.number }

  abbrev here : History
  here = t.before ++ fetch ∷ []

  legal_earlier : IsLegal setup earlier
  legal_earlier = legal_before setup earlier history part legal

  legal_here : IsLegal setup here
  legal_here = legal_before setup here earlier t.part legal_earlier

  may_wait_here : MayWait (replay setup here) w.server w.term w.number
  may_wait_here =
      let runs = runs_there (slice_get (replay setup here).servers w.server) w.server w.number w t.taken in
      let answer = legal_at setup (opening setup) [] t.before fetch [] legal_here.legal in
      let steps = subst (StepsReads (replay setup t.before) (Fetch w.server t.range) (ReadIs w.number)) (sym (replay_goes_on setup t.before fetch)) (steps_reads setup (replay setup t.before) (Fetch w.server t.range) (ReadIs w.number) answer) in
      let once = reads_wait_once setup t.before (legal_before setup t.before here (record { rest = fetch ∷ []; whole = refl }) legal_here) in
      subst (λ term. MayWait (replay setup here) w.server term w.number) runs.2
      (taken_so (replay setup t.before) w.server t.range (ReadIs w.number) (replay setup here) once steps w.number refl runs.0 runs.1)

  may_wait_then : MayWait (replay setup earlier) w.server w.term w.number
  may_wait_then =
      let go = subst (ReadsGoOn (replay setup here)) (later setup here earlier t.part) (legal_goes_on setup t.part.rest (replay setup here) (claims_of [] here) (rest_legal setup here earlier t.part legal_earlier)) in
      stays_so (replay setup here) (replay setup earlier) go w.server w.term w.number may_wait_here (unanswered setup earlier w.number legal_earlier none)

  left_its_term : (s : Server) → RunsAs (replay setup earlier) w.server s → s.durable.term ≢ w.term
  left_its_term s runs same =
      false≢true
      (sym gone
      ∙ ap (λ b. not b && runs_in (slice_get (replay setup earlier).servers w.server) w.term) none
      ∙ ap (λ c. runs_in c w.term) runs
      ∙ eq-eqb s.durable.term w.term same)

  pub never_answered : is_answered (replay setup history) w.number ≡ false
  never_answered =
      let dropped = forgotten (replay setup earlier) w.server w.term w.number may_wait_then left_its_term in
      let still = subst (λ g. IsDropped g w.number) (later setup earlier history part)
      (legal_dropped setup part.rest (replay setup earlier) (claims_of [] earlier) w.number (rest_legal setup earlier history part legal) dropped) in
      untold (replay setup history) w.number still.unanswered
