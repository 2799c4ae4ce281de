-- One read is told if it was answered.
use Rattle.std.proofs.Common.{◌≡◌, ◌≢◌, ℕ, true, false, not, ◌&&◌, ◌==◌, cond, List, [], ◌∷◌, ◌++◌, Some, slice_get, slice_set, sym, ap, subst, ◌∙◌, append-nil}
use Rattle.std.specs.List.{flat_map}
use Rattle.std.specs.Prelude.{IsTrue}
use Rattle.pf_law_ports.specs.pf_group_network.specs.Showing.{HasAnswer}
use Rattle.pf_entry.specs.Ops.{Sector}
use Rattle.pf_entry.proofs.Lists.{every_get}
use Rattle.pf_protocol.specs.Groups.{Group}
use Rattle.pf_protocol.specs.Answers.{IsLegal}
use Rattle.pf_group_rounds.specs.pf_group.specs.GroupIs.{GroupIs, state_of}
use Rattle.pf_group_rounds.specs.pf_group.specs.Readers.{GroupHasTaken, LacksAnswer, OfRunning}
use Rattle.pf_report.specs.Texts.{event_line, read_text}
use Rattle.pf_chunk_waiting.specs.declared.waiting.Waiting.{Waiting}
use Rattle.pf_chunk.specs.Telling.{is_answered, is_some_of, lines_of, read_line, may_wait, runs_in, answer_taken_with}
use Rattle.pf_chunk.specs.Waiting.{answers_of_read}
use Rattle.pf_chunk.proofs.Answers.{its_answer, no_answers}
use Rattle.pf_chunk.proofs.Once.{reads_wait_once}

module _ (g : GroupIs) (w : Waiting) where
  abbrev now : Group
  now = state_of g

  -- it was answered
  module _ (told : IsTrue g.told) (legal : IsLegal g.setup g.history) (bytes : List Sector) (after : GroupIs) (taken : GroupHasTaken g w.number bytes after) where
    abbrev its : HasAnswer now.answered w.number bytes
    its = taken.answer told

    one_answer : answers_of_read now w.number ≡ its.answer ∷ []
    one_answer = ap (answers_of_read now) (sym its.numbered) ∙ its_answer now (reads_wait_once g.setup g.history legal) its.k its.answer its.there

    answered : is_answered now w.number ≡ true
    answered = ap is_some_of one_answer

    pub waits_no_more : false ≡ may_wait now w
    waits_no_more = ap (λ b. not b && runs_in (slice_get now.servers w.server) w.term) (sym answered)

    pub is_taken : after.taken ≡ answer_taken_with now g.taken w
    is_taken = ap (λ (x : GroupIs). x.taken) taken.is ∙ ap (λ b. cond b (slice_set g.taken w.number true) g.taken) (sym answered)

    pub one_line : (chunk : ℕ) → event_line (read_text chunk w.number bytes) ≡ lines_of chunk now w.number
    one_line chunk =
        ap (λ n. event_line (read_text chunk n bytes)) (sym its.numbered)
        ∙ ap (λ sectors. event_line (read_text chunk its.answer.number sectors)) (sym its.sectors)
        ∙ sym (append-nil (read_line chunk its.answer))
        ∙ ap (flat_map (read_line chunk)) (sym one_answer)

  -- it was not
  module _ (told : IsTrue g.told) (pending : slice_get g.taken w.number ≡ Some false) (lacks : LacksAnswer g w.number) where
    no_answer : answers_of_read now w.number ≡ []
    no_answer = no_answers now w.number (λ x. every_get (λ a. a.number ≢ w.number) now.answered x.place x.answer (lacks told pending) x.there x.numbered)

    pub unanswered : is_answered now w.number ≡ false
    unanswered = ap is_some_of no_answer

    pub untaken : (after : GroupIs) → after ≡ g → after.taken ≡ answer_taken_with now g.taken w
    untaken after same = ap (λ (x : GroupIs). x.taken) same ∙ ap (λ b. cond b (slice_set g.taken w.number true) g.taken) (sym unanswered)

    pub no_line : (chunk : ℕ) (out : List ℕ) → out ≡ out ++ lines_of chunk now w.number
    no_line chunk out = sym (append-nil out) ∙ ap (λ xs. out ++ flat_map (read_line chunk) xs) (sym no_answer)

    pub waits_by_term : (after : GroupIs) → after ≡ g → (term : ℕ) → OfRunning (state_of after) w.server (λ s. term ≡ s.durable.term) → (term == w.term) ≡ may_wait now w
    waits_by_term after same term runs =
        let here = subst (λ (x : GroupIs). OfRunning (state_of x) w.server (λ s. term ≡ s.durable.term)) same runs in
        ap (λ t. t == w.term) here.2
        ∙ ap (λ c. runs_in c w.term) (sym here.1)
        ∙ ap (λ b. not b && runs_in (slice_get now.servers w.server) w.term) (sym unanswered)
