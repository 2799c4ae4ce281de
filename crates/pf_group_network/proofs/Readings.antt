-- Reads and their answers.
use Rattle.std.proofs.Common.{◌≡◌, ◌≢◌, ℕ, ◌<◌, Bool, inl, inr, List, [], ◌∷◌, ◌++◌, length, map, Option, Some, None, slice_get, slice_set, arith, refl, sym, ap, subst, ◌∙◌}
use Rattle.std.proofs.lemmas.List.{append_assoc, append-nil, map-append}
use Rattle.std.proofs.lemmas.Option.{none-some}
use Rattle.pf_entry.specs.Lists.{Every}
use Rattle.pf_entry.specs.Ops.{Sector}
use Rattle.pf_entry.proofs.Lists.{every_append, every_more, every_map, every_filter, set_cases}
use Rattle.pf_protocol.specs.declared.answers.Answer.{Answer}
use Rattle.pf_protocol.specs.declared.answers.Answer.TheVariants.{Done, Slot, Term, Read as ReadIs, Base, Job, Refused}
use Rattle.pf_protocol.specs.Servers.{Read, Server}
use Rattle.pf_protocol.specs.Asked.{AreBelow}
use Rattle.pf_protocol.specs.Groups.{Answered as AnsweredIs, answer_of, reads_after}
use Rattle.pf_protocol.specs.Rows.{is_ready, ready_reads}
use Rattle.pf_server.specs.Turns.{answers_after}
use Rattle.pf_group_network.specs.declared.kept.Reading.{Reading}
use Rattle.pf_group_network.specs.declared.kept.Reading.TheVariants.{Waiting, Answered, Taken}
use Rattle.pf_group_network.specs.Keeping.{HavePlaces, with_answer_in, with_answers}
use Rattle.pf_group_network.specs.Readings.{is_taken, readings_after, taken_after, with_answer}
use Rattle.pf_group_network.specs.Showing.{AreReadings, HasAnswer, IsReadingOf}
use Rattle.pf_group_network.proofs.Lists.{at_end, at_front, end_cases, set_length, set_mapped, set_same}

-- an answer more
kept_answer : (answered more : List AnsweredIs) (number : ℕ) (bytes : List Sector) → HasAnswer answered number bytes → HasAnswer (answered ++ more) number bytes
kept_answer answered more number bytes h = record { k = h.k; answer = h.answer; there = at_front answered more h.k h.answer h.there; numbered = h.numbered; sectors = h.sectors }

other_reading : (answered : List AnsweredIs) (a : AnsweredIs) (number : ℕ) (reading : Reading) → number ≢ a.number → IsReadingOf answered number reading → IsReadingOf (answered ++ a ∷ []) number reading
other_reading answered a number Waiting apart is = every_append (λ x. x.number ≢ number) answered (a ∷ []) is (λ e. apart (sym e), tt)
other_reading answered a number (Answered bytes) apart is = kept_answer answered (a ∷ []) number bytes is
other_reading answered a number Taken apart is = (is.0, kept_answer answered (a ∷ []) number is.0 is.1)

-- the read itself
its_reading : (answered : List AnsweredIs) (a : AnsweredIs) (was : Reading) → IsReadingOf answered a.number was → IsReadingOf (answered ++ a ∷ []) a.number (with_answer was a.bytes)
its_reading answered a Waiting is = record { k = length answered; answer = a; there = at_end answered a; numbered = refl; sectors = refl }
its_reading answered a (Answered bytes) is = kept_answer answered (a ∷ []) a.number bytes is
its_reading answered a Taken is = (is.0, kept_answer answered (a ∷ []) a.number is.0 is.1)

-- the reads after this answer
abbrev pub answered_once : List Reading → AnsweredIs → List Reading
answered_once readings a = with_answer_in readings a.number a.bytes (slice_get readings a.number)

one_answer : (answered : List AnsweredIs) (readings : List Reading) (a : AnsweredIs) → AreReadings answered readings → AreReadings (answered ++ a ∷ []) (answered_once readings a)
one_answer answered readings a are = by (slice_get readings a.number) refl
  where
    by : (there : Option Reading) → slice_get readings a.number ≡ there → AreReadings (answered ++ a ∷ []) (with_answer_in readings a.number a.bytes there)
    by None none number reading at = other_reading answered a number reading (λ same. none-some reading (sym none ∙ ap (slice_get readings) (sym same) ∙ at)) (are number reading at)
    by (Some was) there number reading at =
        elim (set_cases readings a.number (with_answer was a.bytes) number reading at) [
          | inl here ↦ subst (λ n. IsReadingOf (answered ++ a ∷ []) n reading) (sym here.0) (subst (IsReadingOf (answered ++ a ∷ []) a.number) here.1 (its_reading answered a was (are a.number was there)))
          | inr apart ↦ other_reading answered a number reading apart.0 (are number reading apart.1)
        ]

abbrev pair_of : AnsweredIs → ℕ × List Sector
pair_of a = (a.number, a.bytes)

-- all of them
all_answers : (answered : List AnsweredIs) (readings : List Reading) (s : Server) (reads : List Read) → AreReadings answered readings → AreReadings (answered ++ map (answer_of s) reads) (with_answers readings (map (λ r. pair_of (answer_of s r)) reads))
all_answers answered readings s [] are = subst (λ xs. AreReadings xs readings) (sym (append-nil answered)) are
all_answers answered readings s (r ∷ rs) are =
    let a = answer_of s r in
    subst (λ xs. AreReadings xs (with_answers (answered_once readings a) (map (λ x. pair_of (answer_of s x)) rs))) (append_assoc answered (a ∷ []) (map (answer_of s) rs))
    (all_answers (answered ++ a ∷ []) (answered_once readings a) s rs (one_answer answered readings a are))

-- a step's answers are those of the group
pub answers_are : (answered : List AnsweredIs) (readings : List Reading) (s : Server) → AreReadings answered readings → AreReadings (answered ++ map (answer_of s) (ready_reads s)) (with_answers readings (answers_after s))
answers_are answered readings s are = all_answers answered readings s (ready_reads s) are

module _ (readings : List Reading) (place : ℕ) (bytes : List Sector) where
  one_count : (there : Option Reading) → length (with_answer_in readings place bytes there) ≡ length readings
  one_count None = refl
  one_count (Some was) = set_length readings place (with_answer was bytes)

  same_taken : (was : Reading) → is_taken (with_answer was bytes) ≡ is_taken was
  same_taken Waiting = refl
  same_taken (Answered first) = refl
  same_taken Taken = refl

  one_taken : (there : Option Reading) → slice_get readings place ≡ there → map is_taken (with_answer_in readings place bytes there) ≡ map is_taken readings
  one_taken None none = refl
  one_taken (Some was) there =
      sym (set_mapped is_taken readings place (with_answer was bytes)) ∙ ap (slice_set (map is_taken readings) place) (same_taken was)
      ∙ set_mapped is_taken readings place was ∙ ap (map is_taken) (set_same readings place was there)

  -- the read that is there
  pub with_its_answer : (was : Reading) → slice_get readings place ≡ Some was → with_answer_in readings place bytes (slice_get readings place) ≡ slice_set readings place (with_answer was bytes)
  with_its_answer was there = ap (with_answer_in readings place bytes) there

pub same_count : (readings : List Reading) (answers : List (ℕ × List Sector)) → length (with_answers readings answers) ≡ length readings
same_count readings [] = refl
same_count readings (a ∷ rest) = same_count (with_answer_in readings a.0 a.1 (slice_get readings a.0)) rest ∙ one_count readings a.0 a.1 (slice_get readings a.0)

-- no answer is handed out by a step
pub none_taken : (readings : List Reading) (answers : List (ℕ × List Sector)) → map is_taken (with_answers readings answers) ≡ map is_taken readings
none_taken readings [] = refl
none_taken readings (a ∷ rest) = none_taken (with_answer_in readings a.0 a.1 (slice_get readings a.0)) rest ∙ one_taken readings a.0 a.1 (slice_get readings a.0) refl

-- each answer has its place
pub have_places : (readings : List Reading) (s : Server) → AreBelow (length readings) s.reads → HavePlaces readings (answers_after s)
have_places readings s below =
    every_map (λ a. a.0 < length readings) (λ r. pair_of (answer_of s r)) (ready_reads s)
    (every_filter (λ r. r.number < length readings) (is_ready s) s.reads (every_more (λ r. r.number < length readings) _ (λ r low _. low) s.reads below))

-- a read that was just taken up waits
pub one_more_waits : (answered : List AnsweredIs) (readings : List Reading) → Every (λ a. a.number < length readings) answered → AreReadings answered readings → AreReadings answered (readings ++ Waiting ∷ [])
one_more_waits answered readings below are number reading at =
    elim (end_cases readings Waiting number reading at) [
      | inl there ↦ are number reading there
      | inr here ↦ subst (IsReadingOf answered number) here.1 (subst (λ n. Every (λ a. a.number ≢ n) answered) (sym here.0) waits)
    ]
  where
    waits : Every (λ a. a.number ≢ length readings) answered
    waits = every_more (λ a. a.number < length readings) (λ a. a.number ≢ length readings) (λ a lt e. omega (arith, lt, e)) answered below

-- an answer that takes up no read
pub no_more : (taken : List Bool) (reads : ℕ) (answer : Answer) → reads_after reads answer ≡ reads → taken_after taken answer ≡ taken
no_more taken reads Done is = refl
no_more taken reads (Slot slot) is = refl
no_more taken reads (Term term) is = refl
no_more taken reads (ReadIs number) is = absurd (omega (arith, is))
no_more taken reads (Base base) is = refl
no_more taken reads (Job job) is = refl
no_more taken reads (Refused refusal) is = refl

-- a read that is taken up was not handed out
pub one_more_taken : (readings : List Reading) (answer : Answer) → map is_taken (readings_after readings answer) ≡ taken_after (map is_taken readings) answer
one_more_taken readings Done = refl
one_more_taken readings (Slot slot) = refl
one_more_taken readings (Term term) = refl
one_more_taken readings (ReadIs number) = map-append is_taken readings (Waiting ∷ [])
one_more_taken readings (Base base) = refl
one_more_taken readings (Job job) = refl
one_more_taken readings (Refused refusal) = refl
