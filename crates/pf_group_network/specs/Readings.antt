-- Reads, and what became of them.
use Rattle.std.specs.Prelude.{Bool, true, false, List, [], ◌∷◌, ◌++◌, Option, Some, None, Result, Ok, Err}
use Rattle.pf_base.specs.declared.errors.NoMemory.{NoMemory}
use Rattle.pf_protocol.specs.declared.answers.Answer.{Answer}
use Rattle.pf_protocol.specs.declared.answers.Answer.TheVariants.{Read}
use Rattle.pf_group_network.specs.declared.kept.Reading.{Reading}
use Rattle.pf_entry.specs.Ops.{Sector}
use Rattle.pf_group_network.specs.declared.kept.Reading.TheVariants.{Waiting, Answered, Taken}

-- one more waits, where an answer is the number of a read
abbrev pub readings_after : List Reading → Answer → List Reading
readings_after readings (Read number) = readings ++ Waiting ∷ []
readings_after readings _ = readings

abbrev pub readings_with : List Reading → Result Answer NoMemory → List Reading
readings_with readings (Ok answer) = readings_after readings answer
readings_with readings (Err e) = readings

-- a read that waits is answered; one that was answered keeps its answer
abbrev pub with_answer : Reading → List Sector → Reading
with_answer Waiting bytes = Answered bytes
with_answer (Answered first) bytes = Answered first
with_answer Taken bytes = Taken

abbrev pub is_reading_waiting : Reading → Bool
is_reading_waiting Waiting = true
is_reading_waiting (Answered bytes) = false
is_reading_waiting Taken = false

-- the answer that can be taken out
abbrev pub answer_in : Reading → Option (List Sector)
answer_in Waiting = None
answer_in (Answered bytes) = Some bytes
answer_in Taken = None

-- what is left when it was taken out
abbrev pub without_answer : Reading → Reading
without_answer Waiting = Waiting
without_answer (Answered bytes) = Taken
without_answer Taken = Taken

abbrev pub is_taken : Reading → Bool
is_taken Waiting = false
is_taken (Answered bytes) = false
is_taken Taken = true

-- one more, where an answer is the number of a read
abbrev pub taken_after : List Bool → Answer → List Bool
taken_after taken (Read number) = taken ++ false ∷ []
taken_after taken _ = taken
