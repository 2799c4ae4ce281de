-- Packets that come.
use Rattle.std.specs.Prelude.{Bool, true, false, Result, Ok, Err}
use Rattle.pf_base.specs.declared.errors.NoMemory.{NoMemory}
use Rattle.pf_protocol.specs.declared.answers.Answer.{Answer}
use Rattle.pf_protocol.specs.Groups.{Ending, Untouched, ending}

-- a step that ended so counts as the delivery of its packet: it does, unless it was refused
abbrev pub is_delivered : Ending → Bool
is_delivered Untouched = false
is_delivered _ = true

abbrev pub is_delivery_answer : Result Answer NoMemory → Bool
is_delivery_answer (Ok answer) = is_delivered (ending answer)
is_delivery_answer (Err e) = false
