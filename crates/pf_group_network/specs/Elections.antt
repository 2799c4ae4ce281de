-- Elections that count.
use Rattle.std.specs.Prelude.{ℕ, suc, Result, Ok, Err}
use Rattle.pf_base.specs.declared.errors.NoMemory.{NoMemory}
use Rattle.pf_protocol.specs.declared.answers.Answer.{Answer}
use Rattle.pf_protocol.specs.Groups.{Ending, Whole, CutOff, ending}

-- one more, where a step took place, whole or cut off
abbrev pub one_more_election : Ending → ℕ → ℕ
one_more_election Whole elections = suc elections
one_more_election CutOff elections = suc elections
one_more_election _ elections = elections

abbrev pub elections_after : ℕ → Result Answer NoMemory → ℕ
elections_after elections (Ok answer) = one_more_election (ending answer) elections
elections_after elections (Err e) = elections
