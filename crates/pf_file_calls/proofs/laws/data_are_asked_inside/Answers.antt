use Rattle.pf_file_calls.proofs.Insides.{first_inside, next_inside}
use Rattle.pf_file_calls.proofs.laws.data_are_asked_inside.Goals as goal

pub returns-clause-first : goal.returns-clause-first
returns-clause-first c = λ v tables size call is form. first_inside v tables is form c.blocks_are_asked_inside.ensures.reads c.blocks_are_asked_inside.ensures.writes size call

pub returns-clause-next : goal.returns-clause-next
returns-clause-next c = λ v tables moving reply is form. next_inside v tables is form c.blocks_are_asked_inside.ensures.reads c.blocks_are_asked_inside.ensures.writes moving reply
