use Rattle.pf_law_calls.proofs.BallotInputs.{put_in}
use Rattle.pf_law_calls.proofs.inputs.lists_were_put_in.Goals as goal

pub returns-clause-decisions : goal.returns-clause-decisions
returns-clause-decisions c = λ layout v told position value can registers decided some. put_in layout v told can registers position value decided some

pub returns-clause-list : goal.returns-clause-list
returns-clause-list c = λ layout v told list position value can registers is at some. put_in layout v told can registers position value (is.decided position value at) some
