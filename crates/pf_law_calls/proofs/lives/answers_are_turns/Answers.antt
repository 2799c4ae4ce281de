use Rattle.pf_law_calls.proofs.AnchorTurns.{answer_turns, what_waits}
use Rattle.pf_law_calls.proofs.lives.answers_are_turns.Goals as goal

pub returns-clause-waits : goal.returns-clause-waits
returns-clause-waits c = λ layout v told m a reply can low low_a answers. what_waits layout v told m can low a low_a reply answers

pub returns-clause-turns : goal.returns-clause-turns
returns-clause-turns c = λ layout v told m a q reply can low low_a answers waits. answer_turns layout v told m can low a low_a reply answers q waits
