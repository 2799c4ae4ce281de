use Rattle.std.proofs.Common.{Some}
use Rattle.pf_mount.specs.declared.work.MountWork.TheVariants.{Ballots, Pauses}
use Rattle.pf_law_calls.proofs.CallNumbers.{its_planned}
use Rattle.pf_law_calls.proofs.inputs.inputs_are_planned.Goals as goal

pub returns-clause-ballots : goal.returns-clause-ballots
returns-clause-ballots c = λ layout v told m value at. its_planned layout v m told value (Ballots (Some value)) at (λ plan. plan)

pub returns-clause-pauses : goal.returns-clause-pauses
returns-clause-pauses c = λ layout v told m left value at. its_planned layout v m told value (Pauses (Some value) left) at (λ plan. plan)
