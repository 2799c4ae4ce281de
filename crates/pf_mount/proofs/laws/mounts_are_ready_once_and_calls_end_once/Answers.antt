use Rattle.pf_mount.proofs.CallsEndOnce.{calling_goes_on, failing_stays, mounting_goes_on, opening_mounts, resting_stays, starting_goes_on}
use Rattle.pf_mount.proofs.laws.mounts_are_ready_once_and_calls_end_once.Goals as goal

pub returns-clause-opening : goal.returns-clause-opening
returns-clause-opening c = λ layout number v. opening_mounts layout number v

pub returns-clause-mounting : goal.returns-clause-mounting
returns-clause-mounting c = λ m port reply is. mounting_goes_on m port reply is

pub returns-clause-starting : goal.returns-clause-starting
returns-clause-starting c = λ m call. starting_goes_on m call

pub returns-clause-calling : goal.returns-clause-calling
returns-clause-calling c = λ m p port reply is. calling_goes_on m port reply p is

pub returns-clause-resting : goal.returns-clause-resting
returns-clause-resting c = λ m port reply is. resting_stays m port reply is

pub returns-clause-failed : goal.returns-clause-failed
returns-clause-failed c = λ m port reply is. failing_stays m port reply is
