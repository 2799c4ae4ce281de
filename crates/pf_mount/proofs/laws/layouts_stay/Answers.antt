use Rattle.pf_mount.proofs.LaidOut.{answered_laid, asked_mount_laid, starting_laid}
use Rattle.pf_mount.proofs.laws.layouts_stay.Goals as goal

pub returns-clause-answered : goal.returns-clause-answered
returns-clause-answered c = λ m port reply. (answered_laid m port reply).layout

pub returns-clause-asked : goal.returns-clause-asked
returns-clause-asked c = λ m port. (asked_mount_laid m port).layout

pub returns-clause-starting : goal.returns-clause-starting
returns-clause-starting c = λ m call. (starting_laid m call).layout
