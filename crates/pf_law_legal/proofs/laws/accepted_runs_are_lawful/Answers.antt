use Rattle.pf_law_legal.proofs.LawfulRuns.{dead_are_lawful, mounts_are_lawful}
use Rattle.pf_law_legal.proofs.laws.accepted_runs_are_lawful.Goals as goal

pub returns-clause-mounts : goal.returns-clause-mounts
returns-clause-mounts c = λ halts sessions number chunks sectors names format lines fits may of. mounts_are_lawful halts sessions number chunks sectors names format lines fits may of

pub returns-clause-dead : goal.returns-clause-dead
returns-clause-dead c = λ halts sessions number chunks sectors names format lines fits may dead. dead_are_lawful halts sessions number chunks sectors names format lines fits may dead
