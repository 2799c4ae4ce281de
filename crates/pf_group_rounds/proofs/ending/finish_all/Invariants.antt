use Rattle.std.proofs.Common.{◌≡◌, length}
use Rattle.std.specs.Vec.Iter.{into_iter_items, into_iter_len}
use Rattle.pf_group_rounds.specs.Adding.{Adds}
use Rattle.pf_group_rounds.specs.Open.{AreOpen, jobs_of}
use Rattle.pf_group_rounds.proofs.RunRounds.{FinishesSoFar}
use Rattle.pf_group_rounds.proofs.ending.finish_all.Given as goal

abbrev pub invariant-loop-work : goal.invariant-loop-work
invariant-loop-work g l = record {
  adds : Adds l.initial.group l.group 0 (length l.yielded);
  hand : AreOpen l.group.history (jobs_of (into_iter_items l.work-iterator));
  left : into_iter_len l.work-iterator ≡ length (into_iter_items l.work-iterator);
  run : FinishesSoFar l.initial.group l.group (jobs_of l.fn.works.items) (jobs_of (into_iter_items l.work-iterator));
}
