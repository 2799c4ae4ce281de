use Rattle.std.proofs.Common.{◌≡◌, ◌++◌, length}
use Rattle.std.specs.Option.{option_to_list}
use Rattle.std.specs.Vec.Iter.{into_iter_items, into_iter_len}
use Rattle.pf_group_rounds.specs.Adding.{HasReturned}
use Rattle.pf_group_rounds.specs.Open.{AreOpen, jobs_of}
use Rattle.pf_group_rounds.proofs.ending.give_all_back.Given as goal

abbrev pub invariant-loop-work : goal.invariant-loop-work
invariant-loop-work g l = record {
  returned : HasReturned l.initial.group l.group;
  hand : AreOpen l.group.history (jobs_of (into_iter_items l.work-iterator) ++ option_to_list l.last);
  left : into_iter_len l.work-iterator ≡ length (into_iter_items l.work-iterator);
}
