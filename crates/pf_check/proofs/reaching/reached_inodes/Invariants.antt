use Rattle.std.proofs.Common.{◌≡◌, true}
use Rattle.pf_check.specs.Walks.{front_of, is_seen}
use Rattle.pf_check.proofs.Fronts.{IsFront}
use Rattle.pf_check.proofs.reaching.reached_inodes.Given as goal

abbrev pub invariant-loop-number : goal.invariant-loop-number
invariant-loop-number l = record {
  front : IsFront l.tables (front_of l.seen.items l.queue.items) l.number;
  root : is_seen l.seen.items 0 ≡ true;
}
