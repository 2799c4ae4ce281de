use Rattle.std.proofs.Common.{◌≡◌, ◌-◌, ◌*◌, ◌≤◌, []}
use Rattle.pf_protocol.specs.Answers.{claims_of}
use Rattle.pf_group_rounds.specs.Adding.{Adds}
use Rattle.pf_group_rounds.proofs.RunRounds.{RoundsSoFar}
use Rattle.pf_group_rounds.proofs.applying.apply_all.Given as goal

abbrev pub invariant-loop : goal.invariant-loop
invariant-loop g l = record {
  adds : Adds l.initial.group l.group l.count l.count;
  none : claims_of [] l.group.history ≡ [];
  some : l.counter ≤ l.count;
  few : l.count ≤ l.counter * 12289;
  run : RoundsSoFar l.initial.group l.group (12289 - l.counter);
}
