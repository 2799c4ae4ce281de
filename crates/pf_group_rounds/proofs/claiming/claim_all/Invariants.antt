use Rattle.std.proofs.Common.{◌≡◌, ◌-◌, vec_len}
use Rattle.pf_group_rounds.specs.Adding.{Adds}
use Rattle.pf_group_rounds.specs.Open.{AreOpen, jobs_of}
use Rattle.pf_group_rounds.proofs.RunRounds.{ClaimsSoFar}
use Rattle.pf_group_rounds.proofs.claiming.claim_all.Given as goal

abbrev pub invariant-loop : goal.invariant-loop
invariant-loop g l = record {
  adds : Adds l.initial.group l.group (vec_len l.works) 0;
  hand : AreOpen l.group.history (jobs_of l.works.items);
  counted : vec_len l.works ≡ l.counter;
  run : ClaimsSoFar l.initial.group l.group (jobs_of l.works.items) (12289 - l.counter);
}
