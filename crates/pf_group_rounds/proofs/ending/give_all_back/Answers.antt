use Rattle.std.proofs.Common.{List, Option, [], ◌++◌, length, ap, subst, arith, rules}
use Rattle.std.specs.Option.{option_to_list}
use Rattle.pf_entry.specs.declared.ops.Job.{Job}
use Rattle.std.specs.Vec.Iter.{into_iter_items, into_iter_len}
use Rattle.pf_group_copy.specs.declared.work.CopyWork.{CopyWork}
use Rattle.pf_group_rounds.specs.Open.{AreOpen, jobs_of}
use Rattle.pf_group_rounds.proofs.ClaimLists.{first_may_return, none_left}
use Rattle.pf_group_rounds.proofs.Begun.{one_returned, returned_refl}
use Rattle.pf_group_rounds.proofs.RoundSteps.{return_closes}
use Rattle.pf_group_rounds.proofs.ending.give_all_back.Goals as goal

pub loop-work-init : goal.loop-work-init
loop-work-init g c = record {
  returned = returned_refl c.args.group.now;
  hand = search rules;
  left = search rules;
}

pub give_back-requires : goal.give_back-requires
give_back-requires g c =
    let now = c.loop-work.group in let w = c.in-Some.work in let rest = into_iter_items c.next.new.self in
    first_may_return now.history w.job (jobs_of rest ++ option_to_list c.args.last) (subst (λ (l : List CopyWork). AreOpen now.history (jobs_of l ++ option_to_list c.args.last)) c.in-Some.ensures.steps.0 c.loop-work.invariant.hand)

pub loop-work-preserved-in-Some : goal.loop-work-preserved-in-Some
loop-work-preserved-in-Some g c =
    let old = c.args.group.now in let now = c.loop-work.group in let new = c.give_back.new.self in let w = c.in-Some.work in let rest = into_iter_items c.next.new.self in
    let i = c.loop-work.invariant in let next = c.in-Some.ensures.steps.0 in
    record {
      returned = one_returned old now new w.job c.give_back.ensures.went i.returned;
      hand = return_closes now new w.job (jobs_of rest ++ option_to_list c.args.last) c.give_back.ensures.went (subst (λ (l : List CopyWork). AreOpen now.history (jobs_of l ++ option_to_list c.args.last)) next i.hand);
      left = omega (arith, i.left, ap length next, c.in-Some.ensures.steps.1);
    }

pub loop-work-preserved : goal.loop-work-preserved
loop-work-preserved g c =
    let old = c.args.group.now in let now = c.loop-work.group in let new = c.give_back.new.self in let w = c.in-Some.work in let rest = into_iter_items c.next.new.self in
    let i = c.loop-work.invariant in let next = c.in-Some.ensures.steps.0 in
    record {
      returned = one_returned old now new w.job c.give_back.ensures.went i.returned;
      hand = return_closes now new w.job (jobs_of rest ++ option_to_list c.args.last) c.give_back.ensures.went (subst (λ (l : List CopyWork). AreOpen now.history (jobs_of l ++ option_to_list c.args.last)) next i.hand);
      left = omega (arith, i.left, ap length next, c.in-Some.ensures.steps.1);
    }

-- the last of them

pub returns-in_default-clause-none : goal.returns-in_default-clause-none
returns-in_default-clause-none g c =
    let now = c.loop-work.group in let rest = into_iter_items c.loop-work.work-iterator in
    let none = none_left (into_iter_len c.loop-work.work-iterator) rest c.in-None.ensures.steps.0 c.loop-work.invariant.left in
    (subst (λ (o : Option Job). AreOpen now.history (option_to_list o)) c.in_default.is (subst (λ (l : List CopyWork). AreOpen now.history (jobs_of l ++ option_to_list c.args.last)) none c.loop-work.invariant.hand)).claims

pub give_back-requires-2 : goal.give_back-requires-2
give_back-requires-2 g c =
    let now = c.loop-work.group in let rest = into_iter_items c.loop-work.work-iterator in
    let none = none_left (into_iter_len c.loop-work.work-iterator) rest c.in-None.ensures.steps.0 c.loop-work.invariant.left in
    first_may_return now.history c.in-Some-last.job [] (subst (λ (o : Option Job). AreOpen now.history (option_to_list o)) c.in-Some-last.is (subst (λ (l : List CopyWork). AreOpen now.history (jobs_of l ++ option_to_list c.args.last)) none c.loop-work.invariant.hand))

pub returns-clause-returned : goal.returns-clause-returned
returns-clause-returned g c = one_returned c.args.group.now c.loop-work.group c.give_back-2.new.self c.in-Some-last.job c.give_back-2.ensures.went c.loop-work.invariant.returned

pub returns-clause-none : goal.returns-clause-none
returns-clause-none g c =
    let now = c.loop-work.group in let rest = into_iter_items c.loop-work.work-iterator in
    let none = none_left (into_iter_len c.loop-work.work-iterator) rest c.in-None.ensures.steps.0 c.loop-work.invariant.left in
    (return_closes now c.give_back-2.new.self c.in-Some-last.job [] c.give_back-2.ensures.went (subst (λ (o : Option Job). AreOpen now.history (option_to_list o)) c.in-Some-last.is (subst (λ (l : List CopyWork). AreOpen now.history (jobs_of l ++ option_to_list c.args.last)) none c.loop-work.invariant.hand))).claims
