use Rattle.std.proofs.Common.{◌≡◌, ◌+◌, ◌++◌, ◌∷◌, [], List, length, length-append, sym, ap, subst, arith, rules}
use Rattle.std.specs.Vec.Iter.{into_iter_items, into_iter_len}
use Rattle.pf_group_copy.specs.declared.work.CopyWork.{CopyWork}
use Rattle.pf_group_rounds.specs.Adding.{Adds}
use Rattle.pf_group_rounds.specs.Open.{AreOpen, jobs_of}
use Rattle.pf_group_rounds.proofs.HistoryParts.{adds_refl}
use Rattle.pf_group_rounds.proofs.ClaimLists.{first_is_open, none_left}
use Rattle.pf_group_rounds.proofs.RunRounds.{FinishesSoFar, one_finish}
use Rattle.pf_group_rounds.proofs.RoundSteps.{finish_adds, finish_closes}
use Rattle.pf_group_rounds.proofs.ending.finish_all.Goals as goal

pub loop-work-init : goal.loop-work-init
loop-work-init g c = record {
  adds = adds_refl c.args.group.now;
  hand = search rules;
  left = search rules;
  run = search rules;
}

pub finish-requires-clause-hand : goal.finish-requires-clause-hand
finish-requires-clause-hand g c =
    let now = c.loop-work.group in let w = c.in-Some.work in let rest = into_iter_items c.next.new.self in
    let next = c.in-Some.ensures.steps.0 in
    first_is_open now.history w.job (jobs_of rest) (subst (λ (l : List CopyWork). AreOpen now.history (jobs_of l)) next c.loop-work.invariant.hand)

pub loop-work-preserved : goal.loop-work-preserved
loop-work-preserved g c =
    let old = c.args.group.now in let now = c.loop-work.group in let new = c.finish.new.group in let w = c.in-Some.work in let rest = into_iter_items c.next.new.self in
    let i = c.loop-work.invariant in let next = c.in-Some.ensures.steps.0 in let all = jobs_of c.args.works.items in
    let count : length c.loop-work.yielded + 1 ≡ length (c.loop-work.yielded ++ w ∷ []) = sym (length-append c.loop-work.yielded (w ∷ [])) in
    record {
      adds = subst (Adds old new 0) count (finish_adds old now new w.job (length c.loop-work.yielded) c.finish.ensures i.adds);
      hand = finish_closes now new w.job (jobs_of rest) c.finish.ensures (subst (λ (l : List CopyWork). AreOpen now.history (jobs_of l)) next i.hand);
      left = omega (arith, i.left, ap length next, c.in-Some.ensures.steps.1);
      run = one_finish old now new all w.job (jobs_of rest) c.finish.ensures (subst (λ (l : List CopyWork). FinishesSoFar old now all (jobs_of l)) next i.run);
    }

pub returns-clause-none : goal.returns-clause-none
returns-clause-none g c =
    let now = c.loop-work.group in let rest = into_iter_items c.loop-work.work-iterator in
    let none = none_left (into_iter_len c.loop-work.work-iterator) rest c.in-None.ensures.steps.0 c.loop-work.invariant.left in
    (subst (λ (l : List CopyWork). AreOpen now.history (jobs_of l)) none c.loop-work.invariant.hand).claims

pub returns-clause-run : goal.returns-clause-run
returns-clause-run g c =
    let now = c.loop-work.group in let rest = into_iter_items c.loop-work.work-iterator in
    let none = none_left (into_iter_len c.loop-work.work-iterator) rest c.in-None.ensures.steps.0 c.loop-work.invariant.left in
    subst (λ (l : List CopyWork). FinishesSoFar c.args.group.now now (jobs_of c.args.works.items) (jobs_of l)) none c.loop-work.invariant.run
