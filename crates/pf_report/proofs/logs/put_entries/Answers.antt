use Rattle.std.proofs.Common.{ℕ, sym, subst}
use Rattle.pf_text.proofs.WrittenKept.{keeps_more, keeps_put}
use Rattle.pf_report.proofs.Walks.{IsWalked, walked_none, walked_more, walked_all}
use Rattle.pf_report.proofs.logs.put_entries.Goals as goal

pub loop-slot-init : goal.loop-slot-init
loop-slot-init c =
    subst (λ (k : ℕ). IsWalked c.args.log.now k c.args.out.now.items c.args.out.now.items) (sym c.base-after.ensures.base)
    (walked_none c.args.log.now c.args.log.now.base c.args.out.now.items c.base-after.ensures.within)

pub loop-slot-preserved : goal.loop-slot-preserved
loop-slot-preserved c =
    walked_more c.args.log.now c.loop-slot.after c.in-Some.slot c.args.out.now.items c.loop-slot.out.items c.put_held.new.out.items c.in-Some-get.entry.now
    c.loop-slot.invariant c.in-Some.ensures c.in-Some-get.ensures.entry c.in-Some-get.ensures.own_slot c.in_ok-put_held.ensures.ok

pub returns-in_err-put_held-clause-kept : goal.returns-in_err-put_held-clause-kept
returns-in_err-put_held-clause-kept c = keeps_more _ _ _ (rw c.loop-slot.invariant.text (keeps_put _ _)) c.put_held.ensures.kept

pub returns-clause-kept : goal.returns-clause-kept
returns-clause-kept c = rw c.loop-slot.invariant.text (keeps_put _ _)

pub returns-clause-ok : goal.returns-clause-ok
returns-clause-ok c = walked_all c.args.log.now c.loop-slot.after c.args.out.now.items c.loop-slot.out.items c.loop-slot.invariant c.in_default.ensures
