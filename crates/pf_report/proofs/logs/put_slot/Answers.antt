use Rattle.pf_text.proofs.WrittenKept.{keeps_more, keeps_put}
use Rattle.pf_report.proofs.logs.put_slot.Goals as goal

pub returns-clause-kept : goal.returns-clause-kept
returns-clause-kept c =
    keeps_more _ c.put_decimal.new.out.items _ (rw c.in_ok-put_decimal.ensures.ok (keeps_put _ _)) (
    keeps_more _ c.put_text.new.out.items _ (rw c.in_ok-put_text.ensures.ok (keeps_put _ _)) (
    keeps_more _ c.put_decimal-2.new.out.items _ (rw c.in_ok-put_decimal-2.ensures.ok (keeps_put _ _)) (
    keeps_more _ c.put_text-2.new.out.items _ (rw c.in_ok-put_text-2.ensures.ok (keeps_put _ _)) (
    c.put_op.ensures.kept))))
