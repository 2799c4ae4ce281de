use Rattle.pf_text.proofs.WrittenKept.{keeps_more, keeps_put}
use Rattle.pf_report.proofs.mounts.write_call.Goals as goal

pub returns-in_err-put_call_answer-clause-kept : goal.returns-in_err-put_call_answer-clause-kept
returns-in_err-put_call_answer-clause-kept c =
    keeps_more _ c.put_text.new.out.items _ (rw c.in_ok-put_text.ensures.ok (keeps_put _ _)) (
    keeps_more _ c.put_decimal.new.out.items _ (rw c.in_ok-put_decimal.ensures.ok (keeps_put _ _)) (
    keeps_more _ c.put_text-2.new.out.items _ (rw c.in_ok-put_text-2.ensures.ok (keeps_put _ _)) (
    keeps_more _ c.put_text-3.new.out.items _ (rw c.in_ok-put_text-3.ensures.ok (keeps_put _ _)) (
    keeps_more _ c.put_text-4.new.out.items _ (rw c.in_ok-put_text-4.ensures.ok (keeps_put _ _)) (
    c.put_call_answer.ensures.kept)))))
