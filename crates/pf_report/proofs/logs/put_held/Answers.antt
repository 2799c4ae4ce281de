use Rattle.pf_text.proofs.WrittenKept.{keeps_more, keeps_put}
use Rattle.pf_report.proofs.logs.put_held.Goals as goal

pub returns-in_err-put_slot-clause-kept : goal.returns-in_err-put_slot-clause-kept
returns-in_err-put_slot-clause-kept c =
    keeps_more _ _ _ (rw c.in_ok-put_text.ensures.ok (keeps_put _ _)) (
    c.put_slot.ensures.kept)
