use Rattle.std.proofs.Common.{◌≡◌, ◌+◌, ◌-◌, arith, drop, get_or, refl}
use Rattle.std.specs.List.{prefix_len}
use Rattle.pf_text.proofs.WrittenKept.{keeps_more, keeps_put}
use Rattle.pf_text.proofs.Stretches.{at_end, is_byte, more_left, run_within}
use Rattle.pf_text.proofs.put.put_each_run.Goals as goal

pub loop-at-preserved-in_ok-put_text : goal.loop-at-preserved-in_ok-put_text
loop-at-preserved-in_ok-put_text c =
    let bytes = c.args.bytes.now in
    let at = c.loop-at.at in
    let end = c.run_end-end.result in
    let counted : end - at ≡ prefix_len (is_byte (get_or bytes at 0)) (drop at bytes) = omega (arith, c.run_end-end.ensures) in
    let there : end ≡ at + (end - at) = omega (arith, c.run_end-end.ensures) in
    let before = keeps_more _ _ _ c.loop-at.invariant.kept c.put_run.ensures.kept in
    record {
      within = omega (arith, c.if-end-bytes.true);
      text = more_left bytes c.loop-at.out.items c.put_run.new.out.items c.put_text.new.out.items _ at (get_or bytes at 0) (end - at) c.loop-at-test.true refl counted c.in_ok-put_run.ensures.ok c.loop-at.invariant.text end there c.if-end-bytes.true c.in_ok-put_text.ensures.ok;
      kept = keeps_more _ _ _ before (rw c.in_ok-put_text.ensures.ok (keeps_put _ _));
    }

pub loop-at-preserved : goal.loop-at-preserved
loop-at-preserved c =
    let bytes = c.args.bytes.now in
    let at = c.loop-at.at in
    let end = c.run_end-end.result in
    let counted : end - at ≡ prefix_len (is_byte (get_or bytes at 0)) (drop at bytes) = omega (arith, c.run_end-end.ensures) in
    let there : end ≡ at + (end - at) = omega (arith, c.run_end-end.ensures) in
    let within = run_within bytes at (end - at) (get_or bytes at 0) c.loop-at-test.true counted in
    record {
      within = omega (arith, within, there);
      text = at_end bytes c.loop-at.out.items c.put_run.new.out.items c.put_run.new.out.items _ at (get_or bytes at 0) (end - at) c.loop-at-test.true refl counted c.in_ok-put_run.ensures.ok c.loop-at.invariant.text end there c.if-end-bytes.false refl;
      kept = keeps_more _ _ _ c.loop-at.invariant.kept c.put_run.ensures.kept;
    }
