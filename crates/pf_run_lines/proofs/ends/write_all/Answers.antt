use Rattle.std.proofs.Common.{ap, ◌≡◌, ◌-◌, ◌∙◌, ◌++◌, arith, length, take, drop, append_assoc, length-drop}
use Rattle.std.proofs.lemmas.List.{take_all, take-append-drop}
use Rattle.pf_run_lines.proofs.Taken.{appends_both}
use Rattle.pf_run_lines.proofs.ends.write_all.Goals as goal

pub loop-rest-preserved : goal.loop-rest-preserved
loop-rest-preserved g c =
    let rest = c.loop-rest.rest.now in
    let n = c.in_ok-count.count in
    let before = c.loop-rest.invariant.taken in
    let left : take (length rest - n) (drop n rest) ≡ drop n rest = take_all (length rest - n) (drop n rest) (omega (arith, length-drop n rest)) in
    record {
      taken = (
        before.0 ++ take n rest,
        ap (λ l. (before.0 ++ take n rest) ++ l) left ∙ append_assoc before.0 (take n rest) (drop n rest) ∙ ap (λ l. before.0 ++ l) (take-append-drop n rest) ∙ before.1,
        appends_both _ _ _ before.0 (take n rest) before.2 c.in_ok-count.ensures.bytes,
      );
      later = omega (arith, c.loop-rest.invariant.later, c.write.ensures.cause.later);
    }
