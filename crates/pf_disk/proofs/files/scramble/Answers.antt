use Rattle.std.proofs.Common.{ℕ, ◌+◌, ◌<◌, ◌++◌, List, length, take, drop, sym, ap, ◌∙◌, arith}
use Rattle.pf_disk.specs.Scrambles.{top_byte, scrambled}
use Rattle.pf_disk.proofs.CrashBytes.{one_changed, one_kept}
use Rattle.pf_disk.proofs.files.scramble.Goals as goal
use Rattle.pf_disk.proofs.files.scramble.Goals.{then-is_marked, else-is_marked}

pub loop-place-preserved : goal.loop-place-preserved
loop-place-preserved c =
    let ranges = c.args.ranges.now in
    let place = c.loop-place.place in
    let bytes = c.loop-place.bytes in
    let within : place < length bytes = omega (arith, c.loop-place-test.true, c.loop-place.auto.bytes) in
    let done : ℕ → List ℕ → List ℕ = λ number file. take (place + 1) file ++ scrambled ranges (place + 1) number (drop (place + 1) file) in
    elim c.if-is_marked.branch [
      | then-is_marked w ↦
          let next = w.next_number-number in
          c.loop-place.invariant
          ∙ one_changed ranges place c.loop-place.number (top_byte next.result) bytes within (sym c.is_marked.ensures ∙ w.if-is_marked.true) (ap top_byte next.ensures)
          ∙ (λ i. done (sym (w.number-is ∙ next.ensures) i) (sym w.bytes-is i))
      | else-is_marked w ↦
          c.loop-place.invariant
          ∙ one_kept ranges place c.loop-place.number bytes within (sym c.is_marked.ensures ∙ w.if-is_marked.false)
          ∙ (λ i. done (sym w.number-is i) (sym w.bytes-is i))
    ]
