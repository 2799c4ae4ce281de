use Rattle.std.proofs.Common.{◌+◌, ◌<◌, arith, length, sym, subst, ◌∙◌}
use Rattle.pf_election.specs.Reads.{IsLeastPlace, IsLower, is_unconfirmed}
use Rattle.pf_election.proofs.Least.{one_passed, one_higher, one_lower}
use Rattle.pf_election.proofs.probes.least_unconfirmed.Goals as goal
use Rattle.pf_election.proofs.probes.least_unconfirmed.Goals.{then-is_unconfirmed+then-is_lower, else-is_unconfirmed, else-is_unconfirmed-via-then-is_unconfirmed+else-is_lower, else-is_unconfirmed-via-else-is_unconfirmed}

pub loop-place-preserved : goal.loop-place-preserved
loop-place-preserved c =
    let test = is_unconfirmed c.args.after in
    let reads = c.args.reads.now.items in
    let place = c.loop-place.place in
    let inside : place < length reads = omega (arith, c.loop-place-test.true, c.len-place-end.ensures, c.args.reads.now.ok.0) in
    let least = c.loop-place.least in
    let read = c.index.result.now in
    elim c.if-is_unconfirmed.branch [
      | then-is_unconfirmed+then-is_lower w ↦
          subst (IsLeastPlace test reads (place + 1)) (sym w.least-is)
          (one_lower test reads place least read c.loop-place.invariant inside c.index.ensures (sym c.is_unconfirmed.ensures ∙ w.if-is_unconfirmed.true)
          (subst (IsLower reads place least) w.if-is_lower.true w.is_lower.ensures))
      | else-is_unconfirmed w ↦
          subst (IsLeastPlace test reads (place + 1)) (sym w.least-is)
          (elim w.else-is_unconfirmed.branch [
            | else-is_unconfirmed-via-then-is_unconfirmed+else-is_lower v ↦
                one_higher test reads place least read c.loop-place.invariant inside c.index.ensures
                (subst (IsLower reads place least) v.if-is_lower.false v.is_lower.ensures)
            | else-is_unconfirmed-via-else-is_unconfirmed v ↦
                one_passed test reads place least read c.loop-place.invariant inside c.index.ensures (sym c.is_unconfirmed.ensures ∙ v.if-is_unconfirmed.false)
          ])
    ]
