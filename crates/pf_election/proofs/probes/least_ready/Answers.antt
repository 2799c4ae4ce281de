use Rattle.std.proofs.Common.{◌+◌, ◌<◌, arith, length, sym, subst, ◌∙◌}
use Rattle.pf_entry.specs.Sets as set
use Rattle.pf_election.specs.Reads.{IsLeastPlace, IsLower, is_read_ready}
use Rattle.pf_election.proofs.Least.{first_is_least, one_passed, one_higher, one_lower}
use Rattle.pf_election.proofs.probes.least_ready.Goals as goal
use Rattle.pf_election.proofs.probes.least_ready.Goals.{then-is_ready+then-is_lower+else-in_order, else-is_ready, else-is_ready-via-then-is_ready+else-is_lower, else-is_ready-via-else-is_ready}

pub loop-place-preserved : goal.loop-place-preserved
loop-place-preserved c =
    let test = is_read_ready (set.contains c.args.applied.now.slots) in
    let reads = c.args.reads.now.items in
    let place = c.loop-place.place in
    let inside : place < length reads = omega (arith, c.loop-place-test.true, c.len-place-end.ensures, c.args.reads.now.ok.0) in
    let least = c.loop-place.least in
    let read = c.index.result.now in
    elim c.if-is_ready.branch [
      | then-is_ready+then-is_lower+else-in_order w ↦
          subst (IsLeastPlace test reads (place + 1)) (sym w.least-is)
          (one_lower test reads place least read c.loop-place.invariant inside c.index.ensures (sym c.is_ready.ensures ∙ w.if-is_ready.true)
          (subst (IsLower reads place least) w.if-is_lower.true w.is_lower.ensures))
      | else-is_ready w ↦
          subst (IsLeastPlace test reads (place + 1)) (sym w.least-is)
          (elim w.else-is_ready.branch [
            | else-is_ready-via-then-is_ready+else-is_lower v ↦
                one_higher test reads place least read c.loop-place.invariant inside c.index.ensures
                (subst (IsLower reads place least) v.if-is_lower.false v.is_lower.ensures)
            | else-is_ready-via-else-is_ready v ↦
                one_passed test reads place least read c.loop-place.invariant inside c.index.ensures (sym c.is_ready.ensures ∙ v.if-is_ready.false)
          ])
    ]

pub returns-then-in_order : goal.returns-then-in_order
returns-then-in_order c =
    let test = is_read_ready (set.contains c.args.applied.now.slots) in
    let reads = c.args.reads.now.items in
    let place = c.loop-place.place in
    let inside : place < length reads = omega (arith, c.loop-place-test.true, c.len-place-end.ensures, c.args.reads.now.ok.0) in
    let least = c.loop-place.least in
    first_is_least test reads place (c.requires c.if-in_order.true)
    (one_lower test reads place least c.index.result.now c.loop-place.invariant inside c.index.ensures (sym c.is_ready.ensures ∙ c.if-is_ready.true)
    (subst (IsLower reads place least) c.if-is_lower.true c.is_lower.ensures))
    inside
