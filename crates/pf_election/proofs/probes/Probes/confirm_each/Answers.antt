use Rattle.std.proofs.Common.{◌≡◌, ◌+◌, ◌<◌, get_or, length, map, arith, sym, ap, subst, ◌∙◌}
use Rattle.pf_election.specs.Reads.{confirm_by_number}
use Rattle.pf_election.proofs.ConfirmedReads.{IsChanged, all_changed, confirmed_before, confirmed_now, not_asked}
use Rattle.pf_election.proofs.ConfirmedCounts.{one_counted}
use Rattle.pf_election.proofs.Least.{same_at}
use Rattle.pf_election.specs.declared.probes.ProbedRead.{ProbedRead}
use Rattle.pf_election.specs.declared.probes.Probes.TheInside.{Inside}
use Rattle.pf_election.proofs.probes.Probes.confirm_each.Goals as goal
use Rattle.pf_election.proofs.probes.Probes.confirm_each.Goals.{then-index-number+then-not-index, then-index-number+else-not-index, else-index-number}

pub returns : goal.returns
returns c =
    let old = c.self.inside.reads.items in
    all_changed (confirm_by_number c.args.number) old c.loop-place.self-inside.reads.items c.loop-place.invariant.len
    (λ k d lt. c.loop-place.invariant.done k d (omega (arith, c.len-place-end.ensures, c.self.inside.reads.ok.0, c.loop-place-test.false, lt)) lt)
    ∙ ap (map (confirm_by_number c.args.number)) c.self.view_is

pub invariant_of-self : goal.invariant_of-self
invariant_of-self c = c.loop-place.invariant.kept

pub overflow_add-self : goal.overflow_add-self
overflow_add-self c =
    let some = one_counted c.loop-place.self-inside.reads.items c.loop-place.place c.index-then-index-number.result.now c.loop-place.self-inside.confirmed c.loop-place.self-inside.in_order c.loop-place.invariant.kept (omega (arith, c.loop-place-test.true, c.len-place-end.ensures, c.self.inside.reads.ok.0, c.loop-place.invariant.len)) c.index-then-index-number.ensures c.if-not-index.true in
    let fits = c.len-place-end.type_inv in
    omega (arith, some, c.len-place-end.ensures, c.self.inside.reads.ok.0, c.loop-place.invariant.len, fits)

pub loop-place-preserved : goal.loop-place-preserved
loop-place-preserved c =
    let number = c.args.number in
    let old = c.self.inside.reads.items in
    let new = c.loop-place.self-inside.reads.items in
    let place = c.loop-place.place in
    let many = c.loop-place.self-inside.confirmed in
    let in_order = c.loop-place.self-inside.in_order in
    let lt : place < length old = omega (arith, c.loop-place-test.true, c.len-place-end.ensures, c.self.inside.reads.ok.0) in
    let one = λ (x y : ProbedRead) (a : x ≡ get_or new place x) (b : y ≡ get_or new place y). same_at new place x y x (omega (arith, lt, c.loop-place.invariant.len)) (sym a) (sym b) in
    let is = λ (inside : Inside). IsChanged (confirm_by_number number) old inside.reads.items (place + 1) inside.confirmed inside.in_order in
    elim c.if-index-number.branch [
      | then-index-number+then-not-index w ↦
          subst is (sym w.self-inside-is)
          (confirmed_now number old new place many in_order w.index_mut.result.now c.loop-place.invariant lt w.index_mut.ensures.value
          (ap (λ (r : ProbedRead). r.number) (one c.index.result.now w.index_mut.result.now c.index.ensures w.index_mut.ensures.value) ∙ w.if-index-number.true)
          (ap (λ (r : ProbedRead). r.confirmed) (one w.index-then-index-number.result.now w.index_mut.result.now w.index-then-index-number.ensures w.index_mut.ensures.value) ∙ w.if-not-index.true))
      | then-index-number+else-not-index w ↦
          subst is (sym w.self-inside-is) (confirmed_before number old new place many in_order w.index-then-index-number.result.now c.loop-place.invariant lt w.index-then-index-number.ensures
          (ap (λ (r : ProbedRead). r.number) (one c.index.result.now w.index-then-index-number.result.now c.index.ensures w.index-then-index-number.ensures) ∙ w.if-index-number.true)
          w.if-not-index.false)
      | else-index-number w ↦
          subst is (sym w.self-inside-is) (not_asked number old new place many in_order c.index.result.now c.loop-place.invariant lt c.index.ensures w.if-index-number.false)
    ]
