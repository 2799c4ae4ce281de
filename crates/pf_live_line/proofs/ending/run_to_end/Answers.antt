use Rattle.std.proofs.Common.{◌≡◌, suc, add-one, refl, Ok, None, Some, IfOk, IsTrue, ap, ◌∙◌, subst}
use Rattle.pf_turn.specs.Lists.{Begins}
use Rattle.pf_turn.proofs.Lists.{begins_trans}
use Rattle.pf_live_seats.specs.Deliveries.{LiveTrace}
use Rattle.pf_live_seats.specs.pf_shared.specs.Seats.{root_in, seen_by}
use Rattle.pf_live_line.specs.Judging.{AllSubmitted, IsJudged, IsPublished}
use Rattle.pf_live_line.specs.Rounds.{HasRunOn}
use Rattle.pf_live_line.proofs.Rounds.{ran_more, ran_none}
use Rattle.pf_live_line.proofs.ending.run_to_end.Goals as goal

pub loop-init : goal.loop-init
loop-init g c = let line = c.args.line.now in (0, ran_none line.group line.cell line.plan line.rings.items c.args.crew c.requires, refl)

pub loop-preserved : goal.loop-preserved
loop-preserved g c = let line = c.args.line.now in let was = c.loop.invariant in let now = c.loop.now in let root = root_in line.group in let next = c.round-next.result.0 in let e = c.round-next.ensures in let is : c.round-next.result.1 ≡ Ok None = c.in-Ok-None.is ∙ ap Ok (rw c.in-Ok-None.is at c.in-Ok-None.field-0-is) in
    let one : HasRunOn line.group line.cell line.plan line.rings.items now 1 next = subst (λ r. IfOk r (λ told. HasRunOn line.group line.cell line.plan line.rings.items now 1 next)) is e.ran in (
      suc was.0,
      subst (λ n. HasRunOn line.group line.cell line.plan line.rings.items c.args.crew n next) (add-one was.0) (ran_more line.group line.cell line.plan line.rings.items c.args.crew now next was.0 was.1 one),
      (
        now,
        was.2,
        record {
          ran = one;
          on = subst (λ r. IfOk r (λ told. IsTrue root.told → (before : LiveTrace) × Begins (seen_by now.seat) before × IsJudged line.plan root before (seen_by next.seat) told)) is e.end;
        },
      ),
    )

pub returns-in-Ok-Some-clause-begins : goal.returns-in-Ok-Some-clause-begins
returns-in-Ok-Some-clause-begins g c = begins_trans (seen_by c.args.crew.seat) (seen_by c.loop.now.seat) (seen_by c.round-next.result.0.seat) c.loop.invariant.1.begins c.round-next.ensures.begins

pub returns-in-Ok-Some-clause-run : goal.returns-in-Ok-Some-clause-run
returns-in-Ok-Some-clause-run g c = let line = c.args.line.now in let root = root_in line.group in let was = c.loop.invariant in let now = c.loop.now in let next = c.round-next.result.0 in let e = c.round-next.ensures in let is : c.round-next.result.1 ≡ Ok (Some c.in-Ok-Some.end) = c.in-Ok-Some.is ∙ ap Ok (rw c.in-Ok-Some.is at c.in-Ok-Some.field-0-is) in record {
  more = was.0;
  ran = ran_more line.group line.cell line.plan line.rings.items c.args.crew now next was.0 was.1 (subst (λ r. IfOk r (λ told. HasRunOn line.group line.cell line.plan line.rings.items now 1 next)) is e.ran);
  gone = (now, was.2, subst (λ r. IfOk r (λ told. HasRunOn line.group line.cell line.plan line.rings.items now 1 next)) is e.ran);
  end = λ tells. (subst (λ r. IfOk r (λ told. IsTrue root.told → (before : LiveTrace) × Begins (seen_by now.seat) before × IsJudged line.plan root before (seen_by next.seat) told)) is e.end tells).2;
  published = subst (λ r. IfOk r (λ told. IsPublished root (seen_by next.seat) next.first)) is e.published;
  submitted = subst (λ r. IfOk r (λ told. AllSubmitted line.plan root (seen_by next.seat) next.served.items)) is e.submitted;
}

pub returns-in-Err-clause-begins : goal.returns-in-Err-clause-begins
returns-in-Err-clause-begins g c = begins_trans (seen_by c.args.crew.seat) (seen_by c.loop.now.seat) (seen_by c.round-next.result.0.seat) c.loop.invariant.1.begins c.round-next.ensures.begins
