use Rattle.std.proofs.Common.{◌≡◌, ◌+◌, arith, refl, sym, ◌∙◌, subst}
use Rattle.pf_live_seats.specs.pf_shared.specs.Seats.{number_of, splits_of}
use Rattle.pf_live_line.specs.Mustered.{AreMustered}
use Rattle.pf_live_line.proofs.WorkersMustered.{mustered_apply, new_applier}
use Rattle.pf_live_line.proofs.mustering.muster_appliers.Goals as goal

pub loop-number-preserved : goal.loop-number-preserved
loop-number-preserved g c = let was = c.loop-number.invariant in let line = c.args.line.now in let begun = c.args._begun.now.value in let e = c.split-seat.ensures in let p = c.push_reserved.ensures in let n = c.loop-number.number in
    let ends : (splits_of begun + 3 + n) + 1 ≡ splits_of begun + 3 + (n + 1) = omega arith in
    let is : number_of c.split-seat.result ≡ splits_of begun + 3 + n = omega (arith, e.given.1, was.3, c.requires.splits) in (
      subst (λ m. AreMustered line.group line.cell line.plan line.rings.items begun line.plan.hosts m c.push_reserved.new.self.items) ends
          (subst (AreMustered line.group line.cell line.plan line.rings.items begun line.plan.hosts ((splits_of begun + 3 + n) + 1)) (sym p.items)
          (mustered_apply line.group line.cell line.plan line.rings.items begun line.plan.hosts (splits_of begun + 3 + n) c.loop-number.workers.items _ was.0 is
          (new_applier line.group line.cell line.plan line.rings.items _ e.given.0 e.none_made refl))),
      e.seat.0,
      e.seat.1,
      omega (arith, e.counts.0, was.3),
      omega (arith, e.counts.1, was.4),
      e.counts.2 ∙ was.5,
      e.seen.0 ∙ was.6,
      omega (arith, p.len, was.7),
      p.capacity ∙ was.8,
    )
