use Rattle.std.proofs.Common.{IsTrue, ℕ, ◌+◌, ◌<◌, Bool, arith, ap, sym, ◌∙◌, subst}
use Rattle.pf_live_seats.specs.pf_shared.specs.Seats.{root_in, seen_by}
use Rattle.pf_live_line.specs.Judging.{AreRefused}
use Rattle.pf_live_line.proofs.JudgedEnds.{SoFar, are_refused_on, goes_on, so_far_acked, so_far_idle, so_far_on, so_far_placed}
use Rattle.pf_live_line.proofs.FirstSeatEntries.{looked_trans}
use Rattle.pf_live_line.proofs.crew.Crew.judge_hosts.Goals as goal
use Rattle.pf_live_line.proofs.crew.Crew.judge_hosts.Goals.{then-acked-line+else-is_some, else-is_some-via-then-is_some+else-not-in_vain, else-is_some-via-else-is_some, else-acked-line}

pub returns-in_err-acked-clause-looked : goal.returns-in_err-acked-clause-looked
returns-in_err-acked-clause-looked g c = let line = c.args.line.now in let l = c.loop-host in looked_trans line.group line.cell line.plan line.rings.items c.args.self.now l.self c.count.new.self l.invariant.0 c.count.ensures.looked

pub returns-then-not-in_vain-clause-looked : goal.returns-then-not-in_vain-clause-looked
returns-then-not-in_vain-clause-looked g c = let line = c.args.line.now in let l = c.loop-host in looked_trans line.group line.cell line.plan line.rings.items c.args.self.now l.self c.count.new.self l.invariant.0 c.count.ensures.looked

pub returns-then-not-in_vain-clause-end : goal.returns-then-not-in_vain-clause-end
returns-then-not-in_vain-clause-end g c tells before leads = let line = c.args.line.now in let root = root_in line.group in let l = c.loop-host in let k = c.in_ok-acked.ensures in let new = c.count.new.self in let told : ℕ × Bool = (c.in_ok-acked.acked, c.in_ok-acked.in_vain) in
    let low : l.host < line.plan.hosts = omega (arith, c.loop-host-test.true) in
    let was = so_far_on line.plan root (seen_by l.self.seat) (seen_by new.seat) c.args.leader l.waits l.host k.looked.unchanged (l.invariant.1 tells) in
    goes_on line.plan root (seen_by new.seat) c.args.leader l.waits l.host c.args.refused told low (k.count tells) was before c.if-acked-line.true (sym c.is_some.ensures ∙ c.if-is_some.true) c.if-not-in_vain.true leads

pub loop-host-preserved : goal.loop-host-preserved
loop-host-preserved g c = let line = c.args.line.now in let root = root_in line.group in let l = c.loop-host in let k = c.in_ok-acked.ensures in let new = c.count.new.self in let told : ℕ × Bool = (c.in_ok-acked.acked, c.in_ok-acked.in_vain) in
    let low : l.host < line.plan.hosts = omega (arith, c.loop-host-test.true) in
    let was = λ (tells : IsTrue root.told). so_far_on line.plan root (seen_by l.self.seat) (seen_by new.seat) c.args.leader l.waits l.host k.looked.unchanged (l.invariant.1 tells) in (
      looked_trans line.group line.cell line.plan line.rings.items c.args.self.now l.self new l.invariant.0 k.looked,
      λ tells. elim c.if-acked-line.branch [
        | then-acked-line+else-is_some w ↦ subst (λ x. SoFar line.plan root (seen_by new.seat) c.args.leader x (l.host + 1)) (sym w.waits-is) (elim w.else-is_some.branch [
          | else-is_some-via-then-is_some+else-not-in_vain v ↦ so_far_placed line.plan root (seen_by new.seat) c.args.leader l.waits l.host c.args.refused told low (k.count tells) (was tells) w.if-acked-line.true v.if-not-in_vain.false
          | else-is_some-via-else-is_some v ↦ so_far_idle line.plan root (seen_by new.seat) c.args.leader l.waits l.host c.args.refused told low (k.count tells) (was tells) w.if-acked-line.true (sym w.is_some.ensures ∙ v.if-is_some.false)
        ])
        | else-acked-line w ↦ subst (λ x. SoFar line.plan root (seen_by new.seat) c.args.leader x (l.host + 1)) (sym w.waits-is) (so_far_acked line.plan root (seen_by new.seat) c.args.leader l.waits l.host c.args.refused told low (k.count tells) (was tells) (λ less. omega (arith, less, w.if-acked-line.false)))
      ],
      c.count.ensures.first ∙ l.invariant.2,
    )

pub count-requires-clause-refused : goal.count-requires-clause-refused
count-requires-clause-refused g c e = let line = c.args.line.now in let root = root_in line.group in let l = c.loop-host in let a = c.args.self.now in let k = l.invariant.0 in
    subst (AreRefused line.plan root (seen_by l.self.seat)) (ap (λ v. v.items) (sym k.served)) (are_refused_on line.plan root (seen_by a.seat) (seen_by l.self.seat) a.served.items k.unchanged (c.requires.refused e))
