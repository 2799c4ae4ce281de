use Rattle.std.proofs.Common.{◌≡◌, ◌+◌, ◌-◌, min, arith, subst, sym}
use Rattle.pf_holes.proofs.TrimmedSlots.{IsPassed, begins, goes_on, ends}
use Rattle.pf_holes.proofs.ring.SlotRing.trim.Goals as goal

pub loop-passed-init : goal.loop-passed-init
loop-passed-init g c = begins c.args.base c.args.self.now

pub loop-passed-preserved : goal.loop-passed-preserved
loop-passed-preserved g c =
    subst (IsPassed c.args.base (c.loop-passed.passed + 1) c.args.self.now) (sym c.remove.ensures)
    (goes_on c.args.base c.loop-passed.passed c.args.self.now c.loop-passed.self c.loop-passed.invariant)

pub returns : goal.returns
returns g c =
    let all : c.loop-passed.passed ≡ min (c.args.upto - c.args.base) 4096 = omega (arith, c.min-count.ensures, c.saturating_sub.ensures) in
    ends c.args.base c.loop-passed.passed c.args.upto c.args.self.now c.loop-passed.self c.requires c.loop-passed.invariant all
