use Rattle.std.proofs.Common.{arith}
use Rattle.pf_group.specs.GroupIs.{state_of}
use Rattle.pf_group.proofs.Leasts.{found_left, none_found, none_yet, one_further}
use Rattle.pf_group.proofs.group.Group.left_from.Goals as goal

pub loop-k-init : goal.loop-k-init
loop-k-init g c told = none_yet (state_of c.args.self.now) c.args.from

pub returns-then-is_left-clause-first : goal.returns-then-is_left-clause-first
returns-then-is_left-clause-first g c told =
    found_left (state_of c.args.self.now) c.args.from c.loop-k.k c.packets-packets.result c.is_left.result (c.packets-packets.ensures.count told)
    c.loop-k.auto.k c.loop-k-test.true (c.loop-k.invariant told) (c.is_left.ensures.left told) c.if-is_left.true

pub returns-then-is_left-clause-above : goal.returns-then-is_left-clause-above
returns-then-is_left-clause-above g c = c.loop-k.auto.k

pub returns-then-is_left-clause-few : goal.returns-then-is_left-clause-few
returns-then-is_left-clause-few g c few = omega (arith, c.loop-k-test.true, c.packets-packets.ensures.few)

pub loop-k-preserved : goal.loop-k-preserved
loop-k-preserved g c told = one_further (state_of c.args.self.now) c.args.from c.loop-k.k c.is_left.result (c.loop-k.invariant told) (c.is_left.ensures.left told) c.if-is_left.false

pub returns-clause-first : goal.returns-clause-first
returns-clause-first g c told =
    none_found (state_of c.args.self.now) c.args.from c.loop-k.k c.packets-packets.result c.max.result (c.packets-packets.ensures.count told)
    c.loop-k-test.false (c.loop-k.invariant told) c.max.ensures

pub returns-clause-above : goal.returns-clause-above
returns-clause-above g c = omega (arith, c.max.ensures)

pub returns-clause-few : goal.returns-clause-few
returns-clause-few g c few = omega (arith, few, c.max.ensures, c.packets-packets.ensures.few)
