use Rattle.std.proofs.Common.{◌+◌, ◌-◌, ◌<◌, ◌≤◌, sym, subst}
use Rattle.pf_mount_host.specs.pf_group.proofs.NextEvents.{on_err}
use Rattle.pf_world_hosts.specs.Tries.{SettlingStands, TryEnds, room}
use Rattle.pf_world_hosts.specs.declared.settling.Tried.{Tried}
use Rattle.pf_world_hosts.proofs.fleet.Fleet.settle.Goals as goal

pub loop-tried-init : goal.loop-tried-init
loop-tried-init g c = c.begin_settling.ensures c.args.limit c.args.out.now.items

pub returns-in_err-tried-clause-err : goal.returns-in_err-tried-clause-err
returns-in_err-tried-clause-err g c =
    on_err c.from_residual.result _ (c.in_err-tried.ensures.err c.args.limit c.args.chunks.now c.args.self.now c.args.out.now.items c.loop-tried.invariant)

pub returns-in-Ended-clause-settled : goal.returns-in-Ended-clause-settled
returns-in-Ended-clause-settled g c =
    let s = c.loop-tried.invariant in
    subst (λ (tried : Tried). TryEnds tried c.args.limit c.args.chunks.now c.args.self.now c.args.out.now.items c.loop-tried.left s.passed c.loop-tried.out.items c.loop-tried.chunks c.loop-tried.self
    c.try_settling.new.out.items c.try_settling.new.chunks c.try_settling.new.self) c.in-Ended.is
    (c.in_ok-tried.ensures.tried c.args.limit c.args.chunks.now c.args.self.now c.args.out.now.items s)

pub overflow_sub-left : goal.overflow_sub-left
overflow_sub-left g c =
    let s = c.loop-tried.invariant in let left = c.loop-tried.left in
    let ends = subst (λ (tried : Tried). TryEnds tried c.args.limit c.args.chunks.now c.args.self.now c.args.out.now.items left s.passed c.loop-tried.out.items c.loop-tried.chunks c.loop-tried.self
    c.try_settling.new.out.items c.try_settling.new.chunks c.try_settling.new.self) c.in-Made.is
    (c.in_ok-tried.ensures.tried c.args.limit c.args.chunks.now c.args.self.now c.args.out.now.items s) in
    subst (λ n. n ≤ left) (sym c.deliveries-left.ensures) ends.0

pub loop-tried-smaller : goal.loop-tried-smaller
loop-tried-smaller g c =
    let s = c.loop-tried.invariant in let left = c.loop-tried.left in
    let ends = subst (λ (tried : Tried). TryEnds tried c.args.limit c.args.chunks.now c.args.self.now c.args.out.now.items left s.passed c.loop-tried.out.items c.loop-tried.chunks c.loop-tried.self
    c.try_settling.new.out.items c.try_settling.new.chunks c.try_settling.new.self) c.in-Made.is
    (c.in_ok-tried.ensures.tried c.args.limit c.args.chunks.now c.args.self.now c.args.out.now.items s) in
    subst (λ n. (left - n) + room c.try_settling.new.chunks < left + room c.loop-tried.chunks) (sym c.deliveries-left.ensures) ends.1.less

pub loop-tried-preserved : goal.loop-tried-preserved
loop-tried-preserved g c =
    let s = c.loop-tried.invariant in let left = c.loop-tried.left in
    let ends = subst (λ (tried : Tried). TryEnds tried c.args.limit c.args.chunks.now c.args.self.now c.args.out.now.items left s.passed c.loop-tried.out.items c.loop-tried.chunks c.loop-tried.self
    c.try_settling.new.out.items c.try_settling.new.chunks c.try_settling.new.self) c.in-Made.is
    (c.in_ok-tried.ensures.tried c.args.limit c.args.chunks.now c.args.self.now c.args.out.now.items s) in
    subst (λ n. SettlingStands c.args.limit c.args.chunks.now c.args.self.now c.args.out.now.items (left - n) c.try_settling.new.out.items c.try_settling.new.chunks c.try_settling.new.self)
    (sym c.deliveries-left.ensures) ends.1.stands
