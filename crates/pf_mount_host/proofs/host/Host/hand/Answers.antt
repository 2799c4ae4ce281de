use Rattle.std.proofs.Common.{length, sym, ap, subst, ◌∙◌, arith}
use Rattle.std.proofs.lemmas.Result.{on_err_weaker, on_ok_weaker}
use Rattle.pf_world_moments.specs.Parts.{PortIsPending}
use Rattle.pf_mount_host.specs.Hosts.{HostIs, mount_number}
use Rattle.pf_mount_host.specs.Parts.{HasLedAt, HasNotLedAt}
use Rattle.pf_mount_host.proofs.HandedAsks.{hands_nothing, hands_on, not_handed}
use Rattle.pf_mount_host.proofs.PendingAsks.{asks_here, asks_within, few_ports, is_pending}
use Rattle.pf_mount_host.proofs.host.Host.hand.Goals as goal

pub group-requires-clause-port : goal.group-requires-clause-port
group-requires-clause-port g c = few_ports c.args.self.now.mount c.args.port c.requires.port

pub group-requires-clause-chunk : goal.group-requires-clause-chunk
group-requires-clause-chunk g c =
    asks_within (length c.args.chunks.now) c.args.routes.now c.args.chunks.now c.args.self.now c.args.port c.requires.ready.routed c.requires.ready.is_host

pub returns-in_default-clause-went : goal.returns-in_default-clause-went
returns-in_default-clause-went g c =
    hands_nothing c.args.routes.now c.args.chunks.now c.args.self.now c.args.port c.args.out.now.items c.requires.ready (sym c.group.ensures ∙ c.in_default.is)

pub lead_at-requires-clause-mount : goal.lead_at-requires-clause-mount
lead_at-requires-clause-mount g c κs within = omega (arith, c.number-number.ensures.number, c.self.invariant.0)

pub lead_at-requires-clause-pending : goal.lead_at-requires-clause-pending
lead_at-requires-clause-pending g c κs within =
    let number = c.number-number.ensures.number ∙ ap (λ (h : HostIs). mount_number h.mount) c.self.view_is in
    let here = asks_here c.args.routes.now c.args.chunks.now c.args.self.now c.args.port c.in-Some.group c.requires.ready.is_host (sym c.group.ensures ∙ c.in-Some.is) in
    subst (λ n. PortIsPending n c.in-Some.group c.args.chunks.now) (sym number) (is_pending c.args.routes.now c.args.chunks.now c.args.self.now c.args.port c.in-Some.group here)

pub returns-clause-went : goal.returns-clause-went
returns-clause-went g c =
    let number = c.number-number.ensures.number ∙ ap (λ (h : HostIs). mount_number h.mount) c.self.view_is in
    let at = sym c.group.ensures ∙ c.in-Some.is in
    let old = c.args.chunks.now in
    let new = c.lead_at.new.chunks in
    let before = c.args.out.now.items in
    let after = c.lead_at.new.out.items in
    on_ok_weaker c.lead_at.result
    (λ (d : HasLedAt c.number-number.result c.in-Some.group old before after new).
    hands_on c.args.routes.now old new c.args.self.now c.args.port c.in-Some.group at before after c.requires.ready (subst (λ n. HasLedAt n c.in-Some.group old before after new) number d))
    c.lead_at.ensures.went

pub returns-clause-err : goal.returns-clause-err
returns-clause-err g c =
    let number = c.number-number.ensures.number ∙ ap (λ (h : HostIs). mount_number h.mount) c.self.view_is in
    let at = sym c.group.ensures ∙ c.in-Some.is in
    let old = c.args.chunks.now in
    let new = c.lead_at.new.chunks in
    on_err_weaker c.lead_at.result
    (λ (f : HasNotLedAt c.number-number.result c.in-Some.group old new).
    not_handed c.args.routes.now old new c.args.self.now c.args.port c.in-Some.group at (subst (λ n. HasNotLedAt n c.in-Some.group old new) number f))
    c.lead_at.ensures.err
