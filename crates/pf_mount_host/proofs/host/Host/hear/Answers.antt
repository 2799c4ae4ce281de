use Rattle.std.proofs.Common.{Option, Some, None, length, sym, ap, subst, ◌∙◌, arith}
use Rattle.std.proofs.lemmas.Result.{on_ok_weaker}
use Rattle.pf_base.specs.declared.asks.Reply.{Reply}
use Rattle.pf_world_moments.specs.pf_group.proofs.NextEvents.{on_err}
use Rattle.pf_world_moments.specs.Parts.{PortIsPending}
use Rattle.pf_mount_host.specs.Hosts.{HostIs, mount_number}
use Rattle.pf_mount_host.specs.Parts.{HasHeardAt, MountHasTaken}
use Rattle.pf_mount_host.proofs.HeardReplies.{hears_no_reply, hears_nothing, hears_reply, not_heard, not_taken, reply_answers}
use Rattle.pf_mount_host.proofs.PendingAsks.{asks_here, asks_within, few_ports, is_pending}
use Rattle.pf_mount_host.proofs.host.Host.hear.Goals as goal

pub group-requires-clause-port : goal.group-requires-clause-port
group-requires-clause-port g c = few_ports c.args.self.now.mount c.args.port c.requires.port

pub group-requires-clause-chunk : goal.group-requires-clause-chunk
group-requires-clause-chunk g c =
    asks_within (length c.args.chunks.now) c.args.routes.now c.args.chunks.now c.args.self.now c.args.port c.requires.ready.routed c.requires.ready.is_host

pub returns-in_default-clause-went : goal.returns-in_default-clause-went
returns-in_default-clause-went g c =
    hears_nothing c.args.routes.now c.args.chunks.now c.args.self.now c.args.port c.args.out.now.items c.requires.ready (sym c.group.ensures ∙ c.in_default.is)

pub hear_at-requires-clause-mount : goal.hear_at-requires-clause-mount
hear_at-requires-clause-mount g c = omega (arith, c.number-number.ensures.number, c.self.invariant.0)

pub hear_at-requires-clause-pending : goal.hear_at-requires-clause-pending
hear_at-requires-clause-pending g c =
    let number = c.number-number.ensures.number ∙ ap (λ (h : HostIs). mount_number h.mount) c.self.view_is in
    let here = asks_here c.args.routes.now c.args.chunks.now c.args.self.now c.args.port c.in-Some.group c.requires.ready.is_host (sym c.group.ensures ∙ c.in-Some.is) in
    subst (λ n. PortIsPending n c.in-Some.group c.args.chunks.now) (sym number) (is_pending c.args.routes.now c.args.chunks.now c.args.self.now c.args.port c.in-Some.group here)

pub returns-in_err-reply-clause-err : goal.returns-in_err-reply-clause-err
returns-in_err-reply-clause-err g c =
    on_err c.from_residual.result _ (not_heard c.args.routes.now c.args.chunks.now c.hear_at.new.chunks c.args.self.now c.args.port c.in_err-reply.ensures.err)

pub returns-in_default-2-clause-went : goal.returns-in_default-2-clause-went
returns-in_default-2-clause-went g c =
    let number = c.number-number.ensures.number ∙ ap (λ (h : HostIs). mount_number h.mount) c.self.view_is in
    let k = c.in-Some.group in
    let old = c.args.chunks.now in
    let new = c.hear_at.new.chunks in
    hears_no_reply c.args.routes.now old new c.args.self.now c.args.port k c.requires.ready (sym c.group.ensures ∙ c.in-Some.is) c.args.out.now.items
    (subst (λ n. HasHeardAt n k old None new) number (subst (λ (r : Option Reply). HasHeardAt c.number-number.result k old r new) c.in_default-2.is c.in_ok-reply.ensures.went))

pub take-requires-clause-reply : goal.take-requires-clause-reply
take-requires-clause-reply g c =
    let number = c.number-number.ensures.number ∙ ap (λ (h : HostIs). mount_number h.mount) c.self.view_is in
    reply_answers c.args.routes.now c.args.chunks.now c.args.self.now c.args.port c.in-Some.group c.number-number.result c.in_ok-reply.field-0 c.in-Some-2.reply c.requires.ready.is_host (sym c.group.ensures ∙ c.in-Some.is) number
    c.in_ok-reply.ensures.answers c.in-Some-2.is

pub returns-clause-went : goal.returns-clause-went
returns-clause-went g c =
    let number = c.number-number.ensures.number ∙ ap (λ (h : HostIs). mount_number h.mount) c.self.view_is in
    let host = c.args.self.now in
    let port = c.args.port in
    let k = c.in-Some.group in
    let old = c.args.chunks.now in
    let new = c.hear_at.new.chunks in
    let reply = c.in-Some-2.reply in
    let before = c.args.out.now.items in
    let after = c.take.new.out.items in
    let d = subst (λ n. HasHeardAt n k old (Some reply) new) number (subst (λ (r : Option Reply). HasHeardAt c.number-number.result k old r new) c.in-Some-2.is c.in_ok-reply.ensures.went) in
    on_ok_weaker c.take.result
    (λ (t : MountHasTaken port reply before host after c.take.new.self).
    hears_reply c.args.routes.now old new host port k c.requires.ready (sym c.group.ensures ∙ c.in-Some.is) reply d before after c.take.new.self t
    (λ other apart. c.pending_asks_stay.ensures.answered host.mount port other reply (omega (arith, c.requires.port)) apart)
    (c.layouts_stay.ensures.answered host.mount port reply))
    c.take.ensures

pub returns-clause-err : goal.returns-clause-err
returns-clause-err g c =
    let number = c.number-number.ensures.number ∙ ap (λ (h : HostIs). mount_number h.mount) c.self.view_is in
    let k = c.in-Some.group in
    let old = c.args.chunks.now in
    let new = c.hear_at.new.chunks in
    let reply = c.in-Some-2.reply in
    let d = subst (λ n. HasHeardAt n k old (Some reply) new) number (subst (λ (r : Option Reply). HasHeardAt c.number-number.result k old r new) c.in-Some-2.is c.in_ok-reply.ensures.went) in
    on_err c.take.result _ (not_taken c.args.routes.now old new c.args.self.now c.args.port k c.requires.ready (sym c.group.ensures ∙ c.in-Some.is) reply d)
