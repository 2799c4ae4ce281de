use Rattle.std.proofs.Common.{◌≡◌, ℕ, length, ap, subst, ◌∙◌}
use Rattle.pf_journal.specs.declared.layouts.Layout.{Layout}
use Rattle.pf_journal.specs.Layouts.{layout_of}
use Rattle.pf_mount_errands.specs.Positions.{anchors_of}
use Rattle.pf_mount.specs.Mounts.{MountIs}
use Rattle.pf_mount.specs.Standing.{IsMount}
use Rattle.pf_mount.proofs.PortAsks.{data_awaits, data_inside}
use Rattle.pf_mount.proofs.mount.Mount.ask.Goals as goal

-- the port for file data
its_last : (m : MountIs) (l : Layout) (count : ℕ) → count ≡ length (layout_of l).anchors → l ≡ m.position.layout → count ≡ anchors_of m.position
its_last m l count is same = is ∙ ap (λ (x : Layout). length (layout_of x).anchors) same

pub returns-then-port-anchors-clause-inside : goal.returns-then-port-anchors-clause-inside
returns-then-port-anchors-clause-inside c = data_inside c.args.self.now c.args.busy.now (subst IsMount c.self.view_is c.self.invariant) c.data_ask.result c.data_ask.ensures.ask

pub returns-then-port-anchors-clause-awaits : goal.returns-then-port-anchors-clause-awaits
returns-then-port-anchors-clause-awaits c =
    let m : MountIs = record { files = c.self.inside.files; upto = c.self.inside.upto; position = c.self.inside.position; errands = c.self.inside.errands; task = c.self.inside.task } in
    data_awaits c.args.self.now c.args.busy.now (subst IsMount c.self.view_is c.self.invariant) c.data_ask.result c.data_ask.ensures.ask c.data_ask.new.self c.data_ask.ensures.asked c.args.port
    (c.if-port-anchors.true ∙ its_last m c.layout.result c.anchors.result c.anchors.ensures.count c.layout.ensures.layout ∙ ap (λ (x : MountIs). anchors_of x.position) c.self.view_is)
