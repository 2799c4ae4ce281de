use Rattle.std.proofs.Common.{◌≡◌, ◌≢◌, IfOk, Option, sym, ap, subst, ◌∙◌, length}
use Rattle.pf_tree.specs.Held.{Held}
use Rattle.pf_file_calls.specs.declared.calls.Pending.{Pending}
use Rattle.pf_journal.specs.declared.layouts.Layout.{Layout}
use Rattle.pf_journal.specs.Layouts.{layout_of}
use Rattle.pf_mount_errands.specs.Positions.{anchors_of}
use Rattle.pf_mount.specs.declared.stand.Stand.{Stand}
use Rattle.pf_mount.specs.declared.stand.MountStep.{MountStep}
use Rattle.pf_mount.specs.Mounts.{data_answered, errand_freed, tables_held, super_filled}
use Rattle.pf_mount.proofs.AnswerSteps.{data_from, filled_from}
use Rattle.pf_mount.proofs.answers.answered.Goals as goal

pub returns-then-port-anchors-clause-makes : goal.returns-then-port-anchors-clause-makes
returns-then-port-anchors-clause-makes c =
    let s = c.args.stand in
    let last : c.anchors.result ≡ anchors_of s.position = c.anchors.ensures.count ∙ ap (λ (l : Layout). length (layout_of l).anchors) c.layout.ensures.layout in
    let P : Held → Type 0 = λ h. IfOk c.data_answered.result (λ step. step ≡ data_answered s h c.args.work.now c.args.reply.now) in
    data_from c.data_answered.result s (tables_held c.args.files.now) c.args.files.now.pending c.args.work.now c.args.port c.args.reply.now (c.if-port-anchors.true ∙ last) (subst P c.tree.ensures.held c.data_answered.ensures)

pub returns-in-FillsSuper-clause-makes : goal.returns-in-FillsSuper-clause-makes
returns-in-FillsSuper-clause-makes c =
    let s = c.args.stand in
    let h = tables_held c.args.files.now in
    let p = c.args.files.now.pending in
    let work = c.args.work.now in
    let last : c.anchors.result ≡ anchors_of s.position = c.anchors.ensures.count ∙ ap (λ (l : Layout). length (layout_of l).anchors) c.layout.ensures.layout in
    let apart : c.args.port ≢ anchors_of s.position = λ e. c.if-port-anchors.false (e ∙ sym last) in
    let P : MountStep → Type 0 = λ x. IfOk c.super_filled.result (λ step. step ≡ x) in
    let same =
    ap (λ (x : Stand). super_filled x c.tree-in-FillsSuper.result.now c.pending-in-FillsSuper.result.now work) c.with-free.ensures
    ∙ ap (λ (x : Held). super_filled (errand_freed s c.args.port) x c.pending-in-FillsSuper.result.now work) c.tree-in-FillsSuper.ensures.held
    ∙ ap (λ (x : Option Pending). super_filled (errand_freed s c.args.port) h x work) c.pending-in-FillsSuper.ensures in
    filled_from c.super_filled.result s h p work c.args.port c.args.reply.now apart (sym c.in-FillsSuper.ensures) (subst P same c.super_filled.ensures)
