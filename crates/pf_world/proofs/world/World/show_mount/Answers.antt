use Rattle.std.proofs.Common.{◌≡◌, ◌++◌, IfSome, sym, ap, subst, ◌∙◌}
use Rattle.pf_tree.specs.Listings.{listing}
use Rattle.pf_report.specs.Mounts.{state_text, tree_lines}
use Rattle.pf_report.specs.Refusals.{refusal_text}
use Rattle.pf_report.specs.Texts.{report_line}
use Rattle.pf_world_hosts.specs.Volumes.{host_at}
use Rattle.pf_world.specs.Views.{WorldOn}
use Rattle.pf_world.proofs.LineFailures.{on_err}
use Rattle.pf_world.proofs.Results.{on_ok}
use Rattle.pf_world.proofs.Shown.{mount_shown_fails, no_mount_runs, pending_is, tree_shown}
use Rattle.pf_world.proofs.world.World.show_mount.Goals as goal

pub returns-in_default-clause-ran : goal.returns-in_default-clause-ran
returns-in_default-clause-ran g c =
    let hosts = ap (λ (o : WorldOn g.row.D.Denot). host_at o.world.fleet.hosts c.args.mount) c.self.view_is in
    let before = c.args.out.now.items in
    let after = c.put_refusal.new.out.items in
    on_ok c.put_refusal.result _ _ (λ put.
    no_mount_runs c.args.self.now.world c.args.number c.args.mount c.requires.world before after (sym hosts ∙ c.in_default.ensures)
    (subst (λ n. IfSome (refusal_text n) (λ text. after ≡ before ++ report_line c.args.number text)) c.number.ensures put)) c.put_refusal.ensures.ok

pub returns-in_default-clause-err : goal.returns-in_default-clause-err
returns-in_default-clause-err g c = on_err c.put_refusal.result _ (mount_shown_fails c.args.self.now.world c.args.number c.args.mount)

pub returns-in_err-listing-clause-err : goal.returns-in_err-listing-clause-err
returns-in_err-listing-clause-err g c = on_err c.from_residual.result _ (mount_shown_fails c.args.self.now.world c.args.number c.args.mount)

pub returns-in_err-put_tree-clause-err : goal.returns-in_err-put_tree-clause-err
returns-in_err-put_tree-clause-err g c = on_err c.from_residual-in_err-put_tree.result _ (mount_shown_fails c.args.self.now.world c.args.number c.args.mount)

pub returns-clause-ran : goal.returns-clause-ran
returns-clause-ran g c =
    let host = c.in-Some.host.now in
    let hosts = ap (λ (o : WorldOn g.row.D.Denot). host_at o.world.fleet.hosts c.args.mount) c.self.view_is in
    let before = c.args.out.now.items in
    let middle = c.put_tree.new.out.items in
    let tree : middle ≡ before ++ tree_lines (listing host.mount.files.tables) =
    c.in_ok-put_tree.ensures.ok ∙ ap (λ rows. before ++ tree_lines rows) (c.in_ok-listing.ensures.rows ∙ ap listing c.tree.ensures) in
    on_ok c.put_state.result _ _ (λ put.
    tree_shown c.args.self.now.world c.args.number c.args.mount c.requires.world before c.put_state.new.out.items host middle (sym hosts ∙ c.in-Some.ensures) tree
    (put ∙ ap (λ upto. middle ++ report_line c.args.number (state_text c.args.mount upto c.is_pending.result)) c.upto.ensures.upto
    ∙ ap (λ pending. middle ++ report_line c.args.number (state_text c.args.mount host.mount.upto pending)) (pending_is c.is_pending.result host.mount.task.work c.is_pending.ensures))) c.put_state.ensures.ok

pub returns-clause-err : goal.returns-clause-err
returns-clause-err g c = on_err c.put_state.result _ (mount_shown_fails c.args.self.now.world c.args.number c.args.mount)
