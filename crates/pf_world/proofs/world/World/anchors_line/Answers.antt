use Rattle.std.proofs.Common.{◌≡◌, None, sym, ap, subst, ◌∙◌}
use Rattle.pf_script.specs.declared.command.Command.TheVariants.{Anchors}
use Rattle.pf_world.specs.Steps.{LineHasFailed, HasRun}
use Rattle.pf_world.specs.Views.{IsWorld, WorldIs, WorldOn}
use Rattle.pf_world.proofs.AnchorLines.{anchored_runs, anchors_fail, kept_from, kept_runs}
use Rattle.pf_world.proofs.LineFailures.{on_err}
use Rattle.pf_world.proofs.VolumeEvents.{becomes}
use Rattle.pf_world.proofs.Results.{on_ok}
use Rattle.pf_world.proofs.world.World.anchors_line.Goals as goal

pub returns-in-Some-clause-ran : goal.returns-in-Some-clause-ran
returns-in-Some-clause-ran g c =
    let w = c.args.self.now.world in
    let kept = sym c.keeps_from_anchors.ensures ∙ c.in-Some.is in
    let before = c.args.out.now.items in
    let after = c.put_line_refusal.new.out.items in
    on_ok c.put_line_refusal.result _ _ (λ put.
    kept_runs w c.args.number c.requires.world before after c.in-Some.refusal kept put) c.put_line_refusal.ensures.ok

pub returns-in-Some-clause-err : goal.returns-in-Some-clause-err
returns-in-Some-clause-err g c = on_err c.put_line_refusal.result _ (anchors_fail c.args.self.now.world c.args.number c.args.self.now.world.fleet)

pub returns-clause-ran : goal.returns-clause-ran
returns-clause-ran g c =
    let i = c.self.inside in
    let old : WorldIs = record { sectors = i.sectors; names = i.names; format = i.format; chunks = i.chunks.items; fleet = i.fleet; moves = i.moves; kind = i.kind; passes = i.passes } in
    let same : old ≡ c.args.self.now.world = ap (λ (o : WorldOn g.row.D.Denot). o.world) c.self.view_is in
    let free : kept_from old ≡ None = ap kept_from same ∙ sym c.keeps_from_anchors.ensures ∙ c.in_default.is in
    let before = c.args.out.now.items in
    let after = c.put_answer.new.out.items in
    on_ok c.put_answer.result _ _ (λ put.
    subst (λ (x : WorldIs). HasRun x c.args.number Anchors before after (becomes old old.chunks c.anchor.new.self old.kind)) same
    (anchored_runs old c.args.number (subst IsWorld (sym same) c.requires.world) before after c.anchor.new.self c.anchor.ensures free put)) c.put_answer.ensures.ok

pub returns-clause-err : goal.returns-clause-err
returns-clause-err g c =
    let i = c.self.inside in
    let old : WorldIs = record { sectors = i.sectors; names = i.names; format = i.format; chunks = i.chunks.items; fleet = i.fleet; moves = i.moves; kind = i.kind; passes = i.passes } in
    let same : old ≡ c.args.self.now.world = ap (λ (o : WorldOn g.row.D.Denot). o.world) c.self.view_is in
    on_err c.put_answer.result _ (subst (λ (x : WorldIs). LineHasFailed x c.args.number Anchors (becomes old old.chunks c.anchor.new.self old.kind)) same (anchors_fail old c.args.number c.anchor.new.self))
