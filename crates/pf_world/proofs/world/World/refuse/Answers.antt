use Rattle.std.proofs.Common.{◌≡◌, length, sym, ap, subst, ◌∙◌}
use Rattle.pf_world.specs.Steps.{LineHasFailed, HasRun}
use Rattle.pf_world.specs.Views.{WorldIs, WorldOn}
use Rattle.pf_world.proofs.LineFailures.{on_err}
use Rattle.pf_world.proofs.Made.{none_made}
use Rattle.pf_world.proofs.Results.{on_ok}
use Rattle.pf_world.proofs.Unmade.{refuses, unmade_fails, unmade_runs}
use Rattle.pf_world.proofs.world.World.refuse.Goals as goal

pub returns-clause-ran : goal.returns-clause-ran
returns-clause-ran g c =
    let w = c.self.inside in
    let old = c.args.self.now.world in
    let command = c.args.command.now in
    let was : WorldIs = record { sectors = w.sectors; names = w.names; format = w.format; chunks = w.chunks.items; fleet = w.fleet; moves = w.moves; kind = w.kind; passes = w.passes } in
    let same : old ≡ was = sym (ap (λ (o : WorldOn g.row.D.Denot). o.world) c.self.view_is) in
    let now : refuses old command ≡ record was { kind = c.kind_after-self-inside.result } = ap (λ (v : WorldIs). refuses v command) same ∙ ap (λ k. let v : WorldIs = record was { kind = k } in v) (sym c.kind_after-self-inside.ensures) in
    on_ok c.put_line_refusal.result _ _ (λ put.
    subst (HasRun old c.args.number command c.args.out.now.items c.put_line_refusal.new.out.items) now
    (unmade_runs old c.args.number command c.requires.unmade c.requires.world c.args.out.now.items c.put_line_refusal.new.out.items put)) c.put_line_refusal.ensures.ok

pub returns-clause-err : goal.returns-clause-err
returns-clause-err g c =
    let w = c.self.inside in
    let old = c.args.self.now.world in
    let command = c.args.command.now in
    let was : WorldIs = record { sectors = w.sectors; names = w.names; format = w.format; chunks = w.chunks.items; fleet = w.fleet; moves = w.moves; kind = w.kind; passes = w.passes } in
    let same : old ≡ was = sym (ap (λ (o : WorldOn g.row.D.Denot). o.world) c.self.view_is) in
    let now : refuses old command ≡ record was { kind = c.kind_after-self-inside.result } = ap (λ (v : WorldIs). refuses v command) same ∙ ap (λ k. let v : WorldIs = record was { kind = k } in v) (sym c.kind_after-self-inside.ensures) in
    on_err c.put_line_refusal.result _ (subst (LineHasFailed old c.args.number command) now (unmade_fails old c.args.number command c.requires.unmade))

pub returns-clause-made : goal.returns-clause-made
returns-clause-made g c =
    none_made g.D.Disk.faults c.args.self.now _ (ap (λ (o : WorldOn g.row.D.Denot). o.spare) c.self.view_is) (ap (λ (o : WorldOn g.row.D.Denot). length o.world.chunks) c.self.view_is)
