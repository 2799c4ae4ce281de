use Rattle.std.proofs.Common.{[], ◌≡◌, ◌∙◌, Some, sym, ap, subst, refl}
use Rattle.std.proofs.lemmas.Result.{on_err_weaker}
use Rattle.pf_report.specs.Refusals.{line_refusal_text}
use Rattle.pf_report.specs.declared.refusals.LineRefusal.TheVariants as refusals
use Rattle.pf_world_hosts.specs.Volumes.{volume_quietly}
use Rattle.pf_world.specs.declared.kind.Kind.TheVariants.{Raw}
use Rattle.pf_world.specs.Lines.{kind_decided}
use Rattle.pf_world.specs.Worlds.{WorldTold}
use Rattle.pf_world.specs.Steps.{LineHasFailed, HasRun, IsOfMade}
use Rattle.pf_world.specs.Views.{IsWorld, WorldIs, WorldOn, world_stands_at}
use Rattle.pf_world.proofs.AskedLines.{allowed_raw, kind_world, made_of, mounted_kind, raw_kind, submit_ends, submit_fails, submit_mounted, submit_plain, submit_runs, submit_stays, submit_within}
use Rattle.pf_world.proofs.ChunkAsks.{asked_asks, asked_group}
use Rattle.pf_world.proofs.LineFailures.{on_err, said_fails}
use Rattle.pf_world.proofs.VolumeEvents.{becomes, said_runs}
use Rattle.pf_world.proofs.Results.{on_ok}
use Rattle.pf_world.proofs.world.World.submit_line.Goals as goal

pub returns-then-is_mounted-clause-ran : goal.returns-then-is_mounted-clause-ran
returns-then-is_mounted-clause-ran g c =
    let w = c.self.inside in
    let old = c.args.self.now.world in
    let same = ap (λ (o : WorldOn g.row.D.Denot). o.world) c.self.view_is in
    let kind = c.decided-kind.result in
    let is : kind ≡ kind_decided old.kind Raw = c.decided-kind.ensures ∙ ap (λ k. kind_decided k Raw) (ap (λ (v : WorldIs). v.kind) same) in
    let command = c.args.command.now in
    let stays : becomes old old.chunks old.fleet (Some kind) ≡ record { sectors = w.sectors; names = w.names; format = w.format; chunks = w.chunks.items; fleet = w.fleet; moves = w.moves; kind = Some kind; passes = w.passes } = ap (λ (v : WorldIs). record v { kind = Some kind }) (sym same) in
    on_ok c.put_line_refusal.result _ _ (λ put.
    subst (HasRun old c.args.number command c.args.out.now.items c.put_line_refusal.new.out.items) stays
    (said_runs old c.args.number command c.requires.world (submit_plain command c.requires.submits) (submit_stays command c.requires.submits old.moves) (Some kind) c.args.out.now.items c.put_line_refusal.new.out.items (line_refusal_text refusals.Mounted) (λ halts v. volume_quietly v) (λ halts. refl) put
    (λ halts tells. submit_mounted command c.requires.submits halts (world_stands_at halts [] old) c.args.number kind (made_of halts [] old command c.requires.made) is (mounted_kind kind (sym c.if-is_mounted.ensures))) (λ halts. submit_ends command c.requires.submits halts (world_stands_at halts [] old)))) c.put_line_refusal.ensures.ok

pub returns-then-is_mounted-clause-err : goal.returns-then-is_mounted-clause-err
returns-then-is_mounted-clause-err g c =
    let w = c.self.inside in
    let old = c.args.self.now.world in
    let same = ap (λ (o : WorldOn g.row.D.Denot). o.world) c.self.view_is in
    let kind = c.decided-kind.result in
    let is : kind ≡ kind_decided old.kind Raw = c.decided-kind.ensures ∙ ap (λ k. kind_decided k Raw) (ap (λ (v : WorldIs). v.kind) same) in
    let command = c.args.command.now in
    let stays : becomes old old.chunks old.fleet (Some kind) ≡ record { sectors = w.sectors; names = w.names; format = w.format; chunks = w.chunks.items; fleet = w.fleet; moves = w.moves; kind = Some kind; passes = w.passes } = ap (λ (v : WorldIs). record v { kind = Some kind }) (sym same) in
    on_err c.put_line_refusal.result _
    (subst (LineHasFailed old c.args.number command) stays
    (said_fails old c.args.number command (submit_within command c.requires.submits old c.args.number) (submit_stays command c.requires.submits old.moves) (Some kind) old.fleet
    (λ halts. ap (λ (t : WorldTold). t.world.volume.chunks) (submit_mounted command c.requires.submits halts (world_stands_at halts [] old) c.args.number kind (made_of halts [] old command c.requires.made) is (mounted_kind kind (sym c.if-is_mounted.ensures))))))

pub ask_line-requires-clause-world : goal.ask_line-requires-clause-world
ask_line-requires-clause-world g c κs within =
    let w = c.self.inside in
    let was : WorldIs = record { sectors = w.sectors; names = w.names; format = w.format; chunks = w.chunks.items; fleet = w.fleet; moves = w.moves; kind = w.kind; passes = w.passes } in
    let same : was ≡ c.args.self.now.world = ap (λ (o : WorldOn g.row.D.Denot). o.world) c.self.view_is in
    kind_world was (Some c.decided-kind.result) (subst IsWorld (sym same) c.requires.world)

pub ask_line-requires-clause-group : goal.ask_line-requires-clause-group
ask_line-requires-clause-group g c κs within =
    let w = c.self.inside in
    let was : WorldIs = record { sectors = w.sectors; names = w.names; format = w.format; chunks = w.chunks.items; fleet = w.fleet; moves = w.moves; kind = w.kind; passes = w.passes } in
    let same : was ≡ c.args.self.now.world = ap (λ (o : WorldOn g.row.D.Denot). o.world) c.self.view_is in
    asked_group was c.args.command.now c.in-Some.group c.in-Some.asked (subst (λ (v : WorldIs). IsOfMade v c.args.command.now) (sym same) c.requires.made) (sym c.in-Some.is ∙ c.asked_of.ensures)

pub ask_line-requires-clause-asked : goal.ask_line-requires-clause-asked
ask_line-requires-clause-asked g c κs within = asked_asks _ c.args.command.now c.in-Some.group c.in-Some.asked c.requires.command (sym c.in-Some.is ∙ c.asked_of.ensures)

pub returns-clause-ran : goal.returns-clause-ran
returns-clause-ran g c =
    let w = c.self.inside in
    let a = c.args in
    let was : WorldIs = record { sectors = w.sectors; names = w.names; format = w.format; chunks = w.chunks.items; fleet = w.fleet; moves = w.moves; kind = w.kind; passes = w.passes } in
    let same : was ≡ a.self.now.world = ap (λ (o : WorldOn g.row.D.Denot). o.world) c.self.view_is in
    let kind = c.decided-kind.result in
    let command = a.command.now in
    let new = c.ask_line.new.self.world in
    on_ok c.ask_line.result _ _ (λ ran.
    subst (λ (x : WorldIs). HasRun x a.number command a.out.now.items c.ask_line.new.out.items new) same
    (submit_runs command c.requires.submits was a.number kind (subst (λ (v : WorldIs). IsOfMade v command) (sym same) c.requires.made) c.decided-kind.ensures a.out.now.items c.ask_line.new.out.items new
    (ran command (sym c.asked_of.ensures ∙ c.in-Some.is) (allowed_raw command kind (raw_kind kind (sym c.if-is_mounted.ensures)))))) c.ask_line.ensures.ran

pub returns-clause-err : goal.returns-clause-err
returns-clause-err g c =
    let w = c.self.inside in
    let a = c.args in
    let was : WorldIs = record { sectors = w.sectors; names = w.names; format = w.format; chunks = w.chunks.items; fleet = w.fleet; moves = w.moves; kind = w.kind; passes = w.passes } in
    let same : was ≡ a.self.now.world = ap (λ (o : WorldOn g.row.D.Denot). o.world) c.self.view_is in
    let kind = c.decided-kind.result in
    let command = a.command.now in
    let new = c.ask_line.new.self.world in
    on_err_weaker c.ask_line.result (λ failed.
    subst (λ (x : WorldIs). LineHasFailed x a.number command new) same
    (submit_fails command c.requires.submits was a.number kind (subst (λ (v : WorldIs). IsOfMade v command) (sym same) c.requires.made) c.decided-kind.ensures new
    (failed command (sym c.asked_of.ensures ∙ c.in-Some.is) (allowed_raw command kind (raw_kind kind (sym c.if-is_mounted.ensures)))))) c.ask_line.ensures.err
