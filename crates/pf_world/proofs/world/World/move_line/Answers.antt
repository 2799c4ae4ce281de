use Rattle.std.proofs.Common.{◌≡◌, ◌+◌, nat_le, true, false, ◌++◌, length, reverse, refl, sym, ap, subst, ◌∙◌, arith}
use Rattle.std.specs.Option.{is_some}
use Rattle.pf_script.specs.declared.command.Command.TheVariants as commands
use Rattle.pf_report.specs.declared.refusals.LineRefusal.TheVariants as refusals
use Rattle.pf_report.specs.Refusals.{line_refusal_text}
use Rattle.pf_live_session.specs.pf_group.specs.Making as groups
use Rattle.pf_world_hosts.specs.Steps.{FleetPart}
use Rattle.pf_world_hosts.specs.Volumes.{all_step, volume_followed, volume_quietly}
use Rattle.pf_world_hosts.proofs.Parts.{then_stopped, went_on}
use Rattle.pf_world.specs.Disks.{six_list}
use Rattle.pf_world.specs.Lines.{is_of_mounts}
use Rattle.pf_world.specs.Making.{HasMadeMore}
use Rattle.pf_world.specs.Steps.{LineHasFailed, HasRun}
use Rattle.pf_world.specs.Worlds as worlds
use Rattle.pf_world.specs.Views.{IsWorld, WorldIs, WorldOn}
use Rattle.pf_world.proofs.LineFailures.{on_err}
use Rattle.pf_world.proofs.VolumeEvents.{chunks_ready}
use Rattle.pf_world.proofs.Mounts.{quiet_gone}
use Rattle.pf_world.proofs.MoveLines.{few_groups, last_grown, moved_fails, moved_runs, moved_silent, none_keeps, none_more, none_moving, one_more, raised, raised_world, raw_line, refused_line, stays_fails, stays_runs, unbegun_fails, went_stopped}
use Rattle.pf_world.proofs.Results.{on_ok}
use Rattle.pf_world.proofs.world.World.move_line.Goals as goal

-- nothing, and then a step of each host and of the mover
abbrev waiting : FleetPart
waiting halts v = volume_followed (volume_quietly v) (all_step halts)

pub returns-then-not-is_of_mounts-clause-ran : goal.returns-then-not-is_of_mounts-clause-ran
returns-then-not-is_of_mounts-clause-ran g c =
    let i = c.self.inside in
    let old : WorldIs = record { sectors = i.sectors; names = i.names; format = i.format; chunks = i.chunks.items; fleet = i.fleet; moves = i.moves; kind = i.kind; passes = i.passes } in
    let same : old ≡ c.args.self.now.world = ap (λ (o : WorldOn g.row.D.Denot). o.world) c.self.view_is in
    let world : IsWorld old = subst IsWorld (sym same) c.requires.world in
    let number = c.args.number in let chunk = c.args.chunk in let before = c.args.out.now.items in
    let raw : is_of_mounts i.kind ≡ false = sym c.if-not-is_of_mounts.ensures in
    let after = c.put_line_refusal.new.out.items in
    on_ok c.put_line_refusal.result _ _ (λ put. subst (λ (x : WorldIs). HasRun x number (commands.Move chunk) before after (raised old)) same
    (stays_runs old number chunk (λ halts v. volume_quietly v) old.chunks old.fleet world before before after (line_refusal_text refusals.Raw) (quiet_gone old world before) put refl refl (raw_line old number chunk raw))) c.put_line_refusal.ensures.ok

pub returns-then-not-is_of_mounts-clause-err : goal.returns-then-not-is_of_mounts-clause-err
returns-then-not-is_of_mounts-clause-err g c =
    let i = c.self.inside in
    let old : WorldIs = record { sectors = i.sectors; names = i.names; format = i.format; chunks = i.chunks.items; fleet = i.fleet; moves = i.moves; kind = i.kind; passes = i.passes } in
    let same : old ≡ c.args.self.now.world = ap (λ (o : WorldOn g.row.D.Denot). o.world) c.self.view_is in
    let world : IsWorld old = subst IsWorld (sym same) c.requires.world in
    let number = c.args.number in let chunk = c.args.chunk in let before = c.args.out.now.items in
    let raw : is_of_mounts i.kind ≡ false = sym c.if-not-is_of_mounts.ensures in
    on_err c.put_line_refusal.result _ (subst (λ (x : WorldIs). LineHasFailed x number (commands.Move chunk) (raised old)) same
    (stays_fails old number chunk (λ halts v. volume_quietly v) old.chunks old.fleet (went_stopped (λ halts v. volume_quietly v) old.chunks old.chunks old.fleet old.fleet before before (quiet_gone old world before)) (λ halts. ap (λ (t : worlds.WorldTold). t.world.volume.chunks) (raw_line old number chunk raw halts))))

pub returns-then-not-is_of_mounts-clause-made : goal.returns-then-not-is_of_mounts-clause-made
returns-then-not-is_of_mounts-clause-made g c =
    let i = c.self.inside in
    let old : WorldIs = record { sectors = i.sectors; names = i.names; format = i.format; chunks = i.chunks.items; fleet = i.fleet; moves = i.moves; kind = i.kind; passes = i.passes } in
    let same : old ≡ c.args.self.now.world = ap (λ (o : WorldOn g.row.D.Denot). o.world) c.self.view_is in
    let world : IsWorld old = subst IsWorld (sym same) c.requires.world in
    let number = c.args.number in let chunk = c.args.chunk in let before = c.args.out.now.items in
    let on : WorldOn g.row.D.Denot = record { world = old; spare = reverse i.spare.items } in
    let now : WorldOn g.row.D.Denot = record { world = raised old; spare = reverse i.spare.items } in
    subst (λ (x : WorldOn g.row.D.Denot). HasMadeMore g.D.Disk.faults x now) c.self.view_is (none_more g.D.Disk.faults on now refl refl)

pub step_hosts-requires-clause-ready : goal.step_hosts-requires-clause-ready
step_hosts-requires-clause-ready g c κs within =
    let i = c.self.inside in
    let old : WorldIs = record { sectors = i.sectors; names = i.names; format = i.format; chunks = i.chunks.items; fleet = i.fleet; moves = i.moves; kind = i.kind; passes = i.passes } in
    let same : old ≡ c.args.self.now.world = ap (λ (o : WorldOn g.row.D.Denot). o.world) c.self.view_is in
    let world : IsWorld old = subst IsWorld (sym same) c.requires.world in
    let number = c.args.number in let chunk = c.args.chunk in let before = c.args.out.now.items in
    chunks_ready old world

pub step_hosts-requires-clause-fleet : goal.step_hosts-requires-clause-fleet
step_hosts-requires-clause-fleet g c κs within =
    let i = c.self.inside in
    let old : WorldIs = record { sectors = i.sectors; names = i.names; format = i.format; chunks = i.chunks.items; fleet = i.fleet; moves = i.moves; kind = i.kind; passes = i.passes } in
    let same : old ≡ c.args.self.now.world = ap (λ (o : WorldOn g.row.D.Denot). o.world) c.self.view_is in
    let world : IsWorld old = subst IsWorld (sym same) c.requires.world in
    let number = c.args.number in let chunk = c.args.chunk in let before = c.args.out.now.items in
    world.is_fleet

pub returns-in-Some-clause-ran : goal.returns-in-Some-clause-ran
returns-in-Some-clause-ran g c =
    let i = c.self.inside in
    let old : WorldIs = record { sectors = i.sectors; names = i.names; format = i.format; chunks = i.chunks.items; fleet = i.fleet; moves = i.moves; kind = i.kind; passes = i.passes } in
    let same : old ≡ c.args.self.now.world = ap (λ (o : WorldOn g.row.D.Denot). o.world) c.self.view_is in
    let world : IsWorld old = subst IsWorld (sym same) c.requires.world in
    let number = c.args.number in let chunk = c.args.chunk in let before = c.args.out.now.items in
    let mounted : is_of_mounts i.kind ≡ true = sym c.if-not-is_of_mounts.ensures in
    let refusal = c.in-Some.refusal in let next = c.step_hosts.new.self.world in let middle = c.step_hosts.new.out.items in
    let keeps = sym c.keeps_from_moving.ensures ∙ c.in-Some.is in
    let went = went_on (λ halts v. volume_quietly v) all_step old.chunks old.chunks next.chunks old.fleet old.fleet next.fleet before before middle (quiet_gone old world before) c.in_ok-step_hosts.ensures.went in
    let after = c.put_line_refusal-in-Some.new.out.items in
    on_ok c.put_line_refusal-in-Some.result _ _ (λ put. subst (λ (x : WorldIs). HasRun x number (commands.Move chunk) before after next) same
    (subst (HasRun old number (commands.Move chunk) before after) (sym c.step_hosts.ensures.others)
    (stays_runs old number chunk waiting next.chunks next.fleet world before middle after (line_refusal_text refusal) went put
    c.in_ok-step_hosts.ensures.same.volume c.in_ok-step_hosts.ensures.same.calls (λ halts. refused_line old number chunk mounted halts refusal keeps)))) c.put_line_refusal-in-Some.ensures.ok

pub returns-in-Some-clause-err : goal.returns-in-Some-clause-err
returns-in-Some-clause-err g c =
    let i = c.self.inside in
    let old : WorldIs = record { sectors = i.sectors; names = i.names; format = i.format; chunks = i.chunks.items; fleet = i.fleet; moves = i.moves; kind = i.kind; passes = i.passes } in
    let same : old ≡ c.args.self.now.world = ap (λ (o : WorldOn g.row.D.Denot). o.world) c.self.view_is in
    let world : IsWorld old = subst IsWorld (sym same) c.requires.world in
    let number = c.args.number in let chunk = c.args.chunk in let before = c.args.out.now.items in
    let mounted : is_of_mounts i.kind ≡ true = sym c.if-not-is_of_mounts.ensures in
    let refusal = c.in-Some.refusal in let next = c.step_hosts.new.self.world in let middle = c.step_hosts.new.out.items in
    let keeps = sym c.keeps_from_moving.ensures ∙ c.in-Some.is in
    let went = went_on (λ halts v. volume_quietly v) all_step old.chunks old.chunks next.chunks old.fleet old.fleet next.fleet before before middle (quiet_gone old world before) c.in_ok-step_hosts.ensures.went in
    on_err c.put_line_refusal-in-Some.result _ (subst (λ (x : WorldIs). LineHasFailed x number (commands.Move chunk) next) same
    (subst (LineHasFailed old number (commands.Move chunk)) (sym c.step_hosts.ensures.others)
    (stays_fails old number chunk waiting next.chunks next.fleet (went_stopped waiting old.chunks next.chunks old.fleet next.fleet before middle went) (λ halts. ap (λ (t : worlds.WorldTold). t.world.volume.chunks) (refused_line old number chunk mounted halts refusal keeps)))))

pub returns-in_err-step_hosts-clause-err : goal.returns-in_err-step_hosts-clause-err
returns-in_err-step_hosts-clause-err g c =
    let i = c.self.inside in
    let old : WorldIs = record { sectors = i.sectors; names = i.names; format = i.format; chunks = i.chunks.items; fleet = i.fleet; moves = i.moves; kind = i.kind; passes = i.passes } in
    let same : old ≡ c.args.self.now.world = ap (λ (o : WorldOn g.row.D.Denot). o.world) c.self.view_is in
    let world : IsWorld old = subst IsWorld (sym same) c.requires.world in
    let number = c.args.number in let chunk = c.args.chunk in let before = c.args.out.now.items in
    let mounted : is_of_mounts i.kind ≡ true = sym c.if-not-is_of_mounts.ensures in
    let refusal = c.in-Some.refusal in let next = c.step_hosts.new.self.world in let middle = c.step_hosts.new.out.items in
    let keeps = sym c.keeps_from_moving.ensures ∙ c.in-Some.is in
    let stopped = then_stopped (λ halts v. volume_quietly v) all_step old.chunks old.chunks next.chunks old.fleet old.fleet before before (quiet_gone old world before) c.in_err-step_hosts.ensures.err in
    on_err c.from_residual.result _ (subst (λ (x : WorldIs). LineHasFailed x number (commands.Move chunk) next) same
    (subst (LineHasFailed old number (commands.Move chunk)) (sym c.step_hosts.ensures.others)
    (stays_fails old number chunk waiting next.chunks next.fleet stopped (λ halts. ap (λ (t : worlds.WorldTold). t.world.volume.chunks) (refused_line old number chunk mounted halts refusal keeps)))))

pub returns-in-Some-clause-made : goal.returns-in-Some-clause-made
returns-in-Some-clause-made g c =
    let i = c.self.inside in
    let old : WorldIs = record { sectors = i.sectors; names = i.names; format = i.format; chunks = i.chunks.items; fleet = i.fleet; moves = i.moves; kind = i.kind; passes = i.passes } in
    let same : old ≡ c.args.self.now.world = ap (λ (o : WorldOn g.row.D.Denot). o.world) c.self.view_is in
    let world : IsWorld old = subst IsWorld (sym same) c.requires.world in
    let number = c.args.number in let chunk = c.args.chunk in let before = c.args.out.now.items in
    let on : WorldOn g.row.D.Denot = record { world = old; spare = reverse i.spare.items } in
    subst (λ (x : WorldOn g.row.D.Denot). HasMadeMore g.D.Disk.faults x c.step_hosts.new.self) c.self.view_is (none_more g.D.Disk.faults on c.step_hosts.new.self c.step_hosts.ensures.spare c.in_ok-step_hosts.ensures.went.grown.count)

pub returns-in_err-step_hosts-clause-made : goal.returns-in_err-step_hosts-clause-made
returns-in_err-step_hosts-clause-made g c =
    let i = c.self.inside in
    let old : WorldIs = record { sectors = i.sectors; names = i.names; format = i.format; chunks = i.chunks.items; fleet = i.fleet; moves = i.moves; kind = i.kind; passes = i.passes } in
    let same : old ≡ c.args.self.now.world = ap (λ (o : WorldOn g.row.D.Denot). o.world) c.self.view_is in
    let world : IsWorld old = subst IsWorld (sym same) c.requires.world in
    let number = c.args.number in let chunk = c.args.chunk in let before = c.args.out.now.items in
    let on : WorldOn g.row.D.Denot = record { world = old; spare = reverse i.spare.items } in
    subst (λ (x : WorldOn g.row.D.Denot). HasMadeMore g.D.Disk.faults x c.step_hosts.new.self) c.self.view_is (none_more g.D.Disk.faults on c.step_hosts.new.self c.step_hosts.ensures.spare c.in_err-step_hosts.ensures.err.grown.count)

pub begin_move-requires-clause-world : goal.begin_move-requires-clause-world
begin_move-requires-clause-world g c κs within =
    let i = c.self.inside in
    let old : WorldIs = record { sectors = i.sectors; names = i.names; format = i.format; chunks = i.chunks.items; fleet = i.fleet; moves = i.moves; kind = i.kind; passes = i.passes } in
    let same : old ≡ c.args.self.now.world = ap (λ (o : WorldOn g.row.D.Denot). o.world) c.self.view_is in
    let world : IsWorld old = subst IsWorld (sym same) c.requires.world in
    let number = c.args.number in let chunk = c.args.chunk in let before = c.args.out.now.items in
    raised_world old world

pub begin_move-requires-clause-none : goal.begin_move-requires-clause-none
begin_move-requires-clause-none g c κs within =
    let i = c.self.inside in
    let old : WorldIs = record { sectors = i.sectors; names = i.names; format = i.format; chunks = i.chunks.items; fleet = i.fleet; moves = i.moves; kind = i.kind; passes = i.passes } in
    let same : old ≡ c.args.self.now.world = ap (λ (o : WorldOn g.row.D.Denot). o.world) c.self.view_is in
    let world : IsWorld old = subst IsWorld (sym same) c.requires.world in
    let number = c.args.number in let chunk = c.args.chunk in let before = c.args.out.now.items in
    let mounted : is_of_mounts i.kind ≡ true = sym c.if-not-is_of_mounts.ensures in
    let keeps = none_keeps (is_some old.fleet.routes.moving) (nat_le 8 (length old.chunks)) (sym c.keeps_from_moving.ensures ∙ c.in_default.is) in
    none_moving old.fleet.routes.moving keeps.0

pub begin_move-requires-clause-few : goal.begin_move-requires-clause-few
begin_move-requires-clause-few g c κs within =
    let i = c.self.inside in
    let old : WorldIs = record { sectors = i.sectors; names = i.names; format = i.format; chunks = i.chunks.items; fleet = i.fleet; moves = i.moves; kind = i.kind; passes = i.passes } in
    let same : old ≡ c.args.self.now.world = ap (λ (o : WorldOn g.row.D.Denot). o.world) c.self.view_is in
    let world : IsWorld old = subst IsWorld (sym same) c.requires.world in
    let number = c.args.number in let chunk = c.args.chunk in let before = c.args.out.now.items in
    let mounted : is_of_mounts i.kind ≡ true = sym c.if-not-is_of_mounts.ensures in
    let keeps = none_keeps (is_some old.fleet.routes.moving) (nat_le 8 (length old.chunks)) (sym c.keeps_from_moving.ensures ∙ c.in_default.is) in
    few_groups (length old.chunks) keeps.1

pub begin_move-requires-clause-moves : goal.begin_move-requires-clause-moves
begin_move-requires-clause-moves g c κs within =
    let i = c.self.inside in
    let old : WorldIs = record { sectors = i.sectors; names = i.names; format = i.format; chunks = i.chunks.items; fleet = i.fleet; moves = i.moves; kind = i.kind; passes = i.passes } in
    let same : old ≡ c.args.self.now.world = ap (λ (o : WorldOn g.row.D.Denot). o.world) c.self.view_is in
    let world : IsWorld old = subst IsWorld (sym same) c.requires.world in
    let number = c.args.number in let chunk = c.args.chunk in let before = c.args.out.now.items in
    let mounted : is_of_mounts i.kind ≡ true = sym c.if-not-is_of_mounts.ensures in
    let keeps = none_keeps (is_some old.fleet.routes.moving) (nat_le 8 (length old.chunks)) (sym c.keeps_from_moving.ensures ∙ c.in_default.is) in
    omega (arith, world.few)

pub returns-in_err-group-clause-err : goal.returns-in_err-group-clause-err
returns-in_err-group-clause-err g c =
    let i = c.self.inside in
    let old : WorldIs = record { sectors = i.sectors; names = i.names; format = i.format; chunks = i.chunks.items; fleet = i.fleet; moves = i.moves; kind = i.kind; passes = i.passes } in
    let same : old ≡ c.args.self.now.world = ap (λ (o : WorldOn g.row.D.Denot). o.world) c.self.view_is in
    let world : IsWorld old = subst IsWorld (sym same) c.requires.world in
    let number = c.args.number in let chunk = c.args.chunk in let before = c.args.out.now.items in
    let mounted : is_of_mounts i.kind ≡ true = sym c.if-not-is_of_mounts.ensures in
    let keeps = none_keeps (is_some old.fleet.routes.moving) (nat_le 8 (length old.chunks)) (sym c.keeps_from_moving.ensures ∙ c.in_default.is) in
    let now : WorldOn g.row.D.Denot = record { world = raised old; spare = reverse i.spare.items } in
    on_err c.from_residual-in_err-group.result _ (subst (λ (x : WorldIs). LineHasFailed x number (commands.Move chunk) c.begin_move.new.self.world) same
    (subst (λ (x : WorldOn g.row.D.Denot). LineHasFailed old number (commands.Move chunk) x.world) (sym c.in_err-group.ensures.err) (unbegun_fails old number chunk mounted keeps.0 keeps.1)))

pub returns-in_err-group-clause-made : goal.returns-in_err-group-clause-made
returns-in_err-group-clause-made g c =
    let i = c.self.inside in
    let old : WorldIs = record { sectors = i.sectors; names = i.names; format = i.format; chunks = i.chunks.items; fleet = i.fleet; moves = i.moves; kind = i.kind; passes = i.passes } in
    let same : old ≡ c.args.self.now.world = ap (λ (o : WorldOn g.row.D.Denot). o.world) c.self.view_is in
    let world : IsWorld old = subst IsWorld (sym same) c.requires.world in
    let number = c.args.number in let chunk = c.args.chunk in let before = c.args.out.now.items in
    let on : WorldOn g.row.D.Denot = record { world = old; spare = reverse i.spare.items } in
    let now : WorldOn g.row.D.Denot = record { world = raised old; spare = reverse i.spare.items } in
    subst (λ (x : WorldOn g.row.D.Denot). HasMadeMore g.D.Disk.faults x c.begin_move.new.self) c.self.view_is
    (subst (HasMadeMore g.D.Disk.faults on) (sym c.in_err-group.ensures.err) (none_more g.D.Disk.faults on now refl refl))

pub step_hosts-requires-2-clause-ready : goal.step_hosts-requires-2-clause-ready
step_hosts-requires-2-clause-ready g c κs within =
    let i = c.self.inside in
    let old : WorldIs = record { sectors = i.sectors; names = i.names; format = i.format; chunks = i.chunks.items; fleet = i.fleet; moves = i.moves; kind = i.kind; passes = i.passes } in
    let same : old ≡ c.args.self.now.world = ap (λ (o : WorldOn g.row.D.Denot). o.world) c.self.view_is in
    let world : IsWorld old = subst IsWorld (sym same) c.requires.world in
    let number = c.args.number in let chunk = c.args.chunk in let before = c.args.out.now.items in
    let b = c.in_ok-group.ensures.begun in
    b.begun.ready

pub step_hosts-requires-2-clause-fleet : goal.step_hosts-requires-2-clause-fleet
step_hosts-requires-2-clause-fleet g c κs within =
    let i = c.self.inside in
    let old : WorldIs = record { sectors = i.sectors; names = i.names; format = i.format; chunks = i.chunks.items; fleet = i.fleet; moves = i.moves; kind = i.kind; passes = i.passes } in
    let same : old ≡ c.args.self.now.world = ap (λ (o : WorldOn g.row.D.Denot). o.world) c.self.view_is in
    let world : IsWorld old = subst IsWorld (sym same) c.requires.world in
    let number = c.args.number in let chunk = c.args.chunk in let before = c.args.out.now.items in
    let b = c.in_ok-group.ensures.begun in
    b.begun.is_fleet

pub returns-clause-ran : goal.returns-clause-ran
returns-clause-ran g c =
    let i = c.self.inside in
    let old : WorldIs = record { sectors = i.sectors; names = i.names; format = i.format; chunks = i.chunks.items; fleet = i.fleet; moves = i.moves; kind = i.kind; passes = i.passes } in
    let same : old ≡ c.args.self.now.world = ap (λ (o : WorldOn g.row.D.Denot). o.world) c.self.view_is in
    let world : IsWorld old = subst IsWorld (sym same) c.requires.world in
    let number = c.args.number in let chunk = c.args.chunk in let before = c.args.out.now.items in
    let mounted : is_of_mounts i.kind ≡ true = sym c.if-not-is_of_mounts.ensures in
    let keeps = none_keeps (is_some old.fleet.routes.moving) (nat_le 8 (length old.chunks)) (sym c.keeps_from_moving.ensures ∙ c.in_default.is) in
    let b = c.in_ok-group.ensures.begun in let between = c.begin_move.new.self.world in let next = c.step_hosts-2.new.self.world in let middle = c.step_hosts-2.new.out.items in
    let faults = groups.six_faults g.D.Disk.faults b.made.six in
    let is : next ≡ record old { chunks = next.chunks; fleet = next.fleet; moves = old.moves + 1 } = c.step_hosts-2.ensures.others ∙ ap (λ (x : WorldIs). record x { chunks = next.chunks; fleet = next.fleet }) b.others in
    let after = c.put_moving.new.out.items in
    on_ok c.put_moving.result _ _ (λ put. subst (λ (x : WorldIs). HasRun x number (commands.Move chunk) before after next) same
    (subst (HasRun old number (commands.Move chunk) before after) (sym is)
    (moved_runs old number chunk mounted keeps.0 keeps.1 world.sectors_are b.group g.D.Disk.tells faults b.answer b.made.made b.made.run between.chunks between.fleet b.begun next.chunks next.fleet (subst IsWorld b.others b.is_world) before middle after c.in_ok-step_hosts-2.ensures.went c.in_ok-step_hosts-2.ensures.same c.in_ok-group.group b.number_is put))) c.put_moving.ensures.ok

pub returns-clause-err : goal.returns-clause-err
returns-clause-err g c =
    let i = c.self.inside in
    let old : WorldIs = record { sectors = i.sectors; names = i.names; format = i.format; chunks = i.chunks.items; fleet = i.fleet; moves = i.moves; kind = i.kind; passes = i.passes } in
    let same : old ≡ c.args.self.now.world = ap (λ (o : WorldOn g.row.D.Denot). o.world) c.self.view_is in
    let world : IsWorld old = subst IsWorld (sym same) c.requires.world in
    let number = c.args.number in let chunk = c.args.chunk in let before = c.args.out.now.items in
    let mounted : is_of_mounts i.kind ≡ true = sym c.if-not-is_of_mounts.ensures in
    let keeps = none_keeps (is_some old.fleet.routes.moving) (nat_le 8 (length old.chunks)) (sym c.keeps_from_moving.ensures ∙ c.in_default.is) in
    let b = c.in_ok-group.ensures.begun in let between = c.begin_move.new.self.world in let next = c.step_hosts-2.new.self.world in let middle = c.step_hosts-2.new.out.items in
    let faults = groups.six_faults g.D.Disk.faults b.made.six in
    let is : next ≡ record old { chunks = next.chunks; fleet = next.fleet; moves = old.moves + 1 } = c.step_hosts-2.ensures.others ∙ ap (λ (x : WorldIs). record x { chunks = next.chunks; fleet = next.fleet }) b.others in
    on_err c.put_moving.result _ (subst (λ (x : WorldIs). LineHasFailed x number (commands.Move chunk) next) same
    (subst (LineHasFailed old number (commands.Move chunk)) (sym is) (moved_silent old number chunk mounted keeps.0 keeps.1 world.sectors_are b.group g.D.Disk.tells faults b.answer b.made.made b.made.run between.chunks between.fleet b.begun next.chunks next.fleet before middle c.in_ok-step_hosts-2.ensures.went)))

pub returns-in_err-step_hosts-2-clause-err : goal.returns-in_err-step_hosts-2-clause-err
returns-in_err-step_hosts-2-clause-err g c =
    let i = c.self.inside in
    let old : WorldIs = record { sectors = i.sectors; names = i.names; format = i.format; chunks = i.chunks.items; fleet = i.fleet; moves = i.moves; kind = i.kind; passes = i.passes } in
    let same : old ≡ c.args.self.now.world = ap (λ (o : WorldOn g.row.D.Denot). o.world) c.self.view_is in
    let world : IsWorld old = subst IsWorld (sym same) c.requires.world in
    let number = c.args.number in let chunk = c.args.chunk in let before = c.args.out.now.items in
    let mounted : is_of_mounts i.kind ≡ true = sym c.if-not-is_of_mounts.ensures in
    let keeps = none_keeps (is_some old.fleet.routes.moving) (nat_le 8 (length old.chunks)) (sym c.keeps_from_moving.ensures ∙ c.in_default.is) in
    let b = c.in_ok-group.ensures.begun in let between = c.begin_move.new.self.world in let next = c.step_hosts-2.new.self.world in let middle = c.step_hosts-2.new.out.items in
    let faults = groups.six_faults g.D.Disk.faults b.made.six in
    let is : next ≡ record old { chunks = next.chunks; fleet = next.fleet; moves = old.moves + 1 } = c.step_hosts-2.ensures.others ∙ ap (λ (x : WorldIs). record x { chunks = next.chunks; fleet = next.fleet }) b.others in
    on_err c.from_residual-in_err-step_hosts-2.result _ (subst (λ (x : WorldIs). LineHasFailed x number (commands.Move chunk) next) same
    (subst (LineHasFailed old number (commands.Move chunk)) (sym is) (moved_fails old number chunk mounted keeps.0 keeps.1 world.sectors_are b.group g.D.Disk.tells faults b.answer b.made.made b.made.run between.chunks between.fleet b.begun next.chunks next.fleet c.in_err-step_hosts-2.ensures.err)))

pub returns-clause-made : goal.returns-clause-made
returns-clause-made g c =
    let i = c.self.inside in
    let old : WorldIs = record { sectors = i.sectors; names = i.names; format = i.format; chunks = i.chunks.items; fleet = i.fleet; moves = i.moves; kind = i.kind; passes = i.passes } in
    let same : old ≡ c.args.self.now.world = ap (λ (o : WorldOn g.row.D.Denot). o.world) c.self.view_is in
    let world : IsWorld old = subst IsWorld (sym same) c.requires.world in
    let number = c.args.number in let chunk = c.args.chunk in let before = c.args.out.now.items in
    let mounted : is_of_mounts i.kind ≡ true = sym c.if-not-is_of_mounts.ensures in
    let keeps = none_keeps (is_some old.fleet.routes.moving) (nat_le 8 (length old.chunks)) (sym c.keeps_from_moving.ensures ∙ c.in_default.is) in
    let b = c.in_ok-group.ensures.begun in let between = c.begin_move.new.self.world in let next = c.step_hosts-2.new.self.world in let middle = c.step_hosts-2.new.out.items in
    let faults = groups.six_faults g.D.Disk.faults b.made.six in
    let is : next ≡ record old { chunks = next.chunks; fleet = next.fleet; moves = old.moves + 1 } = c.step_hosts-2.ensures.others ∙ ap (λ (x : WorldIs). record x { chunks = next.chunks; fleet = next.fleet }) b.others in
    let on : WorldOn g.row.D.Denot = record { world = old; spare = reverse i.spare.items } in
    subst (λ (x : WorldOn g.row.D.Denot). HasMadeMore g.D.Disk.faults x c.step_hosts-2.new.self) c.self.view_is
    (one_more g.D.Disk.faults on c.step_hosts-2.new.self b.made.six g.D.Disk.tells b.answer b.group.group (b.made.given ∙ ap (λ ds. six_list b.made.six ++ ds) (sym c.step_hosts-2.ensures.spare)) (omega (arith, c.in_ok-step_hosts-2.ensures.went.grown.count, b.begun.count)) b.made.made
    (last_grown old number chunk mounted keeps.0 keeps.1 world.sectors_are b.group g.D.Disk.tells faults b.answer b.made.made b.made.run between.chunks between.fleet b.begun next.chunks c.in_ok-step_hosts-2.ensures.went.grown))

pub returns-in_err-step_hosts-2-clause-made : goal.returns-in_err-step_hosts-2-clause-made
returns-in_err-step_hosts-2-clause-made g c =
    let i = c.self.inside in
    let old : WorldIs = record { sectors = i.sectors; names = i.names; format = i.format; chunks = i.chunks.items; fleet = i.fleet; moves = i.moves; kind = i.kind; passes = i.passes } in
    let same : old ≡ c.args.self.now.world = ap (λ (o : WorldOn g.row.D.Denot). o.world) c.self.view_is in
    let world : IsWorld old = subst IsWorld (sym same) c.requires.world in
    let number = c.args.number in let chunk = c.args.chunk in let before = c.args.out.now.items in
    let mounted : is_of_mounts i.kind ≡ true = sym c.if-not-is_of_mounts.ensures in
    let keeps = none_keeps (is_some old.fleet.routes.moving) (nat_le 8 (length old.chunks)) (sym c.keeps_from_moving.ensures ∙ c.in_default.is) in
    let b = c.in_ok-group.ensures.begun in let between = c.begin_move.new.self.world in let next = c.step_hosts-2.new.self.world in let middle = c.step_hosts-2.new.out.items in
    let faults = groups.six_faults g.D.Disk.faults b.made.six in
    let is : next ≡ record old { chunks = next.chunks; fleet = next.fleet; moves = old.moves + 1 } = c.step_hosts-2.ensures.others ∙ ap (λ (x : WorldIs). record x { chunks = next.chunks; fleet = next.fleet }) b.others in
    let on : WorldOn g.row.D.Denot = record { world = old; spare = reverse i.spare.items } in
    subst (λ (x : WorldOn g.row.D.Denot). HasMadeMore g.D.Disk.faults x c.step_hosts-2.new.self) c.self.view_is
    (one_more g.D.Disk.faults on c.step_hosts-2.new.self b.made.six g.D.Disk.tells b.answer b.group.group (b.made.given ∙ ap (λ ds. six_list b.made.six ++ ds) (sym c.step_hosts-2.ensures.spare)) (omega (arith, c.in_err-step_hosts-2.ensures.err.grown.count, b.begun.count)) b.made.made
    (last_grown old number chunk mounted keeps.0 keeps.1 world.sectors_are b.group g.D.Disk.tells faults b.answer b.made.made b.made.run between.chunks between.fleet b.begun next.chunks c.in_err-step_hosts-2.ensures.err.grown))
