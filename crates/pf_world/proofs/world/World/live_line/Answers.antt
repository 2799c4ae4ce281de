use Rattle.std.proofs.Common.{◌≡◌, ◌<◌, length, Some, refl, sym, ap, subst, ◌∙◌}
use Rattle.pf_script.specs.declared.command.Command.TheVariants.{Live}
use Rattle.pf_world.specs.declared.kind.Kind.TheVariants.{Mounted, Raw}
use Rattle.pf_world.specs.Lines.{kind_decided}
use Rattle.pf_world.specs.Steps.{LineHasFailed, HasRun}
use Rattle.pf_world.specs.Views.{IsWorld, WorldIs, WorldOn}
use Rattle.pf_world.proofs.AskedLines.{mounted_kind, raw_kind}
use Rattle.pf_world.proofs.LineFailures.{on_err}
use Rattle.pf_world.proofs.VolumeEvents.{becomes}
use Rattle.pf_world.proofs.LiveLines.{held_fleet, held_ready, hosts_stop, live_runs, text_stops, threads_stop}
use Rattle.pf_world.proofs.Results.{on_ok}
use Rattle.pf_world.proofs.Sessions.{refused_fails, refused_runs}
use Rattle.pf_world.proofs.world.World.live_line.Goals as goal

pub returns-then-is_mounted-clause-ran : goal.returns-then-is_mounted-clause-ran
returns-then-is_mounted-clause-ran g c =
    let i = c.self.inside in
    let old : WorldIs = record { sectors = i.sectors; names = i.names; format = i.format; chunks = i.chunks.items; fleet = i.fleet; moves = i.moves; kind = i.kind; passes = i.passes } in
    let same : old ≡ c.args.self.now.world = ap (λ (o : WorldOn g.row.D.Denot). o.world) c.self.view_is in
    let low = subst (λ (v : WorldIs). c.args.group < length v.chunks) (sym same) c.requires.made in
    let command = Live c.args.group c.args.plan.hosts c.args.plan.writes c.args.plan.workers c.args.plan.turns in
    let mounted : kind_decided i.kind Raw ≡ Mounted = sym c.decided-kind.ensures ∙ mounted_kind c.decided-kind.result (sym c.if-is_mounted.ensures) in
    on_ok c.put_line_refusal.result _ _ (λ put.
    subst (λ k. HasRun c.args.self.now.world c.args.number command c.args.out.now.items c.put_line_refusal.new.out.items (becomes old old.chunks old.fleet (Some k))) (sym c.decided-kind.ensures)
    (subst (λ (x : WorldIs). HasRun x c.args.number command c.args.out.now.items c.put_line_refusal.new.out.items (becomes old old.chunks old.fleet (Some (kind_decided i.kind Raw)))) same
    (refused_runs old c.args.number c.args.group c.args.plan.hosts c.args.plan.writes c.args.plan.workers c.args.plan.turns (subst IsWorld (sym same) c.requires.world) low mounted c.args.out.now.items c.put_line_refusal.new.out.items put))) c.put_line_refusal.ensures.ok

pub returns-then-is_mounted-clause-err : goal.returns-then-is_mounted-clause-err
returns-then-is_mounted-clause-err g c =
    let i = c.self.inside in
    let old : WorldIs = record { sectors = i.sectors; names = i.names; format = i.format; chunks = i.chunks.items; fleet = i.fleet; moves = i.moves; kind = i.kind; passes = i.passes } in
    let same : old ≡ c.args.self.now.world = ap (λ (o : WorldOn g.row.D.Denot). o.world) c.self.view_is in
    let low = subst (λ (v : WorldIs). c.args.group < length v.chunks) (sym same) c.requires.made in
    let command = Live c.args.group c.args.plan.hosts c.args.plan.writes c.args.plan.workers c.args.plan.turns in
    let mounted : kind_decided i.kind Raw ≡ Mounted = sym c.decided-kind.ensures ∙ mounted_kind c.decided-kind.result (sym c.if-is_mounted.ensures) in
    on_err c.put_line_refusal.result _
    (subst (λ k. LineHasFailed c.args.self.now.world c.args.number command (becomes old old.chunks old.fleet (Some k))) (sym c.decided-kind.ensures)
    (subst (λ (x : WorldIs). LineHasFailed x c.args.number command (becomes old old.chunks old.fleet (Some (kind_decided i.kind Raw)))) same
    (refused_fails old c.args.number c.args.group c.args.plan.hosts c.args.plan.writes c.args.plan.workers c.args.plan.turns (subst IsWorld (sym same) c.requires.world) low mounted)))

pub live_at-requires-clause-ready : goal.live_at-requires-clause-ready
live_at-requires-clause-ready g c κs within chunk there =
    let i = c.self.inside in
    let a = c.args in
    let old : WorldIs = record { sectors = i.sectors; names = i.names; format = i.format; chunks = i.chunks.items; fleet = i.fleet; moves = i.moves; kind = i.kind; passes = i.passes } in
    let same : old ≡ a.self.now.world = ap (λ (o : WorldOn g.row.D.Denot). o.world) c.self.view_is in
    let low = subst (λ (v : WorldIs). c.args.group < length v.chunks) (sym same) c.requires.made in
    let world : IsWorld old = subst IsWorld (sym same) c.requires.world in
    (world.each a.group chunk there).ready

pub returns-in_err-lived-clause-err : goal.returns-in_err-lived-clause-err
returns-in_err-lived-clause-err g c =
    let i = c.self.inside in
    let a = c.args in
    let old : WorldIs = record { sectors = i.sectors; names = i.names; format = i.format; chunks = i.chunks.items; fleet = i.fleet; moves = i.moves; kind = i.kind; passes = i.passes } in
    let same : old ≡ a.self.now.world = ap (λ (o : WorldOn g.row.D.Denot). o.world) c.self.view_is in
    let low = subst (λ (v : WorldIs). c.args.group < length v.chunks) (sym same) c.requires.made in
    let world : IsWorld old = subst IsWorld (sym same) c.requires.world in
    let kind = c.decided-kind.result in
    let raw : kind ≡ Raw = raw_kind kind (sym c.if-is_mounted.ensures) in
    on_err c.from_residual.result _
    (subst (λ (x : WorldIs). LineHasFailed x a.number (Live a.group a.plan.hosts a.plan.writes a.plan.workers a.plan.turns) (becomes old c.live_at.new.chunks.items old.fleet (Some kind))) same
    (threads_stop old a.number a.group a.plan.hosts a.plan.writes a.plan.workers a.plan.turns world low kind c.decided-kind.ensures raw _ c.live_at.new.chunks.items c.in_err-lived.ensures.err (record { hosts_are = refl; writes_are = refl; workers_are = refl; turns_are = refl; sectors_are = c.requires.sectors ∙ ap (λ (v : WorldIs). v.sectors) (sym same) })))

pub step_hosts-requires-clause-ready : goal.step_hosts-requires-clause-ready
step_hosts-requires-clause-ready g c κs within =
    let i = c.self.inside in
    let a = c.args in
    let old : WorldIs = record { sectors = i.sectors; names = i.names; format = i.format; chunks = i.chunks.items; fleet = i.fleet; moves = i.moves; kind = i.kind; passes = i.passes } in
    let same : old ≡ a.self.now.world = ap (λ (o : WorldOn g.row.D.Denot). o.world) c.self.view_is in
    let low = subst (λ (v : WorldIs). c.args.group < length v.chunks) (sym same) c.requires.made in
    let world : IsWorld old = subst IsWorld (sym same) c.requires.world in
    let kind = c.decided-kind.result in
    let raw : kind ≡ Raw = raw_kind kind (sym c.if-is_mounted.ensures) in
    held_ready old a.number a.group a.plan.hosts a.plan.writes a.plan.workers a.plan.turns world low kind c.decided-kind.ensures raw _ c.in_ok-lived.lived a.out.now.items c.live_at.new.out.items c.live_at.new.chunks.items c.in_ok-lived.ensures.went (record { hosts_are = refl; writes_are = refl; workers_are = refl; turns_are = refl; sectors_are = c.requires.sectors ∙ ap (λ (v : WorldIs). v.sectors) (sym same) })

pub step_hosts-requires-clause-fleet : goal.step_hosts-requires-clause-fleet
step_hosts-requires-clause-fleet g c κs within =
    let i = c.self.inside in
    let a = c.args in
    let old : WorldIs = record { sectors = i.sectors; names = i.names; format = i.format; chunks = i.chunks.items; fleet = i.fleet; moves = i.moves; kind = i.kind; passes = i.passes } in
    let same : old ≡ a.self.now.world = ap (λ (o : WorldOn g.row.D.Denot). o.world) c.self.view_is in
    let low = subst (λ (v : WorldIs). c.args.group < length v.chunks) (sym same) c.requires.made in
    let world : IsWorld old = subst IsWorld (sym same) c.requires.world in
    let kind = c.decided-kind.result in
    let raw : kind ≡ Raw = raw_kind kind (sym c.if-is_mounted.ensures) in
    held_fleet old a.number a.group a.plan.hosts a.plan.writes a.plan.workers a.plan.turns world low kind c.decided-kind.ensures raw _ c.in_ok-lived.lived a.out.now.items c.live_at.new.out.items c.live_at.new.chunks.items c.in_ok-lived.ensures.went (record { hosts_are = refl; writes_are = refl; workers_are = refl; turns_are = refl; sectors_are = c.requires.sectors ∙ ap (λ (v : WorldIs). v.sectors) (sym same) })

pub returns-in_err-step_hosts-clause-err : goal.returns-in_err-step_hosts-clause-err
returns-in_err-step_hosts-clause-err g c =
    let i = c.self.inside in
    let a = c.args in
    let old : WorldIs = record { sectors = i.sectors; names = i.names; format = i.format; chunks = i.chunks.items; fleet = i.fleet; moves = i.moves; kind = i.kind; passes = i.passes } in
    let same : old ≡ a.self.now.world = ap (λ (o : WorldOn g.row.D.Denot). o.world) c.self.view_is in
    let low = subst (λ (v : WorldIs). c.args.group < length v.chunks) (sym same) c.requires.made in
    let world : IsWorld old = subst IsWorld (sym same) c.requires.world in
    let kind = c.decided-kind.result in
    let raw : kind ≡ Raw = raw_kind kind (sym c.if-is_mounted.ensures) in
    let next = c.step_hosts.new.self.world in
    on_err c.from_residual-in_err-step_hosts.result _
    (subst (λ (x : WorldIs). LineHasFailed x a.number (Live a.group a.plan.hosts a.plan.writes a.plan.workers a.plan.turns) next) same
    (hosts_stop old a.number a.group a.plan.hosts a.plan.writes a.plan.workers a.plan.turns world low kind c.decided-kind.ensures raw _ c.in_ok-lived.lived a.out.now.items c.live_at.new.out.items c.live_at.new.chunks.items c.in_ok-lived.ensures.went (record { hosts_are = refl; writes_are = refl; workers_are = refl; turns_are = refl; sectors_are = c.requires.sectors ∙ ap (λ (v : WorldIs). v.sectors) (sym same) }) next c.step_hosts.ensures.others c.in_err-step_hosts.ensures.err))

pub returns-in_err-put_live-clause-err : goal.returns-in_err-put_live-clause-err
returns-in_err-put_live-clause-err g c =
    let i = c.self.inside in
    let a = c.args in
    let old : WorldIs = record { sectors = i.sectors; names = i.names; format = i.format; chunks = i.chunks.items; fleet = i.fleet; moves = i.moves; kind = i.kind; passes = i.passes } in
    let same : old ≡ a.self.now.world = ap (λ (o : WorldOn g.row.D.Denot). o.world) c.self.view_is in
    let low = subst (λ (v : WorldIs). c.args.group < length v.chunks) (sym same) c.requires.made in
    let world : IsWorld old = subst IsWorld (sym same) c.requires.world in
    let kind = c.decided-kind.result in
    let raw : kind ≡ Raw = raw_kind kind (sym c.if-is_mounted.ensures) in
    let next = c.step_hosts.new.self.world in
    on_err c.from_residual-in_err-put_live.result _
    (subst (λ (x : WorldIs). LineHasFailed x a.number (Live a.group a.plan.hosts a.plan.writes a.plan.workers a.plan.turns) next) same
    (text_stops old a.number a.group a.plan.hosts a.plan.writes a.plan.workers a.plan.turns world low kind c.decided-kind.ensures raw _ c.in_ok-lived.lived a.out.now.items c.live_at.new.out.items c.live_at.new.chunks.items c.in_ok-lived.ensures.went (record { hosts_are = refl; writes_are = refl; workers_are = refl; turns_are = refl; sectors_are = c.requires.sectors ∙ ap (λ (v : WorldIs). v.sectors) (sym same) }) next c.step_hosts.ensures.others c.step_hosts.new.out.items c.in_ok-step_hosts.ensures.went))

pub returns-clause-ran : goal.returns-clause-ran
returns-clause-ran g c =
    let i = c.self.inside in
    let j = c.self-2.inside in
    let a = c.args in
    let old : WorldIs = record { sectors = i.sectors; names = i.names; format = i.format; chunks = i.chunks.items; fleet = i.fleet; moves = i.moves; kind = i.kind; passes = i.passes } in
    let same : old ≡ a.self.now.world = ap (λ (o : WorldOn g.row.D.Denot). o.world) c.self.view_is in
    let low = subst (λ (v : WorldIs). c.args.group < length v.chunks) (sym same) c.requires.made in
    let world : IsWorld old = subst IsWorld (sym same) c.requires.world in
    let kind = c.decided-kind.result in
    let raw : kind ≡ Raw = raw_kind kind (sym c.if-is_mounted.ensures) in
    let next = c.step_hosts.new.self.world in
    let is : record { sectors = j.sectors; names = j.names; format = j.format; chunks = j.chunks.items; fleet = j.fleet; moves = j.moves; kind = j.kind; passes = j.passes } ≡ next = ap (λ (o : WorldOn g.row.D.Denot). o.world) c.self-2.view_is in
    let after = c.put_live.new.out.items in
    let passes = Some c.in_ok-lived.lived.passes in
    subst (λ (x : WorldIs). HasRun a.self.now.world a.number (Live a.group a.plan.hosts a.plan.writes a.plan.workers a.plan.turns) a.out.now.items after (record x { passes = passes })) (sym is)
    (subst (λ (x : WorldIs). HasRun x a.number (Live a.group a.plan.hosts a.plan.writes a.plan.workers a.plan.turns) a.out.now.items after (record next { passes = passes })) same
    (live_runs old a.number a.group a.plan.hosts a.plan.writes a.plan.workers a.plan.turns world low kind c.decided-kind.ensures raw _ c.in_ok-lived.lived a.out.now.items c.live_at.new.out.items c.live_at.new.chunks.items c.in_ok-lived.ensures.went (record { hosts_are = refl; writes_are = refl; workers_are = refl; turns_are = refl; sectors_are = c.requires.sectors ∙ ap (λ (v : WorldIs). v.sectors) (sym same) }) next c.step_hosts.ensures.others c.step_hosts.new.out.items c.in_ok-step_hosts.ensures.went after c.in_ok-lived.lived.end c.in_ok-step_hosts.ensures.same refl c.in_ok-put_live.ensures.ok))
