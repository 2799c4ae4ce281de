use Rattle.std.proofs.Common.{length, ap, subst, arith}
use Rattle.pf_script.specs.declared.command.Command.TheVariants.{Settle}
use Rattle.pf_world_hosts.specs.Settled.{HasNotSettled, HasSettled}
use Rattle.pf_world.specs.Steps.{LineHasFailed, HasRun}
use Rattle.pf_world.specs.Views.{WorldOn}
use Rattle.pf_world.proofs.LineFailures.{on_err, settled_fails, settling_fails, settling_grown}
use Rattle.pf_world.proofs.VolumeEvents.{settled_runs}
use Rattle.pf_world.proofs.ChunkSlices.{comes_back, of_world, ready_given}
use Rattle.pf_world.proofs.Results.{on_ok}
use Rattle.pf_world.proofs.world.World.settle_line.Goals as goal

pub settle-requires-clause-ready : goal.settle-requires-clause-ready
settle-requires-clause-ready g c κs within =
    let w = c.self.inside in
    ready_given w.sectors w.names w.format w.chunks.items w.fleet w.moves w.kind w.passes c.args.self.now.world (ap (λ (o : WorldOn g.row.D.Denot). o.world) c.self.view_is) c.deref_mut.result.now c.deref_mut.ensures.value c.requires.world

pub returns-in_err-stopped-clause-err : goal.returns-in_err-stopped-clause-err
returns-in_err-stopped-clause-err g c =
    let w = c.self.inside in
    let old = c.args.self.now.world in
    let same = ap (λ (o : WorldOn g.row.D.Denot). o.world) c.self.view_is in
    let not : HasNotSettled c.args.limit old.chunks old.fleet c.settle.new.chunks =
    of_world w.sectors w.names w.format w.chunks.items w.fleet w.moves w.kind w.passes old same c.deref_mut.result.now c.deref_mut.ensures.value (λ cs f. HasNotSettled c.args.limit cs f c.settle.new.chunks) c.in_err-stopped.ensures.err in
    on_err c.from_residual.result _
    (subst (LineHasFailed old c.args.number (Settle c.args.limit))
    (comes_back w.sectors w.names w.format w.chunks.items w.fleet w.moves w.kind w.passes old same w.chunks.len c.settle.new.chunks c.settle.new.self (omega (arith, c.deref_mut.ensures.len, ap length c.deref_mut.ensures.value)) (settling_grown c.args.limit old.chunks old.fleet c.settle.new.chunks not).count)
    (settling_fails old c.args.number c.args.limit old.kind c.settle.new.chunks c.settle.new.self not))

pub returns-clause-ran : goal.returns-clause-ran
returns-clause-ran g c =
    let w = c.self.inside in
    let old = c.args.self.now.world in
    let same = ap (λ (o : WorldOn g.row.D.Denot). o.world) c.self.view_is in
    let stopped = c.in_ok-stopped.stopped in
    let s : HasSettled c.args.limit old.chunks old.fleet c.args.out.now.items stopped c.settle.new.chunks c.settle.new.self c.settle.new.out.items =
    of_world w.sectors w.names w.format w.chunks.items w.fleet w.moves w.kind w.passes old same c.deref_mut.result.now c.deref_mut.ensures.value (λ cs f. HasSettled c.args.limit cs f c.args.out.now.items stopped c.settle.new.chunks c.settle.new.self c.settle.new.out.items) c.in_ok-stopped.ensures.settled in
    on_ok c.put_settle.result _ _ (λ put.
    subst (HasRun old c.args.number (Settle c.args.limit) c.args.out.now.items c.put_settle.new.out.items)
    (comes_back w.sectors w.names w.format w.chunks.items w.fleet w.moves w.kind w.passes old same w.chunks.len c.settle.new.chunks c.settle.new.self (omega (arith, c.deref_mut.ensures.len, ap length c.deref_mut.ensures.value)) s.went.grown.count)
    (settled_runs old c.args.number c.args.limit c.requires.world c.settle.new.chunks c.settle.new.self c.args.out.now.items c.settle.new.out.items c.put_settle.new.out.items stopped s put)) c.put_settle.ensures.ok

pub returns-clause-err : goal.returns-clause-err
returns-clause-err g c =
    let w = c.self.inside in
    let old = c.args.self.now.world in
    let same = ap (λ (o : WorldOn g.row.D.Denot). o.world) c.self.view_is in
    let stopped = c.in_ok-stopped.stopped in
    let s : HasSettled c.args.limit old.chunks old.fleet c.args.out.now.items stopped c.settle.new.chunks c.settle.new.self c.settle.new.out.items =
    of_world w.sectors w.names w.format w.chunks.items w.fleet w.moves w.kind w.passes old same c.deref_mut.result.now c.deref_mut.ensures.value (λ cs f. HasSettled c.args.limit cs f c.args.out.now.items stopped c.settle.new.chunks c.settle.new.self c.settle.new.out.items) c.in_ok-stopped.ensures.settled in
    on_err c.put_settle.result _
    (subst (LineHasFailed old c.args.number (Settle c.args.limit))
    (comes_back w.sectors w.names w.format w.chunks.items w.fleet w.moves w.kind w.passes old same w.chunks.len c.settle.new.chunks c.settle.new.self (omega (arith, c.deref_mut.ensures.len, ap length c.deref_mut.ensures.value)) s.went.grown.count)
    (settled_fails old c.args.number c.args.limit old.kind c.settle.new.chunks c.settle.new.self c.args.out.now.items c.settle.new.out.items stopped s))
