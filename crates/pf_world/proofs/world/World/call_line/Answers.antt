use Rattle.std.proofs.Common.{◌≡◌, ◌++◌, IfSome, List, length, sym, ap, subst, ◌∙◌, arith}
use Rattle.pf_script.specs.declared.command.Command.TheVariants as commands
use Rattle.pf_report.specs.Refusals.{refusal_text}
use Rattle.pf_report.specs.Texts.{report_line}
use Rattle.pf_live_session.specs.pf_chunk.specs.Views.{ChunkIs}
use Rattle.pf_world_hosts.specs.pf_world_moments.specs.Steps.{AreReady}
use Rattle.pf_world_hosts.specs.Calls.{HasCalled, call_number}
use Rattle.pf_world_hosts.specs.Steps.{FleetHasGone, IsFleetOf}
use Rattle.pf_world_hosts.specs.Volumes.{all_step}
use Rattle.pf_world.specs.Steps.{LineHasFailed, HasRun}
use Rattle.pf_world.specs.Views.{IsWorld, WorldIs, WorldOn}
use Rattle.pf_world.proofs.LineFailures.{on_err}
use Rattle.pf_world.proofs.VolumeEvents.{answer_put, chunks_ready}
use Rattle.pf_world.proofs.ChunkSlices.{ready_given}
use Rattle.pf_world.proofs.Mounts.{call_not_begun, called_fails, called_runs, called_stops, handed, handed_is, no_call_said, refused_fails, refused_runs, refused_stops, still_handed}
use Rattle.pf_world.proofs.Results.{none_ok, on_ok}
use Rattle.pf_world.proofs.world.World.call_line.Goals as goal

pub call-requires-clause-ready : goal.call-requires-clause-ready
call-requires-clause-ready g c =
    let w = c.self.inside in
    ready_given w.sectors w.names w.format w.chunks.items w.fleet w.moves w.kind w.passes c.args.self.now.world (ap (λ (o : WorldOn g.row.D.Denot). o.world) c.self.view_is) c.deref_mut.result.now c.deref_mut.ensures.value c.requires.world

pub step_hosts-requires-clause-ready : goal.step_hosts-requires-clause-ready
step_hosts-requires-clause-ready g c κs within =
    let i = c.self.inside in
    let old : WorldIs = record { sectors = i.sectors; names = i.names; format = i.format; chunks = i.chunks.items; fleet = i.fleet; moves = i.moves; kind = i.kind; passes = i.passes } in
    let same : old ≡ c.args.self.now.world = ap (λ (o : WorldOn g.row.D.Denot). o.world) c.self.view_is in
    let all : i.chunks.len ≡ length i.chunks.items = omega (arith, c.deref_mut.ensures.len, ap length c.deref_mut.ensures.value) in
    let world : IsWorld old = subst IsWorld (sym same) c.requires.world in
    let before = c.args.out.now.items in
    let called : HasCalled c.args.mount c.args.call.now i.chunks.items i.fleet before c.call.new.chunks c.call.new.self c.call.new.out.items =
    subst (λ (cs : List ChunkIs). HasCalled c.args.mount c.args.call.now cs i.fleet before c.call.new.chunks c.call.new.self c.call.new.out.items) c.deref_mut.ensures.value c.in-Ok.ensures.called in
    subst (λ (w : WorldIs). AreReady w.chunks) (handed_is old i.chunks.len c.call.new.chunks c.call.new.self i.kind all called.went.grown.count) called.went.ready

pub step_hosts-requires-clause-fleet : goal.step_hosts-requires-clause-fleet
step_hosts-requires-clause-fleet g c κs within =
    let i = c.self.inside in
    let old : WorldIs = record { sectors = i.sectors; names = i.names; format = i.format; chunks = i.chunks.items; fleet = i.fleet; moves = i.moves; kind = i.kind; passes = i.passes } in
    let all : i.chunks.len ≡ length i.chunks.items = omega (arith, c.deref_mut.ensures.len, ap length c.deref_mut.ensures.value) in
    let before = c.args.out.now.items in
    let called : HasCalled c.args.mount c.args.call.now i.chunks.items i.fleet before c.call.new.chunks c.call.new.self c.call.new.out.items =
    subst (λ (cs : List ChunkIs). HasCalled c.args.mount c.args.call.now cs i.fleet before c.call.new.chunks c.call.new.self c.call.new.out.items) c.deref_mut.ensures.value c.in-Ok.ensures.called in
    subst (λ (w : WorldIs). IsFleetOf w.chunks c.call.new.self) (handed_is old i.chunks.len c.call.new.chunks c.call.new.self i.kind all called.went.grown.count) called.went.is_fleet

pub returns-in_err-step_hosts-in-Ok-clause-err : goal.returns-in_err-step_hosts-in-Ok-clause-err
returns-in_err-step_hosts-in-Ok-clause-err g c =
    let i = c.self.inside in
    let old : WorldIs = record { sectors = i.sectors; names = i.names; format = i.format; chunks = i.chunks.items; fleet = i.fleet; moves = i.moves; kind = i.kind; passes = i.passes } in
    let same : old ≡ c.args.self.now.world = ap (λ (o : WorldOn g.row.D.Denot). o.world) c.self.view_is in
    let all : i.chunks.len ≡ length i.chunks.items = omega (arith, c.deref_mut.ensures.len, ap length c.deref_mut.ensures.value) in
    let world : IsWorld old = subst IsWorld (sym same) c.requires.world in
    let before = c.args.out.now.items in
    let called : HasCalled c.args.mount c.args.call.now i.chunks.items i.fleet before c.call.new.chunks c.call.new.self c.call.new.out.items =
    subst (λ (cs : List ChunkIs). HasCalled c.args.mount c.args.call.now cs i.fleet before c.call.new.chunks c.call.new.self c.call.new.out.items) c.deref_mut.ensures.value c.in-Ok.ensures.called in
    on_err c.from_residual.result _ (subst (λ (x : WorldIs). LineHasFailed x c.args.number (commands.Call c.args.mount c.args.call.now) c.step_hosts.new.self.world) same
    (called_stops old c.args.number before world i.chunks.len all c.args.mount c.args.call.now c.call.new.chunks c.call.new.self c.step_hosts.new.self.world c.step_hosts.ensures.others c.call.new.out.items called c.in_err-step_hosts-in-Ok.ensures.err))

pub returns-in_ok-step_hosts-in-Ok-clause-ran : goal.returns-in_ok-step_hosts-in-Ok-clause-ran
returns-in_ok-step_hosts-in-Ok-clause-ran g c =
    let i = c.self.inside in
    let old : WorldIs = record { sectors = i.sectors; names = i.names; format = i.format; chunks = i.chunks.items; fleet = i.fleet; moves = i.moves; kind = i.kind; passes = i.passes } in
    let same : old ≡ c.args.self.now.world = ap (λ (o : WorldOn g.row.D.Denot). o.world) c.self.view_is in
    let all : i.chunks.len ≡ length i.chunks.items = omega (arith, c.deref_mut.ensures.len, ap length c.deref_mut.ensures.value) in
    let world : IsWorld old = subst IsWorld (sym same) c.requires.world in
    let before = c.args.out.now.items in
    let called : HasCalled c.args.mount c.args.call.now i.chunks.items i.fleet before c.call.new.chunks c.call.new.self c.call.new.out.items =
    subst (λ (cs : List ChunkIs). HasCalled c.args.mount c.args.call.now cs i.fleet before c.call.new.chunks c.call.new.self c.call.new.out.items) c.deref_mut.ensures.value c.in-Ok.ensures.called in
    on_ok c.put_started.result _ _ (λ put. (subst (λ (x : WorldIs). HasRun x c.args.number (commands.Call c.args.mount c.args.call.now) before c.put_started.new.out.items c.step_hosts.new.self.world) same
    (called_runs old c.args.number before world i.chunks.len all c.args.mount c.args.call.now c.call.new.chunks c.call.new.self c.step_hosts.new.self.world c.step_hosts.ensures.others c.call.new.out.items called c.step_hosts.new.out.items c.put_started.new.out.items c.in_ok-step_hosts-in-Ok.ensures.went c.in_ok-step_hosts-in-Ok.ensures.same put))) c.put_started.ensures.ok

pub returns-in_ok-step_hosts-in-Ok-clause-err : goal.returns-in_ok-step_hosts-in-Ok-clause-err
returns-in_ok-step_hosts-in-Ok-clause-err g c =
    let i = c.self.inside in
    let old : WorldIs = record { sectors = i.sectors; names = i.names; format = i.format; chunks = i.chunks.items; fleet = i.fleet; moves = i.moves; kind = i.kind; passes = i.passes } in
    let same : old ≡ c.args.self.now.world = ap (λ (o : WorldOn g.row.D.Denot). o.world) c.self.view_is in
    let all : i.chunks.len ≡ length i.chunks.items = omega (arith, c.deref_mut.ensures.len, ap length c.deref_mut.ensures.value) in
    let world : IsWorld old = subst IsWorld (sym same) c.requires.world in
    let before = c.args.out.now.items in
    let called : HasCalled c.args.mount c.args.call.now i.chunks.items i.fleet before c.call.new.chunks c.call.new.self c.call.new.out.items =
    subst (λ (cs : List ChunkIs). HasCalled c.args.mount c.args.call.now cs i.fleet before c.call.new.chunks c.call.new.self c.call.new.out.items) c.deref_mut.ensures.value c.in-Ok.ensures.called in
    on_err c.put_started.result _ (subst (λ (x : WorldIs). LineHasFailed x c.args.number (commands.Call c.args.mount c.args.call.now) c.step_hosts.new.self.world) same
    (called_fails old c.args.number before world i.chunks.len all c.args.mount c.args.call.now c.call.new.chunks c.call.new.self c.step_hosts.new.self.world c.step_hosts.ensures.others c.call.new.out.items called c.step_hosts.new.out.items c.in_ok-step_hosts-in-Ok.ensures.went))

pub returns-in-NoMemory-clause-err : goal.returns-in-NoMemory-clause-err
returns-in-NoMemory-clause-err g c =
    let i = c.self.inside in
    let old : WorldIs = record { sectors = i.sectors; names = i.names; format = i.format; chunks = i.chunks.items; fleet = i.fleet; moves = i.moves; kind = i.kind; passes = i.passes } in
    let same : old ≡ c.args.self.now.world = ap (λ (o : WorldOn g.row.D.Denot). o.world) c.self.view_is in
    let all : i.chunks.len ≡ length i.chunks.items = omega (arith, c.deref_mut.ensures.len, ap length c.deref_mut.ensures.value) in
    let chunks_are : c.call.new.chunks ≡ i.chunks.items = c.in-Err.ensures.err ∙ c.deref_mut.ensures.value in
    let left = handed old i.chunks.len c.call.new.chunks c.call.new.self i.kind in
    subst (λ (x : WorldIs). LineHasFailed x c.args.number (commands.Call c.args.mount c.args.call.now) left) same
    (subst (LineHasFailed old c.args.number (commands.Call c.args.mount c.args.call.now)) (still_handed old i.chunks.len c.call.new.chunks c.call.new.self i.kind all chunks_are) (call_not_begun old c.args.number c.args.mount c.args.call.now c.call.new.self))

pub step_hosts-requires-in_default-clause-ready : goal.step_hosts-requires-in_default-clause-ready
step_hosts-requires-in_default-clause-ready g c κs within =
    let i = c.self.inside in
    let old : WorldIs = record { sectors = i.sectors; names = i.names; format = i.format; chunks = i.chunks.items; fleet = i.fleet; moves = i.moves; kind = i.kind; passes = i.passes } in
    let same : old ≡ c.args.self.now.world = ap (λ (o : WorldOn g.row.D.Denot). o.world) c.self.view_is in
    let all : i.chunks.len ≡ length i.chunks.items = omega (arith, c.deref_mut.ensures.len, ap length c.deref_mut.ensures.value) in
    let world : IsWorld old = subst IsWorld (sym same) c.requires.world in
    let chunks_are : c.call.new.chunks ≡ i.chunks.items = c.in-Err.ensures.err ∙ c.deref_mut.ensures.value in
    subst (λ (w : WorldIs). AreReady w.chunks) (still_handed old i.chunks.len c.call.new.chunks c.call.new.self i.kind all chunks_are) (chunks_ready old world)

pub step_hosts-requires-in_default-clause-fleet : goal.step_hosts-requires-in_default-clause-fleet
step_hosts-requires-in_default-clause-fleet g c κs within =
    let i = c.self.inside in
    let old : WorldIs = record { sectors = i.sectors; names = i.names; format = i.format; chunks = i.chunks.items; fleet = i.fleet; moves = i.moves; kind = i.kind; passes = i.passes } in
    let same : old ≡ c.args.self.now.world = ap (λ (o : WorldOn g.row.D.Denot). o.world) c.self.view_is in
    let all : i.chunks.len ≡ length i.chunks.items = omega (arith, c.deref_mut.ensures.len, ap length c.deref_mut.ensures.value) in
    let world : IsWorld old = subst IsWorld (sym same) c.requires.world in
    let chunks_are : c.call.new.chunks ≡ i.chunks.items = c.in-Err.ensures.err ∙ c.deref_mut.ensures.value in
    let fleet_is = c.in-Err.ensures.refused c.in_default.not-NoMemory in
    subst (λ (w : WorldIs). IsFleetOf w.chunks c.call.new.self) (still_handed old i.chunks.len c.call.new.chunks c.call.new.self i.kind all chunks_are) (subst (IsFleetOf i.chunks.items) (sym fleet_is) world.is_fleet)

pub returns-in_err-step_hosts-in_default : goal.returns-in_err-step_hosts-in_default
returns-in_err-step_hosts-in_default g c =
    let i = c.self.inside in
    let old : WorldIs = record { sectors = i.sectors; names = i.names; format = i.format; chunks = i.chunks.items; fleet = i.fleet; moves = i.moves; kind = i.kind; passes = i.passes } in
    let same : old ≡ c.args.self.now.world = ap (λ (o : WorldOn g.row.D.Denot). o.world) c.self.view_is in
    let all : i.chunks.len ≡ length i.chunks.items = omega (arith, c.deref_mut.ensures.len, ap length c.deref_mut.ensures.value) in
    let world : IsWorld old = subst IsWorld (sym same) c.requires.world in
    let chunks_are : c.call.new.chunks ≡ i.chunks.items = c.in-Err.ensures.err ∙ c.deref_mut.ensures.value in
    let fleet_is = c.in-Err.ensures.refused c.in_default.not-NoMemory in
    record {
      ran = none_ok c.from_residual-in_err-step_hosts-in_default.result _ c.from_residual-in_err-step_hosts-in_default.ensures.0;
      err = on_err c.from_residual-in_err-step_hosts-in_default.result _ (subst (λ (x : WorldIs). LineHasFailed x c.args.number (commands.Call c.args.mount c.args.call.now) c.step_hosts-in_default.new.self.world) same
          (refused_stops old c.args.number c.args.out.now.items world i.chunks.len all c.args.mount c.args.call.now c.call.new.chunks c.call.new.self c.step_hosts-in_default.new.self.world c.step_hosts-in_default.ensures.others chunks_are fleet_is c.in-Err.fault c.in_default.not-NoMemory c.in-Err.ensures.cause c.in_err-step_hosts-in_default.ensures.err));
      spare = c.step_hosts-in_default.ensures.spare ∙ ap (λ (o : WorldOn g.row.D.Denot). o.spare) c.self.view_is;
    }

pub returns-in_ok-step_hosts-in_default : goal.returns-in_ok-step_hosts-in_default
returns-in_ok-step_hosts-in_default g c =
    let i = c.self.inside in
    let old : WorldIs = record { sectors = i.sectors; names = i.names; format = i.format; chunks = i.chunks.items; fleet = i.fleet; moves = i.moves; kind = i.kind; passes = i.passes } in
    let same : old ≡ c.args.self.now.world = ap (λ (o : WorldOn g.row.D.Denot). o.world) c.self.view_is in
    let all : i.chunks.len ≡ length i.chunks.items = omega (arith, c.deref_mut.ensures.len, ap length c.deref_mut.ensures.value) in
    let world : IsWorld old = subst IsWorld (sym same) c.requires.world in
    let chunks_are : c.call.new.chunks ≡ i.chunks.items = c.in-Err.ensures.err ∙ c.deref_mut.ensures.value in
    let fleet_is = c.in-Err.ensures.refused c.in_default.not-NoMemory in
    let before = c.args.out.now.items in
    let unsaid : c.call.new.out.items ≡ before = c.in-Err.ensures.unwritten c.in_default.not-NoMemory in
    let later = c.step_hosts-in_default.new.out.items in
    let after = c.put_refusal.new.out.items in
    let went = c.in_ok-step_hosts-in_default.ensures.went in
    record {
      ran = on_ok c.put_refusal.result _ _ (λ put. (subst (λ (x : WorldIs). HasRun x c.args.number (commands.Call c.args.mount c.args.call.now) before after c.step_hosts-in_default.new.self.world) same
          (refused_runs old c.args.number before world i.chunks.len all c.args.mount c.args.call.now c.call.new.chunks c.call.new.self c.step_hosts-in_default.new.self.world c.step_hosts-in_default.ensures.others chunks_are fleet_is c.in-Err.fault c.in_default.not-NoMemory c.in-Err.ensures.cause later after
          (subst (λ text. FleetHasGone all_step (handed old i.chunks.len c.call.new.chunks c.call.new.self i.kind).chunks c.call.new.self text c.step_hosts-in_default.new.self.world.chunks c.step_hosts-in_default.new.self.world.fleet later) unsaid went) c.in_ok-step_hosts-in_default.ensures.same
          (answer_put (refusal_text (call_number c.in-Err.fault)) c.args.number later after (no_call_said c.in-Err.fault c.in_default.not-NoMemory)
          (subst (λ n. IfSome (refusal_text n) (λ text. after ≡ later ++ report_line c.args.number text)) c.number.ensures put))))) c.put_refusal.ensures.ok;
      err = on_err c.put_refusal.result _ (subst (λ (x : WorldIs). LineHasFailed x c.args.number (commands.Call c.args.mount c.args.call.now) c.step_hosts-in_default.new.self.world) same
          (refused_fails old c.args.number c.call.new.out.items world i.chunks.len all c.args.mount c.args.call.now c.call.new.chunks c.call.new.self c.step_hosts-in_default.new.self.world c.step_hosts-in_default.ensures.others chunks_are fleet_is c.in-Err.fault c.in_default.not-NoMemory c.in-Err.ensures.cause later went));
      spare = c.step_hosts-in_default.ensures.spare ∙ ap (λ (o : WorldOn g.row.D.Denot). o.spare) c.self.view_is;
    }
