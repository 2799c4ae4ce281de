use Rattle.std.proofs.Common.{◌≡◌, ◌++◌, List, IfSome, Some, length, sym, ap, subst, ◌∙◌, arith}
use Rattle.pf_script.specs.declared.command.Command.TheVariants as commands
use Rattle.pf_report.specs.Refusals.{refusal_text}
use Rattle.pf_report.specs.Texts.{report_line}
use Rattle.pf_live_session.specs.pf_chunk.specs.Views.{ChunkIs}
use Rattle.pf_world_hosts.specs.pf_world_moments.specs.Steps.{AreReady}
use Rattle.pf_world_hosts.specs.Calls.{HasJoined, join_number}
use Rattle.pf_world.specs.declared.kind.Kind.TheVariants.{Mounted, Raw}
use Rattle.pf_world.specs.Lines.{kind_decided}
use Rattle.pf_world.specs.Steps.{LineHasFailed, HasRun}
use Rattle.pf_world.specs.Views.{IsWorld, WorldIs, WorldOn}
use Rattle.pf_world.proofs.AskedLines.{mounted_kind, raw_kind}
use Rattle.pf_world.proofs.LineFailures.{on_err}
use Rattle.pf_world.proofs.VolumeEvents.{answer_put, becomes, chunks_ready}
use Rattle.pf_world.proofs.ChunkSlices.{ready_given}
use Rattle.pf_world.proofs.Mounts.{handed, handed_is, joined_fails, joined_runs, joined_stops, mount_not_begun, no_mount_said, none_joined_fails, none_joined_runs, none_joined_stops, raw_runs, still_handed}
use Rattle.pf_world.proofs.Results.{none_ok, on_ok}
use Rattle.pf_world.proofs.world.World.mount_line.Goals as goal

pub returns-then-not-is_mounted-clause-ran : goal.returns-then-not-is_mounted-clause-ran
returns-then-not-is_mounted-clause-ran g c =
    let i = c.self.inside in
    let old : WorldIs = record { sectors = i.sectors; names = i.names; format = i.format; chunks = i.chunks.items; fleet = i.fleet; moves = i.moves; kind = i.kind; passes = i.passes } in
    let same : old ≡ c.args.self.now.world = ap (λ (o : WorldOn g.row.D.Denot). o.world) c.self.view_is in
    let raw : kind_decided i.kind Mounted ≡ Raw = sym c.decided-kind.ensures ∙ raw_kind c.decided-kind.result (sym c.if-not-is_mounted.ensures) in
    on_ok c.put_line_refusal.result _ _ (λ put.
    subst (λ k. HasRun c.args.self.now.world c.args.number commands.Mount c.args.out.now.items c.put_line_refusal.new.out.items (becomes old old.chunks old.fleet (Some k))) (sym c.decided-kind.ensures)
    (subst (λ (x : WorldIs). HasRun x c.args.number commands.Mount c.args.out.now.items c.put_line_refusal.new.out.items (becomes old old.chunks old.fleet (Some (kind_decided i.kind Mounted)))) same
    (raw_runs old c.args.number c.args.out.now.items c.put_line_refusal.new.out.items (subst IsWorld (sym same) c.requires.world) raw put))) c.put_line_refusal.ensures.ok

pub returns-then-not-is_mounted-clause-err : goal.returns-then-not-is_mounted-clause-err
returns-then-not-is_mounted-clause-err g c =
    let i = c.self.inside in
    let same = ap (λ (o : WorldOn g.row.D.Denot). o.world) c.self.view_is in
    on_err c.put_line_refusal.result _
    (subst (LineHasFailed c.args.self.now.world c.args.number commands.Mount) (ap (λ (x : WorldIs). becomes x x.chunks x.fleet (Some c.decided-kind.result)) (sym same))
    (mount_not_begun c.args.self.now.world c.args.number c.args.self.now.world.fleet (Some c.decided-kind.result)))

pub mount-requires-clause-ready : goal.mount-requires-clause-ready
mount-requires-clause-ready g c =
    let w = c.self.inside in
    ready_given w.sectors w.names w.format w.chunks.items w.fleet w.moves w.kind w.passes c.args.self.now.world (ap (λ (o : WorldOn g.row.D.Denot). o.world) c.self.view_is) c.deref_mut.result.now c.deref_mut.ensures.value c.requires.world

pub step_hosts-requires-clause-ready : goal.step_hosts-requires-clause-ready
step_hosts-requires-clause-ready g c κs within =
    let i = c.self.inside in
    let old : WorldIs = record { sectors = i.sectors; names = i.names; format = i.format; chunks = i.chunks.items; fleet = i.fleet; moves = i.moves; kind = i.kind; passes = i.passes } in
    let joined : HasJoined i.chunks.items i.fleet c.in-Ok.mount c.mount.new.chunks c.mount.new.self =
    subst (λ (cs : List ChunkIs). HasJoined cs i.fleet c.in-Ok.mount c.mount.new.chunks c.mount.new.self) c.deref_mut.ensures.value c.in-Ok.ensures.joined in
    subst (λ (w : WorldIs). AreReady w.chunks)
    (handed_is old i.chunks.len c.mount.new.chunks c.mount.new.self (Some c.decided-kind.result) (omega (arith, c.deref_mut.ensures.len, ap length c.deref_mut.ensures.value)) joined.went.grown.count)
    joined.went.ready

pub returns-in_err-step_hosts-in-Ok-clause-err : goal.returns-in_err-step_hosts-in-Ok-clause-err
returns-in_err-step_hosts-in-Ok-clause-err g c =
    let i = c.self.inside in
    let old : WorldIs = record { sectors = i.sectors; names = i.names; format = i.format; chunks = i.chunks.items; fleet = i.fleet; moves = i.moves; kind = i.kind; passes = i.passes } in
    let same : old ≡ c.args.self.now.world = ap (λ (o : WorldOn g.row.D.Denot). o.world) c.self.view_is in
    let all : i.chunks.len ≡ length i.chunks.items = omega (arith, c.deref_mut.ensures.len, ap length c.deref_mut.ensures.value) in
    let world : IsWorld old = subst IsWorld (sym same) c.requires.world in
    let before = c.args.out.now.items in
    let mounted : c.decided-kind.result ≡ Mounted = mounted_kind c.decided-kind.result (sym c.if-not-is_mounted.ensures) in
    let joined : HasJoined i.chunks.items i.fleet c.in-Ok.mount c.mount.new.chunks c.mount.new.self =
    subst (λ (cs : List ChunkIs). HasJoined cs i.fleet c.in-Ok.mount c.mount.new.chunks c.mount.new.self) c.deref_mut.ensures.value c.in-Ok.ensures.joined in
    on_err c.from_residual.result _ (subst (λ (x : WorldIs). LineHasFailed x c.args.number commands.Mount c.step_hosts.new.self.world) same
    (joined_stops old c.args.number before world i.chunks.len all c.decided-kind.result c.decided-kind.ensures mounted c.in-Ok.mount c.mount.new.chunks c.mount.new.self joined c.step_hosts.new.self.world c.step_hosts.ensures.others c.in-Ok.ensures.small c.in-Ok.ensures.full c.in_err-step_hosts-in-Ok.ensures.err))

pub returns-in_ok-step_hosts-in-Ok-clause-ran : goal.returns-in_ok-step_hosts-in-Ok-clause-ran
returns-in_ok-step_hosts-in-Ok-clause-ran g c =
    let i = c.self.inside in
    let old : WorldIs = record { sectors = i.sectors; names = i.names; format = i.format; chunks = i.chunks.items; fleet = i.fleet; moves = i.moves; kind = i.kind; passes = i.passes } in
    let same : old ≡ c.args.self.now.world = ap (λ (o : WorldOn g.row.D.Denot). o.world) c.self.view_is in
    let all : i.chunks.len ≡ length i.chunks.items = omega (arith, c.deref_mut.ensures.len, ap length c.deref_mut.ensures.value) in
    let world : IsWorld old = subst IsWorld (sym same) c.requires.world in
    let before = c.args.out.now.items in
    let mounted : c.decided-kind.result ≡ Mounted = mounted_kind c.decided-kind.result (sym c.if-not-is_mounted.ensures) in
    let joined : HasJoined i.chunks.items i.fleet c.in-Ok.mount c.mount.new.chunks c.mount.new.self =
    subst (λ (cs : List ChunkIs). HasJoined cs i.fleet c.in-Ok.mount c.mount.new.chunks c.mount.new.self) c.deref_mut.ensures.value c.in-Ok.ensures.joined in
    on_ok c.put_mount.result _ _ (λ put. (subst (λ (x : WorldIs). HasRun x c.args.number commands.Mount before c.put_mount.new.out.items c.step_hosts.new.self.world) same
    (joined_runs old c.args.number before world i.chunks.len all c.decided-kind.result c.decided-kind.ensures mounted c.in-Ok.mount c.mount.new.chunks c.mount.new.self joined c.step_hosts.new.self.world c.step_hosts.ensures.others c.in-Ok.ensures.small c.in-Ok.ensures.full c.step_hosts.new.out.items c.put_mount.new.out.items c.in_ok-step_hosts-in-Ok.ensures.went c.in_ok-step_hosts-in-Ok.ensures.same put))) c.put_mount.ensures.ok

pub returns-in_ok-step_hosts-in-Ok-clause-err : goal.returns-in_ok-step_hosts-in-Ok-clause-err
returns-in_ok-step_hosts-in-Ok-clause-err g c =
    let i = c.self.inside in
    let old : WorldIs = record { sectors = i.sectors; names = i.names; format = i.format; chunks = i.chunks.items; fleet = i.fleet; moves = i.moves; kind = i.kind; passes = i.passes } in
    let same : old ≡ c.args.self.now.world = ap (λ (o : WorldOn g.row.D.Denot). o.world) c.self.view_is in
    let all : i.chunks.len ≡ length i.chunks.items = omega (arith, c.deref_mut.ensures.len, ap length c.deref_mut.ensures.value) in
    let world : IsWorld old = subst IsWorld (sym same) c.requires.world in
    let before = c.args.out.now.items in
    let mounted : c.decided-kind.result ≡ Mounted = mounted_kind c.decided-kind.result (sym c.if-not-is_mounted.ensures) in
    let joined : HasJoined i.chunks.items i.fleet c.in-Ok.mount c.mount.new.chunks c.mount.new.self =
    subst (λ (cs : List ChunkIs). HasJoined cs i.fleet c.in-Ok.mount c.mount.new.chunks c.mount.new.self) c.deref_mut.ensures.value c.in-Ok.ensures.joined in
    on_err c.put_mount.result _ (subst (λ (x : WorldIs). LineHasFailed x c.args.number commands.Mount c.step_hosts.new.self.world) same
    (joined_fails old c.args.number before world i.chunks.len all c.decided-kind.result c.decided-kind.ensures mounted c.in-Ok.mount c.mount.new.chunks c.mount.new.self joined c.step_hosts.new.self.world c.step_hosts.ensures.others c.in-Ok.ensures.small c.in-Ok.ensures.full c.step_hosts.new.out.items c.in_ok-step_hosts-in-Ok.ensures.went))

pub returns-in-NoMemory-clause-err : goal.returns-in-NoMemory-clause-err
returns-in-NoMemory-clause-err g c =
    let i = c.self.inside in
    let old : WorldIs = record { sectors = i.sectors; names = i.names; format = i.format; chunks = i.chunks.items; fleet = i.fleet; moves = i.moves; kind = i.kind; passes = i.passes } in
    let same : old ≡ c.args.self.now.world = ap (λ (o : WorldOn g.row.D.Denot). o.world) c.self.view_is in
    let all : i.chunks.len ≡ length i.chunks.items = omega (arith, c.deref_mut.ensures.len, ap length c.deref_mut.ensures.value) in
    let kind = Some c.decided-kind.result in
    let chunks_are : c.mount.new.chunks ≡ i.chunks.items = c.in-Err.ensures.err.0 ∙ c.deref_mut.ensures.value in
    let left = handed old i.chunks.len c.mount.new.chunks c.mount.new.self kind in
    subst (λ (x : WorldIs). LineHasFailed x c.args.number commands.Mount left) same
    (subst (LineHasFailed old c.args.number commands.Mount) (still_handed old i.chunks.len c.mount.new.chunks c.mount.new.self kind all chunks_are) (mount_not_begun old c.args.number c.mount.new.self kind))

pub step_hosts-requires-in_default-clause-ready : goal.step_hosts-requires-in_default-clause-ready
step_hosts-requires-in_default-clause-ready g c κs within =
    let i = c.self.inside in
    let old : WorldIs = record { sectors = i.sectors; names = i.names; format = i.format; chunks = i.chunks.items; fleet = i.fleet; moves = i.moves; kind = i.kind; passes = i.passes } in
    let same : old ≡ c.args.self.now.world = ap (λ (o : WorldOn g.row.D.Denot). o.world) c.self.view_is in
    let all : i.chunks.len ≡ length i.chunks.items = omega (arith, c.deref_mut.ensures.len, ap length c.deref_mut.ensures.value) in
    let world : IsWorld old = subst IsWorld (sym same) c.requires.world in
    let chunks_are : c.mount.new.chunks ≡ i.chunks.items = c.in-Err.ensures.err.0 ∙ c.deref_mut.ensures.value in
    subst (λ (w : WorldIs). AreReady w.chunks) (still_handed old i.chunks.len c.mount.new.chunks c.mount.new.self (Some c.decided-kind.result) all chunks_are) (chunks_ready old world)

pub returns-in_err-step_hosts-in_default : goal.returns-in_err-step_hosts-in_default
returns-in_err-step_hosts-in_default g c =
    let i = c.self.inside in
    let old : WorldIs = record { sectors = i.sectors; names = i.names; format = i.format; chunks = i.chunks.items; fleet = i.fleet; moves = i.moves; kind = i.kind; passes = i.passes } in
    let same : old ≡ c.args.self.now.world = ap (λ (o : WorldOn g.row.D.Denot). o.world) c.self.view_is in
    let all : i.chunks.len ≡ length i.chunks.items = omega (arith, c.deref_mut.ensures.len, ap length c.deref_mut.ensures.value) in
    let world : IsWorld old = subst IsWorld (sym same) c.requires.world in
    let before = c.args.out.now.items in
    let mounted : c.decided-kind.result ≡ Mounted = mounted_kind c.decided-kind.result (sym c.if-not-is_mounted.ensures) in
    let chunks_are : c.mount.new.chunks ≡ i.chunks.items = c.in-Err.ensures.err.0 ∙ c.deref_mut.ensures.value in
    record {
      ran = none_ok c.from_residual-in_err-step_hosts-in_default.result _ c.from_residual-in_err-step_hosts-in_default.ensures.0;
      err = on_err c.from_residual-in_err-step_hosts-in_default.result _ (subst (λ (x : WorldIs). LineHasFailed x c.args.number commands.Mount c.step_hosts-in_default.new.self.world) same
          (none_joined_stops old c.args.number before world i.chunks.len all c.decided-kind.result c.decided-kind.ensures mounted c.mount.new.chunks c.mount.new.self chunks_are c.in-Err.ensures.err.1 c.step_hosts-in_default.new.self.world c.step_hosts-in_default.ensures.others c.in-Err.fault c.in_default.not-NoMemory c.in-Err.ensures.small c.in-Err.ensures.full c.in_err-step_hosts-in_default.ensures.err));
      spare = c.step_hosts-in_default.ensures.spare ∙ ap (λ (o : WorldOn g.row.D.Denot). o.spare) c.self.view_is;
    }

pub returns-in_ok-step_hosts-in_default : goal.returns-in_ok-step_hosts-in_default
returns-in_ok-step_hosts-in_default g c =
    let i = c.self.inside in
    let old : WorldIs = record { sectors = i.sectors; names = i.names; format = i.format; chunks = i.chunks.items; fleet = i.fleet; moves = i.moves; kind = i.kind; passes = i.passes } in
    let same : old ≡ c.args.self.now.world = ap (λ (o : WorldOn g.row.D.Denot). o.world) c.self.view_is in
    let all : i.chunks.len ≡ length i.chunks.items = omega (arith, c.deref_mut.ensures.len, ap length c.deref_mut.ensures.value) in
    let world : IsWorld old = subst IsWorld (sym same) c.requires.world in
    let before = c.args.out.now.items in
    let mounted : c.decided-kind.result ≡ Mounted = mounted_kind c.decided-kind.result (sym c.if-not-is_mounted.ensures) in
    let chunks_are : c.mount.new.chunks ≡ i.chunks.items = c.in-Err.ensures.err.0 ∙ c.deref_mut.ensures.value in
    let later = c.step_hosts-in_default.new.out.items in
    let after = c.put_refusal.new.out.items in
    let went = c.in_ok-step_hosts-in_default.ensures.went in
    record {
      ran = on_ok c.put_refusal.result _ _ (λ put. (subst (λ (x : WorldIs). HasRun x c.args.number commands.Mount before after c.step_hosts-in_default.new.self.world) same
          (none_joined_runs old c.args.number before world i.chunks.len all c.decided-kind.result c.decided-kind.ensures mounted c.mount.new.chunks c.mount.new.self chunks_are c.in-Err.ensures.err.1 c.step_hosts-in_default.new.self.world c.step_hosts-in_default.ensures.others c.in-Err.fault c.in_default.not-NoMemory c.in-Err.ensures.small c.in-Err.ensures.full later after went c.in_ok-step_hosts-in_default.ensures.same
          (answer_put (refusal_text (join_number c.in-Err.fault)) c.args.number later after (no_mount_said c.in-Err.fault c.in_default.not-NoMemory)
          (subst (λ n. IfSome (refusal_text n) (λ text. after ≡ later ++ report_line c.args.number text)) c.number.ensures put))))) c.put_refusal.ensures.ok;
      err = on_err c.put_refusal.result _ (subst (λ (x : WorldIs). LineHasFailed x c.args.number commands.Mount c.step_hosts-in_default.new.self.world) same
          (none_joined_fails old c.args.number before world i.chunks.len all c.decided-kind.result c.decided-kind.ensures mounted c.mount.new.chunks c.mount.new.self chunks_are c.in-Err.ensures.err.1 c.step_hosts-in_default.new.self.world c.step_hosts-in_default.ensures.others c.in-Err.fault c.in_default.not-NoMemory c.in-Err.ensures.small c.in-Err.ensures.full later went));
      spare = c.step_hosts-in_default.ensures.spare ∙ ap (λ (o : WorldOn g.row.D.Denot). o.spare) c.self.view_is;
    }
