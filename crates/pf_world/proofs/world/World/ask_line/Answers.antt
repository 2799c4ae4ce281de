use Rattle.std.proofs.Common.{[], ◌≡◌, ◌<◌, None, length, sym, ap, subst, ◌∙◌, arith}
use Rattle.pf_live_session.specs.pf_chunk.specs.Asked.{no_range_of}
use Rattle.std.proofs.lemmas.List.{length-map}
use Rattle.pf_live_session.specs.pf_chunk.specs.Steps.{ChunkEvent}
use Rattle.pf_live_session.specs.pf_chunk.specs.Views.{run_of}
use Rattle.pf_world_hosts.specs.Steps.{AreSameHosts, FleetHasAnswered, HasNotAnswered}
use Rattle.pf_world.specs.Steps.{LineHasFailed, HasRun}
use Rattle.pf_world.specs.Views.{WorldOn, world_stands_at}
use Rattle.pf_world.proofs.AskedLines.{no_range_fails, no_range_runs}
use Rattle.pf_world.proofs.ChunkAsks.{asked_ends, asked_plain, asked_stays, asked_told, asked_within, event_in, no_range_told}
use Rattle.pf_world.proofs.LineFailures.{answered_fails, event_fails, on_err}
use Rattle.pf_world.proofs.VolumeEvents.{answered_runs}
use Rattle.pf_world.proofs.ChunkSlices.{comes_back, of_world, ready_given}
use Rattle.pf_world.proofs.Results.{on_ok}
use Rattle.pf_world.proofs.world.World.ask_line.Goals as goal

pub returns-in-Some-clause-ran : goal.returns-in-Some-clause-ran
returns-in-Some-clause-ran g c =
    let old = c.args.self.now.world in
    on_ok c.put_answer.result _ _ (λ put command is allowed.
    no_range_runs old c.args.number c.args.group c.in-Some.server command c.chunk.result.now c.chunk.ensures
    (λ halts. no_range_told command c.args.group c.args.asked c.in-Some.server (sym is) (sym c.no_range.ensures ∙ c.in-Some.is) halts (world_stands_at halts [] old) c.args.number (subst (λ n. c.args.group < n) (sym (length-map old.chunks (run_of halts))) c.requires.group) allowed)
    c.requires.world (asked_plain command c.args.group c.args.asked (sym is)) (asked_stays command c.args.group c.args.asked (sym is) old.moves) c.args.out.now.items c.put_answer.new.out.items c.no_range-answer.result c.no_range-answer.ensures.said c.no_range-answer.ensures.answer put
    (λ halts. asked_ends command c.args.group c.args.asked (sym is) halts (world_stands_at halts [] old))) c.put_answer.ensures.ok

pub returns-in-Some-clause-err : goal.returns-in-Some-clause-err
returns-in-Some-clause-err g c =
    let old = c.args.self.now.world in
    on_err c.put_answer.result _ (λ command is allowed.
    no_range_fails old c.args.number c.args.group c.in-Some.server command c.chunk.result.now c.chunk.ensures
    (λ halts. no_range_told command c.args.group c.args.asked c.in-Some.server (sym is) (sym c.no_range.ensures ∙ c.in-Some.is) halts (world_stands_at halts [] old) c.args.number (subst (λ n. c.args.group < n) (sym (length-map old.chunks (run_of halts))) c.requires.group) allowed)
    (asked_within old c.args.number command c.args.group c.args.asked (sym is)) (asked_stays command c.args.group c.args.asked (sym is) old.moves))

pub ask-requires-clause-ready : goal.ask-requires-clause-ready
ask-requires-clause-ready g c κs within =
    let w = c.self.inside in
    ready_given w.sectors w.names w.format w.chunks.items w.fleet w.moves w.kind w.passes c.args.self.now.world (ap (λ (o : WorldOn g.row.D.Denot). o.world) c.self.view_is) c.deref_mut.result.now c.deref_mut.ensures.value c.requires.world

pub returns-in_err-answer-clause-err : goal.returns-in_err-answer-clause-err
returns-in_err-answer-clause-err g c =
    let w = c.self.inside in
    let old = c.args.self.now.world in
    let same = ap (λ (o : WorldOn g.row.D.Denot). o.world) c.self.view_is in
    let event : ChunkEvent = event_in c.args.asked in
    let range : no_range_of c.args.asked ≡ None = sym c.no_range.ensures ∙ c.in_default.is in
    let not : HasNotAnswered event c.args.group old.chunks old.fleet c.ask.new.chunks =
    of_world w.sectors w.names w.format w.chunks.items w.fleet w.moves w.kind w.passes old same c.deref_mut.result.now c.deref_mut.ensures.value (λ cs f. HasNotAnswered event c.args.group cs f c.ask.new.chunks) c.in_err-answer.ensures.err in
    on_err c.from_residual.result _ (λ command is allowed.
    subst (LineHasFailed old c.args.number command)
    (comes_back w.sectors w.names w.format w.chunks.items w.fleet w.moves w.kind w.passes old same w.chunks.len c.ask.new.chunks c.ask.new.self (omega (arith, c.deref_mut.ensures.len, ap length c.deref_mut.ensures.value)) not.stopped.grown.count)
    (event_fails old c.args.number command (asked_within old c.args.number command c.args.group c.args.asked (sym is)) (asked_stays command c.args.group c.args.asked (sym is) old.moves) event c.args.group old.kind old.kind
    (λ halts. asked_told command c.args.group c.args.asked (sym is) range halts (world_stands_at halts [] old) c.args.number (subst (λ n. c.args.group < n) (sym (length-map old.chunks (run_of halts))) c.requires.group) allowed) c.ask.new.chunks c.ask.new.self not))

pub returns-clause-ran : goal.returns-clause-ran
returns-clause-ran g c =
    let w = c.self.inside in
    let old = c.args.self.now.world in
    let same = ap (λ (o : WorldOn g.row.D.Denot). o.world) c.self.view_is in
    let event : ChunkEvent = event_in c.args.asked in
    let range : no_range_of c.args.asked ≡ None = sym c.no_range.ensures ∙ c.in_default.is in
    let answer = c.in_ok-answer.answer in
    let a : FleetHasAnswered event c.args.group old.chunks old.fleet c.args.out.now.items answer c.ask.new.chunks c.ask.new.self c.ask.new.out.items =
    of_world w.sectors w.names w.format w.chunks.items w.fleet w.moves w.kind w.passes old same c.deref_mut.result.now c.deref_mut.ensures.value
    (λ cs f. FleetHasAnswered event c.args.group cs f c.args.out.now.items answer c.ask.new.chunks c.ask.new.self c.ask.new.out.items) c.in_ok-answer.ensures.went in
    let kept : AreSameHosts old.fleet c.ask.new.self =
    of_world w.sectors w.names w.format w.chunks.items w.fleet w.moves w.kind w.passes old same c.deref_mut.result.now c.deref_mut.ensures.value (λ cs f. AreSameHosts f c.ask.new.self) c.in_ok-answer.ensures.same in
    on_ok c.put_answer-2.result _ _ (λ put command is allowed.
    subst (HasRun old c.args.number command c.args.out.now.items c.put_answer-2.new.out.items)
    (comes_back w.sectors w.names w.format w.chunks.items w.fleet w.moves w.kind w.passes old same w.chunks.len c.ask.new.chunks c.ask.new.self (omega (arith, c.deref_mut.ensures.len, ap length c.deref_mut.ensures.value)) a.went.grown.count)
    (answered_runs old c.args.number command c.requires.world (asked_plain command c.args.group c.args.asked (sym is)) (asked_stays command c.args.group c.args.asked (sym is) old.moves) event c.args.group old.kind c.ask.new.chunks c.ask.new.self c.args.out.now.items c.ask.new.out.items c.put_answer-2.new.out.items answer a put kept.volume kept.calls
    (λ halts. asked_told command c.args.group c.args.asked (sym is) range halts (world_stands_at halts [] old) c.args.number (subst (λ n. c.args.group < n) (sym (length-map old.chunks (run_of halts))) c.requires.group) allowed) (λ halts. asked_ends command c.args.group c.args.asked (sym is) halts (world_stands_at halts [] old)))) c.put_answer-2.ensures.ok

pub returns-clause-err : goal.returns-clause-err
returns-clause-err g c =
    let w = c.self.inside in
    let old = c.args.self.now.world in
    let same = ap (λ (o : WorldOn g.row.D.Denot). o.world) c.self.view_is in
    let event : ChunkEvent = event_in c.args.asked in
    let range : no_range_of c.args.asked ≡ None = sym c.no_range.ensures ∙ c.in_default.is in
    let answer = c.in_ok-answer.answer in
    let a : FleetHasAnswered event c.args.group old.chunks old.fleet c.args.out.now.items answer c.ask.new.chunks c.ask.new.self c.ask.new.out.items =
    of_world w.sectors w.names w.format w.chunks.items w.fleet w.moves w.kind w.passes old same c.deref_mut.result.now c.deref_mut.ensures.value
    (λ cs f. FleetHasAnswered event c.args.group cs f c.args.out.now.items answer c.ask.new.chunks c.ask.new.self c.ask.new.out.items) c.in_ok-answer.ensures.went in
    on_err c.put_answer-2.result _ (λ command is allowed.
    subst (LineHasFailed old c.args.number command)
    (comes_back w.sectors w.names w.format w.chunks.items w.fleet w.moves w.kind w.passes old same w.chunks.len c.ask.new.chunks c.ask.new.self (omega (arith, c.deref_mut.ensures.len, ap length c.deref_mut.ensures.value)) a.went.grown.count)
    (answered_fails old c.args.number command (asked_within old c.args.number command c.args.group c.args.asked (sym is)) (asked_stays command c.args.group c.args.asked (sym is) old.moves) event c.args.group old.kind old.kind
    (λ halts. asked_told command c.args.group c.args.asked (sym is) range halts (world_stands_at halts [] old) c.args.number (subst (λ n. c.args.group < n) (sym (length-map old.chunks (run_of halts))) c.requires.group) allowed) c.ask.new.chunks c.ask.new.self c.args.out.now.items c.ask.new.out.items answer a))
