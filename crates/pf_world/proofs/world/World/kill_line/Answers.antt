use Rattle.std.proofs.Common.{◌≡◌, ℕ, ◌++◌, Global, OnOk, IfSome, Vec, refl, sym, ap, subst}
use Rattle.std.proofs.lemmas.Bool.{false≢true}
use Rattle.pf_script.specs.declared.command.Command.TheVariants as commands
use Rattle.pf_report.specs.Refusals.{refusal_text}
use Rattle.pf_report.specs.Texts.{report_line}
use Rattle.pf_world.specs.Steps.{LineHasFailed, HasRun}
use Rattle.pf_world.specs.Views.{IsWorld, WorldIs, WorldOn}
use Rattle.pf_world.proofs.LineFailures.{on_err}
use Rattle.pf_world.proofs.VolumeEvents.{becomes}
use Rattle.pf_world.proofs.Mounts.{killed_fails, killed_runs, none_killed_runs}
use Rattle.pf_world.proofs.Results.{on_ok}
use Rattle.pf_world.proofs.world.World.kill_line.Goals.{in-Ok, in-Err}
use Rattle.pf_world.proofs.world.World.kill_line.Goals as goal

pub returns-clause-ran : goal.returns-clause-ran
returns-clause-ran g c =
    let i = c.self.inside in
    let before = c.args.out.now.items in
    let old : WorldIs = record { sectors = i.sectors; names = i.names; format = i.format; chunks = i.chunks.items; fleet = i.fleet; moves = i.moves; kind = i.kind; passes = i.passes } in
    let same : old ≡ c.args.self.now.world = ap (λ (o : WorldOn g.row.D.Denot). o.world) c.self.view_is in
    let world : IsWorld old = subst IsWorld (sym same) c.requires.world in
    let next : WorldIs = becomes old old.chunks c.kill.new.self old.kind in
    let Ran : Vec ℕ Global → Type 0 = λ out. HasRun c.args.self.now.world c.args.number (commands.Kill c.args.mount) before out.items next in
    elim c.match-kill.branch [
      | in-Ok w ↦
          subst (λ r. OnOk r (Ran c.match-kill.out)) (sym w.result-is)
          (on_ok w.put_answer.result _ (Ran c.match-kill.out) (λ put. subst Ran (sym w.out-is)
          (subst (λ (x : WorldIs). HasRun x c.args.number (commands.Kill c.args.mount) before w.put_answer.new.out.items next) same
          (killed_runs old c.args.number c.args.mount world before w.put_answer.new.out.items c.kill.new.self w.in-Ok.ensures.killed (w.in-Ok.ensures.still i.chunks.items world.is_fleet) (λ none. false≢true (w.in-Ok.ensures.none.1 none)) put))) w.put_answer.ensures.ok)
      | in-Err w ↦
          subst (λ r. OnOk r (Ran c.match-kill.out)) (sym w.result-is)
          (on_ok w.put_refusal.result _ (Ran c.match-kill.out) (λ put. subst Ran (sym w.out-is)
          (subst (λ (x : WorldIs). HasRun x c.args.number (commands.Kill c.args.mount) before w.put_refusal.new.out.items next) same
          (none_killed_runs old c.args.number c.args.mount world before w.put_refusal.new.out.items c.kill.new.self w.in-Err.ensures.err (w.in-Err.ensures.none.0 refl)
          (subst (λ n. IfSome (refusal_text n) (λ text. w.put_refusal.new.out.items ≡ before ++ report_line c.args.number text)) w.number.ensures put)))) w.put_refusal.ensures.ok)
    ]

pub returns-clause-err : goal.returns-clause-err
returns-clause-err g c =
    let same = ap (λ (o : WorldOn g.row.D.Denot). o.world) c.self.view_is in
    on_err c.match-kill.result _ (subst (LineHasFailed c.args.self.now.world c.args.number (commands.Kill c.args.mount)) (ap (λ (x : WorldIs). becomes x x.chunks c.kill.new.self x.kind) (sym same)) (killed_fails c.args.self.now.world c.args.number c.args.mount c.kill.new.self))
