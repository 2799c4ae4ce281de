use Rattle.std.proofs.Common.{◌≡◌, refl, sym, subst}
use Rattle.pf_script.specs.declared.command.Command.{Command}
use Rattle.pf_script.specs.declared.command.Command.TheVariants as commands
use Rattle.pf_live_session.specs.pf_chunk.specs.Showing.{acked_shown, applied_shown, log_shown, mark_shown, text_of_server, sectors_shown}
use Rattle.pf_world.specs.Steps.{HasRun, IsOfMade}
use Rattle.pf_world.proofs.LineFailures.{on_err}
use Rattle.pf_world.proofs.Results.{on_ok}
use Rattle.pf_world.proofs.Shown.{shown_fails, shown_runs}
use Rattle.pf_world.proofs.world.World.show.Goals as goal

pub returns-in-ShowLog-clause-ran : goal.returns-in-ShowLog-clause-ran
returns-in-ShowLog-clause-ran g c =
    let w = c.args.self.now.world in
    on_ok c.show_log.result _ _ (λ put.
    subst (λ (x : Command). HasRun w c.args.number x c.args.out.now.items c.show_log.new.out.items w) (sym c.in-ShowLog.is)
    (shown_runs w c.args.number (commands.ShowLog c.in-ShowLog.group c.in-ShowLog.server) c.in-ShowLog.group c.chunk.result.now (λ d. text_of_server d c.in-ShowLog.server log_shown) c.args.out.now.items c.show_log.new.out.items c.requires.world refl refl (subst (IsOfMade w) c.in-ShowLog.is c.requires.made) c.chunk.ensures put (λ halts. refl) (λ halts made. tt))) c.show_log.ensures.ok

pub returns-in-ShowLog-clause-err : goal.returns-in-ShowLog-clause-err
returns-in-ShowLog-clause-err g c = on_err c.show_log.result _ (shown_fails c.args.self.now.world c.args.number c.args.command.now c.requires.shows c.requires.made)

pub returns-in-ShowApplied-clause-ran : goal.returns-in-ShowApplied-clause-ran
returns-in-ShowApplied-clause-ran g c =
    let w = c.args.self.now.world in
    on_ok c.show_applied.result _ _ (λ put.
    subst (λ (x : Command). HasRun w c.args.number x c.args.out.now.items c.show_applied.new.out.items w) (sym c.in-ShowApplied.is)
    (shown_runs w c.args.number (commands.ShowApplied c.in-ShowApplied.group c.in-ShowApplied.server) c.in-ShowApplied.group c.chunk-in-ShowApplied.result.now (λ d. text_of_server d c.in-ShowApplied.server applied_shown) c.args.out.now.items c.show_applied.new.out.items c.requires.world refl refl (subst (IsOfMade w) c.in-ShowApplied.is c.requires.made) c.chunk-in-ShowApplied.ensures put (λ halts. refl) (λ halts made. tt))) c.show_applied.ensures.ok

pub returns-in-ShowApplied-clause-err : goal.returns-in-ShowApplied-clause-err
returns-in-ShowApplied-clause-err g c = on_err c.show_applied.result _ (shown_fails c.args.self.now.world c.args.number c.args.command.now c.requires.shows c.requires.made)

pub returns-in-ShowSectors-clause-ran : goal.returns-in-ShowSectors-clause-ran
returns-in-ShowSectors-clause-ran g c =
    let w = c.args.self.now.world in
    on_ok c.show_sectors.result _ _ (λ put.
    subst (λ (x : Command). HasRun w c.args.number x c.args.out.now.items c.show_sectors.new.out.items w) (sym c.in-ShowSectors.is)
    (shown_runs w c.args.number (commands.ShowSectors c.in-ShowSectors.group c.in-ShowSectors.server) c.in-ShowSectors.group c.chunk-in-ShowSectors.result.now (λ d. text_of_server d c.in-ShowSectors.server sectors_shown) c.args.out.now.items c.show_sectors.new.out.items c.requires.world refl refl (subst (IsOfMade w) c.in-ShowSectors.is c.requires.made) c.chunk-in-ShowSectors.ensures put (λ halts. refl) (λ halts made. tt))) c.show_sectors.ensures.ok

pub returns-in-ShowSectors-clause-err : goal.returns-in-ShowSectors-clause-err
returns-in-ShowSectors-clause-err g c = on_err c.show_sectors.result _ (shown_fails c.args.self.now.world c.args.number c.args.command.now c.requires.shows c.requires.made)

pub returns-in-ShowAcked-clause-ran : goal.returns-in-ShowAcked-clause-ran
returns-in-ShowAcked-clause-ran g c =
    let w = c.args.self.now.world in
    on_ok c.show_acked.result _ _ (λ put.
    subst (λ (x : Command). HasRun w c.args.number x c.args.out.now.items c.show_acked.new.out.items w) (sym c.in-ShowAcked.is)
    (shown_runs w c.args.number (commands.ShowAcked c.in-ShowAcked.group) c.in-ShowAcked.group c.chunk-in-ShowAcked.result.now acked_shown c.args.out.now.items c.show_acked.new.out.items c.requires.world refl refl (subst (IsOfMade w) c.in-ShowAcked.is c.requires.made) c.chunk-in-ShowAcked.ensures put (λ halts. refl) (λ halts made. tt))) c.show_acked.ensures.ok

pub returns-in-ShowAcked-clause-err : goal.returns-in-ShowAcked-clause-err
returns-in-ShowAcked-clause-err g c = on_err c.show_acked.result _ (shown_fails c.args.self.now.world c.args.number c.args.command.now c.requires.shows c.requires.made)

pub returns-in-ShowMark-clause-ran : goal.returns-in-ShowMark-clause-ran
returns-in-ShowMark-clause-ran g c =
    let w = c.args.self.now.world in
    let same : c.from.result ≡ c.in-ShowMark.slot = cc in
    on_ok c.show_mark.result _ _ (λ put.
    subst (λ (x : Command). HasRun w c.args.number x c.args.out.now.items c.show_mark.new.out.items w) (sym c.in-ShowMark.is)
    (shown_runs w c.args.number (commands.ShowMark c.in-ShowMark.group c.in-ShowMark.server c.in-ShowMark.slot) c.in-ShowMark.group c.chunk-in-ShowMark.result.now (λ d. text_of_server d c.in-ShowMark.server (mark_shown c.in-ShowMark.slot)) c.args.out.now.items c.show_mark.new.out.items c.requires.world refl refl (subst (IsOfMade w) c.in-ShowMark.is c.requires.made) c.chunk-in-ShowMark.ensures put (λ halts. refl) (λ halts made. tt))) (rw same at c.show_mark.ensures.ok)

pub returns-in-ShowMark-clause-err : goal.returns-in-ShowMark-clause-err
returns-in-ShowMark-clause-err g c = on_err c.show_mark.result _ (shown_fails c.args.self.now.world c.args.number c.args.command.now c.requires.shows c.requires.made)
