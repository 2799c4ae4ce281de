use Rattle.std.proofs.Common.{◌≡◌, refl, sym, subst, ◌∙◌}
use Rattle.std.proofs.lemmas.Result.{on_err_weaker}
use Rattle.pf_script.specs.declared.command.Command.{Command}
use Rattle.pf_world.specs.Steps.{moves_after}
use Rattle.pf_world.specs.Steps.{HasRun}
use Rattle.pf_world.proofs.AskedLines.{not_submit}
use Rattle.pf_world.proofs.Made.{line_makes_none, none_made, not_move}
use Rattle.pf_world.proofs.Results.{on_ok}
use Rattle.pf_world.proofs.world.World.run_made.Goals as goal

pub returns-in-Submit-clause-made : goal.returns-in-Submit-clause-made
returns-in-Submit-clause-made g c =
    line_makes_none g.D.Disk.faults c.submit_line.result c.args.self.now c.submit_line.new.self c.args.number 0 c.args.command.now c.args.out.now.items c.submit_line.new.out.items
    (subst (λ (x : Command). moves_after 0 x ≡ 0) (sym c.in-Submit.is) refl) c.submit_line.ensures.spare c.submit_line.ensures.ran c.submit_line.ensures.err

pub returns-in-Settle-clause-made : goal.returns-in-Settle-clause-made
returns-in-Settle-clause-made g c =
    line_makes_none g.D.Disk.faults c.settle_line.result c.args.self.now c.settle_line.new.self c.args.number 0 _ c.args.out.now.items c.settle_line.new.out.items
    refl c.settle_line.ensures.spare c.settle_line.ensures.ran c.settle_line.ensures.err

pub returns-in-Live-clause-made : goal.returns-in-Live-clause-made
returns-in-Live-clause-made g c =
    line_makes_none g.D.Disk.faults c.live_line.result c.args.self.now c.live_line.new.self c.args.number 0 _ c.args.out.now.items c.live_line.new.out.items
    refl c.live_line.ensures.spare c.live_line.ensures.ran c.live_line.ensures.err

pub returns-in-Anchors-clause-made : goal.returns-in-Anchors-clause-made
returns-in-Anchors-clause-made g c =
    line_makes_none g.D.Disk.faults c.anchors_line.result c.args.self.now c.anchors_line.new.self c.args.number 0 _ c.args.out.now.items c.anchors_line.new.out.items
    refl c.anchors_line.ensures.spare c.anchors_line.ensures.ran c.anchors_line.ensures.err

pub returns-in-Mount-clause-made : goal.returns-in-Mount-clause-made
returns-in-Mount-clause-made g c =
    line_makes_none g.D.Disk.faults c.mount_line.result c.args.self.now c.mount_line.new.self c.args.number 0 _ c.args.out.now.items c.mount_line.new.out.items
    refl c.mount_line.ensures.spare c.mount_line.ensures.ran c.mount_line.ensures.err

pub returns-in-Kill-clause-made : goal.returns-in-Kill-clause-made
returns-in-Kill-clause-made g c =
    line_makes_none g.D.Disk.faults c.kill_line.result c.args.self.now c.kill_line.new.self c.args.number 0 _ c.args.out.now.items c.kill_line.new.out.items
    refl c.kill_line.ensures.spare c.kill_line.ensures.ran c.kill_line.ensures.err

pub returns-in-Call-clause-made : goal.returns-in-Call-clause-made
returns-in-Call-clause-made g c =
    line_makes_none g.D.Disk.faults c.call_line.result c.args.self.now c.call_line.new.self c.args.number 0 _ c.args.out.now.items c.call_line.new.out.items
    refl c.call_line.ensures.spare c.call_line.ensures.ran c.call_line.ensures.err

pub returns-in-ShowMount-clause-made : goal.returns-in-ShowMount-clause-made
returns-in-ShowMount-clause-made g c = none_made g.D.Disk.faults c.args.self.now c.args.self.now refl refl

pub returns-in-Some : goal.returns-in-Some
returns-in-Some g c =
    let a = c.args in
    let asks = sym c.asked_of.ensures ∙ c.in-Some.is in
    let allowed = not_submit a.command.now a.self.now.world.kind c.in_default.not-Submit in
    let ran = on_ok c.ask_line.result _ (HasRun a.self.now.world a.number a.command.now a.out.now.items c.ask_line.new.out.items c.ask_line.new.self.world) (λ its. its a.command.now asks allowed) c.ask_line.ensures.ran in
    let err = on_err_weaker c.ask_line.result (λ its. its a.command.now asks allowed) c.ask_line.ensures.err in
    record {
      ran = ran;
      err = err;
      made = line_makes_none g.D.Disk.faults c.ask_line.result a.self.now c.ask_line.new.self a.number 0 a.command.now a.out.now.items c.ask_line.new.out.items
          (not_move 0 a.command.now c.in_default.not-Move) c.ask_line.ensures.spare ran err;
    }

pub returns-in-None : goal.returns-in-None
returns-in-None g c = record {
  ran = c.show.ensures.ran;
  err = c.show.ensures.err;
  made = none_made g.D.Disk.faults c.args.self.now c.args.self.now refl refl;
}
