use Rattle.std.proofs.Common.{◌+◌, ℕ, ap, add-one, sym, ◌∙◌}
use Rattle.pf_mount.specs.Mounts.{MountIs, MountOutcome, stand_of}
use Rattle.pf_mount.proofs.CallBegins.{begun_after, begun_as, begun_step, same_call}
use Rattle.pf_mount.proofs.mount.Mount.begin.Goals as goal

pub take-requires : goal.take-requires
take-requires c =
    let m : MountIs = record { files = c.self.inside.files; upto = c.self.inside.upto; position = c.self.inside.position; errands = c.self.inside.errands; task = c.self.inside.task } in
    begun_after c.data_are_asked_inside.ensures.first m c.args.self.now c.self.view_is c.stand-stand.ensures.mount c.stand-stand.ensures.volume c.stand-stand.ensures.tree c.args.call c.in-Some.pending.call c.requires.short c.start.new.self (same_call _ c.args.call c.in-Some.pending c.in-Some.is) c.start.ensures c.in_ok-step.step
    (begun_step m c.stand-stand.result c.tree.result.now (c.calls-number.result + 1) c.args.call c.in_ok-step.step (c.stand-stand.ensures.stand ∙ ap stand_of (sym c.self.view_is)) c.tree.ensures.held (ap (λ (n : ℕ). n + 1) c.calls-number.ensures ∙ add-one m.files.calls) c.in_ok-step.ensures)

pub returns-clause-ok : goal.returns-clause-ok
returns-clause-ok c =
    let m : MountIs = record { files = c.self.inside.files; upto = c.self.inside.upto; position = c.self.inside.position; errands = c.self.inside.errands; task = c.self.inside.task } in
    let o : MountOutcome = record { mount = c.take.new.self; next = c.take.result } in
    begun_as m c.args.self.now c.args.call c.in-Some.pending.call c.start.new.self c.in_ok-step.step o c.self.view_is
    (begun_step m c.stand-stand.result c.tree.result.now (c.calls-number.result + 1) c.args.call c.in_ok-step.step (c.stand-stand.ensures.stand ∙ ap stand_of (sym c.self.view_is)) c.tree.ensures.held (ap (λ (n : ℕ). n + 1) c.calls-number.ensures ∙ add-one m.files.calls) c.in_ok-step.ensures)
    (same_call _ c.args.call c.in-Some.pending c.in-Some.is) c.start.ensures c.take.ensures
