use Rattle.std.proofs.Common.{◌-◌, ◌∙◌, Some, arith, is_some, sym, ap, subst}
use Rattle.std.proofs.lemmas.Option.{same_Some}
use Rattle.std.specs.FinMap
use Rattle.pf_protocol.specs.Saving.{applied_op}
use Rattle.pf_server_memory.specs.declared.running.Running.{Running}
use Rattle.pf_server_memory.specs.Standing.{server_of}
use Rattle.pf_server_memory.specs.Turns.{IsAfter}
use Rattle.pf_server_apply.specs.Jobs.{IsFilledFor}
use Rattle.pf_server_apply.proofs.FinishedJobs.{done, some_jobs, has_room, is_inside}
use Rattle.pf_server_apply.proofs.jobs.apply.Goals as goal

pub overflow_sub-me : goal.overflow_sub-me
overflow_sub-me c = some_jobs c.requires.cached.0 c.args.me.now c.args.filled.slot c.requires.cached.1 (ap is_some c.requires.job.held)

pub carry_out-requires : goal.carry_out-requires
carry_out-requires c = record {
  filled = subst (λ o. IsFilledFor o c.args.filled) (same_Some _ _ (sym c.requires.job.held ∙ c.in-Some.ensures.taken)) c.requires.job.brought;
  inside = is_inside c.args.me.now c.args.filled.slot c.in-Some.op c.requires.bounded c.in-Some.ensures.taken;
  room = has_room c.in-Some.op c.take-room.result (FinMap.get c.args.me.now.rooms c.args.filled.slot) _ c.take-room.ensures.taken (λ mark. c.requires.cached.1.rooms c.args.filled.slot (c.in-Some.ensures.taken ∙ ap Some mark));
}

pub add-requires : goal.add-requires
add-requires c = λ _.
    let cached = c.requires.cached.1 in
    omega (arith, cached.places, some_jobs c.requires.cached.0 c.args.me.now c.args.filled.slot cached (ap is_some c.requires.job.held))

pub returns : goal.returns
returns c d cached =
    let me = c.args.me.now in
    let slot = c.args.filled.slot in
    let rooms = sym c.take-room.ensures.rest in
    let in_hand = sym c.take.ensures.rest in
    subst (λ (m : Running). IsAfter d me m (applied_op (server_of d me) slot (FinMap.get me.in_hand slot)))
    (λ i. record me { in_hand = in_hand i; rooms = rooms i; jobs = me.jobs - 1; applied = c.add.new.self; sectors = c.carry_out.new.sectors; snapshots = c.carry_out.new.snapshots })
    (done d me slot cached c.requires.bounded c.in-Some.op c.in-Some.ensures.taken c.add.new.self c.carry_out.new.sectors c.carry_out.new.snapshots
    c.add.ensures.slots c.add.ensures.spare c.carry_out.ensures.sectors c.carry_out.ensures.snapshots)
