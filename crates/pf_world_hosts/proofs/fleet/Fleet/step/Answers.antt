use Rattle.std.proofs.Common.{Result, Ok, Err, OnOk}
use Rattle.std.proofs.lemmas.Result.{on_err_weaker, on_ok_weaker}
use Rattle.pf_mount_host.specs.pf_group.proofs.NextEvents.{on_err}
use Rattle.pf_world_hosts.proofs.Rows.{same_trans}
use Rattle.pf_world_hosts.proofs.Steps.{all_stay, all_went, first_stopped, mover_stopped}
use Rattle.pf_world_hosts.proofs.fleet.Fleet.step.Goals as goal

pub returns-in_err-step_hosts-clause-err : goal.returns-in_err-step_hosts-clause-err
returns-in_err-step_hosts-clause-err g c =
    on_err c.from_residual.result _ (first_stopped c.args.chunks.now c.args.self.now c.step_hosts.new.chunks c.in_err-step_hosts.ensures.err)

pub returns-clause-went : goal.returns-clause-went
returns-clause-went g c =
    on_ok_weaker c.carry.result
    (all_went c.args.chunks.now c.step_hosts.new.chunks c.args.self.now c.step_hosts.new.self c.args.out.now.items c.step_hosts.new.out.items c.in_ok-step_hosts.ensures.went
    c.carry.new.chunks c.carry.new.self c.carry.new.out.items) c.carry.ensures.went

pub returns-clause-same : goal.returns-clause-same
returns-clause-same g c =
    on_ok_weaker c.carry.result (same_trans c.args.self.now c.step_hosts.new.self c.carry.new.self c.in_ok-step_hosts.ensures.same) c.carry.ensures.same

on_both : {T E : Type 0} → (r : Result T E) (P Q R : Type 0) → (P → Q → R) → OnOk r P → OnOk r Q → OnOk r R
on_both (Ok x) P Q R both p q = both p q
on_both (Err e) P Q R both p q = tt

pub returns-clause-stay : goal.returns-clause-stay
returns-clause-stay g c =
    on_both c.carry.result _ _ _
    (all_stay c.args.chunks.now c.step_hosts.new.chunks c.args.self.now c.step_hosts.new.self c.args.out.now.items c.step_hosts.new.out.items c.in_ok-step_hosts.ensures.went
    c.in_ok-step_hosts.ensures.stay c.carry.new.chunks c.carry.new.self c.carry.new.out.items) c.carry.ensures.went c.carry.ensures.stay

pub returns-clause-err : goal.returns-clause-err
returns-clause-err g c =
    on_err_weaker c.carry.result
    (mover_stopped c.args.chunks.now c.step_hosts.new.chunks c.args.self.now c.step_hosts.new.self c.args.out.now.items c.step_hosts.new.out.items c.in_ok-step_hosts.ensures.went
    c.carry.new.chunks) c.carry.ensures.err
