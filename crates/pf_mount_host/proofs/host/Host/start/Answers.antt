use Rattle.std.proofs.Common.{◌≡◌, Result, Ok, Err, IsErrOf, rules}
use Rattle.pf_mount.specs.declared.faults.StartFault.TheVariants.{BadName, CallPending}
use Rattle.pf_mount.specs.Starts.{IsMisspelled}
use Rattle.pf_world_moments.proofs.Words.{none_read}
use Rattle.pf_mount_host.specs.Hosts.{HostIs}
use Rattle.pf_mount_host.proofs.CallBegins.{at_rest, began_as}
use Rattle.pf_mount_host.proofs.host.Host.start.Goals as goal

ok_is_no_err : {T E : Type 0} → (r : Result T E) (x : T) (e : E) → r ≡ Ok x → r ≡ Err e → ⊥
ok_is_no_err r x e ok err = cc

pub returns-in_err-next-clause-bad_name : goal.returns-in_err-next-clause-bad_name
returns-in_err-next-clause-bad_name c bad =
    let wrong : IsErrOf c.from_residual.result BadName → IsMisspelled c.args.call.now = search rules in
    none_read c.args.call.now (wrong bad)

pub returns-clause-began : goal.returns-clause-began
returns-clause-began c =
    let inside : HostIs = record { mount = c.self.inside.mount; at = c.self.inside.at } in
    let started = c.in_ok-next.ensures.ok in
    let rests = at_rest inside.mount.task.work (λ other. ok_is_no_err c.start.result c.in_ok-next.next CallPending c.in_ok-next.was (c.start.ensures.pending.1 other)) in
    began_as c.args.call.now started.0 c.name-name.result c.args.out.now.items c.put_next.new.out.items c.args.self.now inside c.start.new.self c.in_ok-next.next c.number-number.result started.1 c.name-name.ensures started.2
    (λ port. c.pending_asks_stay.ensures.starting inside.mount started.0 port rests) (c.layouts_stay.ensures.starting inside.mount started.0) c.number-number.ensures.number c.self.view_is c.in_ok-put_next.ensures.ok
