use Rattle.std.proofs.Common.{◌≡◌, ◌++◌}
use Rattle.std.proofs.lemmas.Result.{on_ok_weaker}
use Rattle.pf_mount_host.specs.Parts.{next_text}
use Rattle.pf_mount_host.proofs.HeardReplies.{took}
use Rattle.pf_mount_host.proofs.host.Host.take.Goals as goal

pub returns : goal.returns
returns c =
    on_ok_weaker c.put_next.result
    (λ (put : c.put_next.new.out.items ≡ c.args.out.now.items ++ next_text c.number-number.result c.call-name.result c.in_ok-next.next).
    took c.args.port c.args.reply c.args.out.now.items c.put_next.new.out.items c.args.self.now (record { mount = c.self.inside.mount; at = c.self.inside.at }) c.on_answer.new.self c.in_ok-next.next c.number-number.result c.call-name.result
    c.self.view_is c.number-number.ensures.number c.call-name.ensures c.in_ok-next.ensures.ok put)
    c.put_next.ensures.ok
