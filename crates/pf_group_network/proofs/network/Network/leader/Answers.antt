use Rattle.std.proofs.Common.{◌≡◌, ◌+◌, length, arith, refl, sym, ap, subst, ◌∙◌}
use Rattle.std.specs.Option.{option_and_then}
use Rattle.std.proofs.lemmas.Option.{slice_get_read}
use Rattle.pf_group_network.specs.Shown.{served_by}
use Rattle.pf_group_network.proofs.Shown.{IsGreatest, is_leader, one_more_leader, served_at}
use Rattle.pf_group_network.proofs.network.Network.leader.Goals as goal

pub loop-server-preserved : goal.loop-server-preserved
loop-server-preserved g c =
    let servers = c.args.self.now.servers in
    let index = c.loop-server.server-index in
    let items = c.deref-server-items.ensures.value in
    let read = slice_get_read c.deref-server-items.result.now (length c.deref-server-items.result.now) index c.server-item.result refl c.loop-server-test.true c.server-item.is in
    subst (IsGreatest (served_at servers.items) (index + 1)) (sym c.later-leader.ensures)
    (one_more_leader (served_at servers.items) index c.loop-server.leader c.served_by.result
    (ap (λ xs. served_at xs index) (sym items) ∙ ap (option_and_then served_by) read ∙ sym c.served_by.ensures) c.loop-server.invariant)

pub returns : goal.returns
returns g c setup grp shows =
    let servers = c.args.self.now.servers in
    let all : c.loop-server.server-index ≡ 3 = omega (arith, shows.three, ap length c.deref-server-items.ensures.value, c.loop-server-test.false, c.loop-server.auto.server-index-end) in
    is_leader g.S.Store.model setup grp c.args.self.now shows c.loop-server.leader
    (subst (λ n. IsGreatest (served_at servers.items) n c.loop-server.leader) all c.loop-server.invariant)
