use Rattle.std.proofs.Common.{sym}
use Rattle.std.proofs.lemmas.Option.{slice_get_read}
use Rattle.pf_group_network.proofs.Shown.{idles, is_running_at, matched}
use Rattle.pf_group_network.proofs.network.Network.running.Goals as goal

pub returns : goal.returns
returns g c setup grp shows =
    let me = c.index.result.now in
    let here = slice_get_read c.args.self.now.servers.items 3 c.args.server me (sym shows.three) c.requires.server c.index.ensures in
    matched c.running.result
    (λ idle. idles g.S.Store.model setup grp c.args.self.now shows c.args.server me here idle)
    (λ r is. is_running_at g.S.Store.model setup grp c.args.self.now shows c.args.server me here r.now is) c.running.ensures
