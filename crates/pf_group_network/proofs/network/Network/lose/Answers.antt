use Rattle.std.proofs.Common.{Some, arith, refl, sym, ap, ◌∙◌, le_refl}
use Rattle.std.proofs.lemmas.Option.{slice_get_read}
use Rattle.pf_group_network.specs.declared.kept.Parcel.{Parcel}
use Rattle.pf_group_network.proofs.StepResults.{read_there}
use Rattle.pf_group_network.proofs.Deliveries.{loses, loses_again, loses_none}
use Rattle.pf_group_network.proofs.network.Network.lose.Goals as goal

pub returns-then-place-len : goal.returns-then-place-len
returns-then-place-len g c setup past reached =
    loses_none g.S.Store.model setup past c.args.self.now reached c.args.k
    (omega (arith, c.len.ensures, c.if-place-len.true, c.args.self.now.packets.ok))

pub returns-then-index : goal.returns-then-index
returns-then-index g c setup past reached =
    let packets = c.args.self.now.packets in
    let at = slice_get_read packets.items packets.len c.args.k c.index.result.now packets.ok.0 (omega (arith, c.len.ensures, c.if-place-len.false)) c.index.ensures in
    loses_again g.S.Store.model setup past c.args.self.now reached c.args.k c.index.result.now at c.if-index.true

pub returns : goal.returns
returns g c setup past reached =
    let packets = c.args.self.now.packets in
    let at = slice_get_read packets.items packets.len c.args.k c.index.result.now packets.ok.0 (omega (arith, c.len.ensures, c.if-place-len.false)) c.index.ensures in
    let same = read_there packets.items c.args.k c.index.result.now c.index_mut.result.now at c.index_mut.ensures.value in
    loses g.S.Store.model setup past c.args.self.now reached c.args.k c.index_mut.result.now (at ∙ ap Some (sym same)) (ap (λ (x : Parcel). x.lost) same ∙ c.if-index.false) _ refl (le_refl _)
