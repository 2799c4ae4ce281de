use Rattle.std.proofs.Common.{List, ℕ, ◌++◌, Some, sym, subst, ◌∙◌, arith}
use Rattle.std.specs.Option.{option_copied}
use Rattle.pf_codec.specs.Tails.{IsAmong, tail_bytes}
use Rattle.pf_codec.proofs.Among.{among_dropped}
use Rattle.pf_codec.proofs.Fields.{bytes_ahead}
use Rattle.pf_codec.proofs.reader.ByteReader.field.Goals as goal

pub returns : goal.returns
returns g c =
    let cases = c.in-Some.ensures.cases in
    let tail = tail_bytes (option_copied c.self.inside.tail) in
    bytes_ahead g.row.N c.self.inside.rest.now tail c.args.self.now c.self.view_is (omega (arith, cases.2)) ∙ (λ i. Some (sym cases.0 i, sym cases.1 i ++ tail))

pub invariant_of-self : goal.invariant_of-self
invariant_of-self g c =
    let whole = option_copied c.self.inside.whole in
    subst (λ (rest : List ℕ). IsAmong rest whole c.self.inside.end) (sym c.in-Some.ensures.cases.1) (among_dropped g.row.N c.self.inside.rest.now whole c.self.inside.end c.self.invariant)
