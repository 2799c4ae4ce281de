use Rattle.std.proofs.Common.{List, ℕ, Some, sym, subst}
use Rattle.pf_codec.specs.Tails.{IsAmong}
use Rattle.pf_codec.proofs.Among.{among_range}
use Rattle.pf_codec.proofs.reader.ByteReader.among.Goals as goal

pub invariant_of-result : goal.invariant_of-result
invariant_of-result c =
    let place = c.place-end.ensures in
    subst (λ (rest : List ℕ). IsAmong rest (Some c.place-end.result.0.now) c.place-end.result.1) (sym c.as_slice.ensures)
    (among_range c.place-end.result.1 c.place-end.result.0.now c.args.piece.now place.inside place.end place.same)
