use Rattle.std.proofs.Common.{◌*◌, ◌/◌, ◌≤◌, length, arith}
use Rattle.std.specs.Option.{option_copied}
use Rattle.pf_codec.proofs.Among.{among_left}
use Rattle.pf_codec.proofs.SectorRows.{bulk_found}
use Rattle.pf_codec.proofs.reader.ByteReader.sectors.Goals as goal

pub returns : goal.returns
returns c =
    let enough : c.args.count ≤ length c.self.inside.rest.now / 512 = omega (arith, c.if-whole-wanted.false, c.as_chunks.ensures.front_len) in
    bulk_found c.args.count c.self.inside.rest.now _ c.args.self.now c.as_chunks.result.0.now c.in_ok-sectors.sectors.items c.self.view_is enough c.as_chunks.ensures.front c.in_ok-sectors.ensures.items

pub invariant_of-self : goal.invariant_of-self
invariant_of-self c = among_left (512 * c.args.count) c.self.inside.rest.now (option_copied c.self.inside.whole) c.self.inside.end c.self.invariant
