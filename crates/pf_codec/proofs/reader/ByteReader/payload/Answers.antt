use Rattle.std.proofs.Common.{◌≡◌, ℕ, ◌*◌, ◌≤◌, List, Option, length, ap, subst, ◌∙◌, arith, IfSome}
use Rattle.std.specs.Option.{option_copied}
use Rattle.std.specs.Simd.{first_chunks}
use Rattle.pf_codec.specs.Reading.{sector_at}
use Rattle.pf_codec.specs.Tails.{tail_bytes}
use Rattle.pf_codec.proofs.Among.{among_left, part_read}
use Rattle.pf_codec.proofs.Rows.{length-row_at}
use Rattle.pf_codec.proofs.reader.ByteReader.payload.Goals as goal

pub from_sectors-requires-clause-some : goal.from_sectors-requires-clause-some
from_sectors-requires-clause-some c =
    let count : length c.new.result ≡ c.args.count = ap length c.new.ensures ∙ length-row_at sector_at _ _ _ _ c.in_ok-sectors.ensures in
    omega (arith, count, c.requires.some)

pub from_sectors-requires-clause-few : goal.from_sectors-requires-clause-few
from_sectors-requires-clause-few c =
    let count : length c.new.result ≡ c.args.count = ap length c.new.ensures ∙ length-row_at sector_at _ _ _ _ c.in_ok-sectors.ensures in
    omega (arith, count, c.requires.few)

pub invariant_of-self-in-Some-2 : goal.invariant_of-self-in-Some-2
invariant_of-self-in-Some-2 c = among_left (512 * c.args.count) c.self.inside.rest.now (option_copied c.self.inside.whole) c.self.inside.end c.self.invariant

pub returns-in-Some-2 : goal.returns-in-Some-2
returns-in-Some-2 c =
    let rest = c.self.inside.rest.now in
    let found = subst (λ (found : Option (List (List ℕ))). IfSome found (λ part. (512 * c.args.count ≤ length rest) × (part ≡ first_chunks 512 c.args.count rest))) c.in-Some-2.is c.in_ok-part.ensures in
    part_read c.args.count rest (tail_bytes (option_copied c.self.inside.tail)) c.args.self.now c.in-Some-2.part c.self.view_is found.0 found.1
