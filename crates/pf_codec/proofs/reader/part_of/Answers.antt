use Rattle.std.proofs.Common.{List, ℕ, Option, ap, subst, ◌∙◌, arith}
use Rattle.std.specs.Option.{option_copied}
use Rattle.pf_codec.specs.Tails.{IsAmong}
use Rattle.pf_codec.proofs.Among.{part_there}
use Rattle.pf_codec.proofs.reader.part_of.Goals as goal

pub returns : goal.returns
returns c =
    let among = subst (λ (whole : Option (List ℕ)). IsAmong c.args.rest.now whole c.args.end) (ap option_copied c.in-Some.is) c.requires.among in (
      omega (arith, c.if-rest-count.false),
      c.in_ok-part.ensures ∙ part_there c.args.count c.args.end c.saturating_sub-from.result c.args.rest.now c.in-Some.whole.now among (omega (arith, c.saturating_sub-from.ensures)) (omega (arith, c.if-rest-count.false)),
    )
