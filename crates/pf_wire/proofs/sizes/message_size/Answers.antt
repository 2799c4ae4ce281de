use Rattle.std.proofs.Common.{length, ap, subst, arith}
use Rattle.pf_entry.specs.Sizes.{message_size}
use Rattle.pf_entry.specs.Canonical.{IsCanonicalMessage}
use Rattle.pf_wire.proofs.sizes.message_size.Goals as goal

pub image_size-requires-clause-slots : goal.image_size-requires-clause-slots
image_size-requires-clause-slots c = (subst (IsCanonicalMessage c.args.term) c.in-Image.is c.requires).few

pub image_size-requires-clause-sectors : goal.image_size-requires-clause-sectors
image_size-requires-clause-sectors c = let image = subst (IsCanonicalMessage c.args.term) c.in-Image.is c.requires in omega (arith, ap length c.all.ensures, image.fits)
