use Rattle.std.proofs.Common.{◌+◌, refl}
use Rattle.pf_live_seats.specs.declared.serving.Standing.TheVariants.{Asked}
use Rattle.pf_live_seats.proofs.Stands.{serves_taken}
use Rattle.pf_live_seats.proofs.serving.Served.take.Goals as goal

pub returns-in-Ok-clause-serves : goal.returns-in-Ok-clause-serves
returns-in-Ok-clause-serves g c root n h seen = let a = c.args.self.now in
    serves_taken c.args.plan.now root n h a (record a { pass = c.take.new.pass; taken = a.taken + 1; standing = Asked c.in-Ok.request; moves = 18446744073709551615 }) ⊥ seen seen c.in-Ok.request refl c.requires.settled c.in-Ok.ensures.next refl refl
